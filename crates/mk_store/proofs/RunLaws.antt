-- A script that was run for some of its rounds.
use Rattle.std.proofs.Common.{◌≡◌, ◌∙◌, ◌<◌, ◌≤◌, ◌+◌, ℕ, refl, sym, ap, subst, arith, List, [], ◌∷◌, ◌++◌, length, map, get_or}
use Rattle.std.proofs.lemmas.List.{length-map, get_or_default}
use Rattle.std.proofs.lemmas.List.Sums.{sum_by_push}
use Rattle.mk_lists.specs.Among.{Each, Each-append}
use Rattle.mk_words.specs.declared.GlobalEntry.{GlobalEntry}
use Rattle.mk_words.specs.declared.GlobalLine.{GlobalLine}
use Rattle.mk_model.specs.EpochState.{EpochState}
use Rattle.mk_history.specs.declared.RoundLog.{RoundLog}
use Rattle.mk_history.specs.Histories.{History}
use Rattle.mk_history.specs.Legality.{IsLegal}
use Rattle.mk_history.specs.Shape.{HasShape, IsRoundShape}
use Rattle.mk_history.specs.Wholes.{WholeState, first_state, last_state, globals_through}
use Rattle.mk_kept.specs.declared.head.Head.{Head}
use Rattle.mk_kept.specs.Heads.{history}
use Rattle.mk_faults.specs.Fates.{RuleLines, rules_of}
use Rattle.mk_script.specs.declared.lines.ClientLine.{ClientLine}
use Rattle.mk_script.specs.declared.lines.Round.{Round}
use Rattle.mk_script.specs.Scripts.{ScriptParts}
use Rattle.mk_script.specs.Whole.{IsWhole}
use Rattle.mk_driver.specs.Driven.{IsDriven, round_at, empty_round}
use Rattle.mk_run_laws.specs.Cuts.{cut_round}
use Rattle.mk_run_laws.proofs.Cutting.{logs_same}
use Rattle.mk_shape.specs.AttemptCounts.{Counts, FewAttempts, capped}
use Rattle.mk_round.specs.Pasts.{run_of, state_behind}
use Rattle.mk_round.specs.Stores.{StoreView, IsBetween, HasWorked, AreDone, MayWork}
use Rattle.mk_store.specs.Words.{WordsRead, FaultsAreCounted, faults_in, word_faults}
use Rattle.mk_store.specs.Globals.{AreRounds, MayDoLines, WereDone, state_within}
use Rattle.mk_store.proofs.ReadyLaws.{shape-with}
use Rattle.mk_store.proofs.RoundPush.{legal-push, legal-with, state-push, turned-push, run-legal, run-driven, last-behind}
use Rattle.mk_store.proofs.ShapeLaws.{few-cut, begun-cut, rounds-fewer, run-shape}
use Rattle.mk_store.proofs.WordLaws.{words-first, counted-none, counted-more}

-- these rounds of the script were run: store, counts and words are those behind them
pub record HasRun {W : Type 0} (kept faults : W → ℕ) (script : ScriptParts) (old : List W) (store : StoreView) (attempts : List ℕ) (done : List RoundLog) (words : List W) : Type 0 where
  pub rounds : AreRounds script done
  pub between : IsBetween script done store
  pub counts : Counts attempts done
  pub few : FewAttempts done
  pub all : length words ≡ length old
  pub read : WordsRead kept (state_behind script done).epochs words
  pub counted : FaultsAreCounted faults old words (λ r. word_faults r done)

-- what follows where a round was worked
abbrev pub RoundsFollow : Type 0
RoundsFollow =
    (script : ScriptParts) (done : List RoundLog) (round : RoundLog) (entries : List GlobalEntry) (store new_store : StoreView) → HasWorked script done round store →
    AreDone script done round entries store new_store → IsBetween script (done ++ record round { globals = entries } ∷ []) new_store

module _ {W : Type 0} (kept faults : W → ℕ) (script : ScriptParts) (old : List W) where
  pub first-run : (store : StoreView) (attempts : List ℕ) → Each (λ word. kept word ≡ 0) old → IsBetween script [] store → Counts attempts [] → HasRun kept faults script old store attempts [] old
  first-run store attempts fresh between counts =
      record {
        rounds = record { legal = tt; turned = tt; shapes = tt };
        between = between;
        counts = counts;
        few = λ client. omega arith;
        all = refl;
        read = words-first kept script.size old fresh;
        counted = counted-none faults old (λ r. word_faults r []) (λ r. refl);
      }

  -- the next round can be worked
  pub may-work : (rules : RuleLines) (store : StoreView) (attempts : List ℕ) (done : List RoundLog) (words : List W) → HasRun kept faults script old store attempts done words →
      rules ≡ rules_of script → IsWhole script → length done < length script.rounds → MayWork rules script done store
  may-work rules store attempts done words h same whole left = record { rules_are = same; whole = whole; between = h.between; left = left }

  -- its attempts are counted with those before it
  pub few-more : (store : StoreView) (attempts : List ℕ) (done : List RoundLog) (round : RoundLog) (words : List W) → HasRun kept faults script old store attempts done words →
      IsWhole script → IsRoundShape (run_of script []) round →
      ((run : History) (rounds : List RoundLog) → Counts attempts rounds → length run.client_names ≤ 64 → Each (IsRoundShape run) (rounds ++ round ∷ []) → FewAttempts (rounds ++ round ∷ [])) →
      FewAttempts (done ++ round ∷ [])
  few-more store attempts done round words h whole shape few =
      let names : length (map (λ (line : ClientLine). line.name) script.clients) ≡ length script.clients = length-map script.clients (λ (line : ClientLine). line.name) in
      let limit : length script.clients ≤ 64 = whole.prelude.clients_few in
      few (run_of script []) done h.counts (omega (arith, names, limit)) (Each-append (IsRoundShape (run_of script [])) done (round ∷ []) h.rounds.shapes (shape, tt))

  -- its global lines can be done
  pub may-lines : (store mid : StoreView) (attempts : List ℕ) (done : List RoundLog) (round : RoundLog) (head : Head) (lines : List GlobalLine) (words : List W) →
      HasRun kept faults script old store attempts done words → history head [] ≡ run_of script [] → IsWhole script → length done < length script.rounds →
      lines ≡ (let its = round_at script (length done) in its.globals) → IsRoundShape (run_of script []) round → FewAttempts (done ++ round ∷ []) → HasWorked script done round mid →
      length old ≡ 7 → MayDoLines kept script done round head mid lines words
  may-lines store mid attempts done round head lines words h head_is whole left lines_are shape few worked all =
      record { head_is = head_is; whole = whole; left = left; lines_are = lines_are; rounds = h.rounds; shape = shape; few = few; worked = worked; all = h.all ∙ all; read = h.read }

  epochs-behind : (done : List RoundLog) (round : RoundLog) (entries : List GlobalEntry) →
      (state_behind script (done ++ cut_round round entries ∷ [])).epochs ≡ (state_within script done round entries).epochs
  epochs-behind done round entries =
      let run = run_of script [] in
      ap (λ (s : WholeState). s.epochs) (state-push script done (cut_round round entries))
      ∙ ap (λ (s : WholeState). (globals_through run s entries).epochs) (logs_same run round entries (state_behind script done))

  -- one round more
  pub next-run : (store mid new_store : StoreView) (attempts new_attempts : List ℕ) (done : List RoundLog) (round : RoundLog) (words new_words : List W)
      (lines : List GlobalLine) (entries : List GlobalEntry) → RoundsFollow → HasRun kept faults script old store attempts done words → HasWorked script done round mid →
      IsRoundShape (run_of script []) round → FewAttempts (done ++ round ∷ []) → Counts new_attempts (done ++ round ∷ []) →
      WereDone kept faults script done round mid new_store lines words new_words entries → lines ≡ (let its = round_at script (length done) in its.globals) →
      HasRun kept faults script old new_store new_attempts (done ++ cut_round round entries ∷ []) new_words
  next-run store mid new_store attempts new_attempts done round words new_words lines entries follow h worked shape few counts were lines_are =
      let run = run_of script [] in
      let last = cut_round round entries in
      let state = state_behind script done in
      record {
        rounds = record {
          legal = legal-push run (first_state run) done last h.rounds.legal (legal-with run state round entries worked.legal were.answered);
          turned = turned-push script done last h.rounds.turned worked.turned (were.lines_are ∙ lines_are);
          shapes = Each-append (IsRoundShape run) done (last ∷ []) h.rounds.shapes (shape-with run round entries shape were.fit, tt);
        };
        between = follow script done round entries mid new_store worked were.done_are;
        counts = record { clients = counts.clients; counted = λ place below. counts.counted place below ∙ ap capped (begun-cut done round entries (place + 1)) };
        few = few-cut done round entries few;
        all = were.all ∙ h.all;
        read = subst (λ (e : EpochState). WordsRead kept e new_words) (sym (epochs-behind done round entries)) were.read;
        counted = counted-more faults old words new_words (λ r. word_faults r done) (λ r. faults_in r entries) (λ r. word_faults r (done ++ last ∷ [])) h.all h.counted were.counted
            (λ r. sum_by_push (λ (x : RoundLog). faults_in r x.globals) done last);
      }

-- ---- the lines of a round

-- the item that was read is the script's round of this number
pub round-read : (script : ScriptParts) (items : List Round) (i n : ℕ) (lines : Round) → items ≡ script.rounds → i < length items → lines ≡ get_or items i lines → n ≡ i →
    lines ≡ round_at script n
round-read script items i n lines same within is count =
    is ∙ get_or_default items i lines empty_round within ∙ ap (λ (rs : List Round). get_or rs i empty_round) same ∙ sym (ap (round_at script) count)

-- one of the script's rounds is left
pub round-left : (script : ScriptParts) (items : List Round) (i n : ℕ) → items ≡ script.rounds → i < length items → n ≡ i → n < length script.rounds
round-left script items i n same within count = let long : length items ≡ length script.rounds = ap (λ (rs : List Round). length rs) same in omega (arith, long, within, count)

-- all were run
pub none-left : (script : ScriptParts) (items : List Round) (i n : ℕ) → items ≡ script.rounds → length items ≤ i → n ≡ i → n ≤ length script.rounds → n ≡ length script.rounds
none-left script items i n same over count within = let long : length items ≡ length script.rounds = ap (λ (rs : List Round). length rs) same in omega (arith, long, over, count, within)

-- ---- the end

-- the run of this head and these rounds is the script's
pub head-run : (script : ScriptParts) (head : Head) (rounds : List RoundLog) → history head [] ≡ run_of script [] → history head rounds ≡ run_of script rounds
head-run script head rounds e = ap (λ (run : History). record run { rounds = rounds }) e

-- all rounds make a run
pub end-shape : (script : ScriptParts) (done : List RoundLog) → IsWhole script → length done ≡ length script.rounds → AreRounds script done → FewAttempts done → HasShape (run_of script done)
end-shape script done whole all h few =
    let some : 1 ≤ length script.rounds = whole.rounds.some in
    run-shape script done whole (omega (arith, all, some)) (omega (arith, all)) (rounds-fewer script done h.turned (omega (arith, all))) few h.shapes

-- a run that is known to be the script's with these rounds
module _ {W : Type 0} (kept faults : W → ℕ) (script : ScriptParts) (old : List W) (store : StoreView) (attempts : List ℕ) (done : List RoundLog) (words : List W)
    (h : HasRun kept faults script old store attempts done words) (run : History) (is : run ≡ run_of script done) where
  pub end-legal : IsLegal run
  end-legal = subst IsLegal (sym is) (run-legal script done h.rounds.legal)

  pub end-driven : length done ≡ length script.rounds → IsDriven script run
  end-driven all = subst (IsDriven script) (sym is) (run-driven script done all h.rounds.turned)

  pub end-read : WordsRead kept (last_state run).epochs words
  end-read =
      let same : (last_state run).epochs ≡ (state_behind script done).epochs = ap (λ (r : History). (last_state r).epochs) is ∙ ap (λ (s : WholeState). s.epochs) (last-behind script done) in
      subst (λ (e : EpochState). WordsRead kept e words) (sym same) h.read

  pub end-counted : FaultsAreCounted faults old words (λ r. word_faults r run.rounds)
  end-counted = subst (λ (r : History). FaultsAreCounted faults old words (λ n. word_faults n r.rounds)) (sym is) h.counted
