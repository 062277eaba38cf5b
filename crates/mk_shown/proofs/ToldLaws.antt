-- The attempts that the first rounds settled are those that their Enters told.
use Rattle.std.proofs.Common.{◌≡◌, ◌∙◌, ◌<◌, ◌≤◌, ◌+◌, ℕ, Bool, true, false, cond, ◌&&◌, ◌||◌, nat_le, refl, sym, ap, arith, List, [], ◌∷◌, ◌++◌, length, map, filter, if◌then◌else◌}
use Rattle.std.specs.List.{list_any}
use Rattle.std.proofs.lemmas.Bool.Decides.{nat_tests}
use Rattle.std.proofs.lemmas.List.Elements.{filter-append}
use Rattle.mk_lists.specs.Among.{Each, Each-append}
use Rattle.mk_txn.specs.declared.TxnId.{TxnId}
use Rattle.mk_txn.specs.declared.Outcome.{Outcome}
use Rattle.mk_txn.specs.Transactions.{same_id}
use Rattle.mk_words.specs.Bases.{taught_by}
use Rattle.mk_words.specs.declared.GlobalAnswer.{GlobalAnswer}
use Rattle.mk_words.specs.declared.GlobalEntry.{GlobalEntry}
use Rattle.mk_words.specs.declared.GlobalLine.{GlobalLine}
use Rattle.mk_words.specs.declared.GlobalLine.TheVariants.{Wipe, Ask, Promise, Merge, Adopt, Enter}
use Rattle.mk_words.specs.declared.Step.{Step}
use Rattle.mk_model.specs.ColumnState.{Setting, ColumnState, Learning}
use Rattle.mk_model.specs.EpochState.{made_for}
use Rattle.mk_model.specs.GlobalSteps.{base_or_empty}
use Rattle.mk_model.specs.Learnings.{learned_in_step}
use Rattle.mk_model.specs.Steps.{column_after}
use Rattle.mk_history.specs.declared.RoundLog.{RoundLog}
use Rattle.mk_history.specs.Histories.{History, log_of}
use Rattle.mk_history.specs.Learning.{Found, Learnt, found, found_by_enter, found_by_line, found_in_log, found_in_logs, found_in_globals, found_in_round, found_from, all_found, with_path, entered_after, entered_through}
use Rattle.mk_history.specs.Learning.Place.{InLog, InGlobals}
use Rattle.mk_history.specs.Wholes.{WholeState, first_state, setting_of, after_logs, after_global, after_round}
use Rattle.mk_run.specs.Walking.{is_global, told_along}
use Rattle.mk_feed_words.specs.Shown.{is_entered_by, settled_by}

module _ (n : ℕ) where
  -- found by the end of the first n rounds, where it is of round k
  abbrev IsDated : ℕ → Found → Type 0
  IsDated k f = is_entered_by n f.place ≡ (is_global f.place && nat_le k n)

  step-dated : (k c entry : ℕ) (learnings : List Learning) → Each (IsDated k) (map (found (InLog k c entry)) learnings)
  step-dated k c entry [] = tt
  step-dated k c entry (l ∷ learnings) = (refl, step-dated k c entry learnings)

  log-dated : (k c entry : ℕ) (setting : Setting) (column : ColumnState) (steps : List Step) → Each (IsDated k) (found_in_log k c entry setting column steps)
  log-dated k c entry setting column [] = tt
  log-dated k c entry setting column (step ∷ steps) =
      Each-append (IsDated k) (map (found (InLog k c entry)) (learned_in_step setting column step)) (found_in_log k c (entry + 1) setting (column_after setting column step) steps)
      (step-dated k c entry (learned_in_step setting column step)) (log-dated k c (entry + 1) setting (column_after setting column step) steps)

  logs-dated : (k c : ℕ) (setting : Setting) (round : RoundLog) (columns : List ColumnState) → Each (IsDated k) (found_in_logs k setting round c columns)
  logs-dated k c setting round [] = tt
  logs-dated k c setting round (column ∷ columns) =
      Each-append (IsDated k) (found_in_log k c 1 setting column (log_of round c)) (found_in_logs k setting round (c + 1) columns)
      (log-dated k c 1 setting column (log_of round c)) (logs-dated k (c + 1) setting round columns)

  enter-dated : (k entry epoch : ℕ) (fates : List (TxnId × Outcome)) → Each (IsDated k) (map (found_by_enter (InGlobals k entry) epoch) fates)
  enter-dated k entry epoch [] = tt
  enter-dated k entry epoch (fate ∷ fates) = (refl, enter-dated k entry epoch fates)

  if-dated : (k : ℕ) (b : Bool) (fs : List Found) → Each (IsDated k) fs → Each (IsDated k) (if b then fs else [])
  if-dated k true fs h = h
  if-dated k false fs h = tt

  line-dated : (k entry : ℕ) (state : WholeState) (entered : List ℕ) (answer : GlobalAnswer) (line : GlobalLine) → Each (IsDated k) (found_by_line (InGlobals k entry) state entered answer line)
  line-dated k entry state entered answer (Enter epoch) =
      if-dated k _ (map (found_by_enter (InGlobals k entry) epoch) (taught_by (base_or_empty (made_for epoch state.epochs))))
      (enter-dated k entry epoch (taught_by (base_or_empty (made_for epoch state.epochs))))
  line-dated k entry state entered answer (Wipe r) = tt
  line-dated k entry state entered answer (Ask epoch) = tt
  line-dated k entry state entered answer (Promise epoch r) = tt
  line-dated k entry state entered answer (Merge epoch) = tt
  line-dated k entry state entered answer (Adopt epoch r) = tt

  lines-dated : (k entry : ℕ) (run : History) (state : WholeState) (entered : List ℕ) (lines : List GlobalEntry) → Each (IsDated k) (found_in_globals k entry run state entered lines)
  lines-dated k entry run state entered [] = tt
  lines-dated k entry run state entered (line ∷ lines) =
      Each-append (IsDated k) (found_by_line (InGlobals k entry) state entered line.answer line.line)
      (found_in_globals k (entry + 1) run (after_global run state line) (entered_after line.answer entered line.line) lines)
      (line-dated k entry state entered line.answer line.line)
      (lines-dated k (entry + 1) run (after_global run state line) (entered_after line.answer entered line.line) lines)

  round-dated : (k : ℕ) (run : History) (state : WholeState) (entered : List ℕ) (round : RoundLog) → Each (IsDated k) (found_in_round k run state entered round)
  round-dated k run state entered round =
      Each-append (IsDated k) (found_in_logs k (setting_of run state) round 0 state.columns) (found_in_globals k 1 run (after_logs run round state) entered round.globals)
      (logs-dated k 0 (setting_of run state) round state.columns) (lines-dated k 1 run (after_logs run round state) entered round.globals)

  -- ---- rounds up to the last, and later ones

  abbrev by_then : Found → Bool
  by_then f = is_entered_by n f.place

  abbrev is_told : Found → Bool
  is_told f = is_global f.place

  early : (k : ℕ) (fs : List Found) → k ≤ n → Each (IsDated k) fs → filter by_then fs ≡ filter is_told fs
  early k [] le h = refl
  early k (f ∷ fs) le h =
      let now : (is_global f.place && nat_le k n) ≡ is_global f.place = by (is_global f.place) (nat_le k n) (grind (arith, nat_tests, le)) in
      let here = h.0 ∙ now in
      let rest = early k fs le h.1 in
      λ i. cond (here i) (f ∷ rest i) (rest i)
    where
      by : (a b : Bool) → b ≡ true → (a && b) ≡ a
      by true b e = e
      by false b e = refl

  late : (k : ℕ) (fs : List Found) → n < k → Each (IsDated k) fs → filter by_then fs ≡ []
  late k [] lt h = refl
  late k (f ∷ fs) lt h =
      let never : (is_global f.place && nat_le k n) ≡ false = by (is_global f.place) (nat_le k n) (grind (arith, nat_tests, lt)) in
      let here = h.0 ∙ never in
      let rest = late k fs lt h.1 in
      λ i. cond (here i) (f ∷ rest i) (rest i)
    where
      by : (a b : Bool) → b ≡ false → (a && b) ≡ false
      by true b e = e
      by false b e = refl

  later-rounds : (k : ℕ) (run : History) (state : WholeState) (entered : List ℕ) (rounds : List RoundLog) → n < k → filter by_then (found_from k run state entered rounds) ≡ []
  later-rounds k run state entered [] lt = refl
  later-rounds k run state entered (round ∷ rounds) lt =
      let next = after_round run round state in
      let none = late k (found_in_round k run state entered round) lt (round-dated k run state entered round) in
      let rest = later-rounds (k + 1) run next (entered_through entered round.globals) rounds (omega (arith, lt)) in
      filter-append by_then (found_in_round k run state entered round) (found_from (k + 1) run next (entered_through entered round.globals) rounds) ∙ (λ i. none i ++ rest i)

  first-rounds : (k : ℕ) (run : History) (state : WholeState) (entered : List ℕ) (done rest : List RoundLog) → n + 1 ≡ k + length done →
      filter by_then (found_from k run state entered (done ++ rest)) ≡ filter is_told (found_from k run state entered done)
  first-rounds k run state entered [] rest e = later-rounds k run state entered rest (omega (arith, e))
  first-rounds k run state entered (round ∷ done) rest e =
      let next = after_round run round state in
      let here = found_in_round k run state entered round in
      let told = early k here (omega (arith, e)) (round-dated k run state entered round) in
      let more = first-rounds (k + 1) run next (entered_through entered round.globals) done rest (omega (arith, e)) in
      filter-append by_then here (found_from (k + 1) run next (entered_through entered round.globals) (done ++ rest))
      ∙ (λ i. told i ++ more i)
      ∙ sym (filter-append is_told here (found_from (k + 1) run next (entered_through entered round.globals) done))

  -- what is found by then, by its attempt
  by-attempt : (id : TxnId) (all fs : List Found) →
      list_any (λ other. same_id other id) (map (λ (l : Learnt). l.id) (filter (λ l. is_entered_by n l.place) (map (with_path all) fs))) ≡ list_any (λ f. same_id f.id id) (filter by_then fs)
  by-attempt id all [] = refl
  by-attempt id all (f ∷ fs) = by (is_entered_by n f.place) (by-attempt id all fs)
    where
      by : (b : Bool) →
          list_any (λ other. same_id other id) (map (λ (l : Learnt). l.id) (filter (λ l. is_entered_by n l.place) (map (with_path all) fs))) ≡ list_any (λ g. same_id g.id id) (filter by_then fs) →
          list_any (λ other. same_id other id) (map (λ (l : Learnt). l.id) (cond b (with_path all f ∷ filter (λ l. is_entered_by n l.place) (map (with_path all) fs)) (filter (λ l. is_entered_by n l.place) (map (with_path all) fs))))
          ≡ list_any (λ g. same_id g.id id) (cond b (f ∷ filter by_then fs) (filter by_then fs))
      by true again = ap (λ (b : Bool). same_id f.id id || b) again
      by false again = again

pub settled-told : (run : History) (done rest : List RoundLog) → run.rounds ≡ done ++ rest → (id : TxnId) →
    list_any (λ other. same_id other id) (settled_by run (length done)) ≡ list_any (λ f. same_id f.id id) (told_along run done)
settled-told run done rest split id =
    let n = length done in
    by-attempt n id (all_found run) (all_found run)
    ∙ ap (λ (rounds : List RoundLog). list_any (λ (f : Found). same_id f.id id) (filter (λ (f : Found). is_entered_by n f.place) (found_from 1 run (first_state run) [] rounds))) split
    ∙ ap (list_any (λ (f : Found). same_id f.id id)) (first-rounds n 1 run (first_state run) [] done rest (omega arith))
