-- A judge that stands for rounds, with one round more.
use Rattle.std.proofs.Common.{◌≡◌, ◌∙◌, ◌+◌, ◌<◌, ◌≤◌, ℕ, refl, sym, ap, subst, arith, List, [], ◌∷◌, ◌++◌, length, take, drop, get_or, Option, Some, None, append_assoc, drop-cons, add-one}
use Rattle.std.specs.Prelude.{option_map, unwrap_or, Result, Ok, Err, OnOk, IfOk}
use Rattle.std.proofs.lemmas.List.{append-nil, take-append-drop, take_all, take_more, length-append}
use Rattle.mk_history.specs.declared.RoundLog.{RoundLog}
use Rattle.mk_history.specs.Histories.{History}
use Rattle.mk_history.specs.Legality.{EachRoundLegal, IsLegalRound, IsLegal}
use Rattle.mk_history.specs.Shape.{HasShape}
use Rattle.mk_history.specs.Wholes.{WholeState, first_state, state_through, after_round}
use Rattle.mk_kept.specs.declared.head.Head.{Head}
use Rattle.mk_kept.specs.Heads.{history}
use Rattle.mk_verdict.specs.declared.PlacedFlaw.{PlacedFlaw}
use Rattle.mk_verdict.specs.declared.Verdict.{Verdict}
use Rattle.mk_verdict.specs.declared.Verdict.TheVariants.{Legal, Broken}
use Rattle.mk_verdict.specs.Flaws.{broken, flaw_of_round, flaw_from, verdict_of}
use Rattle.mk_verdict.proofs.Rounds.{round_is_legal, round_has_no_flaw}
use Rattle.mk_whole.specs.Standings.{MayReplay}
use Rattle.mk_run_laws.proofs.Lines.{legal-first}
use Rattle.mk_run_laws.proofs.Cutting.{cuts_have_shape}
use Rattle.mk_run.specs.Judging.{WatchView, JudgeView, HasReplayed, IsReplayed, HasJudged, StandsForRounds, MayTake}
use Rattle.mk_run.proofs.JudgeLaws.{legal-push, legal-verdict, broken-verdict}

pub on_ok : {T E P Q : Type 0} (r : Result T E) → (P → Q) → OnOk r P → OnOk r Q
on_ok (Ok x) f h = f h
on_ok (Err e) f h = tt

pub if_ok : {T E : Type 0} {P Q : T → Type 0} (r : Result T E) → ((x : T) → P x → Q x) → IfOk r P → IfOk r Q
if_ok (Ok x) f h = f x h
if_ok (Err e) f h = tt

-- what is judged in every run that begins so
pub stands-further : (old new : JudgeView) (rounds : List RoundLog) (round : RoundLog) → StandsForRounds old rounds → new.head ≡ old.head → new.taken ≡ old.taken + 1 →
    ((run : History) (rest : List RoundLog) → HasShape run → run.rounds ≡ rounds ++ round ∷ rest → HasJudged run old rounds → HasJudged run new (rounds ++ round ∷ [])) →
    StandsForRounds new (rounds ++ round ∷ [])
stands-further old new rounds round stands head taken step = record {
  taken = (let was = stands.taken in omega (arith, taken, was, length-append rounds (round ∷ [])));
  judged = λ rest shape.
      let run = history new.head ((rounds ++ round ∷ []) ++ rest) in
      let same : run ≡ history old.head (rounds ++ round ∷ rest) = (λ i. history (head i) (append_assoc rounds (round ∷ []) rest i)) in
      step run rest shape (append_assoc rounds (round ∷ []) rest)
      (subst (λ (r : History). HasJudged r old rounds) (sym same) (stands.judged (round ∷ rest) (subst HasShape same shape)));
}

no_flaw : (number : ℕ) (flaw : Option PlacedFlaw) → unwrap_or (option_map (broken number) flaw) Legal ≡ Legal → flaw ≡ None
no_flaw number None e = refl
no_flaw number (Some flaw) e = absurd (cc e)

may_replay : (run : History) (rounds rest : List RoundLog) (round : RoundLog) (old : JudgeView) → HasShape run → run.rounds ≡ rounds ++ round ∷ rest → HasJudged run old rounds → old.verdict ≡ Legal →
    MayReplay run rounds old.watch.whole round
may_replay run rounds rest round old shape split judged legal =
    let h = judged.legal legal in
    record { rest = rest; shape = shape; rounds = split; legal = h.0; at = h.1.at }

-- behind legal rounds
pub judged-legal : (run : History) (rounds rest : List RoundLog) (round : RoundLog) (old new : JudgeView) (flaw : Option PlacedFlaw) → HasShape run → run.rounds ≡ rounds ++ round ∷ rest →
    HasJudged run old rounds → old.verdict ≡ Legal → old.taken ≡ length rounds → new.taken ≡ old.taken + 1 → new.verdict ≡ unwrap_or (option_map (broken new.taken) flaw) Legal →
    (MayReplay run rounds old.watch.whole round → flaw ≡ flaw_of_round run (state_through run (first_state run) rounds) round) →
    (flaw ≡ None → MayReplay run rounds old.watch.whole round → HasReplayed run old.watch rounds → HasReplayed run new.watch (rounds ++ round ∷ [])) →
    HasJudged run new (rounds ++ round ∷ [])
judged-legal run rounds rest round old new flaw shape split judged was_legal was_taken taken verdict flaw_is after =
    let h = judged.legal was_legal in
    let may = may_replay run rounds rest round old shape split judged was_legal in
    let is = flaw_is may in
    record {
      verdict = verdict ∙ legal-verdict run rounds round new.taken flaw (omega (arith, was_taken, taken)) h.0 is;
      legal = λ now.
          let none = no_flaw new.taken flaw (sym verdict ∙ now) in
          (legal-push run (first_state run) rounds round h.0 (round_is_legal run (state_through run (first_state run) rounds) round (sym is ∙ none)), after none may h.1);
    }

-- behind a flaw
pub judged-broken : (run : History) (rounds : List RoundLog) (round : RoundLog) (old new : JudgeView) → HasJudged run old rounds → (old.verdict ≡ Legal → ⊥) → new.verdict ≡ old.verdict →
    HasJudged run new (rounds ++ round ∷ [])
judged-broken run rounds round old new judged flawed stays = record {
  verdict = by_verdict old.verdict refl;
  legal = λ now. absurd (flawed (sym stays ∙ now));
}
  where
    by_verdict : (v : Verdict) → old.verdict ≡ v → new.verdict ≡ unwrap_or (flaw_from 1 run (first_state run) (rounds ++ round ∷ [])) Legal
    by_verdict Legal e = absurd (flawed e)
    by_verdict (Broken number place why) e = stays ∙ e ∙ broken-verdict run rounds round number place why (sym e ∙ judged.verdict)

-- a run has few clients
pub few-clients : (run : History) (head : Head) → history head run.rounds ≡ run → HasShape run → length head.client_columns ≤ 64
few-clients run head parts shape =
    let same : length head.client_columns ≡ length run.client_columns = ap (λ (r : History). length r.client_columns) parts in
    let few : length run.client_names ≤ 64 = shape.few_clients in
    let clients : length run.client_names ≡ length run.client_columns = shape.clients in
    omega (arith, same, few, clients)

-- a judge of whole runs
pub judged-whole : (judge : JudgeView) (rounds : List RoundLog) → StandsForRounds judge rounds → HasShape (history judge.head rounds) → HasJudged (history judge.head rounds) judge rounds
judged-whole judge rounds stands shape =
    let all = append-nil rounds in
    subst (λ (rs : List RoundLog). HasJudged (history judge.head rs) judge rounds) all
    (stands.judged [] (subst (λ (rs : List RoundLog). HasShape (history judge.head rs)) (sym all) shape))

-- ---- rounds of a run in turn

pub rounds_here : (rounds : List RoundLog) (i : ℕ) (d : RoundLog) → i < length rounds → rounds ≡ take i rounds ++ get_or rounds i d ∷ drop (i + 1) rounds
rounds_here rounds i d lt =
    sym (take-append-drop i rounds)
    ∙ ap (λ (rest : List RoundLog). take i rounds ++ rest) (drop-cons rounds i d lt ∙ ap (λ (n : ℕ). get_or rounds i d ∷ drop n rounds) (sym (add-one i)))

-- the first rounds of a run have the shape of a run
pub next-shape : (run : History) (head : Head) (i : ℕ) (d : RoundLog) → history head run.rounds ≡ run → HasShape run → i < length run.rounds →
    HasShape (history head (take i run.rounds ++ get_or run.rounds i d ∷ []))
next-shape run head i d parts shape lt =
    let round = get_or run.rounds i d in
    let rounds = take i run.rounds ++ round ∷ [] in
    subst (λ (r : History). HasShape (record r { rounds = rounds })) (sym parts)
    (cuts_have_shape run (take i run.rounds) (drop (i + 1) run.rounds) round round.globals [] shape (rounds_here run.rounds i d lt) (sym (append-nil round.globals)))

pub legal-at : (run : History) (state : WholeState) (done rest : List RoundLog) (round : RoundLog) → EachRoundLegal run state (done ++ round ∷ rest) →
    IsLegalRound run round (state_through run state done)
legal-at run state [] rest round h = h.0
legal-at run state (r ∷ done) rest round h = legal-at run (after_round run r state) done rest round h.1

-- the next round of a run, and the rounds with it
module _ (run : History) (items : List RoundLog) (i : ℕ) (round : RoundLog) (same : items ≡ run.rounds) (within : i < length items) (at : round ≡ get_or items i round) where
  lt : i < length run.rounds
  lt = subst (λ (rs : List RoundLog). i < length rs) same within

  here : round ≡ get_or run.rounds i round
  here = at ∙ ap (λ (rs : List RoundLog). get_or rs i round) same

  with_it : take i run.rounds ++ round ∷ [] ≡ take (i + 1) run.rounds
  with_it = ap (λ (r : RoundLog). take i run.rounds ++ r ∷ []) here ∙ sym (take_more run.rounds i round lt)

  split : run.rounds ≡ take i run.rounds ++ round ∷ drop (i + 1) run.rounds
  split = rounds_here run.rounds i round lt ∙ ap (λ (r : RoundLog). take i run.rounds ++ r ∷ drop (i + 1) run.rounds) (sym here)

  pub may-take : (judge : JudgeView) → HasShape run → StandsForRounds judge (take i run.rounds) → history judge.head run.rounds ≡ run → MayTake judge (take i run.rounds) round
  may-take judge shape stands parts = record {
    stands = stands;
    shape = subst (λ (r : RoundLog). HasShape (history judge.head (take i run.rounds ++ r ∷ []))) (sym here) (next-shape run judge.head i round parts shape lt);
  }

  pub stands-next : (judge : JudgeView) → StandsForRounds judge (take i run.rounds ++ round ∷ []) → StandsForRounds judge (take (i + 1) run.rounds)
  stands-next judge stands = subst (λ (rs : List RoundLog). StandsForRounds judge rs) with_it stands

  pub may-replay : (watch : WatchView) → HasShape run → IsLegal run → HasReplayed run watch (take i run.rounds) → MayReplay run (take i run.rounds) watch.whole round
  may-replay watch shape legal was = record {
    rest = drop (i + 1) run.rounds;
    shape = shape;
    rounds = split;
    legal = legal-first run (first_state run) (take i run.rounds) (round ∷ drop (i + 1) run.rounds) (subst (EachRoundLegal run (first_state run)) split legal);
    at = was.at;
  }

  pub replayed-more : (old new : WatchView) (found : Option PlacedFlaw) → HasShape run → IsLegal run → HasReplayed run old (take i run.rounds) → IsReplayed old round found new →
      HasReplayed run new (take (i + 1) run.rounds)
  replayed-more old new found shape legal was replayed =
      let may = may-replay old shape legal was in
      let now = legal-at run (first_state run) (take i run.rounds) (drop (i + 1) run.rounds) round (subst (EachRoundLegal run (first_state run)) split legal) in
      let none = replayed.flaw run (take i run.rounds) may ∙ round_has_no_flaw run (state_through run (first_state run) (take i run.rounds)) round now in
      subst (λ (rs : List RoundLog). HasReplayed run new rs) with_it (replayed.after none run (take i run.rounds) may was)

-- all rounds
pub taken-all : (run : History) (items : List RoundLog) (i : ℕ) → items ≡ run.rounds → length items ≤ i → take i run.rounds ≡ run.rounds
taken-all run items i same past = take_all i run.rounds (subst (λ (rs : List RoundLog). length rs ≤ i) same past)

pub whole-verdict : (run : History) (judge : JudgeView) (items : List RoundLog) (i : ℕ) (result : Verdict) → HasShape run → StandsForRounds judge (take i run.rounds) →
    history judge.head run.rounds ≡ run → items ≡ run.rounds → length items ≤ i →
    ((rounds : List RoundLog) → StandsForRounds judge rounds → HasShape (history judge.head rounds) → result ≡ verdict_of (history judge.head rounds)) → result ≡ verdict_of run
whole-verdict run judge items i result shape stands parts same past told =
    told run.rounds (subst (λ (rs : List RoundLog). StandsForRounds judge rs) (taken-all run items i same past) stands) (subst HasShape (sym parts) shape) ∙ ap verdict_of parts
