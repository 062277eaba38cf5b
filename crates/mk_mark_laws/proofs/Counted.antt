-- So the marks of runs are honest, and what was decided is what the run learned.
use Rattle.std.proofs.Common.{◌≡◌, ◌<◌, ℕ, ◌+◌, Bool, true, false, cond, ◌&&◌, eqb, refl, sym, ap, subst, ◌∙◌, inl, inr, List, [], ◌∷◌, ◌++◌, count_by, Option, Some, None}
use Rattle.std.specs.Prelude.{find}
use Rattle.std.specs.List.{list_any}
use Rattle.std.specs.Option.{option_map}
use Rattle.std.proofs.lemmas.Option.{none-some, same_Some}
use Rattle.std.proofs.lemmas.Bool.{false≢true, and_parts, eqb-true, not-true}
use Rattle.std.proofs.lemmas.List.Sums.{sum_by-cons}
use Rattle.mk_lists.specs.Among.{Among}
use Rattle.mk_lists.proofs.Members.{Among-from_map}
use Rattle.mk_lists.proofs.Lookups.{find_tells}
use Rattle.mk_lists.proofs.Tests.{list_any-from_Among, Among-from_list_any}
use Rattle.mk_txn.specs.declared.Stamp.{Stamp}
use Rattle.mk_txn.specs.declared.TxnId.{TxnId}
use Rattle.mk_txn.specs.declared.Outcome.{Outcome}
use Rattle.mk_txn.specs.declared.Outcome.TheVariants.{Commit, Abort}
use Rattle.mk_txn.specs.Outcomes.{is_commit, agrees}
use Rattle.mk_txn.specs.Stamps.{is_before}
use Rattle.mk_txn.specs.Transactions.{same_id}
use Rattle.mk_txn.proofs.IdOrder.{same_id-tells, same_id-itself}
use Rattle.mk_model.specs.ColumnState.{Learning, attempt_of}
use Rattle.mk_model.specs.Learnings.{is_decision_of}
use Rattle.mk_history.specs.Histories.{History}
use Rattle.mk_history.specs.Legality.{IsLegal}
use Rattle.mk_history.specs.Learning.{learned, is_learned_commit, commits}
use Rattle.mk_column_laws.specs.Moments.{Moment, Event, EachHappens, after_event, moment_through}
use Rattle.mk_column_laws.specs.Laws.{ColumnsGrow}
use Rattle.mk_run_laws.specs.Ends.{last_moment, client_column}
use Rattle.mk_run_laws.specs.Learnt.{LogsAreLearnt, IsLearnt}
use Rattle.mk_run_laws.specs.Lifts.{MomentsOfRounds, IdsAreOfColumns}
use Rattle.mk_run_laws.specs.RunEvents.{IsMomentOf, start_of, events_of}
use Rattle.mk_run_laws.specs.RunLaws.{RunsReachMoments, TeachingStays}
use Rattle.mk_run_laws.specs.TaughtIn.{taught_in}
use Rattle.mk_run_laws.proofs.LastMoments.{last_is_moment}
use Rattle.mk_safety.specs.Agreeing.{LearningsAgree}
use Rattle.mk_safety.specs.Commits.{CommitsAreKnown}
use Rattle.mk_feed_words.specs.declared.Received.{Received}
use Rattle.mk_feed_words.specs.Feed.{is_upto, is_counted}
use Rattle.mk_feed_words.specs.MarkStamps.{is_closed, mark_of_column}
use Rattle.mk_mark_laws.specs.Honest.{ClosedBelowMarks, with_column, all_commits, MarksAreHonest, DecidedAreCommits}

-- the events of a run's column happen
abbrev pub RunsHappen : Type 0
RunsHappen = (run : History) → IsLegal run → (c : ℕ) → c < run.columns → EachHappens (taught_in run) (start_of run c) (events_of run c run.rounds)

-- what this rests on
pub record RunLaws : Type 0 where
  pub happen : RunsHappen
  pub teaching : TeachingStays
  pub reach : RunsReachMoments
  pub moments : MomentsOfRounds
  pub ids : IdsAreOfColumns
  pub logs : LogsAreLearnt
  pub known : CommitsAreKnown
  pub agree : LearningsAgree
  pub grow : ColumnsGrow

through-append : (m : Moment) (one other : List Event) → moment_through m (one ++ other) ≡ moment_through (moment_through m one) other
through-append m [] other = refl
through-append m (e ∷ one) other = through-append (after_event e m) one other

happens-last : (run : History) (m : Moment) (one other : List Event) → EachHappens (taught_in run) m (one ++ other) → EachHappens (taught_in run) (moment_through m one) other
happens-last run m [] other h = h
happens-last run m (e ∷ one) other h = happens-last run (after_event e m) one other h.1

-- ---- from a moment to the last one

module _ (laws : RunLaws) (run : History) (legal : IsLegal run) (c : ℕ) (lt : c < run.columns) (m : Moment) (k : IsMomentOf run c m) where
  later-happens : EachHappens (taught_in run) m k.later
  later-happens =
      subst (λ (x : Moment). EachHappens (taught_in run) x k.later) k.leads
      (happens-last run (start_of run c) k.events k.later (subst (EachHappens (taught_in run) (start_of run c)) (sym k.whole) (laws.happen run legal c lt)))

  later-leads : moment_through m k.later ≡ last_moment run c
  later-leads =
      ap (λ (x : Moment). moment_through x k.later) (sym k.leads)
      ∙ sym (through-append (start_of run c) k.events k.later)
      ∙ ap (moment_through (start_of run c)) k.whole

-- ---- honest marks

same-count : {X : Type 0} (p q : X → Bool) (xs : List X) → ((x : X) → Among x xs → p x ≡ q x) → count_by p xs ≡ count_by q xs
same-count p q [] h = refl
same-count p q (x ∷ xs) h =
    sum_by-cons (λ y. cond (p y) 1 0) x xs
    ∙ (λ i. cond (h x (inl refl) i) 1 0 + same-count p q xs (λ y a. h y (inr a)) i)
    ∙ sym (sum_by-cons (λ y. cond (q y) 1 0) x xs)

-- a test that the first one implies
and-implied : (p q : Bool) → (p ≡ true → q ≡ true) → (p && q) ≡ p
and-implied true q h = h refl
and-implied false q h = refl

pub marks_are_honest : RunLaws → ClosedBelowMarks → MarksAreHonest
marks_are_honest laws closed run legal c lt m k settled =
    same-count (λ (r : Received). is_counted c stamp r && is_closed settled m.column r.txn.id) (is_counted c stamp) (all_commits run)
    (λ r a. and-implied (is_counted c stamp r) (is_closed settled m.column r.txn.id) (λ e. one r a e))
  where
    stamp : Stamp
    stamp = mark_of_column settled m.column

    one : (r : Received) → Among r (all_commits run) → is_counted c stamp r ≡ true → is_closed settled m.column r.txn.id ≡ true
    one r a e =
        let of = Among-from_map (with_column run) r (commits run) a in
        let known = laws.known run legal of.0 of.1 in
        let n = last_moment run known.column in
        let home : client_column run of.0.id.client ≡ known.column =
        laws.ids run legal known.column known.in_run n (last_is_moment laws.moments run known.column) of.0.id known.attempt known.found in
        let both = and_parts (eqb r.column c) (is_upto stamp r) e in
        let here : known.column ≡ c = sym home ∙ ap (λ (x : Received). x.column) of.2 ∙ eqb-true r.column c both.0 in
        let found : attempt_of (moment_through m k.later).column of.0.id ≡ Some known.attempt =
        ap (λ (x : Moment). attempt_of x.column of.0.id) (later-leads laws run legal c lt m k)
        ∙ subst (λ d. attempt_of (last_moment run d).column of.0.id ≡ Some known.attempt) here known.found in
        let low : is_before stamp of.0.stamp ≡ false =
        ap (λ (x : Received). is_before stamp x.txn.stamp) of.2 ∙ not-true (is_before stamp r.txn.stamp) both.1 in
        let reached = laws.reach run legal c lt m k in
        let is = closed (taught_in run) (laws.teaching run) m reached k.later (later-happens laws run legal c lt m k) settled of.0.id known.attempt of.0 found known.stamped low in
        ap (λ (x : Received). is_closed settled m.column x.txn.id) (sym of.2) ∙ is.closed

-- ---- what was decided

pub decided_are_commits : RunLaws → DecidedAreCommits
decided_are_commits laws run shape legal c lt m k id outcome e = by outcome learnt (list_any (is_learned_commit id) (learned run)) refl
  where
    found-from : (o : Option Learning) → find (is_decision_of id) m.column.learned ≡ o → option_map (λ (l : Learning). l.outcome) o ≡ Some outcome
        → (l : Learning) × (find (is_decision_of id) m.column.learned ≡ Some l) × (l.outcome ≡ outcome)
    found-from None at says = absurd (none-some outcome says)
    found-from (Some l) at says = (l, at, same_Some l.outcome outcome says)

    learnt : IsLearnt run id outcome
    learnt =
        let l = found-from (find (is_decision_of id) m.column.learned) refl e in
        let tells = find_tells (is_decision_of id) m.column.learned l.0 l.1 in
        let own : l.0.id ≡ id = same_id-tells l.0.id id (and-first (same_id l.0.id id) _ tells.1) in
        let last : Among l.0 (last_moment run c).column.learned =
        subst (λ (x : Moment). Among l.0 x.column.learned) (later-leads laws run legal c lt m k)
        ((laws.grow (taught_in run) (laws.teaching run) m (laws.reach run legal c lt m k) k.later (later-happens laws run legal c lt m k)).learned l.0 tells.0) in
        let got = laws.logs run c lt l.0 last in
        (got.0, got.1, got.2 ∙ own, got.3 ∙ l.2)
      where
        and-first : (p q : Bool) → (p && q) ≡ true → p ≡ true
        and-first true q h = refl
        and-first false q h = absurd (false≢true h)

    by : (o : Outcome) → IsLearnt run id o → (b : Bool) → list_any (is_learned_commit id) (learned run) ≡ b → b ≡ is_commit o
    by Commit got b at =
        let here : same_id got.0.id id ≡ true = ap (λ (i : TxnId). same_id i id) got.2 ∙ same_id-itself id in
        sym at ∙ list_any-from_Among (is_learned_commit id) (learned run) got.0 got.1 (λ i. here i && is_commit (got.3 i))
    by (Abort cause) got false at = refl
    by (Abort cause) got true at =
        let other = Among-from_list_any (is_learned_commit id) (learned run) at in
        let both = and_parts (same_id other.0.id id) (is_commit other.0.outcome) other.2 in
        let same : got.0.id ≡ other.0.id = got.2 ∙ sym (same_id-tells other.0.id id both.0) in
        absurd (clash other.0.outcome both.1 (ap (λ o. agrees o other.0.outcome) (sym got.3) ∙ laws.agree run shape legal got.0 other.0 got.1 other.1 same))
      where
        clash : (o : Outcome) → is_commit o ≡ true → agrees (Abort cause) o ≡ true → ⊥
        clash Commit f g = false≢true g
        clash (Abort other) f g = false≢true f
