-- The first learning of an attempt in the list is at first hand: what is told, and what makes an entry final, was listed.
use Rattle.std.proofs.Common.{◌≡◌, ◌⊎◌, ◌∙◌, Bool, true, false, refl, inl, inr, sym, ap, subst, List, [], ◌∷◌, ◌++◌, Some, None, cond}
use Rattle.std.specs.Prelude.{find}
use Rattle.mk_lists.specs.Among.{Among, Among-append_right}
use Rattle.mk_lists.proofs.Lookups.{Among-find, find-passes}
use Rattle.mk_column_laws.proofs.Resets.{reset_learned}
use Rattle.mk_txn.specs.declared.TxnId.{TxnId}
use Rattle.mk_txn.specs.Transactions.{same_id}
use Rattle.mk_txn.proofs.IdOrder.{same_id-itself, same_id-tells}
use Rattle.mk_words.specs.declared.Body.TheVariants.{Decide}
use Rattle.mk_words.specs.declared.Step.{Step}
use Rattle.mk_model.specs.Conditions.{blocked}
use Rattle.mk_model.specs.ColumnState.{Learning}
use Rattle.mk_model.specs.Learnings.{learning, learned_in_step}
use Rattle.mk_model.specs.Sending.{msg_of}
use Rattle.mk_column_laws.specs.Moments.{Moment, Taught, StaysTaught, Event, CanHappen, after_event, step_done}
use Rattle.mk_column_laws.specs.Moments.Event.{NewRound, Doing}
use Rattle.mk_column_laws.specs.Moves.{NewLearning}
use Rattle.mk_column_laws.specs.Moves.NewLearning.{LearnsFast, LearnsByAccepts, LearnsKnown, LearnsByPick, LearnsTold, LearnsMoved, LearnsFinishing}
use Rattle.mk_column_laws.specs.Facts.{Facts}
use Rattle.mk_column_laws.specs.Identity.{Identity}
use Rattle.mk_column_laws.proofs.Decisions.{pick-known}
use Rattle.mk_column_laws.proofs.Views.{told_says}
use Rattle.mk_column_laws.proofs.SortedLearnings.{step_moves}
use Rattle.mk_record_laws.specs.Listed.{IsListed, is_first_hand, FirstIsFirstHand}
use Rattle.mk_record_laws.proofs.Listings.{Listed, event_listed, start_listed}
use Rattle.mk_record_laws.proofs.Always.{always}

-- of this attempt
abbrev of_attempt : TxnId → Learning → Bool
of_attempt id l = same_id l.id id

abbrev Firsts : Moment → Type 0
Firsts m = (id : TxnId) (l : Learning) → find (λ (k : Learning). same_id k.id id) m.column.learned ≡ Some l → is_first_hand l.way ≡ true

-- what is found in a longer list
found_in : (p : Learning → Bool) (xs ys : List Learning) (l : Learning) → find p (xs ++ ys) ≡ Some l → (find p xs ≡ Some l) ⊎ ((find p xs ≡ None) × (find p ys ≡ Some l))
found_in p [] ys l e = inr (refl, e)
found_in p (x ∷ xs) ys l e = by (found_in p xs ys l) (p x) e
  where
    by : (find p (xs ++ ys) ≡ Some l → (find p xs ≡ Some l) ⊎ ((find p xs ≡ None) × (find p ys ≡ Some l))) →
        (b : Bool) → cond b (Some x) (find p (xs ++ ys)) ≡ Some l → (cond b (Some x) (find p xs) ≡ Some l) ⊎ ((cond b (Some x) (find p xs) ≡ None) × (find p ys ≡ Some l))
    by again true k = inl k
    by again false k = again k

-- where none is found, no member passes
none_among : (p : Learning → Bool) (xs : List Learning) (l : Learning) → find p xs ≡ None → Among l xs → p l ≡ true → ⊥
none_among p [] l e a t = a
none_among p (x ∷ xs) l e a t = by (none_among p xs l) (p x) refl e a
  where
    by : (find p xs ≡ None → Among l xs → p l ≡ true → ⊥) → (b : Bool) → p x ≡ b → cond b (Some x) (find p xs) ≡ None → (x ≡ l) ⊎ Among l xs → ⊥
    by again true s k m = cc k
    by again false s k (inl same) = let q : p l ≡ false = ap p (sym same) ∙ s in cc (q, t)
    by again false s k (inr m) = again k m t

module _ (taught : Taught) (m : Moment) (h : Facts taught m) (l : Listed m) (firsts : Firsts m) (step : Step) where
  -- what is learned now, and was not at first hand, was listed
  second_hand : (k : Learning) → NewLearning m (step_done step m) k → (is_first_hand k.way ≡ true) ⊎ IsListed m.column.learned k.id k.outcome
  second_hand k (LearnsFast a way found none is then) = inl (ap is_first_hand way)
  second_hand k (LearnsByAccepts a way found none is) = inl (ap is_first_hand way)
  second_hand k (LearnsByPick view t way found is) = inl (ap is_first_hand way)
  second_hand k (LearnsMoved r view moved way sent is) = inl (ap is_first_hand way)
  second_hand k (LearnsKnown view t way found is) = inr (l.takeover k.id view t k.outcome found (pick-known m.round.faults t.state k.outcome t.state.learned t.state.proposed refl refl is))
  second_hand k (LearnsTold r view told way sent is) =
      let says = told_says taught m h k.id r view told sent in
      let final = says.final k.outcome is in
      let decide = ((h.entries r k.id says.entry says.found).last k.outcome final.0 final.1).2 in
      inr (l.sent (msg_of decide.2.0 k.id decide.0 decide.1 (Decide k.outcome)) k.outcome decide.2.1 refl)
  second_hand k (LearnsFinishing r view way sent) = inr (l.sent (msg_of sent.0 k.id r view (Decide k.outcome)) k.outcome sent.1 refl)

  step_firsts : (able : blocked m.round m.column step ≡ None) → Firsts (step_done step m)
  step_firsts able id k e = elim (found_in (of_attempt id) m.column.learned (learned_in_step m.round m.column step) k e) [
    | inl old ↦ firsts id k old
    | inr new ↦ by new.0 new.1
  ]
    where
      unlisted : find (of_attempt id) m.column.learned ≡ None → IsListed m.column.learned id k.outcome → ⊥
      unlisted none listed = none_among (of_attempt id) m.column.learned (learning id listed.0 k.outcome) none listed.1 (same_id-itself id)

      by : find (of_attempt id) m.column.learned ≡ None → find (of_attempt id) (learned_in_step m.round m.column step) ≡ Some k → is_first_hand k.way ≡ true
      by none found =
          let passes = find-passes (of_attempt id) (learned_in_step m.round m.column step) k found in
          let among = Among-append_right k m.column.learned (learned_in_step m.round m.column step) (Among-find (of_attempt id) (learned_in_step m.round m.column step) k found) in
          elim ((step_moves taught m h step able).learnings k among) [
            | inl old ↦ absurd (none_among (of_attempt id) m.column.learned k none old passes)
            | inr new ↦ elim (second_hand k new) [
              | inl first ↦ first
              | inr listed ↦ absurd (unlisted none (subst (λ (x : TxnId). IsListed m.column.learned x k.outcome) (same_id-tells k.id id passes) listed))
            ]
          ]

abbrev Both : Taught → Moment → Type 0
Both taught m = Listed m × Firsts m

event_both : (taught : Taught) → StaysTaught taught → (m : Moment) → Facts taught m → Identity m.column.clients m.column.attempts → (event : Event) → CanHappen taught event m → Both taught m → Both taught (after_event event m)
event_both taught stays m h ids (NewRound views resets) can both = (
  event_listed taught stays m h ids (NewRound views resets) can both.0,
  λ id l e. both.1 id l (ap (find (of_attempt id)) (sym (reset_learned resets m.column)) ∙ e),
)
event_both taught stays m h ids (Doing step) can both =
    (event_listed taught stays m h ids (Doing step) can both.0, step_firsts taught m h both.0 both.1 step can)

pub first_is_first_hand : FirstIsFirstHand
first_is_first_hand taught stays m reached =
    (always Both (λ taught version f keys clients. (start_listed taught version f keys clients, λ id l e. absurd (cc e))) event_both taught stays m reached).1
