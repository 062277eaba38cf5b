-- No attempt stands twice, and an unread one is never stamped.
use Rattle.std.proofs.Common.{◌≡◌, ◌⊎◌, ◌∙◌, true, false, refl, arith, inl, inr, sym, ap, subst, List, Option, Some, None, map}
use Rattle.std.specs.Prelude.{option_map, find}
use Rattle.std.proofs.lemmas.Option.{same_Some}
use Rattle.mk_lists.specs.Among.{AllDistinct}
use Rattle.mk_lists.proofs.Lookups.{find_push_cases}
use Rattle.mk_lists.proofs.Changes.{map-change, map-map_same}
use Rattle.mk_column_laws.proofs.Resets.{reset_attempts}
use Rattle.mk_txn.specs.declared.TxnId.{TxnId}
use Rattle.mk_model.specs.ColumnState.{ClientState, AttemptState, attempt_of, client_of, is_attempt}
use Rattle.mk_model.specs.Logs.{not_reading}
use Rattle.mk_model.specs.Steps.{next_id}
use Rattle.mk_words.specs.declared.Step.{Step}
use Rattle.mk_model.proofs.Frames.{enabled}
use Rattle.mk_column_laws.specs.Moments.{Moment, Taught, StaysTaught, Event, CanHappen, after_event, step_done, round_begun}
use Rattle.mk_column_laws.specs.Moments.Event.{NewRound, Doing}
use Rattle.mk_column_laws.specs.Facts.{Facts}
use Rattle.mk_column_laws.specs.Identity.{Identity}
use Rattle.mk_column_laws.proofs.Identities.{attempt_back}
use Rattle.mk_column_laws.proofs.Rounds.{attempts_then}
use Rattle.mk_record_laws.specs.Attempts.{AttemptsAreDistinct, AttemptsAreFound, UnreadIsNotStamped}
use Rattle.mk_record_laws.proofs.Shapes.{AttemptsStep}
use Rattle.mk_record_laws.proofs.Shapes.AttemptsStep.{AttemptsStay, AttemptAdded, AttemptChanged}
use Rattle.mk_record_laws.proofs.StepShapes.{step_shape}
use Rattle.mk_record_laws.proofs.Distinct.{distinct_push, found_of}
use Rattle.mk_record_laws.proofs.Always.{always}

abbrev own_id : AttemptState → TxnId
own_id a = a.id

-- a client's next attempt is not there yet
next_is_new : (m : Moment) → Identity m.column.clients m.column.attempts → (c : ClientState) → client_of m.column c.number ≡ Some c → attempt_of m.column (next_id c) ≡ None
next_is_new m ids c found = by (attempt_of m.column (next_id c)) refl
  where
    by : (o : Option AttemptState) → attempt_of m.column (next_id c) ≡ o → o ≡ None
    by None e = refl
    by (Some a) e =
        let k = ids.attempts (next_id c) a e in
        let same : k.client ≡ c = same_Some k.client c (sym k.found ∙ found) in
        absurd (omega (arith, k.begun, ap (λ (x : ClientState). x.next_seq) same))

abbrev NamesOnce : Taught → Moment → Type 0
NamesOnce taught m = AllDistinct (map (λ (a : AttemptState). a.id) m.column.attempts)

step_once : (m : Moment) (step : Step) → Identity m.column.clients m.column.attempts → (new : List AttemptState) → AttemptsStep m step new → AllDistinct (map own_id m.column.attempts) → AllDistinct (map own_id new)
step_once m step ids new (AttemptsStay same) d = subst (λ (l : List AttemptState). AllDistinct (map own_id l)) (sym same) d
step_once m step ids new (AttemptAdded c a found named learned txn unread same) d =
    subst (λ (l : List AttemptState). AllDistinct (map own_id l)) (sym same) (distinct_push own_id (next_id c) m.column.attempts a named (next_is_new m ids c found) d)
step_once m step ids new (AttemptChanged id g keeps moves same) d =
    subst (λ (l : List AttemptState). AllDistinct (map own_id l)) (sym same) (subst AllDistinct (sym (map-change own_id (is_attempt id) g keeps m.column.attempts)) d)

event_once : (taught : Taught) → StaysTaught taught → (m : Moment) → Facts taught m → Identity m.column.clients m.column.attempts → (event : Event) → CanHappen taught event m → NamesOnce taught m → NamesOnce taught (after_event event m)
event_once taught stays m h ids (NewRound views resets) can d =
    subst (λ (l : List AttemptState). AllDistinct (map own_id (map not_reading l))) (sym (reset_attempts resets m.column))
    (subst AllDistinct (sym (map-map_same own_id not_reading (λ _. refl) m.column.attempts)) d)
event_once taught stays m h ids (Doing step) can d = step_once m step ids _ (step_shape taught m h step (enabled m.round m.column step can)).attempts d

pub attempts_are_distinct : AttemptsAreDistinct
attempts_are_distinct = always NamesOnce (λ taught version f keys clients. tt) event_once

pub attempts_are_found : AttemptsAreFound
attempts_are_found taught stays m reached a among = found_of own_id m.column.attempts (attempts_are_distinct taught stays m reached) a among

-- ---- unread attempts

-- an unread attempt has no transaction, and does not read
abbrev StaysUnread : AttemptState → Type 0
StaysUnread a = a.unread ≡ true → (a.txn ≡ None) × (a.reading ≡ false)

abbrev UnreadAt : Taught → Moment → Type 0
UnreadAt taught m = (id : TxnId) (a : AttemptState) → attempt_of m.column id ≡ Some a → StaysUnread a

step_unread : (taught : Taught) (m : Moment) → Facts taught m → UnreadAt taught m → (step : Step) → AttemptsStep m step (step_done step m).column.attempts → UnreadAt taught (step_done step m)
step_unread taught m h u step (AttemptsStay same) id b e = u id b (ap (λ (l : List AttemptState). find (is_attempt id) l) (sym same) ∙ e)
step_unread taught m h u step (AttemptAdded c a found named learned txn unread same) id b e =
    elim (find_push_cases (is_attempt id) m.column.attempts a b (ap (λ (l : List AttemptState). find (is_attempt id) l) (sym same) ∙ e)) [
      | inl there ↦ u id b there
      | inr new ↦ subst StaysUnread new.1.0 (λ t. (txn, unread t))
    ]
step_unread taught m h u step (AttemptChanged x g keeps moves same) id b e =
    let k = attempt_back x g keeps m.column.attempts id b (ap (λ (l : List AttemptState). find (is_attempt id) l) (sym same) ∙ e) in
    by k.0 k.1 k.2
  where
    by : (a : AttemptState) → attempt_of m.column id ≡ Some a → (b ≡ a) ⊎ ((id ≡ x) × (b ≡ g a)) → StaysUnread b
    by a found (inl s) = subst StaysUnread (sym s) (u id a found)
    by a found (inr s) =
        let move = moves a (subst (λ (y : TxnId). attempt_of m.column y ≡ Some a) s.0 found) in
        subst StaysUnread (sym s.1) (λ t. let was = u id a found (sym move.unread ∙ t) in (move.txn was.1 ∙ was.0, move.reading was.1))

event_unread : (taught : Taught) → StaysTaught taught → (m : Moment) → Facts taught m → Identity m.column.clients m.column.attempts → (event : Event) → CanHappen taught event m → UnreadAt taught m → UnreadAt taught (after_event event m)
event_unread taught stays m h ids (NewRound views resets) can u = λ id b e. by id b e (attempt_of m.column id) refl
  where
    by : (id : TxnId) (b : AttemptState) → attempt_of (round_begun views resets m).column id ≡ Some b → (o : Option AttemptState) → attempt_of m.column id ≡ o → StaysUnread b
    by id b e None none = absurd (let k : attempt_of (round_begun views resets m).column id ≡ None = attempts_then taught stays m h views resets can id ∙ ap (option_map not_reading) none in cc (k, e))
    by id b e (Some a) found =
        let same : not_reading a ≡ b = same_Some (not_reading a) b (sym (attempts_then taught stays m h views resets can id ∙ ap (option_map not_reading) found) ∙ e) in
        subst StaysUnread same (λ t. ((u id a found t).0, refl))
event_unread taught stays m h ids (Doing step) can u = step_unread taught m h u step (step_shape taught m h step (enabled m.round m.column step can)).attempts

pub unread_is_not_stamped : UnreadIsNotStamped
unread_is_not_stamped = always UnreadAt (λ taught version f keys clients id a e. absurd (cc e)) event_unread
