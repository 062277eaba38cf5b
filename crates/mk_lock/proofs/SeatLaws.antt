-- Seats that are dealt and gathered.
use Rattle.std.proofs.Common.{◌≡◌, ℕ, zero, suc, ◌+◌, ◌-◌, ◌<◌, ◌≤◌, List, [], ◌∷◌, ◌++◌, length, get_or, map, All, slice_get, Some, append_assoc, refl, sym, ap, ◌∙◌, subst, arith}
use Rattle.std.proofs.lemmas.Option.{slice_get_within}
use mathlib.Core.Logic.{dite}
use native.Mathlib.Decide.{dec_lt}
use Rattle.atomic_table.specs.Seated.{TableId}
use mathlib.Core.Option.{some}
use lib.ListN.{get_elem?}
use Rattle.atomic_table.specs.Table.{Me, Splits, Final, Seen}
use Rattle.mk_lock.specs.declared.view.Stage.TheVariants.{Idle}
use Rattle.mk_lock.specs.declared.view.View.{View}
use Rattle.mk_lock.specs.declared.view.Origin.{Origin}
use Rattle.mk_words.specs.Journals.{Replays}
use Rattle.mk_lock.specs.Entries.{JournalState, of_seat}
use Rattle.mk_words.specs.declared.JournalEntry.{JournalEntry}
use Rattle.mk_words.specs.Cells.{CellState}
use Rattle.mk_lock.specs.declared.view.Held.{Held}
use Rattle.mk_lock.specs.Seats.{SeatView, seat_view, held_of, resting, AreSeatsOf, IsJournalOf}
use Rattle.mk_lists.specs.Among.{Each}
use Rattle.mk_lists.proofs.Places.{slice_get-append_left, slice_get_push}
use Rattle.mk_lock.specs.Turns.{view, fresh, held, IsKept, first_seat, other_seats, both_seats}
use Rattle.mk_lock.proofs.StepLaws.{deals, closes}

-- a seat with the numbers from this one on, at least one
left_is : (count number : ℕ) → number < count → count - number ≡ suc (count - suc number)
left_is count number below = omega arith

pub deals_at : (key : Origin) (id count number : ℕ) (v : View) → v ≡ view (fresh number (count - number)) Idle → number < count → Splits (IsKept key) id v (other_seats v) (first_seat v)
deals_at key id count number v is below =
    subst (λ (z : View). Splits (IsKept key) id z (other_seats z) (first_seat z)) (sym (is ∙ ap (λ (n : ℕ). view (fresh number n) Idle) (left_is count number below)))
    (deals key id number (count - suc number))

pub dealt_left : (count number : ℕ) (m n : Me JournalState View) → m ≡ (view (fresh number (count - number)) Idle, []) → number < count → n ≡ (other_seats m.0, m.1) → n ≡ (view (fresh (suc number) (count - suc number)) Idle, [])
dealt_left count number m n is below told =
    told ∙ ap (λ (z : Me JournalState View). (other_seats z.0, z.1)) (is ∙ ap (λ (k : ℕ). (view (fresh number k) Idle, [])) (left_is count number below))

pub dealt_right : (count number : ℕ) (m n : Me JournalState View) → m ≡ (view (fresh number (count - number)) Idle, []) → number < count → n ≡ (first_seat m.0, []) → n ≡ (view (held number [] ∷ []) Idle, [])
dealt_right count number m n is below told =
    told ∙ ap (λ (z : Me JournalState View). (first_seat z.0, [])) (is ∙ ap (λ (k : ℕ). (view (fresh number k) Idle, [])) (left_is count number below))

-- one more seat is dealt
pub fresh_more : (name : TableId) (xs : List SeatView) (n : ℕ) → length xs ≡ n → ((k : ℕ) → k < n → slice_get xs k ≡ Some (seat_view name k []))
    → (k : ℕ) → k < n + 1 → slice_get (xs ++ seat_view name n [] ∷ []) k ≡ Some (seat_view name k [])
fresh_more name xs n len here k below = dite (dec_lt k n)
    (λ lt. slice_get-append_left xs (seat_view name n [] ∷ []) k (omega arith) ∙ here k lt)
    (λ ge. let is : k ≡ n = omega arith in ap (slice_get (xs ++ seat_view name n [] ∷ [])) (is ∙ sym len) ∙ (slice_get_push xs (seat_view name n []) (length xs) refl ∙ ap (λ (m : ℕ). Some (seat_view name m [])) (sym is)))

-- seats that are fresh are the seats of the lock
pub fresh_are_seats : (name : TableId) (count : ℕ) (xs : List SeatView) → length xs ≡ count → ((k : ℕ) → k < count → slice_get xs k ≡ Some (seat_view name k [])) → AreSeatsOf name count xs
fresh_are_seats name count xs len fresh_ones = record {
  all = len;
  each = λ k s e. let inside : k < length xs = slice_get_within xs k s e in
      let same : Some s ≡ Some (seat_view name k []) = sym e ∙ fresh_ones k (omega arith) in
      let is : s ≡ seat_view name k [] = cc in (ap (λ (z : SeatView). z.lock) is, ap (λ (z : SeatView). z.number) is);
}

middle_is : {X : Type 0} (xs : List X) (x : X) (ys : List X) → get_or ((xs ++ x ∷ []) ++ ys) (length xs) x ≡ x
middle_is [] x ys = refl
middle_is (y ∷ xs) x ys = middle_is xs x ys

inside_middle : {X : Type 0} (xs : List X) (x : X) (ys : List X) → length xs < length ((xs ++ x ∷ []) ++ ys)
inside_middle [] x ys = omega arith
inside_middle (y ∷ xs) x ys = let r = inside_middle xs x ys in omega arith

-- the lock of the seat that is taken next
pub next_lock : (name : TableId) (all xs : List SeatView) (s : SeatView) (ys : List SeatView) → All (λ (z : SeatView). z.lock ≡ name) all → all ≡ (xs ++ s ∷ []) ++ ys → s.lock ≡ name
next_lock name all xs s ys each is =
    let P : SeatView → Type 0 = λ z. z.lock ≡ name in
    subst P (middle_is xs s ys) (subst (All P) is each (length xs) s (inside_middle xs s ys))

pub next_gone : (all xs : List SeatView) (s : SeatView) (ys : List SeatView) → all ≡ (xs ++ s ∷ []) ++ ys → all ≡ xs ++ s ∷ ys
next_gone all xs s ys is = is ∙ append_assoc xs (s ∷ []) ys

-- a seat takes in those that are gathered
pub gathered_more : (s : SeatView) (gone : List SeatView) (a b c : Me JournalState View) → a ≡ resting s.number s.entries → b ≡ (view (map held_of gone) Idle, []) → c ≡ (both_seats a.0 b.0, a.1)
    → c ≡ (view (map held_of (s ∷ gone)) Idle, [])
gathered_more s gone a b c a_is b_is c_is = c_is ∙ (λ i. (both_seats (a_is i).0 (b_is i).0, (a_is i).1))

pub length-held : (seats : List SeatView) → length (map held_of seats) ≡ length seats
length-held [] = refl
length-held (s ∷ ss) = ap suc (length-held ss)

each_get : (P : Held → Type 0) (seats : List SeatView) (k : ℕ) (s : SeatView) → Each P (map held_of seats) → slice_get seats k ≡ Some s → P (held_of s)
each_get P [] k s each e = cc
each_get P (t ∷ ts) zero s each e = let same : t ≡ s = cc in subst (λ (z : SeatView). P (held_of z)) same each.0
each_get P (t ∷ ts) (suc k) s each e = each_get P ts k s each.1 e

-- what the last state says, as the contract has it
pub journal_after : (key : Origin) (name : TableId) (id : ℕ) (m : Me JournalState View) (words : List ℕ) (slots : List JournalState) (x : JournalState) (seats : List SeatView) (closing : CellState) (journal : List JournalEntry)
    → m ≡ (view (map held_of seats) Idle, []) → Final (Seen (IsKept key) id m.0) words slots → get_elem? slots 0 ≡ some x → length seats ≡ key.seats
    → ((k : ℕ) (s : SeatView) → slice_get seats k ≡ Some s → (s.lock ≡ name) × (s.number ≡ k))
    → journal ≡ x.entries → Replays x.opening journal closing → IsJournalOf key.opening.value.state closing seats journal
journal_after key name id m words slots x seats closing journal m_is last at count each entries replays =
    let v_is : m.0 ≡ view (map held_of seats) Idle = ap (λ (z : Me JournalState View). z.0) m_is in
    let end = closes key id (view (map held_of seats) Idle) words slots x (subst (λ (v : View). Final (Seen (IsKept key) id v) words slots) v_is last) refl (length-held seats ∙ count) at in record {
      replays = subst (λ (o : CellState). Replays o journal closing) end.0 replays;
      own = λ k s e. (λ i. of_seat (sym (each k s e).1 i) (entries i)) ∙ each_get (λ h. of_seat h.number x.entries ≡ h.entries) seats k s end.1 e;
      no_stranger = λ number beyond. ap (of_seat number) entries ∙ end.2 number (subst (λ (n : ℕ). n ≤ number) count beyond);
    }
