-- Locks while they are made, one after another.
use Rattle.std.proofs.Common.{◌≡◌, ◌∙◌, ℕ, zero, suc, ◌+◌, ◌*◌, ◌<◌, List, [], ◌∷◌, ◌++◌, length, length-append, drop, replicate, slice_get, slice_index_or, Some, refl, sym, ap, subst, arith, add-one}
use Rattle.std.specs.Global.{Vec}
use Rattle.std.proofs.lemmas.List.{length-map, map-append}
use Rattle.crossbeam_utils.specs.declared.cache_padded.CachePadded.{CachePadded}
use Rattle.crossbeam_utils.specs.Padded.{padded_value}
use mathlib.Core.Logic.{dite}
use native.Mathlib.Decide.{dec_lt}
use Rattle.std.proofs.lemmas.Option.{slice_get_within, same_Some}
use Rattle.mk_lists.proofs.Places.{slice_get-append_left, slice_get_push, slice_get-from_replicate}
use Rattle.mk_words.specs.declared.Step.{Step}
use Rattle.mk_lists.specs.Among.{Each}
use Rattle.mk_words.specs.Cells.{CellState, CellView}
use Rattle.mk_lock.specs.Seats.{SeatView, LockView, AreSeatsOf, seat_view}
use Rattle.mk_workers.specs.declared.locks.Locks.{Locks}
use Rattle.mk_workers.specs.ByKey.{cell_at, states_in, states_of}
use Rattle.mk_workers.specs.Pairs.{Pairs}
use Rattle.mk_workers.specs.Seating.{locks_of, AreLocksOf, AreOpened, AreSeated, IsSeatAt, HasColumns}
use Rattle.mk_workers.specs.Making.{IsLockAt, HasMade, HasAdded}
use Rattle.mk_workers.proofs.PairLaws.{pairs_none, pairs_push}

pub length-replicated : {X : Type 0} (n : ℕ) (x : X) → length (replicate n x) ≡ n
length-replicated zero x = refl
length-replicated (suc n) x = ap suc (length-replicated n x)

-- the list of locks with one more
pub locks_more : (old reserved new : List (CachePadded LockView)) (padded : CachePadded LockView) (lock : LockView) → new ≡ reserved ++ padded ∷ [] → reserved ≡ old →
    padded_value {T = LockView} padded ≡ lock → locks_of new ≡ locks_of old ++ lock ∷ []
locks_more old reserved new padded lock pushed same is =
    ap locks_of pushed ∙ (ap (λ xs. locks_of (xs ++ padded ∷ [])) same ∙ (map-append (λ (l : CachePadded LockView). padded_value {T = LockView} l) old (padded ∷ []) ∙ ap (λ l. locks_of old ++ l ∷ []) is))

-- the seats of a new lock are those of columns that did nothing
pub fresh_columns : (l : LockView) (columns : ℕ) (seats : List SeatView) → AreSeatsOf l.name columns seats →
    ((k : ℕ) → k < columns → slice_get seats k ≡ Some (seat_view l.name k [])) → HasColumns l (replicate columns []) seats
fresh_columns l columns seats are fresh =
    record {
      all = are.all ∙ sym (length-replicated columns []);
      each = λ c log s at at'.
          let here : c < columns = (let inside = slice_get_within seats c s at' in let count = are.all in omega arith) in
          let is : seat_view l.name c [] ≡ s = same_Some (seat_view l.name c []) s (sym (fresh c here) ∙ at') in
          subst (λ (z : List Step × SeatView). IsSeatAt l c z.0 z.1) (λ i. (slice_get-from_replicate columns [] log c at i, is i))
          record { lock = refl; number = refl; entries = refl };
    }

-- one lock more
pub made_more : (keys columns : ℕ) (cells : List (List CellState)) (replica key : ℕ) (cell : CellState) (made new_made : Locks) → HasMade (replica * keys + key) keys columns cells made →
    HasAdded replica key columns cell made new_made → key < keys → cell ≡ cell_at cells replica key → HasMade (replica * keys + (key + 1)) keys columns cells new_made
made_more keys columns cells replica key cell made new_made has added below is =
    let old = locks_of made.locks.items in
    let all = has.all in
    record {
      all = let longer = ap length added.locks in let more = length-append old (added.lock ∷ []) in omega arith;
      each = λ k l at.
          let at_longer : slice_get (old ++ added.lock ∷ []) k ≡ Some l = ap (λ ls. slice_get ls k) (sym added.locks) ∙ at in
          dite (dec_lt k (length old))
          (λ inside. has.each k l (sym (slice_get-append_left old (added.lock ∷ []) k inside) ∙ at_longer))
          (λ beyond.
          let within = slice_get_within (old ++ added.lock ∷ []) k l at_longer in
          let longer = length-append old (added.lock ∷ []) in
          let here : k ≡ length old = omega arith in
          subst (λ (z : ℕ × LockView). IsLockAt keys columns cells z.0 z.1)
          (λ i. (sym here i, same_Some added.lock l (sym (slice_get_push old added.lock k here) ∙ at_longer) i))
          record {
            place = all ∙ (λ i. sym added.replica_is i * keys + sym added.key_is i);
            inside = subst (λ n. n < keys) (sym added.key_is) below;
            seats = added.seats;
            opening = added.opening ∙ (is ∙ (λ i. cell_at cells (sym added.replica_is i) (sym added.key_is i)));
          });
      rows = subst (λ (z : List LockView × List (Vec SeatView)). Pairs (λ _ l (row : Vec SeatView). HasColumns l (replicate columns []) row.items) z.0 z.1)
          (λ i. (sym added.locks i, sym added.rows i))
          (pairs_push (λ _ l (row : Vec SeatView). HasColumns l (replicate columns []) row.items) old made.rows.items added.lock added.row has.rows added.fresh);
    }

-- all locks
pub made_all : (replicas keys columns : ℕ) (cells : List (List CellState)) (made : Locks) → HasMade (replicas * keys) keys columns cells made →
    AreLocksOf replicas keys (locks_of made.locks.items) × (AreSeated columns (locks_of made.locks.items) × AreOpened cells (locks_of made.locks.items))
made_all replicas keys columns cells made has = (
  record { all = has.all; each = λ k l at. let one = has.each k l at in (one.place, one.inside) },
  (λ k l at. (has.each k l at).seats, λ k l at. (has.each k l at).opening),
)

-- what is left of a list begins with the member at its place
pub drop_first : {X : Type 0} (k : ℕ) (xs : List X) (x : X) (ys : List X) (d : X) → drop k xs ≡ x ∷ ys → (x ≡ slice_index_or xs k d) × (drop (k + 1) xs ≡ ys)
drop_first {X = X} k xs x ys d is = (at k xs is, ap (λ n. drop n xs) (add-one k) ∙ rest k xs is)
  where
    at : (k : ℕ) (xs : List X) → drop k xs ≡ x ∷ ys → x ≡ slice_index_or xs k d
    at zero [] is = absurd (cc is)
    at zero (y ∷ xs) is = cc is
    at (suc k) [] is = absurd (cc is)
    at (suc k) (y ∷ xs) is = at k xs is

    rest : (k : ℕ) (xs : List X) → drop k xs ≡ x ∷ ys → drop (suc k) xs ≡ ys
    rest zero [] is = absurd (cc is)
    rest zero (y ∷ xs) is = cc is
    rest (suc k) [] is = absurd (cc is)
    rest (suc k) (y ∷ xs) is = rest k xs is

-- the cells of the replica at this place
pub row_at : (keys r : ℕ) (cells : List (Vec CellView)) (row : Vec CellView) (rest : List (Vec CellView)) → Each (λ states. length states ≡ keys) (states_of cells) → drop r cells ≡ row ∷ rest →
    (slice_index_or (states_of cells) r [] ≡ states_in row) × (length row.items ≡ keys)
row_at keys zero [] row rest each is = absurd (cc is)
row_at keys (suc r) [] row rest each is = absurd (cc is)
row_at keys zero (x ∷ xs) row rest each is =
    let same : x ≡ row = cc is in
    (ap states_in same, subst (λ (y : Vec CellView). length y.items ≡ keys) same (sym (length-map x.items (λ (cell : CellView). cell.state)) ∙ each.0))
row_at keys (suc r) (x ∷ xs) row rest each is = row_at keys r xs row rest each.1 is

-- the locks of one replica more
pub made_row : (keys columns : ℕ) (cells : List (List CellState)) (replica m : ℕ) (made new_made : Locks) → m ≡ keys →
    (HasMade (replica * m) m columns cells made → HasMade (replica * m + m) m columns cells new_made) →
    HasMade (replica * keys) keys columns cells made → HasMade ((replica + 1) * keys) keys columns cells new_made
made_row keys columns cells replica m made new_made same more has =
    subst (λ n. HasMade n keys columns cells new_made) (sym (ap (λ r. r * keys) (add-one replica) ∙ one_more))
    (subst (λ n. HasMade (replica * n) n columns cells made → HasMade (replica * n + n) n columns cells new_made) same more has)
  where
    one_more : suc replica * keys ≡ replica * keys + keys
    one_more = omega arith

-- no lock yet
pub made_none : (keys columns : ℕ) (cells : List (List CellState)) (made : Locks) → made.locks.items ≡ [] → made.rows.items ≡ [] → HasMade (0 * keys) keys columns cells made
made_none keys columns cells made no_locks no_rows =
    let none : locks_of made.locks.items ≡ [] = ap locks_of no_locks in
    record {
      all = ap length none ∙ nothing;
      each = λ k l at. absurd (nowhere k l (ap (λ ls. slice_get ls k) (sym none) ∙ at));
      rows = subst (λ (z : List LockView × List (Vec SeatView)). Pairs (λ _ l (row : Vec SeatView). HasColumns l (replicate columns []) row.items) z.0 z.1)
          (λ i. (sym none i, sym no_rows i)) (pairs_none (λ _ l (row : Vec SeatView). HasColumns l (replicate columns []) row.items));
    }
  where
    nothing : 0 ≡ 0 * keys
    nothing = omega arith

    nowhere : (k : ℕ) (l : LockView) → slice_get [] k ≡ Some l → ⊥
    nowhere k l at = cc at
