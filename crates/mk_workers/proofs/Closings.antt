-- Locks are taken apart, one after another.
use Rattle.std.proofs.Common.{◌≡◌, ◌∙◌, ℕ, zero, suc, ◌+◌, ◌*◌, ◌<◌, ◌≤◌, Bool, true, false, cond, nat_eq, eq-eqb, List, [], ◌∷◌, ◌++◌, length, map, slice_get, slice_index_or, Some, refl, sym, ap, subst, arith}
use Rattle.std.specs.Global.{Vec}
use Rattle.crossbeam_utils.specs.declared.cache_padded.CachePadded.{CachePadded}
use Rattle.crossbeam_utils.specs.Padded.{padded_value}
use Rattle.std.proofs.lemmas.List.{length-map}
use Rattle.std.proofs.lemmas.Option.{get_or_from_slice_get, slice_get_within, same_Some}
use mathlib.Core.Logic.{dite}
use native.Mathlib.Decide.{dec_lt}
use Rattle.mk_lists.specs.Among.{Each}
use Rattle.mk_words.specs.declared.JournalEntry.{JournalEntry}
use Rattle.mk_words.specs.declared.Step.{Step}
use Rattle.mk_words.specs.Cells.{CellState, CellView, first_cell}
use Rattle.mk_words.specs.Journals.{Replays}
use Rattle.mk_history.specs.Matching.{turns_in_log}
use Rattle.mk_lock.specs.Entries.{of_seat}
use Rattle.mk_lock.specs.Seats.{SeatView, LockView, IsJournalOf}
use Rattle.mk_workers.specs.ByKey.{cell_at, journal_at, states_in, states_of}
use Rattle.mk_workers.specs.Closing.{IsLeft, AreLeft, AreClosedAt, IsClosedRow}
use Rattle.mk_workers.specs.Pairs.{Pairs}
use Rattle.mk_workers.specs.Seating.{locks_of, AreLocksOf, AreOpened, AreSeated, HasColumns, RowsHold}
use Rattle.mk_workers.specs.Worked.{IsWorkedAt, AreWorked}
use Rattle.mk_workers.proofs.KeyPlaces.{same_place}
use Rattle.mk_workers.proofs.Matches.{matches}
use Rattle.mk_workers.proofs.PairLaws.{slice_get-inside, pairs_none, pairs_push}

-- where no entry is of a number from this one on, each is of one below it
pub owned : (columns : ℕ) (journal : List JournalEntry) → ((number : ℕ) → columns ≤ number → of_seat number journal ≡ []) → Each (λ (entry : JournalEntry). entry.seat < columns) journal
owned columns [] none = tt
owned columns (e ∷ journal) none = (
  dite (dec_lt e.seat columns) (λ below. below) (λ above. absurd (first (nat_eq e.seat e.seat) (eq-eqb e.seat e.seat refl) (none e.seat (omega arith)))),
  owned columns journal (λ number above. rest number (nat_eq e.seat number) (none number above)),
)
  where
    first : (b : Bool) → b ≡ true → cond b (e ∷ of_seat e.seat journal) (of_seat e.seat journal) ≡ [] → ⊥
    first true is empty = cc
    first false is empty = cc

    rest : (number : ℕ) (b : Bool) → cond b (e ∷ of_seat number journal) (of_seat number journal) ≡ [] → of_seat number journal ≡ []
    rest number true empty = absurd (cc empty)
    rest number false empty = empty

-- what one lock leaves
worked_at : (l : LockView) (logs : List (List Step)) (seats : List SeatView) (before closing : CellState) (journal : List JournalEntry) → HasColumns l logs seats →
    IsJournalOf l.opening closing seats journal → l.opening ≡ before → IsWorkedAt l.replica l.key logs before closing journal
worked_at l logs seats before closing journal has is opening =
    record {
      matched = λ c below.
          let found = slice_get-inside logs c below in
          matches l logs seats l.opening closing journal has is c found.0 found.1 ∙ ap (turns_in_log l.replica l.key) (sym (get_or_from_slice_get logs c found.0 [] found.1));
      owned = owned (length logs) journal (λ number above. is.no_stranger number (let same = has.all in omega (arith, above)));
      replayed = subst (λ (cell : CellState). Replays cell journal closing) opening is.replays;
    }

-- the first that is left, and the others
pub left_first : (keys : ℕ) (logs : List (List Step)) (first : ℕ) (l : LockView) (ls : List LockView) (row : Vec SeatView) (rows : List (Vec SeatView)) →
    AreLeft keys logs first (l ∷ ls) (row ∷ rows) → IsLeft keys logs first 0 l row × AreLeft keys logs (first + 1) ls rows
left_first keys logs first l ls row rows has = (
  has.each 0 l row refl refl,
  record {
    all = let same = has.all in omega arith;
    each = λ k x y at at'.
        let one = has.each (suc k) x y at at' in
        record { place = (let place = one.place in omega (arith, place)); inside = one.inside; seats = one.seats; columns = one.columns };
  },
)

-- what the lock of a key leaves
pub closed_one : (keys : ℕ) (logs : List (List Step)) (before : List (List CellState)) (r key : ℕ) (l : LockView) (row : Vec SeatView) (closing : CellState) (journal : List JournalEntry) →
    IsLeft keys logs (r * keys + key) 0 l row → key < keys → l.opening ≡ cell_at before l.replica l.key → IsJournalOf l.opening closing row.items journal →
    IsWorkedAt r key logs (cell_at before r key) closing journal
closed_one keys logs before r key l row closing journal left below opening is =
    let same = same_place keys l.replica l.key r key left.inside below (let place = left.place in omega (arith, place)) in
    subst (λ (z : ℕ × ℕ). IsWorkedAt z.0 z.1 logs (cell_at before z.0 z.1) closing journal) (λ i. (same.0 i, same.1 i))
    (worked_at l logs row.items (cell_at before l.replica l.key) closing journal left.columns is opening)

-- all locks, before one is gone
pub left_all : (replicas keys : ℕ) (logs : List (List Step)) (locks : List LockView) (rows : List (Vec SeatView)) → AreLocksOf replicas keys locks → AreSeated (length logs) locks →
    RowsHold locks logs rows → AreLeft keys logs (0 * keys) locks rows
left_all replicas keys logs locks rows are seated hold =
    record {
      all = hold.all;
      each = λ k l row at at'.
          let one = are.each k l at in
          let place = one.0 in
          record { place = from_zero keys k (l.replica * keys + l.key) place; inside = one.1; seats = seated k l at; columns = hold.each k l row at at' };
    }
  where
    from_zero : (keys k place : ℕ) → k ≡ place → 0 * keys + k ≡ place
    from_zero keys k place e = omega (arith, e)

pub at_map : {X Y : Type 0} (f : X → Y) (xs : List X) (k : ℕ) (x : X) (d : Y) → slice_get xs k ≡ Some x → slice_index_or (map f xs) k d ≡ f x
at_map f [] k x d at = absurd (cc at)
at_map f (y ∷ ys) zero x d at = ap f (same_Some y x at)
at_map f (y ∷ ys) (suc k) x d at = at_map f ys k x d at

each_map : {X Y : Type 0} (P : Y → Type 0) (f : X → Y) (xs : List X) → ((k : ℕ) (x : X) → slice_get xs k ≡ Some x → P (f x)) → Each P (map f xs)
each_map P f [] h = tt
each_map P f (x ∷ xs) h = (h 0 x refl, each_map P f xs (λ k y at. h (suc k) y at))

abbrev pub entries_of : Vec JournalEntry → List JournalEntry
entries_of journal = journal.items

abbrev pub journals_in : Vec (Vec JournalEntry) → List (List JournalEntry)
journals_in row = map entries_of row.items

-- the cells and journals of all replicas
pub all_worked : (replicas keys : ℕ) (logs : List (List Step)) (before : List (List CellState)) (cells : List (Vec CellView)) (journals : List (Vec (Vec JournalEntry))) →
    length cells ≡ replicas → Pairs (IsClosedRow keys logs before) cells journals → AreWorked replicas keys logs before (states_of cells) (map journals_in journals)
all_worked replicas keys logs before cells journals count has =
    record {
      cells = record {
        all = length-map cells states_in ∙ count;
        each = each_map (λ states. length states ≡ keys) states_in cells (λ k row at.
            let listed = slice_get-inside journals k (let inside = slice_get_within cells k row at in let same = has.all in omega arith) in
            let closed = has.each k row listed.0 at listed.1 in length-map row.items (λ (cell : CellView). cell.state) ∙ closed.all);
      };
      by_key = record {
        all = length-map journals journals_in ∙ (has.all ∙ count);
        each = each_map (λ lists. length lists ≡ keys) journals_in journals (λ k listed at.
            let row = slice_get-inside cells k (let inside = slice_get_within journals k listed at in let same = has.all in omega arith) in
            let closed = has.each k row.0 listed row.1 at in length-map listed.items entries_of ∙ (closed.each.all ∙ closed.all));
      };
      each = λ r key below under.
          let same = has.all in
          let row = slice_get-inside cells r (omega (arith, below)) in
          let listed = slice_get-inside journals r (omega (arith, below)) in
          let closed = has.each r row.0 listed.0 row.1 listed.1 in
          let long = closed.all in
          let pairs = closed.each in
          let alike = pairs.all in
          let cell = slice_get-inside row.0.items key (omega (arith, under)) in
          let journal = slice_get-inside listed.0.items key (omega (arith, under)) in
          subst (λ (z : CellState × List JournalEntry). IsWorkedAt r key logs (cell_at before r key) z.0 z.1)
          (λ i. (sym (cell_is r key row.0 cell.0 row.1 cell.1) i, sym (journal_is r key listed.0 journal.0 listed.1 journal.1) i))
          (pairs.each key cell.0 journal.0 cell.1 journal.1);
    }
  where
    cell_is : (r key : ℕ) (row : Vec CellView) (cell : CellView) → slice_get cells r ≡ Some row → slice_get row.items key ≡ Some cell → cell_at (states_of cells) r key ≡ cell.state
    cell_is r key row cell at at' =
        ap (λ (states : List CellState). slice_index_or states key first_cell) (at_map states_in cells r row [] at) ∙ at_map (λ (c : CellView). c.state) row.items key cell first_cell at'

    journal_is : (r key : ℕ) (row : Vec (Vec JournalEntry)) (journal : Vec JournalEntry) → slice_get journals r ≡ Some row → slice_get row.items key ≡ Some journal →
        journal_at (map journals_in journals) r key ≡ journal.items
    journal_is r key row journal at at' =
        ap (λ (lists : List (List JournalEntry)). slice_index_or lists key []) (at_map journals_in journals r row [] at) ∙ at_map entries_of row.items key journal [] at'

-- the next lock with its seats, and those behind it
pub left_here : (keys : ℕ) (logs : List (List Step)) (first : ℕ) (locks : List (CachePadded LockView)) (lock : CachePadded LockView) (rest : List (CachePadded LockView)) (rows : List (Vec SeatView))
    (row : Vec SeatView) (more : List (Vec SeatView)) → AreLeft keys logs first (locks_of locks) rows → locks ≡ lock ∷ rest → rows ≡ row ∷ more →
    IsLeft keys logs first 0 (padded_value {T = LockView} lock) row × AreLeft keys logs (first + 1) (locks_of rest) more
left_here keys logs first locks lock rest rows row more has locks_are rows_are =
    left_first keys logs first (padded_value {T = LockView} lock) (locks_of rest) row more
    (subst (λ (z : List (CachePadded LockView) × List (Vec SeatView)). AreLeft keys logs first (locks_of z.0) z.1) (λ i. (locks_are i, rows_are i)) has)

-- where the next lock began, and those behind it
pub opened_here : (before : List (List CellState)) (locks : List (CachePadded LockView)) (lock : CachePadded LockView) (rest : List (CachePadded LockView)) → AreOpened before (locks_of locks) →
    locks ≡ lock ∷ rest → ((padded_value {T = LockView} lock).opening ≡ cell_at before (padded_value {T = LockView} lock).replica (padded_value {T = LockView} lock).key) × AreOpened before (locks_of rest)
opened_here before locks lock rest opened is =
    let all = subst (λ (z : List (CachePadded LockView)). AreOpened before (locks_of z)) is opened in
    (all 0 (padded_value {T = LockView} lock) refl, λ k l at. all (suc k) l at)

-- what one lock more leaves
pub closed_more : (r key : ℕ) (logs : List (List Step)) (before : List (List CellState)) (cells : List CellView) (journals : List (Vec JournalEntry)) (cell : CellView) (journal : Vec JournalEntry) →
    AreClosedAt r logs before cells journals → length cells ≡ key → IsWorkedAt r key logs (cell_at before r key) cell.state journal.items →
    AreClosedAt r logs before (cells ++ cell ∷ []) (journals ++ journal ∷ [])
closed_more r key logs before cells journals cell journal has here worked =
    pairs_push (λ k (c : CellView) (j : Vec JournalEntry). IsWorkedAt r k logs (cell_at before r k) c.state j.items) cells journals cell journal has
    (subst (λ k. IsWorkedAt r k logs (cell_at before r k) cell.state journal.items) (sym here) worked)

-- the cells and journals of one replica more
pub rows_more : (r keys : ℕ) (logs : List (List Step)) (before : List (List CellState)) (cells : List (Vec CellView)) (journals : List (Vec (Vec JournalEntry))) (row : Vec CellView)
    (listed : Vec (Vec JournalEntry)) → Pairs (IsClosedRow keys logs before) cells journals → length cells ≡ r → IsClosedRow keys logs before r row listed →
    Pairs (IsClosedRow keys logs before) (cells ++ row ∷ []) (journals ++ listed ∷ [])
rows_more r keys logs before cells journals row listed has here closed =
    pairs_push (IsClosedRow keys logs before) cells journals row listed has (subst (λ k. IsClosedRow keys logs before k row listed) (sym here) closed)

pub closed_none : (r : ℕ) (logs : List (List Step)) (before : List (List CellState)) (cells : List CellView) (journals : List (Vec JournalEntry)) → cells ≡ [] → journals ≡ [] →
    AreClosedAt r logs before cells journals
closed_none r logs before cells journals no_cells no_journals =
    subst (λ (z : List CellView × List (Vec JournalEntry)). AreClosedAt r logs before z.0 z.1) (λ i. (sym no_cells i, sym no_journals i))
    (pairs_none (λ k (c : CellView) (j : Vec JournalEntry). IsWorkedAt r k logs (cell_at before r k) c.state j.items))

pub rows_none : (keys : ℕ) (logs : List (List Step)) (before : List (List CellState)) (cells : List (Vec CellView)) (journals : List (Vec (Vec JournalEntry))) → cells ≡ [] → journals ≡ [] →
    Pairs (IsClosedRow keys logs before) cells journals
rows_none keys logs before cells journals no_cells no_journals =
    subst (λ (z : List (Vec CellView) × List (Vec (Vec JournalEntry))). Pairs (IsClosedRow keys logs before) z.0 z.1) (λ i. (sym no_cells i, sym no_journals i)) (pairs_none (IsClosedRow keys logs before))
