-- A column's seats are taken from the ends of the rows, or put there, one after another.
use Rattle.std.proofs.Common.{◌≡◌, ◌∙◌, ℕ, zero, suc, ◌+◌, ◌<◌, ◌≤◌, List, [], ◌∷◌, ◌++◌, length, replicate, take, slice_get, Some, refl, sym, ap, subst, arith, add-one}
use Rattle.std.specs.Global.{Vec}
use Rattle.std.specs.Prelude.{slice_set}
use Rattle.std.proofs.lemmas.Option.{slice_get_within, same_Some}
use Rattle.mk_words.specs.declared.Step.{Step}
use Rattle.mk_lock.specs.Seats.{SeatView, LockView}
use Rattle.mk_workers.specs.Pairs.{Pairs, Until}
use Rattle.mk_workers.specs.Seating.{IsSeatAt, HasSeats, HasColumns}
use Rattle.mk_lists.proofs.Places.{slice_get-append_left, slice_get_push}
use Rattle.mk_workers.proofs.PairLaws.{slice_get-inside, pairs_none, pairs_front, pairs_last, pairs_push, until_more, until_back}
use Rattle.mk_workers.proofs.Makings.{length-replicated}

replicate_suc : {X : Type 0} (n : ℕ) (x : X) → replicate (suc n) x ≡ replicate n x ++ x ∷ []
replicate_suc zero x = refl
replicate_suc (suc n) x = ap (λ xs. x ∷ xs) (replicate_suc n x)

replicate_more : {X : Type 0} (n : ℕ) (x : X) → replicate (n + 1) x ≡ replicate n x ++ x ∷ []
replicate_more n x = ap (λ m. replicate m x) (add-one n) ∙ replicate_suc n x

take_suc : {X : Type 0} (n : ℕ) (xs : List X) (x : X) → slice_get xs n ≡ Some x → take (suc n) xs ≡ take n xs ++ x ∷ []
take_suc n [] x at = absurd (cc at)
take_suc zero (y ∷ ys) x at = ap (λ z. z ∷ []) (same_Some y x at)
take_suc (suc n) (y ∷ ys) x at = ap (λ zs. y ∷ zs) (take_suc n ys x at)

pub take_more : {X : Type 0} (n : ℕ) (xs : List X) (x : X) → slice_get xs n ≡ Some x → take (n + 1) xs ≡ take n xs ++ x ∷ []
take_more n xs x at = ap (λ m. take m xs) (add-one n) ∙ take_suc n xs x at

-- the rows while seats are taken: before this place one is gone, and from it on all are there
abbrev pub RowsWhile : List LockView → List (List Step) → List (List Step) → ℕ → List (Vec SeatView) → Type 0
RowsWhile locks before after place rows =
    Pairs (Until place (λ _ (l : LockView) (row : Vec SeatView). HasColumns l before row.items) (λ _ (l : LockView) (row : Vec SeatView). HasColumns l after row.items)) locks rows

-- the last seat of a lock, and those before it
fresh_last : (l : LockView) (column : ℕ) (rest : List SeatView) (s : SeatView) → HasColumns l (replicate (column + 1) []) (rest ++ s ∷ []) → HasColumns l (replicate column []) rest × IsSeatAt l column [] s
fresh_last l column rest s has =
    let whole = subst (λ logs. HasColumns l logs (rest ++ s ∷ [])) (replicate_more column []) has in (
      pairs_front (IsSeatAt l) (replicate column []) rest [] s whole,
      subst (λ c. IsSeatAt l c [] s) (length-replicated column []) (pairs_last (IsSeatAt l) (replicate column []) rest [] s whole),
    )

-- one seat more is taken
pub taken_more : (locks : List LockView) (column place : ℕ) (rows : List (Vec SeatView)) (seats : List SeatView) (row rest : Vec SeatView) (s : SeatView) →
    RowsWhile locks (replicate column []) (replicate (column + 1) []) place rows → HasSeats (take place locks) column [] seats → slice_get rows place ≡ Some row → row.items ≡ rest.items ++ s ∷ [] →
    RowsWhile locks (replicate column []) (replicate (column + 1) []) (place + 1) (slice_set rows place rest) × HasSeats (take (place + 1) locks) column [] (seats ++ s ∷ [])
taken_more locks column place rows seats row rest s whole has at is =
    let same = whole.all in
    let inside = slice_get_within rows place row at in
    let lock = slice_get-inside locks place (omega arith) in
    let full = whole.each place lock.0 row lock.1 at in
    let parts = fresh_last lock.0 column rest.items s (subst (HasColumns lock.0 (replicate (column + 1) [])) is (full.after (omega arith))) in (
      until_more _ _ locks rows place lock.0 row rest whole lock.1 at parts.0,
      subst (λ ls. HasSeats ls column [] (seats ++ s ∷ [])) (sym (take_more place locks lock.0 lock.1))
          (pairs_push (λ _ l s. IsSeatAt l column [] s) (take place locks) seats lock.0 s has parts.1),
    )

-- while there are rows, there is a seat
pub has_last : (locks : List LockView) (column place : ℕ) (rows : List (Vec SeatView)) (row : Vec SeatView) → RowsWhile locks (replicate column []) (replicate (column + 1) []) place rows →
    slice_get rows place ≡ Some row → 0 < length row.items
has_last locks column place rows row whole at =
    let same = whole.all in
    let inside = slice_get_within rows place row at in
    let lock = slice_get-inside locks place (omega arith) in
    let full = whole.each place lock.0 row lock.1 at in
    let there : HasColumns lock.0 (replicate (column + 1) []) row.items = full.after (omega arith) in
    let count = there.all in
    let unused : List Step = [] in
    let long = length-replicated (column + 1) unused in omega arith

-- one seat more is given
pub given_more : (locks : List LockView) (logs : List (List Step)) (log : List Step) (place : ℕ) (rows : List (Vec SeatView)) (seats : List SeatView) (row more : Vec SeatView) (s : SeatView) →
    RowsWhile locks logs (logs ++ log ∷ []) (place + 1) rows → HasSeats locks (length logs) log seats → slice_get seats place ≡ Some s → slice_get rows place ≡ Some row →
    more.items ≡ row.items ++ s ∷ [] → RowsWhile locks logs (logs ++ log ∷ []) place (slice_set rows place more)
given_more locks logs log place rows seats row more s whole has seat_at at is =
    let same = whole.all in
    let inside = slice_get_within rows place row at in
    let lock = slice_get-inside locks place (omega arith) in
    let one = whole.each place lock.0 row lock.1 at in
    let new : HasColumns lock.0 (logs ++ log ∷ []) more.items =
    subst (HasColumns lock.0 (logs ++ log ∷ [])) (sym is) (pairs_push (IsSeatAt lock.0) logs row.items log s (one.before (omega arith)) (has.each place lock.0 s lock.1 seat_at)) in
    until_back _ _ locks rows place lock.0 row more whole lock.1 at new

pub taken_none : (locks : List LockView) (column : ℕ) (seats : List SeatView) → seats ≡ [] → HasSeats (take 0 locks) column [] seats
taken_none locks column seats none = subst (HasSeats [] column []) (sym none) (pairs_none (λ _ l s. IsSeatAt l column [] s))

pub take_past : {X : Type 0} (n : ℕ) (xs : List X) → length xs ≤ n → take n xs ≡ xs
take_past zero [] h = refl
take_past zero (x ∷ xs) h = absurd (omega (arith, h))
take_past (suc n) [] h = refl
take_past (suc n) (x ∷ xs) h = ap (λ ys. x ∷ ys) (take_past n xs (omega (arith, h)))

pub taken_all : (locks : List LockView) (column place : ℕ) (seats : List SeatView) → length locks ≤ place → HasSeats (take place locks) column [] seats → HasSeats locks column [] seats
taken_all locks column place seats past has = subst (λ ls. HasSeats ls column [] seats) (take_past place locks past) has

-- where a seat was taken from the end of a list, those before it stand as they stood
pub still_there : (old new : List SeatView) (s : SeatView) → old ≡ new ++ s ∷ [] → (k : ℕ) (t : SeatView) → slice_get new k ≡ Some t → slice_get old k ≡ Some t
still_there old new s is k t at = ap (λ xs. slice_get xs k) is ∙ (slice_get-append_left new (s ∷ []) k (slice_get_within new k t at) ∙ at)

pub last_there : (old new : List SeatView) (s : SeatView) (k : ℕ) → old ≡ new ++ s ∷ [] → k ≡ length new → slice_get old k ≡ Some s
last_there old new s k is here = ap (λ xs. slice_get xs k) is ∙ slice_get_push new s k here
