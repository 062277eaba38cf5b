-- The tasks of a part, put from the last on.
use Rattle.std.proofs.Common.{◌≡◌, ◌<◌, ◌≤◌, ℕ, zero, suc, ◌+◌, ◌-◌, ◌∙◌, List, [], ◌∷◌, ◌++◌, Some, sym, subst, ap, length, take, arith}
use Rattle.std.proofs.Common.{append_assoc}
use Rattle.std.specs.Prelude.{flat_map, slice_get, slice_index}
use Rattle.mk_script.specs.declared.lines.TakeoverLine.{TakeoverLine}
use Rattle.mk_model.specs.ColumnState.{numbers_from}
use Rattle.mk_driver.specs.declared.Task.{Task}
use Rattle.mk_driver.specs.declared.Caller.{Caller}
use Rattle.mk_driver.specs.Keeping.{numbers_of}

-- the last of so many numbers
pub flat-last : (f : ℕ → List Task) (r k : ℕ) (tasks : List Task) →
    flat_map f (numbers_from r (suc k)) ++ tasks ≡ flat_map f (numbers_from r k) ++ (f (r + k) ++ tasks)
flat-last f r zero tasks = let e : r + 0 ≡ r = omega arith in rw e (append_assoc (f r) [] tasks)
flat-last f r (suc k) tasks =
    let e : (r + 1) + k ≡ r + suc k = omega arith in
    append_assoc (f r) (flat_map f (numbers_from (r + 1) (suc k))) tasks
    ∙ ap (λ ts. f r ++ ts) (flat-last f (r + 1) k tasks ∙ ap (λ n. flat_map f (numbers_from (r + 1) k) ++ (f n ++ tasks)) e)
    ∙ sym (append_assoc (f r) (flat_map f (numbers_from (r + 1) k)) (f (r + suc k) ++ tasks))

-- the same, counted down from above
pub flat-down : (f : ℕ → List Task) (r n : ℕ) (tasks : List Task) → r < n →
    flat_map f (numbers_from r (n - r)) ++ tasks ≡ flat_map f (numbers_from r (n - 1 - r)) ++ (f (n - 1) ++ tasks)
flat-down f r n tasks h =
    let long : suc (n - 1 - r) ≡ n - r = omega (arith, h) in
    let last : r + (n - 1 - r) ≡ n - 1 = omega (arith, h) in
    subst (λ k. flat_map f (numbers_from r k) ++ tasks ≡ flat_map f (numbers_from r (n - 1 - r)) ++ (f (n - 1) ++ tasks)) long
    (subst (λ m. flat_map f (numbers_from r (suc (n - 1 - r))) ++ tasks ≡ flat_map f (numbers_from r (n - 1 - r)) ++ (f m ++ tasks)) last (flat-last f r (n - 1 - r) tasks))

-- the last of so many clients
pub callers-last : (f : ℕ → List Task) (place : ℕ) (xs : List Caller) (tasks : List Task) → place < length xs →
    flat_map (λ caller. f caller.number) (take (suc place) xs) ++ tasks
    ≡ flat_map (λ caller. f caller.number) (take place xs) ++ (f (slice_index (numbers_of xs) place) ++ tasks)
callers-last f place [] tasks h = absurd (omega (arith, h))
callers-last f zero (x ∷ xs) tasks h = append_assoc (f x.number) [] tasks
callers-last f (suc place) (x ∷ xs) tasks h =
    append_assoc (f x.number) (flat_map (λ caller. f caller.number) (take (suc place) xs)) tasks
    ∙ ap (λ ts. f x.number ++ ts) (callers-last f place xs tasks (omega (arith, h)))
    ∙ sym (append_assoc (f x.number) (flat_map (λ caller. f caller.number) (take place xs)) (f (slice_index (numbers_of xs) place) ++ tasks))

-- the last of so many lines
pub lines-last : (f : TakeoverLine → List Task) (place : ℕ) (line : TakeoverLine) (xs : List TakeoverLine) (tasks : List Task) → slice_get xs place ≡ Some line →
    flat_map f (take (suc place) xs) ++ tasks ≡ flat_map f (take place xs) ++ (f line ++ tasks)
lines-last f place line [] tasks h = absurd (cc h)
lines-last f zero line (x ∷ xs) tasks h = let same : x ≡ line = cc h in rw (← same) (append_assoc (f x) [] tasks)
lines-last f (suc place) line (x ∷ xs) tasks h =
    append_assoc (f x) (flat_map f (take (suc place) xs)) tasks
    ∙ ap (λ ts. f x ++ ts) (lines-last f place line xs tasks h)
    ∙ sym (append_assoc (f x) (flat_map f (take place xs)) (f line ++ tasks))

-- one client fewer
pub callers-down : (f : ℕ → List Task) (n : ℕ) (xs : List Caller) (tasks : List Task) → 0 < n → n ≤ length xs →
    flat_map (λ caller. f caller.number) (take n xs) ++ tasks
    ≡ flat_map (λ caller. f caller.number) (take (n - 1) xs) ++ (f (slice_index (numbers_of xs) (n - 1)) ++ tasks)
callers-down f n xs tasks h k =
    let long : suc (n - 1) ≡ n = omega (arith, h) in
    subst
    (λ m. flat_map (λ caller. f caller.number) (take m xs) ++ tasks ≡ flat_map (λ caller. f caller.number) (take (n - 1) xs) ++ (f (slice_index (numbers_of xs) (n - 1)) ++ tasks)) long
    (callers-last f (n - 1) xs tasks (omega (arith, h, k)))

-- and one line fewer
pub lines-down : (f : TakeoverLine → List Task) (n : ℕ) (line : TakeoverLine) (xs : List TakeoverLine) (tasks : List Task) → 0 < n → slice_get xs (n - 1) ≡ Some line →
    flat_map f (take n xs) ++ tasks ≡ flat_map f (take (n - 1) xs) ++ (f line ++ tasks)
lines-down f n line xs tasks h k =
    let long : suc (n - 1) ≡ n = omega (arith, h) in
    subst (λ m. flat_map f (take m xs) ++ tasks ≡ flat_map f (take (n - 1) xs) ++ (f line ++ tasks)) long (lines-last f (n - 1) line xs tasks k)

-- the numbers from 0 on, counted down
pub flat-zero : (f : ℕ → List Task) (n : ℕ) (tasks : List Task) → 0 < n →
    flat_map f (numbers_from 0 n) ++ tasks ≡ flat_map f (numbers_from 0 (n - 1)) ++ (f (n - 1) ++ tasks)
flat-zero f n tasks h =
    let long : suc (n - 1) ≡ n = omega (arith, h) in
    let last : 0 + (n - 1) ≡ n - 1 = omega arith in
    subst (λ k. flat_map f (numbers_from 0 k) ++ tasks ≡ flat_map f (numbers_from 0 (n - 1)) ++ (f (n - 1) ++ tasks)) long
    (subst (λ m. flat_map f (numbers_from 0 (suc (n - 1))) ++ tasks ≡ flat_map f (numbers_from 0 (n - 1)) ++ (f m ++ tasks)) last (flat-last f 0 (n - 1) tasks))
