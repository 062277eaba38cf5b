-- How a round begins: the messages that are held, and the lines that come to the clients.
use Rattle.std.proofs.Common.{◌≡◌, ◌<◌, ◌≤◌, ℕ, zero, suc, ◌-◌, ◌∙◌, Bool, true, false, List, [], ◌∷◌, ◌++◌, Some, None, refl, sym, subst, ap, length, take, drop, map, find, slice_get, slice_set, slice_index, slice_index_or, arith}
use Rattle.std.proofs.Math.Seq.{take-append_seam}
use Rattle.std.specs.Prelude.{is_some}
use Rattle.std.specs.List.{list_any}
use Rattle.mk_lists.proofs.Lookups.{list_any-find}
use Rattle.mk_driver.specs.declared.Task.{Task}
use Rattle.mk_driver.specs.declared.Task.TheVariants.{Take}
use Rattle.mk_driver.specs.declared.Caller.{Caller}
use Rattle.mk_driver.specs.declared.Request.{Request}
use Rattle.mk_driver.specs.declared.Submission.{Submission}
use Rattle.mk_driver.specs.Keeping.{numbers_of, with_lines}
use Rattle.mk_driver.specs.Driven.{asked_more}

takes-last : (n : ℕ) (xs : List ℕ) (tasks : List Task) → n < length xs →
    map (λ number. Take number) (take (suc n) xs) ++ tasks ≡ map (λ number. Take number) (take n xs) ++ Take (slice_index xs n) ∷ tasks
takes-last n [] tasks h = absurd (omega (arith, h))
takes-last zero (x ∷ xs) tasks h = refl
takes-last (suc n) (x ∷ xs) tasks h = ap (λ ts. Take x ∷ ts) (takes-last n xs tasks (omega (arith, h)))

-- one message fewer
pub takes-down : (n : ℕ) (xs : List ℕ) (tasks : List Task) → 0 < n → n ≤ length xs →
    map (λ number. Take number) (take n xs) ++ tasks ≡ map (λ number. Take number) (take (n - 1) xs) ++ Take (slice_index xs (n - 1)) ∷ tasks
takes-down n xs tasks h k =
    let long : suc (n - 1) ≡ n = omega (arith, h) in
    subst
    (λ m. map (λ number. Take number) (take m xs) ++ tasks ≡ map (λ number. Take number) (take (n - 1) xs) ++ Take (slice_index xs (n - 1)) ∷ tasks) long
    (takes-last (n - 1) xs tasks (omega (arith, h, k)))

-- one that was found is there
pub any-at : {X : Type 0} (p : X → Bool) (place : ℕ) (xs : List X) → place < length xs → ((d : X) → find p xs ≡ Some (slice_index_or xs place d)) → list_any p xs ≡ true
any-at p place [] h f = absurd (omega (arith, h))
any-at p place (x ∷ xs) h f = list_any-find p (x ∷ xs) ∙ ap is_some (f x)

pub any-none : {X : Type 0} (p : X → Bool) (xs : List X) → find p xs ≡ None → list_any p xs ≡ false
any-none p xs e = list_any-find p xs ∙ ap is_some e

-- ---- the clients' lines

-- past the last client nothing is left to do
pub put-end : (i : ℕ) (callers : List Caller) (lists : List (List Request)) → length callers ≤ i → take i callers ++ with_lines lists (drop i callers) ≡ callers
put-end zero [] [] h = refl
put-end zero [] (lines ∷ lists) h = refl
put-end (suc i) [] [] h = refl
put-end (suc i) [] (lines ∷ lists) h = refl
put-end zero (x ∷ xs) lists h = absurd (omega (arith, h))
put-end (suc i) (x ∷ xs) lists h = ap (λ ys. x ∷ ys) (put-end i xs lists (omega (arith, h)))

-- after the last client all have their lines
pub put-all : (xs items : List Caller) (n i : ℕ) (lists left : List (List Request)) → n ≡ length xs → length items ≡ length xs → length xs ≤ i →
    with_lines lists xs ≡ take i items ++ with_lines left (drop i items) → take n (items ++ drop (length items) xs) ≡ with_lines lists xs
put-all xs items n i lists left all same h is =
    ap (λ k. take k (items ++ drop (length items) xs)) (all ∙ sym same)
    ∙ take-append_seam items (drop (length items) xs)
    ∙ sym (is ∙ put-end i items left (subst (λ k. k ≤ i) (sym same) h))

-- lines with those of the round are what the clients are asked for
asked_all : (submissions : List Submission) (xs : List Caller) → with_lines (map (λ caller. (asked_more submissions caller).lines) xs) xs ≡ map (asked_more submissions) xs
asked_all submissions [] = refl
asked_all submissions (x ∷ xs) = ap (λ ys. asked_more submissions x ∷ ys) (asked_all submissions xs)

pub submitted : (submissions : List Submission) (raw now : List Caller) (lists : List (List Request)) → raw ≡ now →
    lists ≡ map (λ caller. (asked_more submissions caller).lines) now → with_lines lists raw ≡ map (asked_more submissions) now
submitted submissions raw now lists v e =
    ap (λ ls. with_lines ls raw) e
    ∙ ap (λ xs. with_lines (map (λ caller. (asked_more submissions caller).lines) now) xs) v
    ∙ asked_all submissions now
