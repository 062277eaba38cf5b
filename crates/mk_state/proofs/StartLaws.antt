-- The clients of a column, and numbers in order.
use Rattle.std.proofs.Common.{◌≡◌, ◌<◌, ◌≤◌, ℕ, suc, ◌+◌, ◌-◌, Bool, true, false, ◌==◌, sym, ap, ◌∙◌, arith, List, [], ◌∷◌, ◌++◌, length, map, drop, get_or, append_assoc, if◌then◌else◌}
use Rattle.mk_lists.specs.Among.{AllDistinct}
use Rattle.mk_lists.proofs.Places.{drop_read}
use Rattle.mk_model.specs.ColumnState.{numbers_from}
use Rattle.mk_history.specs.Histories.{clients_of}
use Rattle.mk_run_laws.proofs.ClientNumbers.{from_here}

pub clients-distinct : (c k : ℕ) (columns : List ℕ) → AllDistinct (clients_of c k columns)
clients-distinct c k [] = tt
clients-distinct c k (x ∷ columns) = by (x == c) (clients-distinct c (k + 1) columns)
  where
    by : (b : Bool) → AllDistinct (clients_of c (k + 1) columns) → AllDistinct (if b then k ∷ clients_of c (k + 1) columns else clients_of c (k + 1) columns)
    by true rest = ((λ a. let h : k + 1 ≤ k = from_here c (k + 1) columns k a in absurd (omega (arith, h))), rest)
    by false rest = rest

-- one place more
module _ (c i : ℕ) (columns clients : List ℕ) (x : ℕ) (within : i < length columns) (is : x ≡ get_or columns i x)
    (so_far : clients_of c 1 columns ≡ clients ++ clients_of c (i + 1) (drop i columns)) where
  here : clients_of c 1 columns ≡ clients ++ (if x == c then (i + 1) ∷ clients_of c (i + 1 + 1) (drop (i + 1) columns) else clients_of c (i + 1 + 1) (drop (i + 1) columns))
  here = so_far ∙ ap (λ (xs : List ℕ). clients ++ clients_of c (i + 1) xs) (drop_read columns i x within is)

-- one number more
pub number-more : {X : Type 0} (f : ℕ → X) (n i : ℕ) (made : List X) (new : X) → i < n → new ≡ f i →
    map f (numbers_from 0 n) ≡ made ++ map f (numbers_from i (n - i)) → map f (numbers_from 0 n) ≡ (made ++ new ∷ []) ++ map f (numbers_from (i + 1) (n - (i + 1)))
number-more f n i made new below is so_far =
    let e : n - i ≡ suc (n - (i + 1)) = omega arith in
    so_far
    ∙ ap (λ k. made ++ map f (numbers_from i k)) e
    ∙ ap (λ x. made ++ x ∷ map f (numbers_from (i + 1) (n - (i + 1)))) (sym is)
    ∙ sym (append_assoc made (new ∷ []) (map f (numbers_from (i + 1) (n - (i + 1)))))
