-- The entries of the columns, and a column among them.
use Rattle.std.proofs.Common.{◌≡◌, ℕ, zero, suc, ◌<◌, refl, sym, ap, subst, ◌∙◌, arith, List, [], ◌∷◌, length, get_or, Some}
use Rattle.std.specs.Prelude.{slice_get, slice_set, slice_index_or, vec_len, vec_capacity}
use Rattle.std.specs.Global.{Vec}
use Rattle.std.proofs.lemmas.Option.{same_Some}
use Rattle.mk_lists.proofs.Places.{slice_get-set_same}
use Rattle.mk_txn.specs.declared.Stamp.{Stamp}
use Rattle.mk_follow.specs.Commits.{entries_in, HasRoom}

pub entries-at : (columns : List (Vec (Stamp × ℕ))) (i : ℕ) (column : Vec (Stamp × ℕ)) → i < length columns → column ≡ get_or columns i column
    → slice_get (entries_in columns) i ≡ Some column.items
entries-at [] i column lt is = absurd (omega (arith, lt))
entries-at (x ∷ xs) zero column lt is = ap (λ (v : Vec (Stamp × ℕ)). Some v.items) (sym is)
entries-at (x ∷ xs) (suc i) column lt is = entries-at xs i column (omega (arith, lt)) is

pub entries-read : (columns : List (Vec (Stamp × ℕ))) (i : ℕ) (column : Vec (Stamp × ℕ)) → i < length columns → column ≡ get_or columns i column
    → slice_index_or (entries_in columns) i [] ≡ column.items
entries-read [] i column lt is = absurd (omega (arith, lt))
entries-read (x ∷ xs) zero column lt is = ap (λ (v : Vec (Stamp × ℕ)). v.items) (sym is)
entries-read (x ∷ xs) (suc i) column lt is = entries-read xs i column (omega (arith, lt)) is

-- another column in place of one
pub entries-set : (columns : List (Vec (Stamp × ℕ))) (i : ℕ) (column : Vec (Stamp × ℕ)) → entries_in (slice_set columns i column) ≡ slice_set (entries_in columns) i column.items
entries-set [] i column = refl
entries-set (x ∷ xs) zero column = refl
entries-set (x ∷ xs) (suc i) column = ap (λ (l : List (List (Stamp × ℕ))). x.items ∷ l) (entries-set xs i column)

-- one with the same entries
pub entries-same : (columns : List (Vec (Stamp × ℕ))) (i : ℕ) (column new : Vec (Stamp × ℕ)) → i < length columns → column ≡ get_or columns i column → new.items ≡ column.items
    → entries_in (slice_set columns i new) ≡ entries_in columns
entries-same [] i column new lt is same = absurd (omega (arith, lt))
entries-same (x ∷ xs) zero column new lt is same = ap (λ (l : List (Stamp × ℕ)). l ∷ entries_in xs) (same ∙ ap (λ (v : Vec (Stamp × ℕ)). v.items) is)
entries-same (x ∷ xs) (suc i) column new lt is same = ap (λ (l : List (List (Stamp × ℕ))). x.items ∷ l) (entries-same xs i column new (omega (arith, lt)) is same)

pub room-made : (columns : List (Vec (Stamp × ℕ))) (i : ℕ) (new : Vec (Stamp × ℕ)) → i < length columns → vec_len new < vec_capacity new → HasRoom i (slice_set columns i new)
room-made columns i new lt room column at =
    subst (λ (v : Vec (Stamp × ℕ)). vec_len v < vec_capacity v) (same_Some new column (sym (slice_get-set_same columns i new lt) ∙ at)) room

pub entries-within : (columns : List (Vec (Stamp × ℕ))) (i : ℕ) → i < length columns → slice_get (entries_in columns) i ≡ Some (slice_index_or (entries_in columns) i [])
entries-within [] i lt = absurd (omega (arith, lt))
entries-within (x ∷ xs) zero lt = refl
entries-within (x ∷ xs) (suc i) lt = entries-within xs i (omega (arith, lt))
