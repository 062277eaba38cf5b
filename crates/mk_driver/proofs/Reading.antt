-- The replicas in cyclic order, one after the other.
use Rattle.std.proofs.Common.{◌≡◌, ℕ, suc, ◌+◌, ◌-◌, ◌<◌, Bool, false, refl, subst, map, find, arith}
use Rattle.mk_model.specs.ColumnState.{numbers_from}

-- one that does not serve is passed over
pub find-over : (test : ℕ → Bool) (g : ℕ → ℕ) (places n : ℕ) → places < n → test (g places) ≡ false →
    find test (map g (numbers_from places (n - places))) ≡ find test (map g (numbers_from (places + 1) (n - (places + 1))))
find-over test g places n l e =
    let long : suc (n - (places + 1)) ≡ n - places = omega (arith, l) in
    subst (λ k. find test (map g (numbers_from places k)) ≡ find test (map g (numbers_from (places + 1) (n - (places + 1))))) long (rw e refl)
