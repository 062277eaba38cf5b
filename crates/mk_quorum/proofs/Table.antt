-- The sizes for one, two and three faults, by computation.
use Rattle.std.proofs.Common.{◌≡◌, ℕ, refl}
use Rattle.mk_quorum.specs.Sizes.{members, majority_of, fast_of, hint_of, block_of}

-- n, majority, fast, hint, block
sizes : ℕ → ℕ × ℕ × ℕ × ℕ × ℕ
sizes f = (members f, majority_of f, fast_of f, hint_of f, block_of f)

one_fault : sizes 1 ≡ (3, 2, 3, 2, 1)
unfolding sizes
one_fault = refl

two_faults : sizes 2 ≡ (5, 3, 4, 2, 2)
unfolding sizes
two_faults = refl

three_faults : sizes 3 ≡ (7, 4, 6, 3, 2)
unfolding sizes
three_faults = refl
