-- A word has 32 bits.
use Rattle.std.proofs.Common.{ℕ, ◌*◌, ◌/◌, ◌%◌, ◌-◌, ◌^◌, ◌<◌, bit_xor, arith, mod-lt, pow_pos}
use Rattle.std.specs.Int.{w32, rotate_right}
use Rattle.std.proofs.lemmas.Nat.{or_lt, shr_le}
use Rattle.rand_pcg.specs.Lcg.{Lcg}
use Rattle.mk_gen.specs.WordStream.{word}

rotated-below : (n k : ℕ) → n < 2 ^ 32 → rotate_right w32 n k < 2 ^ 32
rotated-below n k h =
    let low : n / 2 ^ (k % 32) < 2 ^ 32 = omega (arith, shr_le n (k % 32)) in
    let high : (n * 2 ^ ((32 - k % 32) % 32)) % 2 ^ 32 < 2 ^ 32 = mod-lt _ (pow_pos 32) in
    or_lt 32 (n / 2 ^ (k % 32)) ((n * 2 ^ ((32 - k % 32) % 32)) % 2 ^ 32) low high

pub word-below : (words : Lcg) → word words < 2 ^ 32
unfolding word
word-below words = rotated-below (bit_xor (words.state / 2 ^ 18) words.state / 2 ^ 27 % 2 ^ 32) (words.state / 2 ^ 59) (mod-lt _ (pow_pos 32))
