-- The words of a number: the generator stands before the words that are still to come.
use Rattle.std.specs.Prelude.{ℕ}
use Rattle.rand_pcg.specs.Lcg.{Lcg, started, increment_of}
use Rattle.rand_pcg.specs.Pcg.{pcg32, multiplier_64}

-- all words of the number, from the first
unfoldable pub words_of : ℕ → Lcg
words_of number = started 64 multiplier_64 number (increment_of 64 1)

-- the next word
unfoldable pub word : Lcg → ℕ
word words = (pcg32 words).0

-- the words behind it
unfoldable pub rest : Lcg → Lcg
rest words = (pcg32 words).1
