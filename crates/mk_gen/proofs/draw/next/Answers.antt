use Rattle.std.proofs.Common.{ℕ, ap}
use Rattle.rand_pcg.specs.Lcg.{Lcg}
use Rattle.mk_gen.specs.WordStream.{word, rest}
use Rattle.mk_gen.proofs.draw.next.Goals as goal

pub returns-clause-word : goal.returns-clause-word
unfolding word
returns-clause-word c = ap (λ (p : ℕ × Lcg). p.0) c.next_word.ensures

pub returns-clause-rest : goal.returns-clause-rest
unfolding rest
returns-clause-rest c = ap (λ (p : ℕ × Lcg). p.1) c.next_word.ensures
