use Rattle.std.proofs.Common.{arith, refl}
use Rattle.std.proofs.lemmas.Bool.Decides.{nat_tests}
use Rattle.std.proofs.lemmas.Bool.{eqb-true}
use Rattle.mk_spelling.proofs.Cuts.{cut_at, cut_none}
use Rattle.mk_text.proofs.words.cut.Goals as goal

pub returns-in_err-place : goal.returns-in_err-place
returns-in_err-place c =
    rw (c.from_residual.ensures, cut_none c.args.mark c.args.bytes.now (λ k lt e. c.in_err-place.ensures k (omega arith) lt (grind (arith, nat_tests)))) refl

pub returns : goal.returns
returns c =
    let h = c.in_ok-place.ensures in
    let e = cut_at c.args.mark c.args.bytes.now c.in_ok-place.place (omega (arith, h.0.high)) (eqb-true _ _ h.1) (λ k lt e. h.0.before k (omega arith) lt (grind (arith, nat_tests))) in
    rw (c.around.ensures.front, c.around.ensures.rest, e) refl
