use Rattle.std.proofs.Common.{arith, refl, sym}
use Rattle.mk_spelling.proofs.Cuts.{cut_at, cut_none}
use Rattle.mk_text.proofs.words.cut_word.Goals as goal

pub returns-then-word-place : goal.returns-then-word-place
returns-then-word-place c =
    let e = cut_at c.args.mark c.args.word.now c.find.place (omega (arith, c.find-test.true)) c.if-word-place.true c.find.invariant.before in
    rw (c.around.ensures.front, c.around.ensures.rest, e) refl

pub returns : goal.returns
returns c = sym (cut_none c.args.mark c.args.word.now (λ k lt. c.find.invariant.before k (omega (arith, c.find-test.false))))
