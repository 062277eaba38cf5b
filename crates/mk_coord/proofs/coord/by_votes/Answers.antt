use Rattle.std.proofs.Common.{◌∙◌, sym, ap, arith}
use Rattle.mk_words.specs.declared.Ruling.TheVariants.{Fast, Short, Propose}
use Rattle.mk_coord.proofs.RulingCases.{fast_commit, fast_abort, short, propose_commit, propose_abort}
use Rattle.mk_coord.proofs.coord.by_votes.Goals as goal

pub returns-then-fast-oks : goal.returns-then-fast-oks
returns-then-fast-oks c =
    sym (fast_commit c.args.size c.args.votes.now c.requires (omega (arith, c.if-fast-oks.true, c.fast.ensures, c.count_oks-oks.ensures)))

pub returns-then-fast-count_aborts : goal.returns-then-fast-count_aborts
returns-then-fast-count_aborts c =
    ap Fast c.first_refusal.ensures ∙ sym (fast_abort c.args.size c.args.votes.now c.requires
    (omega (arith, c.if-fast-oks.false, c.fast.ensures, c.count_oks-oks.ensures))
    (omega (arith, c.if-fast-count_aborts.true, c.fast-else-fast-oks.ensures, c.count_aborts.ensures)))

pub returns-then-all-majority : goal.returns-then-all-majority
returns-then-all-majority c =
    ap Short c.count_votes-all.ensures ∙ sym (short c.args.size c.args.votes.now c.requires
    (omega (arith, c.if-fast-oks.false, c.fast.ensures, c.count_oks-oks.ensures))
    (omega (arith, c.if-fast-count_aborts.false, c.fast-else-fast-oks.ensures, c.count_aborts.ensures))
    (omega (arith, c.if-all-majority.true, c.majority.ensures, c.count_votes-all.ensures)))

pub returns-then-majority-oks : goal.returns-then-majority-oks
returns-then-majority-oks c =
    sym (propose_commit c.args.size c.args.votes.now c.requires
    (omega (arith, c.if-fast-oks.false, c.fast.ensures, c.count_oks-oks.ensures))
    (omega (arith, c.if-fast-count_aborts.false, c.fast-else-fast-oks.ensures, c.count_aborts.ensures))
    (omega (arith, c.if-all-majority.false, c.majority.ensures, c.count_votes-all.ensures))
    (omega (arith, c.if-majority-oks.true, c.majority-else-all-majority.ensures, c.count_oks-oks.ensures)))

pub returns-else-majority-oks : goal.returns-else-majority-oks
returns-else-majority-oks c =
    ap Propose c.first_refusal-else-majority-oks.ensures ∙ sym (propose_abort c.args.size c.args.votes.now c.requires
    (omega (arith, c.if-fast-oks.false, c.fast.ensures, c.count_oks-oks.ensures))
    (omega (arith, c.if-fast-count_aborts.false, c.fast-else-fast-oks.ensures, c.count_aborts.ensures))
    (omega (arith, c.if-all-majority.false, c.majority.ensures, c.count_votes-all.ensures))
    (omega (arith, c.if-majority-oks.false, c.majority-else-all-majority.ensures, c.count_oks-oks.ensures)))
