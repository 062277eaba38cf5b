use Rattle.mk_top.proofs.FastLaws.{fast_and_none_left}
use Rattle.mk_top.proofs.top.are_fast.Goals as goal

pub returns : goal.returns
returns c =
    λ quiet. fast_and_none_left c.args.run.now (c.quiet_scripts_commit_fast.ensures.fast c.args.script.now c.args.run.now c.keeps_limits.ensures quiet c.requires.driven c.has_shape.ensures c.requires.legal)
