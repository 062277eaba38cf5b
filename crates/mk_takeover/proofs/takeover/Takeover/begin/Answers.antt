use Rattle.std.proofs.Common.{refl, arith}
use Rattle.mk_takeover.proofs.PickChanges.{fresh}
use Rattle.mk_takeover.proofs.takeover.Takeover.begin.Goals as goal

pub returns-clause-state : goal.returns-clause-state
returns-clause-state c = fresh c.args.size c.args.view _ _ (omega (arith, c.f.ensures.range)) refl refl
