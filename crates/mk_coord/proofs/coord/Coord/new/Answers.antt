use Rattle.std.proofs.Common.{refl, arith}
use Rattle.mk_coord.proofs.CoordChanges.{fresh}
use Rattle.mk_coord.proofs.coord.Coord.new.Goals as goal

pub returns-clause-state : goal.returns-clause-state
returns-clause-state c = fresh c.args.size _ _ (omega (arith, c.f.ensures.range)) refl refl
