use Rattle.std.proofs.Common.{rules}
use Rattle.mk_lock.proofs.StepLaws.{draws}
use Rattle.mk_lock.proofs.lock.KeyLock.draw.Goals as goal

pub fetch_add-requires : goal.fetch_add-requires
fetch_add-requires c = (search rules, search rules, draws _ _ _ _ c.requires.token.1.0 c.requires.token.1.1)
