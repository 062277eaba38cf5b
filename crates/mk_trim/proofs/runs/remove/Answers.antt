use Rattle.mk_trim.proofs.OneMoreSettled.{holds-removed}
use Rattle.mk_trim.proofs.runs.remove.Goals as goal

pub returns : goal.returns
returns c = λ other. holds-removed _ _ (record { client = c.args.client; seq = c.args.seq }) other (c.remove.ensures.updates.0 other)
