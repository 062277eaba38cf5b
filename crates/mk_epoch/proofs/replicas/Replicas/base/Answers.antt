use Rattle.mk_epoch.proofs.StandingLaws.{all_at}
use Rattle.mk_epoch.proofs.replicas.Replicas.base.Goals as goal

pub returns : goal.returns
returns g c state h =
    let found = all_at g.B.Keeping.stands c.args.self.now.replicas state.replicas h.replicas c.args.replica c.replica.result.now c.replica.ensures in
    (found.0, found.1, found.2.base)
