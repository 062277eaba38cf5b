use Rattle.std.proofs.Common.{ap, sym, ◌∙◌, Some}
use Rattle.std.specs.Prelude.{option_map}
use Rattle.mk_model.specs.EpochState.{ReplicaState}
use Rattle.mk_epoch.proofs.StandingLaws.{all_at}
use Rattle.mk_epoch.proofs.replicas.Replicas.phase.Goals as goal

pub returns : goal.returns
returns g c state h =
    let found = all_at g.B.Keeping.stands c.args.self.now.replicas state.replicas h.replicas c.args.replica c.replica.result.now c.replica.ensures in
    ap (option_map (λ (r : ReplicaState). r.phase)) found.1 ∙ ap Some (sym found.2.phase)
