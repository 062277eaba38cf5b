use Rattle.std.proofs.Common.{subst, sym, List}
use Rattle.mk_epoch.specs.declared.replica.Replica.{Replica}
use Rattle.mk_epoch.specs.Standing.{IsKept}
use Rattle.mk_epoch.proofs.KeptLaws.{kept_served}
use Rattle.mk_epoch.proofs.replicas.Replicas.serve.Goals as goal

pub invariant_of-self : goal.invariant_of-self
invariant_of-self g c =
    subst (λ (rs : List (Replica g.row.B.Denot)). IsKept (record { faults = c.self.inside.size; replicas = rs; changes = c.self.inside.changes.items })) (sym c.serve_all.ensures)
    (kept_served _ c.self.invariant c.args.epoch)
