use Rattle.std.proofs.Common.{sym, subst, ap, arith, length, List, ◌∷◌, []}
use Rattle.mk_quorum.specs.Sizes.{members}
use Rattle.mk_lists.specs.Among.{Each, Each-append}
use Rattle.mk_epoch.specs.declared.replica.Replica.{Replica}
use Rattle.mk_epoch.specs.Changes.{ChangeView}
use Rattle.mk_model.specs.EpochState.{first_replica, first_epochs}
use Rattle.mk_epoch.specs.Standing.{ReplicaStands, StandsFor, IsKept}
use Rattle.mk_epoch.proofs.RowLaws.{length-append}
use Rattle.mk_epoch.proofs.StandingLaws.{all_first, first_stands}
use Rattle.mk_epoch.proofs.KeptLaws.{kept_first}
use Rattle.mk_epoch.proofs.replicas.Replicas.new.Goals as goal

pub loop-preserved : goal.loop-preserved
loop-preserved g c = (
  omega (arith, ap (λ rs. length rs) c.in_ok-push.ensures.items, length-append c.loop.replicas.items (c.first.result ∷ []), c.loop.invariant.0),
  subst (λ (rs : List (Replica g.row.B.Denot)). Each (λ r. ReplicaStands g.B.Keeping.stands r first_replica) rs) (sym c.in_ok-push.ensures.items)
      (Each-append (λ r. ReplicaStands g.B.Keeping.stands r first_replica) c.loop.replicas.items (c.first.result ∷ []) c.loop.invariant.1 (c.first.ensures, tt)),
)

pub returns-clause-stands : goal.returns-clause-stands
returns-clause-stands g c =
    subst (λ (changes : List (ChangeView g.row.B.Denot)). StandsFor g.B.Keeping.stands (record { faults = c.args.size; replicas = c.loop.replicas.items; changes = changes }) (first_epochs c.args.size)) (sym c.new.ensures.items)
    (first_stands g.B.Keeping.stands c.args.size c.loop.replicas.items
    (all_first g.B.Keeping.stands c.loop.replicas.items (members c.args.size)
    (omega (arith, c.loop.invariant.0, c.f.ensures.value, c.loop-test.false, c.loop.auto.counter-end)) c.loop.invariant.1))

pub invariant_of-result : goal.invariant_of-result
invariant_of-result g c =
    subst (λ (changes : List (ChangeView g.row.B.Denot)). IsKept (record { faults = c.args.size; replicas = c.loop.replicas.items; changes = changes })) (sym c.new.ensures.items)
    (kept_first c.args.size c.loop.replicas.items c.f.ensures.range.1 (omega (arith, c.loop.invariant.0, c.f.ensures.value, c.loop-test.false, c.loop.auto.counter-end)))
