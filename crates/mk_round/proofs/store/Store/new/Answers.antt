use Rattle.std.proofs.Common.{[], ap, subst}
use Rattle.mk_history.specs.Histories.{History}
use Rattle.mk_history.specs.Wholes.{first_state}
use Rattle.mk_kept.specs.Heads.{history}
use Rattle.mk_snap.specs.Snapshots.{SnapStands}
use Rattle.mk_state.specs.Standings.{IsAt}
use Rattle.mk_round.proofs.FollowLaws.{between_first}
use Rattle.mk_round.proofs.HandLaws.{few_clients}
use Rattle.mk_round.proofs.store.Store.new.Goals as goal

pub new-requires : goal.new-requires
new-requires c = few_clients c.args.script.now (history c.args.head.now []) c.keeps_limits.ensures c.requires

pub returns : goal.returns
returns c =
    between_first c.stands_at_first.ensures c.has_come_goes_on.ensures.at_first c.args.script.now c.args.head.now.columns c.in_ok-new.field-0 c.in_ok-first_drivers.field-0.items
    (ap (λ (h : History). h.columns) c.requires)
    (subst (λ (h : History). IsAt SnapStands h c.in_ok-new.field-0 (first_state h)) c.requires (c.in_ok-new.ensures []))
    c.in_ok-first_drivers.ensures
