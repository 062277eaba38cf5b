use Rattle.std.proofs.Common.{◌≡◌, ◌∙◌, List, sym, ap, subst, length}
use Rattle.mk_quorum.specs.Sizes.{members}
use Rattle.mk_trim.specs.declared.ReplicaView.{ReplicaView}
use Rattle.mk_state.specs.Standings.{WholeView, IsAt}
use Rattle.mk_state.proofs.BeginLaws.{views-fit, columns-idle, begun-on, begun-after}
use Rattle.mk_state.proofs.ViewLaws.{view-count}
use Rattle.mk_state.proofs.whole.Whole.begin_round.Goals as goal

pub begin_columns-requires-clause-views : goal.begin_columns-requires-clause-views
begin_columns-requires-clause-views g c =
    let run = c.requires.0 in
    let state = c.requires.1 in
    let at = subst (λ (v : WholeView g.row.K.Denot). IsAt g.K.Keeping.stands run v state) (sym c.self.view_is) c.requires.2 in
    let seen = c.in_ok-views.ensures state.epochs at.epochs (at.count ∙ ap members (sym at.sizes.faults)) in
    let count : length c.as_slice.result.now ≡ members run.faults =
    ap (λ (vs : List ReplicaView). length vs) (c.as_slice.ensures.value ∙ seen) ∙ view-count state.epochs ∙ at.count in
    views-fit run c.as_slice.result.now c.self.inside.columns.items count at.sizes.each

pub begin_columns-requires-clause-idle : goal.begin_columns-requires-clause-idle
begin_columns-requires-clause-idle g c =
    let run = c.requires.0 in
    let state = c.requires.1 in
    let at = subst (λ (v : WholeView g.row.K.Denot). IsAt g.K.Keeping.stands run v state) (sym c.self.view_is) c.requires.2 in
    columns-idle run c.self.inside.columns.items at.sizes.each

pub returns-clause-begun : goal.returns-clause-begun
returns-clause-begun g c =
    begun-on g.K.Keeping.stands c.begin_columns.result _ _ c.begin_columns.new.columns.items c.as_slice.result.now c.self.view_is c.begin_columns.ensures
    (λ run state at. c.as_slice.ensures.value ∙ c.in_ok-views.ensures state.epochs at.epochs (at.count ∙ ap members (sym at.sizes.faults)))

pub returns-clause-after : goal.returns-clause-after
returns-clause-after g c =
    begun-after g.K.Keeping.stands c.begin_columns.result _ _ c.begin_columns.new.columns.items c.as_slice.result.now c.self.view_is c.begin_columns.ensures
    (λ run state at. c.as_slice.ensures.value ∙ c.in_ok-views.ensures state.epochs at.epochs (at.count ∙ ap members (sym at.sizes.faults)))
