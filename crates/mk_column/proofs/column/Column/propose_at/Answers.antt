use Rattle.std.proofs.Common.{◌≡◌, refl, sym, ap, subst, ◌∙◌}
use Rattle.std.specs.Prelude.{IsSomeAnd}
use Rattle.mk_words.specs.Picks.{pick}
use Rattle.mk_words.specs.declared.Pick.TheVariants.{Propose}
use Rattle.mk_column.specs.contracts.column.Column.{the_view}
use Rattle.mk_model.specs.ColumnState.{TakeoverOf, takeover_of, change_takeover}
use Rattle.mk_model.specs.Steps.{takeover_proposing}
use Rattle.mk_column.specs.TakeoversByCode.{takeovers_of}
use Rattle.mk_column.specs.ColumnByCode.{ColumnView}
use Rattle.mk_column.proofs.KeptSteps.{IsKept-takeover_changed}
use Rattle.mk_column.proofs.TakeoverLaws.{pick-there, takeovers-changed}
use Rattle.mk_column.proofs.column.Column.propose_at.Goals as goal

pub propose-requires : goal.propose-requires
propose-requires c =
    pick-there c.self.inside.size c.args.view_id c.self.inside.parts.takeovers (Propose c.args.outcome) c.self.invariant.takeovers
    (subst (λ (column : ColumnView). IsSomeAnd (takeover_of column.state c.args.view_id.id c.args.view_id.view) (λ (t : TakeoverOf). pick column.setting.faults t.state ≡ Propose c.args.outcome)) (sym c.self.view_is) c.requires)

pub invariant_of-self : goal.invariant_of-self
invariant_of-self c = IsKept-takeover_changed _ c.args.view_id (takeover_proposing c.args.outcome) _ _ _ (λ t. refl) c.propose.ensures c.self.invariant

pub returns : goal.returns
returns c =
    let old = the_view c.self.inside in
    ap (λ all. record old { state = record old.state { takeovers = all } })
    (ap takeovers_of c.propose.ensures ∙ takeovers-changed c.args.view_id (takeover_proposing c.args.outcome) c.self.inside.parts.takeovers)
    ∙ ap (λ (column : ColumnView). record column { state = change_takeover c.args.view_id.id c.args.view_id.view (takeover_proposing c.args.outcome) column.state }) c.self.view_is
