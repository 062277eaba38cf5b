use Rattle.std.proofs.Common.{refl, sym, subst, ◌∙◌, ◌≡◌, None, length-set}
use Rattle.mk_model.specs.Conditions.{wanted}
use Rattle.mk_column.specs.ColumnByCode.{kept_of}
use Rattle.mk_column.proofs.KeptLaws.{IsKept-reset}
use Rattle.mk_column.proofs.ColumnLaws.{reset-view}
use Rattle.mk_column.proofs.GrownLaws.{reset-calm, state-grown}
use Rattle.mk_column.proofs.column.Column.reset.Goals as goal

pub invariant_of-self : goal.invariant_of-self
invariant_of-self c =
    IsKept-reset c.self.inside.size (kept_of c.self.inside.parts) c.self.inside.settled _ (length-set _ _ _ ∙ c.self.invariant.replicas)
    (subst (λ column. wanted column.state.work ≡ None) (sym c.self.view_is) c.requires.idle) c.self.invariant

pub returns-clause-after : goal.returns-clause-after
returns-clause-after c =
    reset-view _ c.args.self.now c.self.inside.parts.replicas.items c.args.replica c.reset.new.self c.reset.ensures refl refl c.self.view_is

pub returns-clause-grown : goal.returns-clause-grown
returns-clause-grown c =
    state-grown c.args.self.now _ _
    (reset-view _ c.args.self.now c.self.inside.parts.replicas.items c.args.replica c.reset.new.self c.reset.ensures refl refl c.self.view_is)
    (reset-calm c.args.replica c.args.self.now.state)
