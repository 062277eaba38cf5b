use Rattle.std.proofs.Common.{◌≡◌, refl, sym, ap, subst, ◌∙◌}
use Rattle.std.specs.Prelude.{IsSomeAnd}
use Rattle.mk_words.specs.Rulings.{ruling}
use Rattle.mk_words.specs.declared.Ruling.TheVariants.{Propose}
use Rattle.mk_column.specs.contracts.column.Column.{the_view}
use Rattle.mk_model.specs.ColumnState.{attempt_of, change_attempt}
use Rattle.mk_model.specs.Steps.{proposing}
use Rattle.mk_column.specs.AttemptsByCode.{states_of}
use Rattle.mk_column.specs.ColumnByCode.{ColumnView}
use Rattle.mk_column.proofs.KeptLaws.{IsKept-gentle}
use Rattle.mk_column.proofs.KeptSteps.{proposing-gentle}
use Rattle.mk_column.proofs.StepLaws.{ruling-there, states-changed}
use Rattle.mk_column.proofs.column.Column.propose.Goals as goal

pub propose-requires : goal.propose-requires
propose-requires c =
    ruling-there c.self.inside.size _ _ c.args.id c.self.inside.parts.attempts (Propose c.args.outcome) c.self.invariant.attempts
    (subst (λ (column : ColumnView). IsSomeAnd (attempt_of column.state c.args.id) (λ a. ruling column.setting.faults a.coord ≡ Propose c.args.outcome)) (sym c.self.view_is) c.requires)

pub invariant_of-self : goal.invariant_of-self
invariant_of-self c = IsKept-gentle _ c.args.id _ _ _ _ (proposing-gentle c.args.outcome) (λ b. refl) (λ b. refl) c.propose.ensures c.self.invariant

pub returns : goal.returns
returns c =
    let old = the_view c.self.inside in
    ap (λ all. record old { state = record old.state { attempts = all } })
    (ap states_of c.propose.ensures ∙ states-changed c.args.id (proposing c.args.outcome) c.self.inside.parts.attempts)
    ∙ ap (λ (column : ColumnView). record column { state = change_attempt c.args.id (proposing c.args.outcome) column.state }) c.self.view_is
