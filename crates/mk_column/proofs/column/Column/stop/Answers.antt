use Rattle.std.proofs.Common.{true, refl, sym, ap, ◌∙◌}
use Rattle.mk_column.specs.contracts.column.Column.{the_view}
use Rattle.mk_words.specs.declared.Step.TheVariants.{Stop}
use Rattle.mk_column.specs.AttemptsByCode.{states_of}
use Rattle.mk_column.proofs.KeptLaws.{IsKept-gentle}
use Rattle.mk_column.proofs.StepLaws.{begun-there, stop-there, stop-gentle, states-changed, step-view, stop-state}
use Rattle.mk_column.proofs.column.Column.stop.Goals as goal

pub stop-requires : goal.stop-requires
stop-requires c =
    begun-there c.args.id c.self.inside.parts.attempts c.args.self.now.state (ap (λ column. column.state.attempts) (sym c.self.view_is))
    (stop-there c.args.self.now.setting c.args.self.now.state c.args.id c.requires)

pub invariant_of-self : goal.invariant_of-self
invariant_of-self c = IsKept-gentle _ c.args.id _ _ _ _ stop-gentle (λ b. refl) (λ b. refl) c.stop.ensures c.self.invariant

pub returns : goal.returns
returns c =
    step-view (the_view c.self.inside) c.args.self.now (Stop c.args.id) _
    (stop-state (the_view c.self.inside).setting (the_view c.self.inside).state c.args.id _ (ap states_of c.stop.ensures ∙ states-changed c.args.id (λ a. record a { stopped = true }) c.self.inside.parts.attempts)) c.self.view_is
