use Rattle.std.proofs.Common.{◌≡◌, true, sym, subst, ◌∙◌}
use Rattle.mk_quorum.specs.Sizes.{members}
use Rattle.mk_model.specs.Conditions.{is_idle}
use Rattle.mk_column.proofs.KeptLaws.{wanted-none}
use Rattle.mk_column.proofs.column.Column.wants.Goals as goal

pub returns-clause-idle : goal.returns-clause-idle
returns-clause-idle c = λ none.
    subst (λ column. is_idle column.state.work ≡ true) c.self.view_is
    (wanted-none (members c.self.inside.size) c.self.inside.parts.attempts c.self.inside.parts.replicas.items c.self.inside.parts.work c.self.invariant.work (sym c.wants.ensures ∙ none))
