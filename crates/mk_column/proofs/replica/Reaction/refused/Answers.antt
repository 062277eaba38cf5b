use Rattle.std.proofs.Common.{sym, ap, ◌∙◌}
use Rattle.mk_column.specs.HeldByCode.{refused_with}
use Rattle.mk_column.proofs.replica.Reaction.refused.Goals as goal

pub returns-in-Finished : goal.returns-in-Finished
returns-in-Finished c = λ held msg. c.answering.ensures held msg ∙ sym (ap (refused_with held msg c.args.told) c.in-Finished.is)

pub returns-in-OldView : goal.returns-in-OldView
returns-in-OldView c = λ held msg. c.nothing.ensures held msg ∙ sym (ap (refused_with held msg c.args.told) c.in-OldView.is)
