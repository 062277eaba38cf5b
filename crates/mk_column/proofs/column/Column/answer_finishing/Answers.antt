use Rattle.mk_column.specs.ColumnByCode.{kept_of}
use Rattle.mk_column.proofs.AnswerLaws.{IsKept-worked}
use Rattle.mk_column.proofs.KeptLaws.{finishing-fits}
use Rattle.mk_column.proofs.column.Column.answer_finishing.Goals as goal

pub invariant_of-self : goal.invariant_of-self
invariant_of-self c =
    IsKept-worked c.self.inside.size (kept_of c.self.inside.parts) c.self.inside.settled _ c.self.invariant (finishing-fits _ _ _ _ _ _ c.finishing.ensures)
