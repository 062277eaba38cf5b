use Rattle.std.proofs.Common.{◌≡◌, true, subst}
use Rattle.std.specs.Prelude.{IsSomeAnd}
use Rattle.mk_quorum.specs.Sizes.{members}
use Rattle.mk_model.specs.ColumnState.{attempt_of}
use Rattle.mk_model.specs.Conditions.{may_read}
use Rattle.mk_column.specs.ColumnByCode.{WorkFits}
use Rattle.mk_column.proofs.AnswerLaws.{room-there}
use Rattle.mk_column.proofs.column.Column.answer_key.Goals as goal

pub answer_read-requires-clause-room : goal.answer_read-requires-clause-room
answer_read-requires-clause-room c =
    subst (λ column. IsSomeAnd (attempt_of column.state c.in-Fetching.id) (λ a. may_read c.in-Fetching.key a ≡ true)) c.self.view_is
    (room-there c.in-Fetching.key c.in-Fetching.id c.self.inside.parts.attempts (subst (WorkFits (members c.self.inside.size) c.self.inside.parts.attempts c.self.inside.parts.replicas.items) c.in-Fetching.is c.self.invariant.work))
