use Rattle.std.proofs.Common.{◌≡◌, None, Some, refl, sym, ap, subst, ◌∙◌}
use Rattle.std.specs.Prelude.{IsSome, option_copied}
use Rattle.mk_column.specs.contracts.column.Column.{the_view}
use Rattle.mk_column.specs.declared.Attempt.{Attempt}
use Rattle.mk_words.specs.declared.Step.TheVariants.{Read}
use Rattle.mk_model.specs.Conditions.{blocked}
use Rattle.mk_column.specs.AttemptsByCode.{begun_of}
use Rattle.mk_column.specs.ColumnByCode.{kept_of}
use Rattle.mk_model.proofs.Frames.{enabled}
use Rattle.mk_column.proofs.StepLaws.{step-view}
use Rattle.mk_column.proofs.BeginLaws.{some-of-copied}
use Rattle.mk_column.proofs.StampedLaws.{stamp-begun}
use Rattle.mk_column.proofs.AnswerLaws.{IsKept-worked, read-state, room-kept, room-passes}
use Rattle.mk_column.proofs.column.Column.read.Goals as goal

pub unwrap-requires : goal.unwrap-requires
unwrap-requires c =
    let kept = kept_of c.self.inside.parts in
    let passed =
    enabled (the_view c.self.inside).setting (the_view c.self.inside).state (Read c.args.id c.args.key)
    (subst (λ column. blocked column.setting column.state (Read c.args.id c.args.key) ≡ None) (sym c.self.view_is) c.requires) in
    some-of-copied c.find.result (subst IsSome (sym c.find.ensures) (stamp-begun kept c.args.id passed.1.0))

pub invariant_of-self : goal.invariant_of-self
invariant_of-self c =
    let kept = kept_of c.self.inside.parts in
    let passed =
    enabled (the_view c.self.inside).setting (the_view c.self.inside).state (Read c.args.id c.args.key)
    (subst (λ column. blocked column.setting column.state (Read c.args.id c.args.key) ≡ None) (sym c.self.view_is) c.requires) in
    IsKept-worked c.self.inside.size kept c.self.inside.settled _ c.self.invariant
    (room-kept c.args.key c.args.id c.self.inside.parts.attempts (the_view c.self.inside).state refl (room-passes c.args.key _ passed.1.1.1.0))

pub returns : goal.returns
returns c =
    let kept = kept_of c.self.inside.parts in
    let found : begun_of c.args.id c.self.inside.parts.attempts ≡ Some c.unwrap.result.now = sym c.find.ensures ∙ ap option_copied c.unwrap.ensures in
    step-view (the_view c.self.inside) c.args.self.now (Read c.args.id c.args.key) _
    (read-state (the_view c.self.inside).setting kept c.args.id c.args.key c.unwrap.result.now _ found (ap (λ (a : Attempt). a.replica) c.shown.ensures)) c.self.view_is
