use Rattle.std.proofs.Common.{IsSome, sym, ap, subst, ◌∙◌}
use Rattle.std.specs.Option.{option_or}
use Rattle.std.specs.Prelude.{Some}
use Rattle.mk_model.specs.Steps.{taught}
use Rattle.mk_column.specs.AttemptsByCode.{BegunView, begun_of, change_begun, on_state}
use Rattle.mk_column.proofs.KeptLaws.{some-after}
use Rattle.mk_column.proofs.KeptSteps.{taught-gentle}
use Rattle.mk_column.proofs.learned.learn_own.Goals as goal

pub decide-requires : goal.decide-requires
decide-requires c =
    subst (λ all. IsSome (begun_of c.args.lesson.id all)) (sym c.learn.ensures)
    (some-after c.args.lesson.id (on_state (taught c.args.lesson.outcome)) (taught-gentle c.args.lesson.outcome).place c.args.lesson.id c.args.attempts.now c.requires)

pub returns-clause-attempts : goal.returns-clause-attempts
returns-clause-attempts c =
    c.decide.ensures
    ∙ ap (change_begun c.args.lesson.id (λ (b : BegunView). record b { decided = option_or b.decided (Some c.args.lesson.outcome) })) c.learn.ensures
