use Rattle.std.proofs.Common.{sym, subst}
use Rattle.std.specs.Prelude.{IsSome}
use Rattle.mk_words.specs.Links.{message}
use Rattle.mk_words.specs.declared.Step.TheVariants.{Take}
use Rattle.mk_model.proofs.Frames.{enabled}
use Rattle.mk_column.proofs.BeginLaws.{some-of-copied}
use Rattle.mk_column.proofs.column.Column.take.Goals as goal

pub unwrap-requires : goal.unwrap-requires
unwrap-requires c =
    some-of-copied c.get.result (subst IsSome (sym c.get.ensures)
    (subst (λ column. IsSome (message column.state.link c.args.number)) (sym c.self.view_is) (enabled c.args.self.now.setting c.args.self.now.state (Take c.args.number) c.requires).1.0))
