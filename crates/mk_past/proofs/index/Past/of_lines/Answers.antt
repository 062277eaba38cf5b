use Rattle.std.proofs.Common.{subst, sym, List}
use Rattle.mk_model.specs.OneCopy.{HaveDistinctStamps}
use Rattle.mk_run.specs.declared.line.AttemptLine.{AttemptLine}
use Rattle.mk_report.specs.Commits.{commits_in}
use Rattle.mk_past.proofs.TableLaws.{past-of_run}
use Rattle.mk_past.proofs.index.Past.of_lines.Goals as goal

pub indexed-requires : goal.indexed-requires
indexed-requires c =
    subst (λ (ls : List AttemptLine). HaveDistinctStamps (commits_in ls)) (sym c.requires.lines)
    (c.commits_are_distinct.ensures c.args.run.now c.has_shape.ensures c.requires.legal)

pub returns : goal.returns
returns c =
    past-of_run c.args.run.now c.args.lines.now c.in_ok-indexed.field-0 c.requires.lines
    (c.commits_are_listed.ensures c.args.run.now c.has_shape.ensures c.requires.legal) (c.commits_are_explained.ensures.distinct c.args.run.now c.requires.legal).0 c.in_ok-indexed.ensures
