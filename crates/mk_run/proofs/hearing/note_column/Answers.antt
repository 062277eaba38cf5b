use Rattle.std.proofs.Common.{◌≡◌, ◌∙◌, List, ap, map, subst}
use Rattle.std.proofs.lemmas.List.{take_rest}
use Rattle.std.specs.Prelude.{OnOk}
use Rattle.mk_run.specs.declared.firsts.FirstLearning.{FirstLearning}
use Rattle.mk_column.specs.declared.learned.Learned.{Learned}
use Rattle.mk_column.specs.ColumnByCode.{learning_of_kept}
use Rattle.mk_run.specs.Firsts.{all_noted, kept_of_learning}
use Rattle.mk_run.proofs.NewsLaws.{news-kept}
use Rattle.mk_run.proofs.hearing.note_column.Goals as goal

pub returns-then-known-learned : goal.returns-then-known-learned
returns-then-known-learned c =
    subst (λ (xs : List FirstLearning). OnOk c.note_all.result (c.note_all.new.firsts ≡ all_noted xs c.args.firsts.now))
    (ap (map (λ (l : Learned). kept_of_learning (learning_of_kept l))) (take_rest c.learned-learned.result.now c.args.known)
    ∙ news-kept c.args.column.now c.args.known c.learned-learned.result.now c.learned-learned.ensures)
    c.note_all.ensures
