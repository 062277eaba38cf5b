use Rattle.std.proofs.Common.{◌≡◌, map, drop}
use Rattle.mk_column.specs.declared.learned.Learned.{Learned}
use Rattle.mk_column.specs.ColumnByCode.{learning_of_kept}
use Rattle.mk_run.specs.declared.firsts.FirstLearning.{FirstLearning}
use Rattle.mk_run.specs.Firsts.{all_noted, kept_of_learning}
use Rattle.mk_run.proofs.hearing.note_all.Given as goal

abbrev kept : Learned → FirstLearning
kept l = kept_of_learning (learning_of_kept l)

abbrev pub invariant-loop-one : goal.invariant-loop-one
invariant-loop-one l = all_noted (map kept (drop l.one-index l.learned)) l.firsts ≡ all_noted (map kept l.learned) l.initial.firsts
