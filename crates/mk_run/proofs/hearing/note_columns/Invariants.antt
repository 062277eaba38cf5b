use Rattle.std.proofs.Common.{◌≡◌, drop}
use Rattle.mk_run.specs.Firsts.{all_noted}
use Rattle.mk_run.specs.News.{all_news}
use Rattle.mk_run.proofs.hearing.note_columns.Given as goal

abbrev pub invariant-loop-place : goal.invariant-loop-place
invariant-loop-place l = all_noted (all_news (drop l.place l.columns) (drop l.place l.known)) l.firsts ≡ all_noted (all_news l.columns l.known) l.initial.firsts
