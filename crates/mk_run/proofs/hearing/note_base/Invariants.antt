use Rattle.std.proofs.Common.{◌≡◌, drop, map}
use Rattle.mk_run.specs.Firsts.{all_noted, kept_by_enter}
use Rattle.mk_run.proofs.hearing.note_base.Given as goal

abbrev pub invariant-loop-fate : goal.invariant-loop-fate
invariant-loop-fate l = all_noted (map (kept_by_enter l.epoch) (drop l.fate-index l.fate-items)) l.firsts ≡ all_noted (map (kept_by_enter l.epoch) l.fate-items) l.initial.firsts
