use Rattle.std.proofs.Common.{◌≡◌, drop}
use Rattle.mk_model.specs.EpochState.{EpochState}
use Rattle.mk_epoch.specs.Standing.{StandsFor}
use Rattle.mk_history.specs.Learning.{entered_through}
use Rattle.mk_whole.specs.Standings.{IsItself}
use Rattle.mk_run.specs.Firsts.{all_noted}
use Rattle.mk_run.specs.News.{told_in, news_by_lines, SameEpochs}
use Rattle.mk_run.proofs.entering.note_lines.Given as goal

abbrev pub invariant-loop-entry : goal.invariant-loop-entry
invariant-loop-entry l = record {
  noted : (state : EpochState) → StandsFor IsItself l.replicas state →
      all_noted (news_by_lines (told_in state) l.entered.items (drop l.entry-index l.lines)) l.firsts ≡ all_noted (news_by_lines (told_in state) l.initial.entered.items l.lines) l.initial.firsts;
  entered : SameEpochs (entered_through l.entered.items (drop l.entry-index l.lines)) (entered_through l.initial.entered.items l.lines);
}
