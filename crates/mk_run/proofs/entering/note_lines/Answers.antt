use Rattle.std.proofs.Common.{◌∙◌}
use Rattle.mk_run.specs.News.{told_in}
use Rattle.mk_run.proofs.EnterLaws.{noted-next, entered-next}
use Rattle.mk_run.proofs.entering.note_lines.Goals as goal

pub loop-entry-preserved : goal.loop-entry-preserved
loop-entry-preserved c =
    let lines = c.args.lines.now in
    let i = c.loop-entry.entry-index in
    let now = c.in_ok-note_line.ensures in
    record {
      noted = λ state stands.
          noted-next (told_in state) lines i _ c.loop-entry.firsts c.note_line.new.firsts c.loop-entry.entered.items c.note_line.new.entered.items c.loop-entry-test.true now.entered (now.noted state stands)
          ∙ c.loop-entry.invariant.noted state stands;
      entered = λ epoch.
          entered-next lines i _ c.loop-entry.entered.items c.note_line.new.entered.items c.loop-entry-test.true now.entered epoch
          ∙ c.loop-entry.invariant.entered epoch;
    }
