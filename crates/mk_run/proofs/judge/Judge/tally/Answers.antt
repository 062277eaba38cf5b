use Rattle.std.proofs.Common.{◌∙◌, ap}
use Rattle.mk_kept.specs.Heads.{history}
use Rattle.mk_run.specs.Attempts.{tally_of}
use Rattle.mk_run.specs.Judging.{JudgeView}
use Rattle.mk_run.specs.Lines.{lines_of_views}
use Rattle.mk_run.proofs.StandLaws.{judged-whole}
use Rattle.mk_run.proofs.WatchLaws.{outcomes-left}
use Rattle.mk_run.proofs.judge.Judge.tally.Goals as goal

pub returns : goal.returns
returns c =
    λ rounds stands shape.
    let judge = c.args.self.now in
    let judged = judged-whole judge rounds stands shape in
    c.tally.ensures
    ∙ ap (λ (j : JudgeView). tally_of (lines_of_views j.watch.firsts j.watch.whole.columns 1 j.watch.client_columns)) c.self.view_is
    ∙ ap tally_of (outcomes-left (history judge.head rounds) judge.watch (judged.legal c.requires.legal).1)
