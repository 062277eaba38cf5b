-- The lines so far, with the client's own of the submissions to come, are all.
use Rattle.std.proofs.Common.{◌≡◌, ◌++◌, drop, map}
use Rattle.std.specs.Prelude.{filter}
use Rattle.mk_driver.specs.declared.Submission.{Submission}
use Rattle.mk_driver.specs.Driven.{asked_more, is_submission_of}
use Rattle.mk_driver.proofs.Caller.lines_with.Given as goal

abbrev pub invariant-loop-submission : goal.invariant-loop-submission
invariant-loop-submission l =
    l.lines ++ map (λ (submission : Submission). submission.request) (filter (is_submission_of l.self.number) (drop l.submission-index l.submissions))
    ≡ (asked_more l.submissions l.self).lines
