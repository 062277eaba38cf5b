-- Whole reports, as functions of the lines of attempts, the rounds and the one copy.
use Rattle.std.specs.Prelude.{ℕ, List, ◌++◌}
use Rattle.std.specs.List.{flat_map}
use Rattle.mk_model.specs.OneCopy.{Copy}
use Rattle.mk_history.specs.declared.RoundLog.{RoundLog}
use Rattle.mk_run.specs.declared.line.AttemptLine.{AttemptLine}
use Rattle.mk_run.specs.Attempts.{tally_of}
use Rattle.mk_report.specs.ReportTexts.{attempt_text, global_text, end_text}
use Rattle.mk_report.specs.StoreTexts.{stores_text, sum_text}

-- the last line of a report
abbrev pub tally_text : List AttemptLine → List ℕ
tally_text lines = end_text (tally_of lines).commits (tally_of lines).aborts (tally_of lines).opens

-- the global lines of a round
abbrev pub round_text : RoundLog → List ℕ
round_text round = flat_map global_text round.globals

-- a report: attempts, global lines of all rounds, store lines, and how many attempts ended in which way
abbrev pub report_text : List (List ℕ) → List (List ℕ) → List AttemptLine → List RoundLog → Copy → List ℕ
report_text clients keys lines rounds copy =
    flat_map (attempt_text clients keys) lines ++ (flat_map round_text rounds ++ (stores_text keys copy ++ tally_text lines))

-- a summary: the last line of the report, and what its store lines come to
abbrev pub summary_text : List (List ℕ) → List AttemptLine → Copy → List ℕ
summary_text keys lines copy = tally_text lines ++ sum_text keys copy
