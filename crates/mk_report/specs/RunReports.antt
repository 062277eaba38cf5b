-- The report, the summary and the JSON of a run.
use Rattle.std.specs.Prelude.{◌≡◌, ℕ, List}
use Rattle.mk_lists.specs.Among.{Each}
use Rattle.mk_txn.specs.Transactions.{IsTransaction}
use Rattle.mk_model.specs.OneCopy.{Copy, HaveDistinctStamps, one_copy}
use Rattle.mk_history.specs.Histories.{History}
use Rattle.mk_history.specs.Learning.{commits}
use Rattle.mk_history.specs.Legality.{IsLegal}
use Rattle.mk_history.specs.Shape.{HasShape}
use Rattle.mk_run.specs.Attempts.{outcomes_of}
use Rattle.mk_report.specs.Commits.{commits_in}
use Rattle.mk_report.specs.WholeReports.{report_text, summary_text}
use Rattle.mk_report.specs.WholeJson.{json_text}

-- what the attempts that were learned to commit leave on one copy
abbrev pub copy_of : History → Copy
copy_of run = one_copy (commits_in (outcomes_of run))

-- a line for each attempt, the global lines of all rounds, what the one copy holds, and how many attempts ended in which way
abbrev pub report_of : History → List ℕ
report_of run = report_text run.client_names run.key_names (outcomes_of run) run.rounds (copy_of run)

-- how many attempts ended in which way, and what the store lines come to
abbrev pub summary_of : History → List ℕ
summary_of run = summary_text run.key_names (outcomes_of run) (copy_of run)

-- the report's attempts, global lines, store and counts as one JSON object
abbrev pub json_of : History → List ℕ
json_of run = json_text run.client_names run.key_names (outcomes_of run) run.rounds (copy_of run)

-- no two lines that say commit have one stamp
abbrev pub CommitsAreDistinct : Type 0
CommitsAreDistinct = (run : History) → HasShape run → IsLegal run → HaveDistinctStamps (commits_in (outcomes_of run))

-- each line that says commit has what a transaction has
abbrev pub CommitsAreTransactions : Type 0
CommitsAreTransactions = (run : History) → HasShape run → IsLegal run → Each IsTransaction (commits_in (outcomes_of run))

-- what they leave on one copy is what the run's commits leave
abbrev pub CommitsAreTold : Type 0
CommitsAreTold = (run : History) → HasShape run → IsLegal run → one_copy (commits_in (outcomes_of run)) ≡ one_copy (commits run)
