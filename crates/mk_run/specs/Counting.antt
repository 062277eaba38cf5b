-- Attempts counted in turn.
use Rattle.std.specs.Prelude.{ℕ, ◌+◌, List, Option, Some, None, count_by, if◌then◌else◌}
use Rattle.mk_txn.specs.Outcomes.{is_commit}
use Rattle.mk_model.specs.ColumnState.{AttemptState}
use Rattle.mk_run.specs.declared.firsts.FirstLearning.{FirstLearning}
use Rattle.mk_run.specs.declared.line.AttemptLine.{AttemptLine}
use Rattle.mk_run.specs.declared.line.Tally.{Tally}
use Rattle.mk_run.specs.Attempts.{is_committed, is_aborted, is_open}

-- how many were counted
abbrev pub total_of : Tally → ℕ
total_of tally = tally.commits + tally.aborts + tally.opens

-- one attempt more, of which this was learned first
abbrev pub counted : Option FirstLearning → Tally → Tally
counted None tally = record tally { opens = tally.opens + 1 }
counted (Some first) tally =
    if is_commit first.outcome then record tally { commits = tally.commits + 1 } else record tally { aborts = tally.aborts + 1 }

-- where there is the attempt
abbrev pub counted_where : Option AttemptState → Option FirstLearning → Tally → Tally
counted_where None first tally = tally
counted_where (Some attempt) first tally = counted first tally

-- these lines more
abbrev pub plus_lines : Tally → List AttemptLine → Tally
plus_lines tally lines =
    record {
      commits = tally.commits + count_by (λ line. is_committed line.state) lines;
      aborts = tally.aborts + count_by (λ line. is_aborted line.state) lines;
      opens = tally.opens + count_by (λ line. is_open line.state) lines;
    }
