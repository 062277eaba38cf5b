use Rattle.std.proofs.Common.{ℕ, List}
use Rattle.mk_history.specs.declared.RoundLog.{RoundLog}
use Rattle.mk_tool.specs.Streams.{IsJudged}
use Rattle.mk_tool.proofs.StreamLaws.{rounds_left}
use Rattle.mk_tool.proofs.stream.Stream.judge_rounds.Given as goal

abbrev pub invariant-loop-round : goal.invariant-loop-round
invariant-loop-round l =
    (text : List ℕ) (rounds : List RoundLog) → IsJudged l.initial.self.reader l.initial.self.judge text rounds →
    (more : List RoundLog) × IsJudged l.self.reader l.self.judge text more

abbrev pub decreases-loop-round : goal.decreases-loop-round
decreases-loop-round l = rounds_left l.self.reader
