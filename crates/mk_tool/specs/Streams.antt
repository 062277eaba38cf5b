-- A trace that is judged while it is read.
use Rattle.std.specs.Prelude.{◌≡◌, ℕ, false, List, [], Option, Some, None, Ok}
use Rattle.mk_history.specs.declared.RoundLog.{RoundLog}
use Rattle.mk_history.specs.Histories.{History}
use Rattle.mk_history.specs.Shape.{HasShape}
use Rattle.mk_kept.specs.declared.head.Head.{Head}
use Rattle.mk_verdict.specs.declared.Verdict.{Verdict}
use Rattle.mk_verdict.specs.Flaws.{verdict_of}
use Rattle.mk_run.specs.Judging.{JudgeView, StandsForRounds}
use Rattle.mk_trace_text.specs.Grammar.{head_of}
use Rattle.mk_trace.specs.Pieces.{Reading, started, fed}
use Rattle.mk_trace.specs.Answers.{with_rounds, run_text}
use Rattle.mk_tool.specs.VerdictTexts.{check_text}

-- the judge, who comes with the first round, has the head that was read and stands for these rounds
abbrev pub JudgedSo : Option JudgeView → Option Head → List RoundLog → Type 0
JudgedSo None head rounds = rounds ≡ []
JudgedSo (Some judge) head rounds = StandsForRounds judge rounds × (head ≡ Some judge.head) × (judge.failed ≡ false)

-- the text was read, and these of its rounds were handed out and judged
pub record IsJudged (reader : Option Reading) (judge : Option JudgeView) (text : List ℕ) (rounds : List RoundLog) : Type 0 where
  pub reading : Reading
  pub is : reader ≡ Some reading
  pub read : fed started text ≡ with_rounds rounds reading
  pub judged : JudgedSo judge (head_of reading.state) rounds

-- and no other was read
pub record IsAllJudged (reader : Option Reading) (judge : Option JudgeView) (text : List ℕ) : Type 0 where
  pub rounds : List RoundLog
  pub so : IsJudged reader judge text rounds
  pub none : so.reading.state.rounds ≡ []

-- the text is the trace of a run with this verdict, of which this is the text
pub record IsJudgement (bytes : List ℕ) (verdict : Verdict) (text : List ℕ) : Type 0 where
  pub run : History
  pub shape : HasShape run
  pub trace : run_text bytes ≡ Ok run
  pub verdict_is : verdict ≡ verdict_of run
  pub text_is : text ≡ check_text run
