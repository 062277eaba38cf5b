-- What is written for the words `at` and `why`, and for each word.
use Rattle.std.specs.Prelude.{ℕ, List, [], ◌∷◌, ◌++◌, codes, Option, Some, None, option_map}
use Rattle.std.specs.Fmt.{decimal}
use Rattle.mk_txn.specs.declared.Stamp.{Stamp}
use Rattle.mk_txn.specs.declared.TxnId.{TxnId}
use Rattle.mk_txn.specs.declared.Conflict.{Conflict}
use Rattle.mk_txn.specs.declared.Outcome.{Outcome}
use Rattle.mk_txn.specs.declared.Outcome.TheVariants.{Commit as ToCommit, Abort as ToAbort}
use Rattle.mk_history.specs.declared.State.{State}
use Rattle.mk_history.specs.declared.State.TheVariants.{Learned, Left as LeftOpen}
use Rattle.mk_history.specs.Histories.{History}
use Rattle.mk_history.specs.Learning.{commits}
use Rattle.mk_trace_lines.specs.TraceLines.{key_name}
use Rattle.mk_report.specs.ReportTexts.{stamp_text, attempt_name, path_text, conflict_text, left_text}
use Rattle.mk_report.specs.StoreTexts.{stores_text}
use Rattle.mk_verdict.specs.declared.Verdict.{Verdict}
use Rattle.mk_verdict.specs.declared.Verdict.TheVariants.{Legal, Broken}
use Rattle.mk_verdict.specs.Flaws.{verdict_of}
use Rattle.mk_past.specs.declared.reasons.Reasoned.{Reasoned}
use Rattle.mk_past.specs.declared.reasons.Reasoned.TheVariants.{Commit, Conflict as InConflict, Takeover, Epoch, Open}
use Rattle.mk_past.specs.Pasts.{copy_at, count_at}
use Rattle.mk_past.specs.Reasons.{reason_of}
use Rattle.mk_tool.specs.Asking.{Asked, id_named}
use Rattle.mk_tool.specs.Asking.Asked.{ForVerdict, ForPast, ForReason}
use Rattle.mk_tool.specs.VerdictTexts.{check_text}

-- ---- the past

-- the last line: the stamp, and how many commits have it or a lower one
abbrev pub at_text : Stamp → ℕ → List ℕ
at_text stamp count = codes "at " ++ (stamp_text stamp ++ 32 ∷ (decimal count ++ 10 ∷ []))

-- the store lines of what those commits left, and the last line
abbrev pub past_text : History → Stamp → List ℕ
past_text run stamp = stores_text run.key_names (copy_at stamp (commits run)) ++ at_text stamp (count_at stamp (commits run))

-- ---- the reason

abbrev pub outcome_word : Outcome → List ℕ
outcome_word ToCommit = codes "commit"
outcome_word (ToAbort cause) = codes "abort"

-- how an attempt ended
abbrev pub state_word : State → List ℕ
state_word (Learned outcome path) = outcome_word outcome
state_word (LeftOpen left) = codes "open"

-- the refused check: its round and its place in a journal, and the attempt that it names
abbrev pub refusal_text : List (List ℕ) → List (List ℕ) → Conflict → ℕ → ℕ → ℕ → TxnId → State → List ℕ
refusal_text clients keys conflict round replica entry owner state =
    conflict_text keys conflict
    ++ (codes " round " ++ (decimal round
    ++ (codes " cell " ++ (decimal replica ++ 32 ∷ (key_name keys conflict.key ++ 32 ∷ (decimal entry
    ++ (codes " owner " ++ (attempt_name clients owner ++ 32 ∷ state_word state))))))))

abbrev pub reason_text : List (List ℕ) → List (List ℕ) → Reasoned → List ℕ
reason_text clients keys (Commit path) = codes "commit " ++ path_text path
reason_text clients keys (InConflict conflict round replica entry owner state) = refusal_text clients keys conflict round replica entry owner state
reason_text clients keys (Takeover view) = codes "takeover " ++ decimal view
reason_text clients keys (Epoch epoch) = codes "epoch " ++ decimal epoch
reason_text clients keys (Open left) = codes "open " ++ left_text left

-- the line of an attempt with this reason
abbrev pub why_text : List (List ℕ) → List (List ℕ) → TxnId → Reasoned → List ℕ
why_text clients keys id reason = codes "why " ++ (attempt_name clients id ++ 32 ∷ (reason_text clients keys reason ++ 10 ∷ []))

-- the line of an attempt, where there is this attempt and it has a reason
abbrev pub why_of : History → Option TxnId → Option (List ℕ)
why_of run None = None
why_of run (Some id) = option_map (why_text run.client_names run.key_names id) (reason_of run id)

-- ---- each word

-- what is written of a legal run, and none where it lacks the attempt that was asked for
abbrev pub legal_answer : Asked → History → Option (List ℕ)
legal_answer ForVerdict run = Some (check_text run)
legal_answer (ForPast stamp) run = Some (past_text run stamp)
legal_answer (ForReason name seq) run = why_of run (id_named name seq run)

-- of a run with this verdict: of one that is not legal the verdict, whatever was asked
abbrev pub answer_with : Asked → History → Verdict → Option (List ℕ)
answer_with asked run Legal = legal_answer asked run
answer_with asked run (Broken round place why) = Some (check_text run)

-- what is written of a run
abbrev pub answer_of : Asked → History → Option (List ℕ)
answer_of asked run = answer_with asked run (verdict_of run)
