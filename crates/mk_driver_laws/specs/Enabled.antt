-- That the step which the driver's turns name is enabled.
use Rattle.std.specs.Prelude.{◌≡◌, ◌⊎◌, Some, ◌≤◌, ◌<◌, ℕ, ◌+◌, ◌^◌, true, List, [], ◌∷◌, ◌++◌, length, None}
use Rattle.mk_lists.specs.Among.{Each}
use Rattle.mk_txn.specs.declared.TxnId.{TxnId}
use Rattle.mk_txn.specs.Stamps.{fresh_time}
use Rattle.mk_quorum.specs.Sizes.{members}
use Rattle.mk_trim.specs.declared.ReplicaView.{ReplicaView}
use Rattle.mk_script.specs.Scripts.{ScriptParts}
use Rattle.mk_script.specs.Whole.{IsWhole}
use Rattle.mk_history.specs.Histories.{log_of}
use Rattle.mk_words.specs.declared.Step.{Step}
use Rattle.mk_words.specs.declared.Step.TheVariants.{Unread, Stamp, Key}
use Rattle.mk_words.specs.declared.KeyCall.{KeyCall}
use Rattle.mk_words.specs.declared.Answer.{Answer}
use Rattle.mk_words.specs.Acts.{answer_fits}
use Rattle.mk_model.specs.ColumnState.{Setting, ColumnState, AttemptState, ClientState, attempt_of, client_of}
use Rattle.mk_model.specs.ColumnState.Work.{Idle}
use Rattle.mk_model.specs.Conditions.{blocked, wanted}
use Rattle.mk_driver.specs.declared.Next.TheVariants.{Step as StepNext, Key as KeyNext, Over}
use Rattle.mk_driver.specs.Driven.{Standing, PastRound, IsNamed, first_standing, next_at, round_ended, setting_in, standing_after, standing_at, standing_begun, standing_past, standing_through, turn}

-- each step of a log was named in its turn, and was enabled
abbrev pub IsDone : ScriptParts → Setting → Standing → List Step → Type 0
IsDone script round standing [] = Unit {0}
IsDone script round standing (step ∷ steps) =
    IsNamed (next_at script round standing) step × (blocked round standing.column step ≡ None)
    × IsDone script round (standing_after script round standing step) steps

-- so was each of these rounds, from this one on, to its end, where nothing was named any more
abbrev pub AreDone : ScriptParts → ℕ → ℕ → Standing → List PastRound → Type 0
AreDone script c number standing [] = Unit {0}
AreDone script c number standing (past ∷ rounds) =
    let round = setting_in script past.views in
    let begun = standing_begun script number standing in
    let last = standing_through script round begun (log_of past.round c) in
    IsDone script round begun (log_of past.round c) × (next_at script round last ≡ Over)
    × AreDone script c (number + 1) (round_ended script round past.round.globals last) rounds

-- the rounds that are past and the log so far were done in a column of this script
pub record HasCome (script : ScriptParts) (c : ℕ) (rounds : List PastRound) (views : List ReplicaView) (log : List Step) : Type 0 where
  pub past : AreDone script c 0 (first_standing script c) rounds
  pub done : IsDone script (setting_in script views) (standing_past script c 0 (first_standing script c) rounds) log

-- the attempt's stamp at this clock would be later than the last time
pub record IsTooLate (column : ColumnState) (id : TxnId) (clock : ℕ) : Type 0 where
  pub attempt : AttemptState
  pub client : ClientState
  pub there : attempt_of column id ≡ Some attempt
  pub its_client : client_of column id.client ≡ Some client
  pub late : 2 ^ 62 < fresh_time client.last_time clock attempt.reads

-- The step is enabled. An Unread wants no more views than there are replicas. Of a Stamp the fourth condition may fail, which is
-- that of its time, and then the clock is in bounds and the stamp would be too late.
abbrev pub IsSure : Setting → ColumnState → Step → Type 0
IsSure round column (Unread client) = length round.views ≤ members round.faults → blocked round column (Unread client) ≡ None
IsSure round column (Stamp id clock writes) =
    (blocked round column (Stamp id clock writes) ≡ None)
    ⊎ ((blocked round column (Stamp id clock writes) ≡ Some 4) × (clock ≤ 2 ^ 61) × IsTooLate column id clock)
IsSure round column step = blocked round column step ≡ None

-- Wherever the turns name a step, it is enabled. The script keeps the limits that `IsWhole` lists, as the Model of every `Script` does
-- by its invariant, so whatever `parse` gives keeps them: at most 3 retries, 4,096 transactions in all rounds together and 16
-- items in each, keys below their number, and clocks up to 2^61.
abbrev pub NamedIsEnabled : Type 0
NamedIsEnabled =
    (script : ScriptParts) → IsWhole script → (c : ℕ) (rounds : List PastRound) (views : List ReplicaView) (log : List Step) →
    HasCome script c rounds views log → (step : Step) → turn script c rounds views log ≡ StepNext step →
    IsSure (setting_in script views) (let standing = standing_at script c rounds views log in standing.column) step

-- ---- from step to step, and from round to round

-- nothing was done yet
abbrev pub HasComeAtFirst : Type 0
HasComeAtFirst = (script : ScriptParts) (c : ℕ) (views : List ReplicaView) → HasCome script c [] views []

-- a step is done that was named and is enabled
abbrev pub HasComeAfterStep : Type 0
HasComeAfterStep =
    (script : ScriptParts) (c : ℕ) (rounds : List PastRound) (views : List ReplicaView) (log : List Step) → HasCome script c rounds views log → (step : Step) →
    IsNamed (turn script c rounds views log) step →
    blocked (setting_in script views) (let standing = standing_at script c rounds views log in standing.column) step ≡ None →
    HasCome script c rounds views (log ++ step ∷ [])

-- a round in which nothing is named any more is past
abbrev pub HasComeAfterRound : Type 0
HasComeAfterRound =
    (script : ScriptParts) (c : ℕ) (rounds : List PastRound) (past : PastRound) (views : List ReplicaView) →
    HasCome script c rounds past.views (log_of past.round c) → turn script c rounds past.views (log_of past.round c) ≡ Over →
    HasCome script c (rounds ++ past ∷ []) views []

-- ---- key calls

-- a key call that is named is done with any answer that its act can get
abbrev pub NamedKeyIsEnabled : Type 0
NamedKeyIsEnabled =
    (script : ScriptParts) (c : ℕ) (rounds : List PastRound) (views : List ReplicaView) (log : List Step) (call : KeyCall) (answer : Answer) →
    turn script c rounds views log ≡ KeyNext call → answer_fits call.act answer ≡ true →
    blocked (setting_in script views) (let standing = standing_at script c rounds views log in standing.column) (Key call answer) ≡ None

-- where nothing is named any more, no key call is under way
abbrev pub RoundEndsIdle : Type 0
RoundEndsIdle =
    (script : ScriptParts) → IsWhole script → (c : ℕ) (rounds : List PastRound) (views : List ReplicaView) (log : List Step) →
    HasCome script c rounds views log → turn script c rounds views log ≡ Over →
    (let standing = standing_at script c rounds views log in standing.column.work) ≡ Idle

-- there are no more views than replicas
abbrev pub HasViews : ScriptParts → List ReplicaView → Type 0
HasViews script views = length views ≤ members script.size

-- a wanted call is at a replica and a key of the script
abbrev pub WantedIsThere : Type 0
WantedIsThere =
    (script : ScriptParts) (c : ℕ) (rounds : List PastRound) (views : List ReplicaView) (log : List Step) → HasCome script c rounds views log →
    Each (λ (past : PastRound). HasViews script past.views) rounds → HasViews script views → (call : KeyCall) →
    wanted (let standing = standing_at script c rounds views log in standing.column.work) ≡ Some call →
    (call.replica < members script.size) × (call.key < length script.keys)
