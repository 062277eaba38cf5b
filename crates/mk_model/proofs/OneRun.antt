-- One transaction of one client, from its beginning to its end at three replicas.
use Rattle.std.proofs.Common.{◌≡◌, ℕ, List, [], ◌∷◌, refl, length}
use Rattle.std.specs.Prelude.{Option, Some, None, replicate}
use Rattle.mk_txn.specs.declared.TxnId.{TxnId}
use Rattle.mk_txn.specs.declared.Stamp.{Stamp as StampType}
use Rattle.mk_txn.specs.declared.Value.TheVariants.{Number}
use Rattle.mk_txn.specs.declared.Outcome.TheVariants.{Commit}
use Rattle.mk_words.specs.declared.Act.TheVariants.{CheckWrite, CommitWrite}
use Rattle.mk_words.specs.declared.Answer.TheVariants.{Okay, Done}
use Rattle.mk_words.specs.KeptOutcomes.{nothing_kept}
use Rattle.mk_words.specs.declared.Phase.TheVariants.{Serving}
use Rattle.mk_trim.specs.declared.ReplicaView.{ReplicaView}
use Rattle.mk_words.specs.declared.Step.{Step}
use Rattle.mk_words.specs.declared.Step.TheVariants.{Begin, Unread, Stamp, Validate, Take, Key, Rule}
use Rattle.mk_model.specs.ColumnState.{ColumnState, Setting, new_column}
use Rattle.mk_model.specs.ColumnState.Way.{ByVotes, ByFinishing}
use Rattle.mk_model.specs.Learnings.{learning, decided}
use Rattle.mk_model.specs.Conditions.{blocked}
use Rattle.mk_model.specs.Steps.{column_after}
use Rattle.mk_model.specs.Logs.{column_through}

abbrev view : ReplicaView
view = record { phase = Serving; epoch = 0; fates = nothing_kept }

abbrev setting : Setting
setting = record { version = 1; faults = 1; keys = 1; views = view ∷ (view ∷ (view ∷ [])) }

abbrev start : ColumnState
start = new_column 1 (1 ∷ [])

abbrev id : TxnId
id = record { client = 1; seq = 1 }

abbrev ts : StampType
ts = record { time = 10; client = 1 }

abbrev check_at : ℕ → Step
check_at r = Key (record { replica = r; key = 0; act = CheckWrite ts }) Okay

abbrev commit_at : ℕ → Step
commit_at r = Key (record { replica = r; key = 0; act = CommitWrite ts (Number 5) }) Done

abbrev log : List Step
log =
    Begin 1 0 ∷ (Stamp id 10 (record { key = 0; value = Number 5 } ∷ []) ∷ (Validate id
    ∷ (Take 1 ∷ (check_at 0 ∷ (Take 4 ∷ (Take 2 ∷ (check_at 1 ∷ (Take 5 ∷ (Take 3 ∷ (check_at 2 ∷ (Take 6
    ∷ (Rule id ∷ (Take 7 ∷ (commit_at 0 ∷ (Take 8 ∷ (commit_at 1 ∷ (Take 9 ∷ (commit_at 2 ∷ []))))))))))))))))))

-- the numbers of the failing conditions, step by step
abbrev refusals : ColumnState → List Step → List (Option ℕ)
refusals column [] = []
refusals column (step ∷ steps) = blocked setting column step ∷ refusals (column_after setting column step) steps

-- in a fresh column
pub rule_refused : blocked setting start (Rule id) ≡ Some 2
rule_refused = refl

pub take_refused : blocked setting start (Take 1) ≡ Some 2
take_refused = refl

pub begin_enabled : blocked setting start (Begin 1 0) ≡ None
begin_enabled = refl

pub unread_refused : blocked setting start (Unread 1) ≡ Some 3
unread_refused = refl

pub other_client_refused : blocked setting start (Begin 2 0) ≡ Some 2
other_client_refused = refl

pub each_enabled : refusals start log ≡ replicate 19 None
each_enabled = refl

pub sent : length (column_through setting start log).link ≡ 9
sent = refl

-- the own coordinator learned by fast votes, and then each replica by finishing
pub learned : (column_through setting start log).learned
    ≡ learning id ByVotes Commit ∷ (learning id ByFinishing Commit ∷ (learning id ByFinishing Commit ∷ (learning id ByFinishing Commit ∷ [])))
learned = refl

pub decided_commit : decided (column_through setting start log) id ≡ Some Commit
decided_commit = refl
