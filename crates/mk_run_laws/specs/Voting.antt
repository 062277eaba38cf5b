-- Ok votes of one replica for two attempts that clash.
use Rattle.std.specs.Prelude.{◌≡◌, ◌⊎◌, ◌<◌, ◌≤◌, ℕ, List, ◌++◌, Some}
use Rattle.mk_txn.specs.declared.TxnId.{TxnId}
use Rattle.mk_txn.specs.declared.Cause.{Cause}
use Rattle.mk_txn.specs.declared.Vote.TheVariants.{Ok as VoteOk}
use Rattle.mk_txn.specs.declared.Outcome.TheVariants.{Abort}
use Rattle.mk_txn.specs.Clashes.{Clash}
use Rattle.mk_column_laws.specs.Moments.{Moment, PastEntry}
use Rattle.mk_column_laws.specs.KeyActs.{IsInEpoch}
use Rattle.mk_history.specs.declared.RoundLog.{RoundLog}
use Rattle.mk_history.specs.Histories.{History}
use Rattle.mk_history.specs.Shape.{HasShape}
use Rattle.mk_history.specs.Legality.{IsLegal}
use Rattle.mk_run_laws.specs.RunEvents.{moment_of}

-- the replica voted Ok for the attempt, which is of this epoch, in this round
pub record VotedOk (m : Moment) (r epoch : ℕ) (id : TxnId) (entry : PastEntry) (round : ℕ) : Type 0 where
  pub there : m.past.entries r id ≡ Some entry
  pub vote : entry.vote ≡ Some (VoteOk, round)
  pub in_epoch : IsInEpoch m id epoch

-- the entry is final with Abort since this round or before
abbrev pub IsAbortedBy : PastEntry → ℕ → Type 0
IsAbortedBy entry round = (cause : Cause) × ((i : ℕ) × ((entry.last ≡ Some (Abort cause, i)) × (i ≤ round)))

-- where a replica voted Ok for two attempts of one epoch that clash, of whatever columns, it finished one of them with Abort,
-- not later than the round in which it voted for the other
abbrev pub ClashingVotes : Type 0
ClashingVotes =
    (run : History) → HasShape run → IsLegal run → (done later : List RoundLog) → run.rounds ≡ done ++ later →
    (c d r epoch : ℕ) → c < run.columns → d < run.columns → (id other : TxnId) (reader writer : PastEntry) (i j : ℕ) →
    VotedOk (moment_of run c done) r epoch id reader i → VotedOk (moment_of run d done) r epoch other writer j → Clash reader.txn writer.txn →
    IsAbortedBy reader j ⊎ IsAbortedBy writer i
