-- The laws of key acts.
use Rattle.std.specs.Prelude.{◌≡◌, ◌⊎◌, ◌≤◌, ℕ, true, List, [], ◌∷◌, Some}
use Rattle.mk_lists.specs.Among.{Among}
use Rattle.mk_txn.specs.declared.TxnId.{TxnId}
use Rattle.mk_txn.specs.declared.Conflict.{Conflict}
use Rattle.mk_txn.specs.declared.Cause.{Cause}
use Rattle.mk_txn.specs.declared.Vote.TheVariants.{Ok as VoteOk, Abort as VoteAbort}
use Rattle.mk_txn.specs.declared.Outcome.TheVariants.{Commit, Abort}
use Rattle.mk_txn.specs.declared.Stamp.{Stamp}
use Rattle.mk_txn.specs.declared.Value.{Value}
use Rattle.mk_words.specs.declared.Act.{Act}
use Rattle.mk_words.specs.declared.Act.TheVariants.{CheckRead, CheckWrite, CommitRead, CommitWrite, ReleaseRead, ReleaseWrite}
use Rattle.mk_words.specs.declared.Answer.TheVariants.{Okay, Refused}
use Rattle.mk_words.specs.Checks.{KeyAct, checks, commits_of}
use Rattle.mk_column_laws.specs.Moments.{Moment, PastAct, PastEntry}
use Rattle.mk_column_laws.specs.KeyActs.{ActFacts, ActOrigin, WasDone, IsInEpoch, ReleaseReason}
use Rattle.mk_column_laws.specs.Laws.{AlwaysHolds}

-- all that holds of key acts at every moment, as one record; also of the key calls under way
abbrev pub ActsHold : Type 0
ActsHold = AlwaysHolds (λ taught m. ActFacts m)

-- each act but a read is a check, a release or a commit of an attempt's transaction, done where its epoch was served;
-- a commit is done since the entry is final with Commit, and a release for one of three reasons
abbrev pub ActsHaveOrigin : Type 0
ActsHaveOrigin = AlwaysHolds (λ taught m. (act : PastAct) → Among act m.past.acts → (act.round ≤ m.past.now) × ActOrigin m act)

-- where a replica voted Ok, each check of the transaction was answered Okay there in the round of the vote
abbrev pub ChecksOfOk : Type 0
ChecksOfOk =
    AlwaysHolds (λ taught m. (r : ℕ) (id : TxnId) (entry : PastEntry) (round epoch : ℕ) → m.past.entries r id ≡ Some entry → entry.vote ≡ Some (VoteOk, round) → IsInEpoch m id epoch →
    (check : KeyAct) → Among check (checks entry.txn) → WasDone m round r epoch check Okay)

-- where a replica voted Abort, the check that the vote names was refused there, for this reason
abbrev pub RefusalOfAbort : Type 0
RefusalOfAbort =
    AlwaysHolds (λ taught m. (r : ℕ) (id : TxnId) (entry : PastEntry) (conflict : Conflict) (round epoch : ℕ) → m.past.entries r id ≡ Some entry →
    entry.vote ≡ Some (VoteAbort conflict, round) → IsInEpoch m id epoch →
    (check : KeyAct) × Among check (checks entry.txn) × (check.0 ≡ conflict.key) × WasDone m round r epoch check (Refused conflict.reason conflict.stamp))

-- where a replica voted Ok, a release is of an entry that is final with Abort, since the round of the release or before
abbrev pub ReleasesOfOk : Type 0
ReleasesOfOk =
    AlwaysHolds (λ taught m. (r : ℕ) (id : TxnId) (entry : PastEntry) (voted round : ℕ) → m.past.entries r id ≡ Some entry → entry.vote ≡ Some (VoteOk, voted) →
    ReleaseReason m r id entry round → (cause : Cause) × ((i : ℕ) × ((entry.last ≡ Some (Abort cause, i)) × (i ≤ round))))

-- the act gives up what this stamp holds
abbrev pub Releases : Stamp → Act → Type 0
Releases stamp act = (act ≡ ReleaseRead stamp) ⊎ (act ≡ ReleaseWrite stamp)

-- the act checks for this stamp
abbrev pub ChecksFor : Stamp → Act → Type 0
ChecksFor stamp act = ((version : Stamp) × (act ≡ CheckRead stamp version)) ⊎ (act ≡ CheckWrite stamp)

-- the act commits what this stamp holds
abbrev pub CommitsFor : Stamp → Act → Type 0
CommitsFor stamp act = (act ≡ CommitRead stamp) ⊎ ((value : Value) × (act ≡ CommitWrite stamp value))

-- the same, told by the stamp: where a replica voted Ok, a release of the transaction's stamp there, by whomever, is since
-- the entry is final with Abort
abbrev pub StampReleased : Type 0
StampReleased =
    AlwaysHolds (λ taught m. (act : PastAct) (id : TxnId) (entry : PastEntry) (voted : ℕ) → Among act m.past.acts → m.past.entries act.replica id ≡ Some entry →
    entry.vote ≡ Some (VoteOk, voted) → Releases entry.txn.stamp act.act → (cause : Cause) × ((i : ℕ) × ((entry.last ≡ Some (Abort cause, i)) × (i ≤ act.round))))

-- an entry that is final with Commit, since this round or before
pub record CommittedBy (m : Moment) (act : PastAct) (stamp : Stamp) : Type 0 where
  pub id : TxnId
  pub entry : PastEntry
  pub there : m.past.entries act.replica id ≡ Some entry
  pub same_stamp : entry.txn.stamp ≡ stamp
  pub in_epoch : IsInEpoch m id act.epoch
  pub served : m.past.served_in act.round act.replica act.epoch ≡ true
  pub since : ℕ
  pub last : entry.last ≡ Some (Commit, since)
  pub early : since ≤ act.round
  pub written : Among (act.key, act.act) (commits_of entry.txn)

-- a commit of a stamp is of an entry that is final with Commit, and writes what the transaction wrote
abbrev pub CommitsOfFinal : Type 0
CommitsOfFinal = AlwaysHolds (λ taught m. (act : PastAct) (stamp : Stamp) → Among act m.past.acts → CommitsFor stamp act.act → CommittedBy m act stamp)

-- a check of a stamp, and of the transaction with it
pub record CheckedBy (m : Moment) (act : PastAct) (stamp : Stamp) : Type 0 where
  pub id : TxnId
  pub entry : PastEntry
  pub there : m.past.entries act.replica id ≡ Some entry
  pub same_stamp : entry.txn.stamp ≡ stamp
  pub in_epoch : IsInEpoch m id act.epoch
  pub served : m.past.served_in act.round act.replica act.epoch ≡ true
  pub checked : Among (act.key, act.act) (checks entry.txn)

abbrev pub ChecksOfStamp : Type 0
ChecksOfStamp = AlwaysHolds (λ taught m. (act : PastAct) (stamp : Stamp) → Among act m.past.acts → ChecksFor stamp act.act → CheckedBy m act stamp)

-- of two acts at one replica the later one does not check for a stamp that the first commits
abbrev pub IsNoCheckAfter : PastAct → PastAct → Type 0
IsNoCheckAfter act later = (stamp : Stamp) → later.replica ≡ act.replica → CommitsFor stamp act.act → ChecksFor stamp later.act → ⊥

-- at no place of a list
abbrev pub NoCheckFollows : List PastAct → Type 0
NoCheckFollows [] = Unit {0}
NoCheckFollows (act ∷ acts) = ((later : PastAct) → Among later acts → IsNoCheckAfter act later) × NoCheckFollows acts

-- in their order, no check of a stamp stands after a commit of it at the same replica
abbrev pub NoCheckAfterCommit : Type 0
NoCheckAfterCommit = AlwaysHolds (λ taught m. NoCheckFollows m.past.acts)
