-- Two attempts of one client, and what stands for states in which nothing else was handed in.
use Rattle.std.specs.Prelude.{◌≡◌, ℕ, List, [], ◌∷◌, slice_get, Some, None}
use Rattle.mk_lists.specs.Among.{Among, Each}
use Rattle.mk_txn.specs.declared.Value.TheVariants.{Number}
use Rattle.mk_txn.specs.declared.Vote.TheVariants.{Ok as VoteOk}
use Rattle.mk_txn.specs.declared.Outcome.TheVariants.{Commit}
use Rattle.mk_txn.specs.Transactions.{Transaction}
use Rattle.mk_words.specs.declared.Entry.{Entry}
use Rattle.mk_words.specs.Entries.{HasDistinctIds}
use Rattle.mk_words.specs.Bases.{BaseState}
use Rattle.mk_words.specs.Promises.{EntryFits}
use Rattle.mk_model.specs.EpochState.{EpochState, ReplicaState}
use Rattle.mk_epoch.specs.Standing.{ReplicasView, StandsFor}
use Rattle.mk_epoch_laws.specs.FitLaws.{IsReached, handed_txns}

-- writes key 0 at 10.0
abbrev pub first : Transaction
first =
    record {
      id = record { client = 0; seq = 1 };
      stamp = record { time = 10; client = 0 };
      reads = [];
      writes = record { key = 0; value = Number 5 } ∷ [];
    }

-- writes key 1 at 20.0
abbrev pub second : Transaction
second =
    record {
      id = record { client = 0; seq = 2 };
      stamp = record { time = 20; client = 0 };
      reads = [];
      writes = record { key = 1; value = Number 6 } ∷ [];
    }

abbrev pub both : List Transaction
both = first ∷ second ∷ []

-- an entry with an Ok vote and the final outcome commit
abbrev pub committed : Transaction → Entry
committed txn = record { txn = txn; view = 0; vote = Some VoteOk; accepted = None; last = Some Commit }

-- entries of different attempts among the two
abbrev pub MayBeHanded : List Entry → Type 0
MayBeHanded entries = HasDistinctIds entries × Each (λ (e : Entry). Among e.txn both) entries

-- the entries fit the base of the replica
abbrev pub FitsReplica : EpochState → ℕ → List Entry → Type 0
FitsReplica state r entries = (replica : ReplicaState) → slice_get state.replicas r ≡ Some replica → Each (EntryFits replica.base) entries

-- what is kept stands for a state to which lines lead, and in which nothing but the two attempts was handed in
pub record StandsReached {B : Type 0} (stands : B → BaseState → Type 0) (kept : ReplicasView B) : Type 0 where
  pub state : EpochState
  pub reached : IsReached state
  pub stood_for : StandsFor stands kept state
  pub handed : (t : Transaction) → Among t (handed_txns state) → Among t both
