-- One transaction of one client is decided fast in the first round: the laws speak of such runs.
use Rattle.std.proofs.Common.{◌≡◌, ℕ, zero, suc, refl, List, [], ◌∷◌}
use Rattle.std.specs.Prelude.{Some, None, slice_get}
use Rattle.mk_txn.specs.declared.TxnId.{TxnId}
use Rattle.mk_txn.specs.declared.Stamp.{Stamp as StampType}
use Rattle.mk_txn.specs.declared.Value.TheVariants.{Number}
use Rattle.mk_txn.specs.declared.Vote.TheVariants.{Ok as VoteOk}
use Rattle.mk_txn.specs.declared.Outcome.TheVariants.{Commit}
use Rattle.mk_words.specs.declared.Act.TheVariants.{CheckWrite, CommitWrite}
use Rattle.mk_words.specs.declared.Answer.TheVariants.{Okay, Done}
use Rattle.mk_words.specs.KeptOutcomes.{nothing_kept}
use Rattle.mk_words.specs.declared.Phase.TheVariants.{Serving}
use Rattle.mk_trim.specs.declared.ReplicaView.{ReplicaView}
use Rattle.mk_words.specs.declared.Step.TheVariants.{Begin, Stamp, Validate, Take, Key, Rule}
use Rattle.mk_model.specs.ColumnState.Way.{ByVotes, ByFinishing}
use Rattle.mk_model.specs.Learnings.{learning}
use Rattle.mk_column_laws.specs.Moments.{Moment, Event, first_moment, moment_through}
use Rattle.mk_column_laws.specs.Moments.Event.{NewRound, Doing}
use Rattle.mk_column_laws.specs.FirstEpoch.{EachInFirstEpoch}

abbrev view : ReplicaView
view = record { phase = Serving; epoch = 0; fates = nothing_kept }

abbrev views : List ReplicaView
views = view ∷ (view ∷ (view ∷ []))

abbrev id : TxnId
id = record { client = 1; seq = 1 }

abbrev ts : StampType
ts = record { time = 10; client = 1 }

abbrev check_at : ℕ → Event
check_at r = Doing (Key (record { replica = r; key = 0; act = CheckWrite ts }) Okay)

abbrev commit_at : ℕ → Event
commit_at r = Doing (Key (record { replica = r; key = 0; act = CommitWrite ts (Number 5) }) Done)

-- the client begins, stamps and validates; each replica checks and votes; the votes decide; each replica finishes
abbrev events : List Event
events =
    NewRound views []
    ∷ (Doing (Begin 1 0)
    ∷ (Doing (Stamp id 10 (record { key = 0; value = Number 5 } ∷ []))
    ∷ (Doing (Validate id)
    ∷ (Doing (Take 1)
    ∷ (check_at 0
    ∷ (Doing (Take 4)
    ∷ (Doing (Take 2)
    ∷ (check_at 1
    ∷ (Doing (Take 5)
    ∷ (Doing (Take 3)
    ∷ (check_at 2
    ∷ (Doing (Take 6)
    ∷ (Doing (Rule id)
    ∷ (Doing (Take 7)
    ∷ (commit_at 0
    ∷ [])))))))))))))))

abbrev start : Moment
start = first_moment 1 1 1 (1 ∷ [])

in_epoch_0 : (r : ℕ) (v : ReplicaView) → slice_get views r ≡ Some v → v.epoch ≡ 0
in_epoch_0 zero v e = (let same : v ≡ view = cc e in λ i. (same i).epoch)
in_epoch_0 (suc zero) v e = (let same : v ≡ view = cc e in λ i. (same i).epoch)
in_epoch_0 (suc (suc zero)) v e = (let same : v ≡ view = cc e in λ i. (same i).epoch)
in_epoch_0 (suc (suc (suc r))) v e = absurd (cc e)

-- each event can happen in its turn
pub all_happen : EachInFirstEpoch start events
all_happen =
    ((refl, refl, in_epoch_0), (refl, (refl, (refl, (refl, (refl, (refl, (refl, (refl, (refl, (refl, (refl, (refl, (refl, (refl, (refl, tt))))))))))))))))

-- the outcome is learned by fast votes, and then at a replica
pub learned : (moment_through start events).column.learned ≡ learning id ByVotes Commit ∷ (learning id ByFinishing Commit ∷ [])
learned = refl

-- the replica's entry, with the round of its vote and of its end
pub remembered_there : (moment_through start events).past.entries 0 id
    ≡ Some (record { txn = record { id = id; stamp = ts; reads = []; writes = record { key = 0; value = Number 5 } ∷ [] }; view = 0; vote = Some (VoteOk, 1); accepted = None; last = Some (Commit, 1) })
remembered_there = refl
