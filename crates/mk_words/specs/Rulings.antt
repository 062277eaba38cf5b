-- What an attempt's own coordinator makes of the votes and accepts that it took.
use Rattle.std.specs.Prelude.{◌≡◌, ◌≤◌, ℕ, length, take, Bool, true, List, [], ◌∷◌, Option, Some, None, nat_le, nat_lt, not, if◌then◌else◌}
use Rattle.std.specs.Option.{option_or}
use Rattle.mk_txn.specs.declared.Cause.TheVariants.{Conflict as ByConflict, Takeover as ByTakeover}
use Rattle.mk_txn.specs.declared.Vote.{Vote}
use Rattle.mk_txn.specs.declared.Vote.TheVariants.{Ok as VoteOk, Abort as VoteAbort}
use Rattle.mk_txn.specs.declared.Outcome.{Outcome}
use Rattle.mk_txn.specs.declared.Outcome.TheVariants.{Commit, Abort}
use Rattle.mk_txn.specs.Outcomes.{is_ok_vote}
use Rattle.mk_quorum.specs.Sizes.{members, majority_of, fast_of}
use Rattle.mk_quorum.specs.Slots.{count_slots, filled, empty_slots}
use Rattle.mk_words.specs.declared.Ruling.{Ruling}
use Rattle.mk_words.specs.declared.Ruling.TheVariants.{Fast, Propose, Learned, Short, Unaccepted}

-- the first vote of each replica, the replicas that accepted, the proposal, and the outcome that it learned first
pub record CoordState : Type 0 where
  pub votes : List (Option Vote)
  pub accepts : List (Option Bool)
  pub proposed : Option Outcome
  pub learned : Option Outcome

-- a coordinator among the replicas for this many faults
pub record SizedCoord : Type 0 where
  pub faults : ℕ
  pub state : CoordState

-- what is seen of seven slots of each kind: those of the replicas that there are
abbrev pub seen_coord : ℕ → List (Option Vote) → List (Option Bool) → Option Outcome → Option Outcome → SizedCoord
seen_coord f votes accepts proposed learned =
    record {
      faults = f;
      state =
          record { votes = take (members f) votes; accepts = take (members f) accepts; proposed = proposed; learned = learned };
    }

-- seven slots of each kind are enough for the replicas
abbrev pub HasSlots : {X : Type 0} → ℕ → List (Option X) → List (Option Bool) → Type 0
HasSlots f slots accepts = (f ≤ 3) × (length slots ≡ 7) × (length accepts ≡ 7)

-- a coordinator that has taken nothing
abbrev pub new_coord : ℕ → CoordState
new_coord f = record { votes = empty_slots (members f); accepts = empty_slots (members f); proposed = None; learned = None }

-- the replica's vote counts where it is its first
abbrev pub vote_counted : ℕ → Vote → CoordState → CoordState
vote_counted r vote coord = record coord { votes = filled coord.votes r vote }

-- an accept counts once for each replica
abbrev pub accept_counted : ℕ → CoordState → CoordState
accept_counted r coord = record coord { accepts = filled coord.accepts r true }

-- a coordinator that has proposed
abbrev pub coord_proposed : Outcome → CoordState → CoordState
coord_proposed outcome coord = record coord { proposed = Some outcome }

-- where something is taught, the first outcome stays learned
abbrev pub coord_taught : Option Outcome → CoordState → CoordState
coord_taught outcome coord = record coord { learned = option_or coord.learned outcome }

-- the vote refuses
abbrev pub is_abort_vote : Vote → Bool
is_abort_vote vote = not (is_ok_vote vote)

-- every vote passes
abbrev pub any_vote : Vote → Bool
any_vote vote = true

-- the abort by the conflict that the lowest-numbered refusing replica names; there is one wherever this is used
abbrev pub first_refusal : List (Option Vote) → Outcome
first_refusal (Some (VoteAbort conflict) ∷ votes) = Abort (ByConflict conflict)
first_refusal (Some VoteOk ∷ votes) = first_refusal votes
first_refusal (None ∷ votes) = first_refusal votes
first_refusal [] = Abort (ByTakeover 0)

-- a fast quorum of equal votes decides; fewer votes than a majority are short; else a majority of Ok votes is for a commit
abbrev pub by_votes : ℕ → List (Option Vote) → Ruling
by_votes f votes =
    let oks = count_slots (members f) is_ok_vote votes in
    let aborts = count_slots (members f) is_abort_vote votes in
    let all = count_slots (members f) any_vote votes in
    if nat_le (fast_of f) oks then Fast Commit
    else if nat_le (fast_of f) aborts then Fast (first_refusal votes)
    else if nat_lt all (majority_of f) then Short all
    else if nat_le (majority_of f) oks then Propose Commit
    else Propose (first_refusal votes)

-- how many replicas accepted
abbrev pub count_accepts : ℕ → List (Option Bool) → ℕ
count_accepts f accepts = count_slots (members f) (λ filled. filled) accepts

-- a majority of accepts settles a proposal
abbrev pub by_accepts : ℕ → Outcome → List (Option Bool) → Ruling
by_accepts f outcome accepts =
    if nat_le (majority_of f) (count_accepts f accepts) then Learned outcome else Unaccepted (count_accepts f accepts)

-- after a proposal its accepts are counted, and else the votes
abbrev pub unless_proposed : ℕ → CoordState → Option Outcome → Ruling
unless_proposed f coord (Some outcome) = by_accepts f outcome coord.accepts
unless_proposed f coord None = by_votes f coord.votes

-- an outcome that was learned is the ruling
abbrev pub unless_learned : ℕ → CoordState → Option Outcome → Ruling
unless_learned f coord (Some outcome) = Learned outcome
unless_learned f coord None = unless_proposed f coord coord.proposed

-- first what was learned, then the accepts of a proposal, and else the votes
abbrev pub ruling : ℕ → CoordState → Ruling
ruling f coord = unless_learned f coord coord.learned
