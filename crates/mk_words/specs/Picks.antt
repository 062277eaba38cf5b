-- What a takeover makes of what the replicas told it.
use Rattle.std.specs.Prelude.{ℕ, Bool, true, List, map, take, Option, Some, None, nat_le, nat_lt, not, ◌&&◌, is_none, if◌then◌else◌}
use Rattle.std.specs.Option.{option_or}
use Rattle.mk_txn.specs.declared.Cause.TheVariants.{Takeover as ByTakeover}
use Rattle.mk_txn.specs.declared.Accepted.{Accepted}
use Rattle.mk_txn.specs.declared.Outcome.{Outcome}
use Rattle.mk_txn.specs.declared.Outcome.TheVariants.{Commit, Abort}
use Rattle.mk_txn.specs.Outcomes.{is_ok_vote, highest}
use Rattle.mk_words.specs.declared.Told.{Told}
use Rattle.mk_quorum.specs.Sizes.{members, majority_of, block_of}
use Rattle.mk_quorum.specs.Slots.{count_slots, filled, empty_slots, passes}
use Rattle.mk_words.specs.Rulings.{count_accepts}
use Rattle.mk_words.specs.declared.Pick.{Pick}
use Rattle.mk_words.specs.declared.Pick.TheVariants.{Known, Learned, Propose, Short, Unaccepted, Unclear}

-- its view, the first reply of each replica, the replicas that accepted, the proposal, and the outcome that it was taught first
pub record TakeoverState : Type 0 where
  pub view : ℕ
  pub told : List (Option Told)
  pub accepts : List (Option Bool)
  pub proposed : Option Outcome
  pub learned : Option Outcome

-- a takeover among the replicas for this many faults
pub record SizedTakeover : Type 0 where
  pub faults : ℕ
  pub state : TakeoverState

-- what is seen of seven slots of each kind: those of the replicas that there are
abbrev pub seen_takeover : ℕ → ℕ → List (Option Told) → List (Option Bool) → Option Outcome → Option Outcome → SizedTakeover
seen_takeover f view told accepts proposed learned =
    record { faults = f; state = record { view = view; told = take (members f) told; accepts = take (members f) accepts; proposed = proposed; learned = learned } }

-- a takeover that has taken nothing
abbrev pub new_takeover : ℕ → ℕ → TakeoverState
new_takeover f view =
    record { view = view; told = empty_slots (members f); accepts = empty_slots (members f); proposed = None; learned = None }

-- where something is taught, the first outcome stays
abbrev pub takeover_taught : Option Outcome → TakeoverState → TakeoverState
takeover_taught outcome takeover = record takeover { learned = option_or takeover.learned outcome }

-- a reply counts where it is its replica's first; a final outcome in it teaches in any case
abbrev pub reply_counted : ℕ → Told → TakeoverState → TakeoverState
reply_counted r told takeover =
    record takeover { told = filled takeover.told r told; learned = option_or takeover.learned told.last }

-- an accept counts once for each replica
abbrev pub accept_counted : ℕ → TakeoverState → TakeoverState
accept_counted r takeover = record takeover { accepts = filled takeover.accepts r true }

-- a takeover that has proposed
abbrev pub takeover_proposed : Outcome → TakeoverState → TakeoverState
takeover_proposed outcome takeover = record takeover { proposed = Some outcome }

-- a reply without a final outcome promises the view
abbrev pub is_promise : Told → Bool
is_promise told = is_none told.last

-- a promise with an Ok vote
abbrev pub is_ok_promise : Told → Bool
is_ok_promise told = is_promise told && passes is_ok_vote told.vote

-- a promise without an Ok vote
abbrev pub is_other_promise : Told → Bool
is_other_promise told = is_promise told && not (passes is_ok_vote told.vote)

-- the outcome that a reply's replica had accepted
abbrev pub accepted_in : Option Told → Option Accepted
accepted_in (Some told) = told.accepted
accepted_in None = None

-- a majority of Ok votes is for a commit, and a block without one for an abort
abbrev pub by_counts : ℕ → TakeoverState → Pick
by_counts f takeover =
    let oks = count_slots (members f) is_ok_promise takeover.told in
    let others = count_slots (members f) is_other_promise takeover.told in
    if nat_le (majority_of f) oks then Propose Commit
    else if nat_le (block_of f) others then Propose (Abort (ByTakeover takeover.view))
    else Unclear oks others

-- an outcome that was accepted in an earlier view is proposed again
abbrev pub by_accepted : ℕ → TakeoverState → Option Accepted → Pick
by_accepted f takeover (Some accepted) = Propose accepted.outcome
by_accepted f takeover None = by_counts f takeover

-- fewer promises than a majority are short
abbrev pub by_promises : ℕ → TakeoverState → Pick
by_promises f takeover =
    let promises = count_slots (members f) is_promise takeover.told in
    if nat_lt promises (majority_of f) then Short promises else by_accepted f takeover (highest (map accepted_in takeover.told))

-- a majority of accepts settles a proposal
abbrev pub by_accepts : ℕ → Outcome → List (Option Bool) → Pick
by_accepts f outcome accepts =
    if nat_le (majority_of f) (count_accepts f accepts) then Learned outcome else Unaccepted (count_accepts f accepts)

-- after a proposal its accepts are counted, and else the promises
abbrev pub unless_proposed : ℕ → TakeoverState → Option Outcome → Pick
unless_proposed f takeover (Some outcome) = by_accepts f outcome takeover.accepts
unless_proposed f takeover None = by_promises f takeover

-- an outcome that was taught is the pick
abbrev pub unless_learned : ℕ → TakeoverState → Option Outcome → Pick
unless_learned f takeover (Some outcome) = Known outcome
unless_learned f takeover None = unless_proposed f takeover takeover.proposed

-- first what was taught, then the accepts of a proposal, and else the promises
abbrev pub pick : ℕ → TakeoverState → Pick
pick f takeover = unless_learned f takeover takeover.learned
