-- How an attempt stands that nobody learned.
use Rattle.std.specs.Prelude.{ℕ, List, [], ◌∷◌, Option, Some, None, if◌then◌else◌}
use Rattle.std.specs.Option.{option_or}
use Rattle.mk_txn.specs.declared.Outcome.{Outcome}
use Rattle.mk_txn.specs.declared.TxnId.{TxnId}
use Rattle.mk_txn.specs.Transactions.{same_id}
use Rattle.mk_quorum.specs.Sizes.{members}
use Rattle.mk_quorum.specs.Slots.{count_slots}
use Rattle.mk_words.specs.Rulings.{CoordState, any_vote, count_accepts}
use Rattle.mk_words.specs.declared.Pick.{Pick}
use Rattle.mk_words.specs.declared.Pick.TheVariants.{Unclear as PickUnclear}
use Rattle.mk_words.specs.Picks.{TakeoverState, is_promise, pick}
use Rattle.mk_model.specs.ColumnState.{ColumnState, AttemptState, TakeoverOf}
use Rattle.mk_history.specs.declared.Left.{Left}
use Rattle.mk_history.specs.declared.Left.TheVariants.{Unread, Short, Unaccepted, Stopped, Unclear}

-- unclear where the pick is, and else short of the promises that there are, also where they would suffice
abbrev pub left_by_pick : ℕ → TakeoverState → Pick → Left
left_by_pick f takeover (PickUnclear ok not_ok) = Unclear ok not_ok
left_by_pick f takeover _ = Short (count_slots (members f) is_promise takeover.told)

-- a takeover that proposed has too few accepts
abbrev pub left_in_takeover : ℕ → TakeoverState → Option Outcome → Left
left_in_takeover f takeover (Some outcome) = Unaccepted (count_accepts f takeover.accepts)
left_in_takeover f takeover None = left_by_pick f takeover (pick f takeover)

-- an own coordinator that proposed has too few accepts, and any other too few votes
abbrev pub left_in_coord : ℕ → CoordState → Option Outcome → Left
left_in_coord f coord (Some outcome) = Unaccepted (count_accepts f coord.accepts)
left_in_coord f coord None = Short (count_slots (members f) any_vote coord.votes)

-- the takeover of this attempt that was begun last
abbrev pub last_takeover : TxnId → List TakeoverOf → Option TakeoverOf
last_takeover id [] = None
last_takeover id (t ∷ rest) = option_or (last_takeover id rest) (if same_id t.id id then Some t else None)

-- the last takeover decides where there is one
abbrev pub left_unless_taken_over : ℕ → AttemptState → Option TakeoverOf → Left
left_unless_taken_over f attempt (Some takeover) = left_in_takeover f takeover.state takeover.state.proposed
left_unless_taken_over f attempt None =
    if attempt.stopped then Stopped else left_in_coord f attempt.coord attempt.coord.proposed

-- unread, else by the last takeover, else stopped, else by the own coordinator
abbrev pub left_of : ℕ → ColumnState → AttemptState → Left
left_of f column attempt =
    if attempt.unread then Unread else left_unless_taken_over f attempt (last_takeover attempt.id column.takeovers)
