-- What a run shows after each of its rounds.
use Rattle.std.specs.Prelude.{ℕ, Bool, false, not, List, map, filter, take, nat_le}
use Rattle.mk_txn.specs.declared.Stamp.{Stamp}
use Rattle.mk_txn.specs.declared.TxnId.{TxnId}
use Rattle.mk_txn.specs.Stamps.{is_before}
use Rattle.mk_txn.specs.Transactions.{Transaction}
use Rattle.mk_model.specs.OneCopy.{Copy, one_copy}
use Rattle.mk_history.specs.Histories.{History}
use Rattle.mk_history.specs.Learning.{Place, learned, commits}
use Rattle.mk_history.specs.Learning.Place.{InLog, InGlobals}
use Rattle.mk_history.specs.Wholes.{WholeState, first_state, state_through, column_of}
use Rattle.mk_feed_words.specs.Feed.{least_over}
use Rattle.mk_feed_words.specs.MarkStamps.{mark_of_column}

-- learned at an Enter, in one of the first rounds
abbrev pub is_entered_by : ℕ → Place → Bool
is_entered_by rounds (InGlobals round entry) = nat_le round rounds
is_entered_by rounds (InLog round column entry) = false

-- the attempts whose outcomes were learned at the Enters of the first rounds
abbrev pub settled_by : History → ℕ → List TxnId
settled_by run rounds = map (λ l. l.id) (filter (λ l. is_entered_by rounds l.place) (learned run))

-- the state of the whole after the first rounds
abbrev pub state_after : History → ℕ → WholeState
state_after run rounds = state_through run (first_state run) (take rounds run.rounds)

-- the mark stamp of a column after the first rounds, with their global lines
abbrev pub mark_at : History → ℕ → ℕ → Stamp
mark_at run rounds column = mark_of_column (settled_by run rounds) (column_of (state_after run rounds) column)

-- the watermark after the first rounds
abbrev pub watermark_after : History → ℕ → Stamp
watermark_after run rounds = least_over (mark_at run rounds) run.columns

-- the commits of a run with stamps at or below this one
abbrev pub commits_upto : Stamp → History → List Transaction
commits_upto stamp run = filter (λ txn. not (is_before stamp txn.stamp)) (commits run)

-- what is shown after some rounds: a watermark, and the one copy of the run's commits up to it
pub record ShownState : Type 0 where
  pub watermark : Stamp
  pub picture : Copy

-- what is shown after the first rounds
abbrev pub shown : History → ℕ → ShownState
shown run rounds =
    let stamp = watermark_after run rounds in
    record { watermark = stamp; picture = one_copy (commits_upto stamp run) }
