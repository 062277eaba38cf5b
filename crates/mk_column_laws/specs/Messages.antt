-- What is told by the messages that were sent, whatever their order.
use Rattle.std.specs.Prelude.{◌≡◌, ℕ, ◌<◌, List, [], Option, Some, None}
use Rattle.mk_txn.specs.declared.TxnId.{TxnId}
use Rattle.mk_txn.specs.declared.Vote.{Vote}
use Rattle.mk_txn.specs.declared.Accepted.{Accepted}
use Rattle.mk_words.specs.declared.Told.{Told}
use Rattle.mk_words.specs.declared.Msg.{Msg}
use Rattle.mk_words.specs.declared.Body.TheVariants.{Voted, Told as ToldBody}
use Rattle.mk_quorum.specs.Slots.{slot}
use Rattle.mk_words.specs.Picks.{TakeoverState}
use Rattle.mk_model.specs.Sending.{Sent}

-- each of these votes was sent by its replica
abbrev pub VotesIn : List Msg → TxnId → List (Option Vote) → Type 0
VotesIn link id votes = (r : ℕ) (vote : Vote) → slot votes r ≡ Some vote → Sent link id r 0 (Voted vote)

-- the reply promises the view, and tells of no accept in it or above
pub record IsReply (link : List Msg) (id : TxnId) (view replica : ℕ) (told : Told) : Type 0 where
  pub sent : Sent link id replica view (ToldBody told)
  pub not_final : told.last ≡ None
  pub earlier : (a : Accepted) → told.accepted ≡ Some a → a.view < view

-- each of these replies does
abbrev pub RepliesIn : List Msg → TxnId → ℕ → List (Option Told) → Type 0
RepliesIn link id view replies = (r : ℕ) (told : Told) → slot replies r ≡ Some told → IsReply link id view r told

-- a takeover that has only these replies
abbrev pub taking_over : ℕ → List (Option Told) → TakeoverState
taking_over view replies = record { view = view; told = replies; accepts = []; proposed = None; learned = None }
