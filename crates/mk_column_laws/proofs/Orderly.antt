-- What the messages of a column keep to: all that the laws of views need.
use Rattle.std.specs.Prelude.{◌≡◌, ℕ, ◌<◌, ◌≤◌, true, false, List, Option, Some, None}
use Rattle.mk_txn.specs.declared.TxnId.{TxnId}
use Rattle.mk_txn.specs.declared.Vote.{Vote}
use Rattle.mk_txn.specs.declared.Vote.TheVariants.{Ok as VoteOk}
use Rattle.mk_txn.specs.declared.Accepted.{Accepted}
use Rattle.mk_txn.specs.declared.Outcome.{Outcome}
use Rattle.mk_txn.specs.Outcomes.{is_ok_vote}
use Rattle.mk_words.specs.declared.Told.{Told}
use Rattle.mk_words.specs.declared.Msg.{Msg}
use Rattle.mk_words.specs.declared.Body.TheVariants.{Voted, Accepted as AcceptedBody, Told as ToldBody}
use Rattle.mk_quorum.specs.Slots.{passes}
use Rattle.mk_words.specs.declared.Ruling.TheVariants.{Propose}
use Rattle.mk_words.specs.Rulings.{by_votes}
use Rattle.mk_words.specs.declared.Pick.TheVariants.{Propose as PickPropose}
use Rattle.mk_words.specs.Picks.{by_promises}
use Rattle.mk_model.specs.Sending.{Sent, Proposed}
use Rattle.mk_column_laws.specs.Messages.{VotesIn, RepliesIn, taking_over}

pub record IsOrderly (f : ℕ) (link : List Msg) : Type 0 where
  pub one_vote : (id : TxnId) (r : ℕ) (a b : Vote) → Sent link id r 0 (Voted a) → Sent link id r 0 (Voted b) → a ≡ b
  pub one_proposal : (id : TxnId) (v : ℕ) (a b : Outcome) → Proposed link id v a → Proposed link id v b → a ≡ b
  pub first_proposal : (id : TxnId) (o : Outcome) → Proposed link id 0 o →
      (votes : List (Option Vote)) × VotesIn link id votes × (by_votes f votes ≡ Propose o)
  pub later_proposal : (id : TxnId) (v : ℕ) (o : Outcome) → 0 < v → Proposed link id v o →
      (replies : List (Option Told)) × RepliesIn link id v replies × (by_promises f (taking_over v replies) ≡ PickPropose o)
  pub told_accepted : (id : TxnId) (r v : ℕ) (t : Told) (a : Accepted) → Sent link id r v (ToldBody t) → t.accepted ≡ Some a → Proposed link id a.view a.outcome
  pub accepted_told : (id : TxnId) (r v w : ℕ) (t : Told) → Sent link id r w AcceptedBody → Sent link id r v (ToldBody t) → t.last ≡ None → w < v →
      (a : Accepted) × (t.accepted ≡ Some a) × (w ≤ a.view)
  pub told_ok : (id : TxnId) (r v : ℕ) (t : Told) (b : Vote) → Sent link id r v (ToldBody t) → t.last ≡ None → passes is_ok_vote t.vote ≡ true → Sent link id r 0 (Voted b) → b ≡ VoteOk
  pub told_other : (id : TxnId) (r v : ℕ) (t : Told) → Sent link id r v (ToldBody t) → t.last ≡ None → passes is_ok_vote t.vote ≡ false → Sent link id r 0 (Voted VoteOk) → ⊥
