-- Two outcomes that are decided, each in whatever way, agree.
use Rattle.std.proofs.Common.{◌≡◌, ◌⊎◌, ◌≤◌, ℕ, suc, true, refl, arith, inl, inr, sym, List, Option, subst}
use Rattle.std.proofs.lemmas.Bool.{cases_order}
use Rattle.mk_txn.specs.declared.TxnId.{TxnId}
use Rattle.mk_txn.specs.declared.Vote.{Vote}
use Rattle.mk_txn.specs.declared.Vote.TheVariants.{Ok as VoteOk}
use Rattle.mk_txn.specs.declared.Outcome.{Outcome}
use Rattle.mk_txn.specs.declared.Outcome.TheVariants.{Commit, Abort}
use Rattle.mk_txn.specs.Outcomes.{is_ok_vote, agrees}
use Rattle.mk_words.specs.declared.Msg.{Msg}
use Rattle.mk_words.specs.declared.Body.TheVariants.{Voted}
use Rattle.mk_quorum.specs.Slots.{slot, passes, count_slots}
use Rattle.mk_quorum.specs.Sizes.{members, fast_of}
use Rattle.mk_quorum.proofs.Slots.{passes-some}
use Rattle.mk_words.specs.Rulings.{is_abort_vote}
use Rattle.mk_model.specs.Sending.{Sent, Proposed}
use Rattle.mk_column_laws.specs.Messages.{VotesIn}
use Rattle.mk_model.specs.Deciding.{IsChosen}
use Rattle.mk_column_laws.proofs.Orderly.{IsOrderly}
use Rattle.mk_column_laws.proofs.Choices.{chosen_kept, fast_kept, FastCounts, share, ok_vote-is, abort_vote-is}

pub agrees-itself : (o : Outcome) → agrees o o ≡ true
agrees-itself Commit = refl
agrees-itself (Abort c) = refl

pub agrees-back : (o p : Outcome) → agrees o p ≡ true → agrees p o ≡ true
agrees-back Commit Commit e = refl
agrees-back (Abort c) (Abort d) e = refl
agrees-back Commit (Abort d) e = e
agrees-back (Abort c) Commit e = e

-- a fast decision, which nothing that view 0 proposed contradicts
pub record IsFast (f : ℕ) (link : List Msg) (id : TxnId) (o : Outcome) : Type 0 where
  pub votes : List (Option Vote)
  pub voted : VotesIn link id votes
  pub counts : FastCounts f votes o
  pub first : (q : Outcome) → Proposed link id 0 q → agrees q o ≡ true

abbrev pub Decided : ℕ → List Msg → TxnId → Outcome → Type 0
Decided f link id o = ((v : ℕ) × IsChosen f link id v o) ⊎ IsFast f link id o

module _ (f : ℕ) (link : List Msg) (ok : IsOrderly f link) (id : TxnId) where
  chosen_agree : (v w : ℕ) (o p : Outcome) → IsChosen f link id v o → IsChosen f link id w p → o ≡ p
  chosen_agree v w o p c d =
      elim (cases_order v w) [
        | inl e ↦ ok.one_proposal id w o p (subst (λ (n : ℕ). Proposed link id n o) e c.0) d.0
        | inr (inl lt) ↦ sym (chosen_kept f link ok id (suc w) v w o p (omega arith) lt c d.0)
        | inr (inr lt) ↦ chosen_kept f link ok id (suc v) w v p o (omega arith) lt d c.0
      ]

  fast_apart : (votes others : List (Option Vote)) → VotesIn link id votes → VotesIn link id others →
      fast_of f ≤ count_slots (members f) is_ok_vote votes → fast_of f ≤ count_slots (members f) is_abort_vote others → ⊥
  fast_apart votes others voted voted' h k =
      let m = share f (λ r. passes is_ok_vote (slot votes r)) (λ r. passes is_abort_vote (slot others r)) (omega (arith, h, k)) in
      let v = passes-some is_ok_vote (slot votes m.0) m.2 in
      let w = passes-some is_abort_vote (slot others m.0) m.3 in
      abort_vote-is w.0 w.2 (ok.one_vote id m.0 w.0 VoteOk (voted' m.0 w.0 w.1)
      (subst (λ (x : Vote). Sent link id m.0 0 (Voted x)) (ok_vote-is v.0 v.2) (voted m.0 v.0 v.1)))

  fast_agree : (o p : Outcome) (votes others : List (Option Vote)) → VotesIn link id votes → VotesIn link id others →
      FastCounts f votes o → FastCounts f others p → agrees o p ≡ true
  fast_agree o p votes others voted voted' (inl a) (inl b) = grind (arith, a.1, b.1)
  fast_agree o p votes others voted voted' (inr a) (inr b) = grind (arith, a.1.1, b.1.1)
  fast_agree o p votes others voted voted' (inl a) (inr b) = absurd (fast_apart votes others voted voted' a.0 b.0)
  fast_agree o p votes others voted voted' (inr a) (inl b) = absurd (fast_apart others votes voted' voted b.0 a.0)

  pub decided_agree : (o p : Outcome) → Decided f link id o → Decided f link id p → agrees o p ≡ true
  decided_agree o p (inl c) (inl d) = subst (λ (x : Outcome). agrees o x ≡ true) (chosen_agree c.0 d.0 o p c.1 d.1) (agrees-itself o)
  decided_agree o p (inl c) (inr d) = fast_kept f link ok id (suc c.0) c.0 p o d.votes (omega arith) d.voted d.counts d.first c.1.0
  decided_agree o p (inr c) (inl d) = agrees-back p o (fast_kept f link ok id (suc d.0) d.0 o p c.votes (omega arith) c.voted c.counts c.first d.1.0)
  decided_agree o p (inr c) (inr d) = fast_agree o p c.votes d.votes c.voted d.voted c.counts d.counts
