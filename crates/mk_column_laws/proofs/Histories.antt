-- What is remembered of an entry after each of its changes.
use Rattle.std.proofs.Common.{◌≡◌, ◌∙◌, ℕ, refl, ap, inl, inr, Option, Some, None}
use Rattle.std.specs.Prelude.{option_map}
use Rattle.mk_txn.specs.declared.TxnId.{TxnId}
use Rattle.mk_txn.specs.declared.Outcome.{Outcome}
use Rattle.mk_txn.specs.Transactions.{Transaction}
use Rattle.mk_words.specs.Entries.{entry_of, with_promise, with_accepted, with_last}
use Rattle.mk_model.specs.ColumnState.{entries_at}
use Rattle.mk_column_laws.specs.Moments.{Moment, PastEntry, dated, past_vote, past_last, remembered, remembered_from}
use Rattle.mk_column_laws.specs.Moves.{past_or_opened, undated, entry_of_past, IsMatched}

dated-same : {X : Type 0} (now : ℕ) (o : Option (X × ℕ)) → dated now o (undated o) ≡ o
dated-same now (Some x) = refl
dated-same now None = refl

-- an entry that stays is remembered as it was
pub remembered-same : (now : ℕ) (past : PastEntry) → remembered_from now (Some past) (entry_of_past past) ≡ past
remembered-same now past =
    let v = dated-same now past.vote in
    let l = dated-same now past.last in
    λ i. record { txn = past.txn; view = past.view; vote = v i; accepted = past.accepted; last = l i }

pub remembered-stays : (now : ℕ) (old : Option PastEntry) → remembered now old (option_map entry_of_past old) ≡ old
remembered-stays now None = refl
remembered-stays now (Some past) = ap Some (remembered-same now past)

-- where the record matches, it does after a step that leaves it alone
pub matched-stays : (m : Moment) (r : ℕ) (id : TxnId) → IsMatched m r id → remembered m.past.now (m.past.entries r id) (entry_of id (entries_at m.column r)) ≡ m.past.entries r id
matched-stays m r id (inl e) = ap (remembered m.past.now (m.past.entries r id)) e ∙ remembered-stays m.past.now (m.past.entries r id)
matched-stays m r id (inr e) = ap (remembered m.past.now (m.past.entries r id)) e.0

-- an opened entry has no past of its own
there-vote : (txn : Transaction) (old : Option PastEntry) → past_vote old ≡ (past_or_opened txn old).vote
there-vote txn None = refl
there-vote txn (Some past) = refl

there-last : (txn : Transaction) (old : Option PastEntry) → past_last old ≡ (past_or_opened txn old).last
there-last txn None = refl
there-last txn (Some past) = refl

module _ (now : ℕ) (txn : Transaction) (old : Option PastEntry) where
  vote_kept : dated now (past_vote old) (undated (past_or_opened txn old).vote) ≡ (past_or_opened txn old).vote
  vote_kept = ap (λ o. dated now o (undated (past_or_opened txn old).vote)) (there-vote txn old) ∙ dated-same now (past_or_opened txn old).vote

  last_kept : dated now (past_last old) (undated (past_or_opened txn old).last) ≡ (past_or_opened txn old).last
  last_kept = ap (λ o. dated now o (undated (past_or_opened txn old).last)) (there-last txn old) ∙ dated-same now (past_or_opened txn old).last

  pub remembered-promise : (view : ℕ) →
      (let there = past_or_opened txn old in remembered_from now old (with_promise view (entry_of_past there)) ≡ record there { view = view })
  remembered-promise view =
      let there = past_or_opened txn old in
      λ i. record { txn = there.txn; view = view; vote = vote_kept i; accepted = there.accepted; last = last_kept i }

  pub remembered-accepted : (view : ℕ) (outcome : Outcome) →
      (let there = past_or_opened txn old in
      remembered_from now old (with_accepted view outcome (entry_of_past there)) ≡ record there { view = view; accepted = Some (record { view = view; outcome = outcome }) })
  remembered-accepted view outcome =
      let there = past_or_opened txn old in
      λ i. record { txn = there.txn; view = view; vote = vote_kept i; accepted = Some (record { view = view; outcome = outcome }); last = last_kept i }

  pub remembered-last : (outcome : Outcome) → (past_or_opened txn old).last ≡ None →
      (let there = past_or_opened txn old in remembered_from now old (with_last outcome (entry_of_past there)) ≡ record there { last = Some (outcome, now) })
  remembered-last outcome none =
      let there = past_or_opened txn old in
      let l : dated now (past_last old) (Some outcome) ≡ Some (outcome, now) = ap (λ o. dated now o (Some outcome)) (there-last txn old ∙ none) in
      λ i. record { txn = there.txn; view = there.view; vote = vote_kept i; accepted = there.accepted; last = l i }

pub undated-none : {X : Type 0} (o : Option (X × ℕ)) → undated o ≡ None → o ≡ None
undated-none None e = refl
undated-none (Some x) e = absurd (cc e)

pub undated-some : {X : Type 0} (o : Option (X × ℕ)) (x : X) → undated o ≡ Some x → (i : ℕ) × (o ≡ Some (x, i))
undated-some None x e = absurd (cc e)
undated-some {X} (Some y) x e = let same : y.0 ≡ x = cc e in (y.1, ap (λ (z : X). Some (z, y.1)) same)
