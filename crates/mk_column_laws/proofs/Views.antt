-- From what holds at a moment: the messages are orderly, and commits have their Ok votes.
use Rattle.std.proofs.Common.{◌≡◌, ◌<◌, ◌≤◌, ◌∙◌, ℕ, zero, suc, Bool, true, false, refl, arith, inl, inr, sym, ap, subst, List, Option, Some, None, cond}
use Rattle.std.specs.Prelude.{nat_le, nat_lt}
use Rattle.std.proofs.lemmas.Bool.Decides.{nat_tests}
use Rattle.std.proofs.lemmas.Option.{same_Some}
use Rattle.mk_txn.specs.declared.TxnId.{TxnId}
use Rattle.mk_txn.specs.declared.Vote.{Vote}
use Rattle.mk_txn.specs.declared.Vote.TheVariants.{Ok as VoteOk}
use Rattle.mk_txn.specs.declared.Outcome.{Outcome}
use Rattle.mk_txn.specs.declared.Outcome.TheVariants.{Commit, Abort}
use Rattle.mk_txn.specs.Outcomes.{is_ok_vote, is_commit}
use Rattle.mk_words.specs.declared.Told.{Told}
use Rattle.mk_words.specs.declared.Body.TheVariants.{Voted, Accept, Told as ToldBody}
use Rattle.mk_quorum.specs.Sizes.{members, majority_of, fast_of}
use Rattle.mk_quorum.specs.Slots.{slot, passes, count_slots}
use Rattle.mk_quorum.proofs.Counting.{count_below-weaker}
use Rattle.mk_quorum.proofs.Slots.{passes-some}
use Rattle.mk_words.specs.declared.Ruling.TheVariants.{Fast, Propose, Short}
use Rattle.mk_words.specs.Rulings.{by_votes, is_abort_vote, any_vote, first_refusal}
use Rattle.mk_words.specs.declared.Pick.TheVariants.{Propose as PickPropose}
use Rattle.mk_words.specs.Picks.{by_promises, is_ok_promise}
use Rattle.mk_model.specs.ColumnState.{AttemptState, TakeoverOf}
use Rattle.mk_column_laws.specs.Moments.{Moment, PastEntry, Taught, past_vote}
use Rattle.mk_model.specs.Sending.{Sent, Proposed, msg_of}
use Rattle.mk_column_laws.specs.Messages.{VotesIn, RepliesIn, taking_over}
use Rattle.mk_model.specs.Deciding.{IsDecided}
use Rattle.mk_column_laws.specs.Moves.{HasProposed}
use Rattle.mk_column_laws.specs.Facts.{Facts, ToldFacts, IsSupported, is_ok_by}
use Rattle.mk_column_laws.proofs.Orderly.{IsOrderly}
use Rattle.mk_column_laws.proofs.Choices.{by_promises-propose, by_votes-fast, first_refusal-abort, highest_proposed, ok_vote-is, ok_promise-votes}

by_votes-commit : (f : ℕ) (votes : List (Option Vote)) (o : Outcome) → by_votes f votes ≡ Propose o → is_commit o ≡ true → majority_of f ≤ count_slots (members f) is_ok_vote votes
by_votes-commit f votes o e c = by (nat_le (fast_of f) oks) (nat_le (fast_of f) aborts) (nat_lt all (majority_of f)) (nat_le (majority_of f) oks) refl e
  where
    oks : ℕ
    oks = count_slots (members f) is_ok_vote votes

    aborts : ℕ
    aborts = count_slots (members f) is_abort_vote votes

    all : ℕ
    all = count_slots (members f) any_vote votes

    not_refused : Propose (first_refusal votes) ≡ Propose o → ⊥
    not_refused k =
        let r = first_refusal-abort votes in
        let same : first_refusal votes ≡ o = cc k in
        let t : is_commit (Abort r.0) ≡ true = subst (λ (x : Outcome). is_commit x ≡ true) (sym same ∙ r.1) c in
        cc t

    by : (a b s d : Bool) → nat_le (majority_of f) oks ≡ d → cond a (Fast Commit) (cond b (Fast (first_refusal votes)) (cond s (Short all) (cond d (Propose Commit) (Propose (first_refusal votes))))) ≡ Propose o → majority_of f ≤ oks
    by true b s d q k = absurd (cc k)
    by false true s d q k = absurd (cc k)
    by false false true d q k = absurd (cc k)
    by false false false true q k = grind (arith, nat_tests, q)
    by false false false false q k = absurd (not_refused k)

module _ (taught : Taught) (m : Moment) (h : Facts taught m) where
  pub voted_says : (id : TxnId) (r : ℕ) (v : Vote) → Sent m.column.link id r 0 (Voted v) → (entry : PastEntry) × (m.past.entries r id ≡ Some entry) × ((i : ℕ) × (entry.vote ≡ Some (v, i)))
  voted_says id r v s = (h.messages (msg_of s.0 id r 0 (Voted v)) s.1).1

  pub proposed_says : (id : TxnId) (v : ℕ) (o : Outcome) → Proposed m.column.link id v o → HasProposed m id v o
  proposed_says id v o p = (h.messages (msg_of p.1.0 id p.0 v (Accept o)) p.1.1).1

  pub told_says : (id : TxnId) (r v : ℕ) (t : Told) → Sent m.column.link id r v (ToldBody t) → ToldFacts m r id v t
  told_says id r v t s = (h.messages (msg_of s.0 id r v (ToldBody t)) s.1).1

  same_vote : (x y : PastEntry) (a b : Vote) (i j : ℕ) → x ≡ y → x.vote ≡ Some (a, i) → y.vote ≡ Some (b, j) → a ≡ b
  same_vote x y a b i j e p q = let k : (a, i) ≡ (b, j) = same_Some (a, i) (b, j) (sym p ∙ ap (λ (z : PastEntry). z.vote) e ∙ q) in ap (λ z. z.0) k

  one_vote : (id : TxnId) (r : ℕ) (a b : Vote) → Sent m.column.link id r 0 (Voted a) → Sent m.column.link id r 0 (Voted b) → a ≡ b
  one_vote id r a b s t =
      let x = voted_says id r a s in
      let y = voted_says id r b t in
      same_vote x.0 y.0 a b x.2.0 y.2.0 (same_Some x.0 y.0 (sym x.1 ∙ y.1)) x.2.1 y.2.1

  pub one_proposal : (id : TxnId) (v : ℕ) (a b : Outcome) → HasProposed m id v a → HasProposed m id v b → a ≡ b
  one_proposal id v a b (inl p) (inl q) =
      let same : p.1.0 ≡ q.1.0 = same_Some p.1.0 q.1.0 (sym p.1.1 ∙ q.1.1) in
      same_Some a b (sym p.1.2 ∙ ap (λ (x : AttemptState). x.coord.proposed) same ∙ q.1.2)
  one_proposal id v a b (inr p) (inr q) =
      let same : p.1.0 ≡ q.1.0 = same_Some p.1.0 q.1.0 (sym p.1.1 ∙ q.1.1) in
      same_Some a b (sym p.1.2 ∙ ap (λ (x : TakeoverOf). x.state.proposed) same ∙ q.1.2)
  one_proposal id v a b (inl p) (inr q) = absurd (omega (arith, p.0, q.0))
  one_proposal id v a b (inr p) (inl q) = absurd (omega (arith, p.0, q.0))

  first_proposal : (id : TxnId) (o : Outcome) → HasProposed m id 0 o → (votes : List (Option Vote)) × VotesIn m.column.link id votes × (by_votes m.round.faults votes ≡ Propose o)
  first_proposal id o (inl p) = ((h.attempts id p.1.0 p.1.1).proposed o p.1.2).1
  first_proposal id o (inr p) = absurd (omega (arith, p.0))

  later_proposal : (id : TxnId) (v : ℕ) (o : Outcome) → 0 < v → HasProposed m id v o →
      (replies : List (Option Told)) × RepliesIn m.column.link id v replies × (by_promises m.round.faults (taking_over v replies) ≡ PickPropose o)
  later_proposal id v o pos (inl p) = absurd (omega (arith, pos, p.0))
  later_proposal id v o pos (inr p) = ((h.takeovers id v p.1.0 p.1.1).proposed o p.1.2).1

  told_ok : (id : TxnId) (r v : ℕ) (t : Told) (b : Vote) → ToldFacts m r id v t → t.last ≡ None → (w : Option Vote) → t.vote ≡ w → passes is_ok_vote w ≡ true → Sent m.column.link id r 0 (Voted b) → b ≡ VoteOk
  told_ok id r v t b f n None is e s = absurd (cc e)
  told_ok id r v t b f n (Some w) is e s =
      let x = voted_says id r b s in
      let y = (f.promise n).voted w is in
      same_vote x.0 f.entry b w x.2.0 y.0 (same_Some x.0 f.entry (sym x.1 ∙ f.found)) x.2.1 y.1 ∙ ok_vote-is w e

  told_other : (id : TxnId) (r v : ℕ) (t : Told) → ToldFacts m r id v t → t.last ≡ None → (w : Option Vote) → t.vote ≡ w → passes is_ok_vote w ≡ false → Sent m.column.link id r 0 (Voted VoteOk) → ⊥
  told_other id r v t f n None is e s =
      let x = voted_says id r VoteOk s in
      let z = (f.promise n).sealed is in
      let none : x.0.vote ≡ None = ap (λ (y : PastEntry). y.vote) (same_Some x.0 z.entry (sym x.1 ∙ z.found)) ∙ z.no_vote in
      let some = x.2.1 in
      cc (none, some)
  told_other id r v t f n (Some w) is e s =
      let x = voted_says id r VoteOk s in
      let y = (f.promise n).voted w is in
      let same = same_vote x.0 f.entry VoteOk w x.2.0 y.0 (same_Some x.0 f.entry (sym x.1 ∙ f.found)) x.2.1 y.1 in
      let k : is_ok_vote w ≡ true = subst (λ (z : Vote). is_ok_vote z ≡ true) same refl in
      cc (k, e)

  pub orderly : IsOrderly m.round.faults m.column.link
  orderly =
      record {
        one_vote = one_vote;
        one_proposal = λ id v a b p q. one_proposal id v a b (proposed_says id v a p) (proposed_says id v b q);
        first_proposal = λ id o p. first_proposal id o (proposed_says id 0 o p);
        later_proposal = λ id v o pos p. later_proposal id v o pos (proposed_says id v o p);
        told_accepted = λ id r v t a s e. (told_says id r v t s).accepted a e;
        accepted_told = λ id r v w t s u n lt. ((told_says id r v t u).promise n).earlier w lt s;
        told_ok = λ id r v t b s n e w. told_ok id r v t b (told_says id r v t s) n t.vote refl e w;
        told_other = λ id r v t s n e w. told_other id r v t (told_says id r v t s) n t.vote refl e w;
      }

  -- ---- support

  ok_by_now : (r : ℕ) (id : TxnId) (entry : PastEntry) (i : ℕ) → m.past.entries r id ≡ Some entry → entry.vote ≡ Some (VoteOk, i) → is_ok_by m.past.now (past_vote (m.past.entries r id)) ≡ true
  ok_by_now r id entry i found vote =
      let low = (h.entries r id entry found).voted VoteOk i vote in
      let is : past_vote (m.past.entries r id) ≡ Some (VoteOk, i) = ap past_vote found ∙ vote in
      let test : is_ok_by m.past.now (Some (VoteOk, i)) ≡ true = grind (arith, nat_tests, low) in
      subst (λ (o : Option (Vote × ℕ)). is_ok_by m.past.now o ≡ true) (sym is) test

  votes_support : (id : TxnId) (votes : List (Option Vote)) → VotesIn m.column.link id votes → majority_of m.round.faults ≤ count_slots (members m.round.faults) is_ok_vote votes → IsSupported m id m.past.now
  votes_support id votes voted enough =
      omega (
        arith,
        enough,
        count_below-weaker (members m.round.faults) (λ r. passes is_ok_vote (slot votes r)) (λ r. is_ok_by m.past.now (past_vote (m.past.entries r id)))
            (λ r lt e. let v = passes-some is_ok_vote (slot votes r) e in
            let x = voted_says id r VoteOk (subst (λ (y : Vote). Sent m.column.link id r 0 (Voted y)) (ok_vote-is v.0 v.2) (voted r v.0 v.1)) in
            ok_by_now r id x.0 x.2.0 x.1 x.2.1),
      )

  replies_support : (id : TxnId) (v : ℕ) (replies : List (Option Told)) → RepliesIn m.column.link id v replies → majority_of m.round.faults ≤ count_slots (members m.round.faults) is_ok_promise replies →
      IsSupported m id m.past.now
  replies_support id v replies replied enough =
      omega (
        arith,
        enough,
        count_below-weaker (members m.round.faults) (λ r. passes is_ok_promise (slot replies r)) (λ r. is_ok_by m.past.now (past_vote (m.past.entries r id)))
            (λ r lt e. let t = passes-some is_ok_promise (slot replies r) e in
            let reply = replied r t.0 t.1 in
            let f = told_says id r v t.0 reply.sent in
            let w = passes-some is_ok_vote t.0.vote (ok_promise-votes t.0 t.2) in
            let x = (f.promise reply.not_final).voted w.0 w.1 in
            ok_by_now r id f.entry x.0 f.found (x.1 ∙ ap (λ (y : Vote). Some (y, x.0)) (ok_vote-is w.0 w.2))),
      )

  pub proposal_supported : (bound v : ℕ) (id : TxnId) (o : Outcome) → v < bound → Proposed m.column.link id v o → is_commit o ≡ true → IsSupported m id m.past.now
  proposal_supported zero v id o l p c = absurd (omega (arith, l))
  proposal_supported (suc bound) zero id o l p c =
      let just = orderly.first_proposal id o p in
      votes_support id just.0 just.1 (by_votes-commit m.round.faults just.0 o just.2 c)
  proposal_supported (suc bound) (suc v) id o l p c =
      let just = orderly.later_proposal id (suc v) o (omega arith) p in
      let why = by_promises-propose m.round.faults (suc v) just.0 o just.2 in
      elim why.1 [
        | inl a ↦
            let earlier = highest_proposed m.round.faults m.column.link orderly id (suc v) just.0 just.1 a.0 a.1 in
            proposal_supported bound a.0.view id a.0.outcome (omega (arith, l, earlier.1)) earlier.0 (subst (λ (x : Outcome). is_commit x ≡ true) (sym a.2) c)
        | inr n ↦ elim n.1 [
          | inl k ↦ replies_support id (suc v) just.0 just.1 k.0
          | inr k ↦ absurd (let t : is_commit (Abort k.1.0) ≡ true = subst (λ (x : Outcome). is_commit x ≡ true) k.1.1 c in cc t)
        ]
      ]

  pub fast_supported : (id : TxnId) (votes : List (Option Vote)) (o : Outcome) → VotesIn m.column.link id votes → by_votes m.round.faults votes ≡ Fast o → is_commit o ≡ true → IsSupported m id m.past.now
  fast_supported id votes o voted ruled c = elim (by_votes-fast m.round.faults votes o ruled) [
    | inl k ↦ votes_support id votes voted (omega (arith, k.0))
    | inr k ↦ absurd (let t : is_commit (Abort k.1.0) ≡ true = subst (λ (x : Outcome). is_commit x ≡ true) k.1.1 c in cc t)
  ]

  pub decided_supported : (id : TxnId) (o : Outcome) → IsDecided m.round.faults m.column id o → is_commit o ≡ true → IsSupported m id m.past.now
  decided_supported id o (inl a) c = let k = h.fast id o a in fast_supported id k.votes o k.voted k.ruled c
  decided_supported id o (inr k) c = proposal_supported (suc k.0) k.0 id o (omega arith) k.1.0 c
