-- What is proposed and what is decided has the cause that it names.
use Rattle.std.proofs.Common.{◌≡◌, ◌⊎◌, ◌∙◌, ◌<◌, ◌≤◌, ℕ, zero, suc, Bool, true, false, refl, arith, inl, inr, sym, ap, subst, List, [], ◌∷◌, Option, Some, None, cond, map}
use Rattle.std.specs.Prelude.{nat_lt, nat_le}
use Rattle.std.proofs.lemmas.Bool.Decides.{nat_tests}
use Rattle.std.proofs.lemmas.Option.{same_Some}
use Rattle.mk_txn.specs.declared.TxnId.{TxnId}
use Rattle.mk_txn.specs.declared.Conflict.{Conflict}
use Rattle.mk_txn.specs.declared.Cause.TheVariants.{Conflict as ByConflict, Takeover as ByTakeover}
use Rattle.mk_txn.specs.declared.Vote.{Vote}
use Rattle.mk_txn.specs.declared.Vote.TheVariants.{Ok as VoteOk, Abort as VoteAbort}
use Rattle.mk_txn.specs.declared.Accepted.{Accepted}
use Rattle.mk_txn.specs.declared.Outcome.{Outcome}
use Rattle.mk_txn.specs.declared.Outcome.TheVariants.{Commit, Abort}
use Rattle.mk_txn.specs.Outcomes.{is_ok_vote, highest}
use Rattle.mk_words.specs.declared.Told.{Told}
use Rattle.mk_quorum.specs.Counts.{count_below}
use Rattle.mk_quorum.specs.Sizes.{members, majority_of, fast_of, block_of}
use Rattle.mk_quorum.specs.Slots.{slot, passes, count_slots}
use Rattle.mk_quorum.proofs.Meeting.{count_below-some}
use Rattle.mk_quorum.proofs.Slots.{passes-some}
use Rattle.mk_words.specs.declared.Ruling.{Ruling}
use Rattle.mk_words.specs.declared.Ruling.TheVariants.{Fast, Propose, Short}
use Rattle.mk_words.specs.Rulings.{by_votes, is_abort_vote, any_vote, first_refusal}
use Rattle.mk_words.specs.declared.Pick.TheVariants.{Propose as PickPropose, Short as PickShort, Unclear}
use Rattle.mk_words.specs.Picks.{by_promises, by_accepted, is_promise, is_ok_promise, is_other_promise, accepted_in}
use Rattle.mk_model.specs.Deciding.{IsDecided}
use Rattle.mk_model.specs.Sending.{Proposed}
use Rattle.mk_column_laws.specs.Moments.{Moment, Taught, StaysTaught, IsReached}
use Rattle.mk_column_laws.specs.Messages.{VotesIn, RepliesIn, taking_over}
use Rattle.mk_column_laws.specs.Moves.{HasProposed}
use Rattle.mk_column_laws.proofs.Choices.{ByAccepted, highest_proposed}
use Rattle.mk_column_laws.proofs.Views.{orderly}
use Rattle.mk_column_laws.proofs.Rounds.{reached_facts}
use Rattle.mk_column_laws.proofs.TheLaws.{own_grounds, fast_grounds, takeover_grounds, voted_true, accept_is_proposal}
use Rattle.mk_record_laws.specs.Causes.{IsCausedBy, CausesAreTrue}

-- ---- votes

-- where more pass one test than another, some number passes the one and fails the other
more_passes : (n : ℕ) (p q : ℕ → Bool) → count_below n p < count_below n q → (r : ℕ) × (q r ≡ true) × (p r ≡ false)
more_passes zero p q less = absurd (omega (arith, less))
more_passes (suc n) p q less = by (more_passes n p q) (p n) refl (q n) refl
  where
    by : (count_below n p < count_below n q → (r : ℕ) × (q r ≡ true) × (p r ≡ false)) → (a : Bool) → p n ≡ a → (b : Bool) → q n ≡ b → (r : ℕ) × (q r ≡ true) × (p r ≡ false)
    by below false e true k = (n, k, e)
    by below true e b k = below (grind (arith, less, e, k))
    by below false e false k = below (grind (arith, less, e, k))

-- a vote that is not Ok stands in a slot
abbrev HasRefusal : List (Option Vote) → Type 0
HasRefusal votes = (r : ℕ) × (v : Vote) × (slot votes r ≡ Some v) × (is_ok_vote v ≡ false)

refused_of_counts : (n : ℕ) (votes : List (Option Vote)) → count_slots n is_ok_vote votes < count_slots n any_vote votes → HasRefusal votes
refused_of_counts n votes less =
    let k = more_passes n (λ r. passes is_ok_vote (slot votes r)) (λ r. passes any_vote (slot votes r)) less in
    let v = passes-some any_vote (slot votes k.0) k.1 in
    (k.0, v.0, v.1, sym (ap (passes is_ok_vote) v.1) ∙ k.2)

refused_of_aborts : (n : ℕ) (votes : List (Option Vote)) → 0 < count_slots n is_abort_vote votes → HasRefusal votes
refused_of_aborts n votes some =
    let k = count_below-some n (λ r. passes is_abort_vote (slot votes r)) some in
    let v = passes-some is_abort_vote (slot votes k.0) k.2 in
    (k.0, v.0, v.1, grind (arith, v.2))

-- then the first of them is the ruling's cause
refusal_named : (votes : List (Option Vote)) (r : ℕ) (v : Vote) → slot votes r ≡ Some v → is_ok_vote v ≡ false →
    (conflict : Conflict) × (q : ℕ) × (slot votes q ≡ Some (VoteAbort conflict)) × (first_refusal votes ≡ Abort (ByConflict conflict))
refusal_named [] zero v e t = absurd (cc e)
refusal_named [] (suc r) v e t = absurd (cc e)
refusal_named (Some (VoteAbort conflict) ∷ votes) r v e t = (conflict, 0, refl, refl)
refusal_named (Some VoteOk ∷ votes) zero v e t = absurd (let ok : is_ok_vote v ≡ true = ap is_ok_vote (sym (same_Some VoteOk v e)) in cc (ok, t))
refusal_named (Some VoteOk ∷ votes) (suc r) v e t = let k = refusal_named votes r v e t in (k.0, suc k.1, k.2, k.3)
refusal_named (None ∷ votes) zero v e t = absurd (cc e)
refusal_named (None ∷ votes) (suc r) v e t = let k = refusal_named votes r v e t in (k.0, suc k.1, k.2, k.3)

-- the ruling decides or proposes
abbrev RulesTo : Outcome → Ruling → Type 0
RulesTo o r = (r ≡ Fast o) ⊎ (r ≡ Propose o)

-- by votes there is a commit, or the first refusal
abbrev ByVotesOnly : List (Option Vote) → Outcome → Type 0
ByVotesOnly votes o = (o ≡ Commit) ⊎ ((o ≡ first_refusal votes) × HasRefusal votes)

fast_one : (f n : ℕ) → fast_of f ≤ n → 0 < n
fast_one f n le = omega (arith, le)

votes_rule : (f : ℕ) (votes : List (Option Vote)) (o : Outcome) → RulesTo o (by_votes f votes) → ByVotesOnly votes o
votes_rule f votes o = by (nat_le (fast_of f) oks) (nat_le (fast_of f) aborts) refl (nat_lt all (majority_of f)) refl (nat_le (majority_of f) oks) refl
  where
    oks : ℕ
    oks = count_slots (members f) is_ok_vote votes

    aborts : ℕ
    aborts = count_slots (members f) is_abort_vote votes

    all : ℕ
    all = count_slots (members f) any_vote votes

    by : (a b : Bool) → nat_le (fast_of f) aborts ≡ b → (c : Bool) → nat_lt all (majority_of f) ≡ c → (d : Bool) → nat_le (majority_of f) oks ≡ d →
        RulesTo o (cond a (Fast Commit) (cond b (Fast (first_refusal votes)) (cond c (Short all) (cond d (Propose Commit) (Propose (first_refusal votes)))))) → ByVotesOnly votes o
    by true b q c s d t (inl e) = inl (cc e)
    by true b q c s d t (inr e) = absurd (cc e)
    by false true q c s d t (inl e) = inr (cc e, refused_of_aborts (members f) votes (fast_one f aborts (grind (arith, nat_tests, q))))
    by false true q c s d t (inr e) = absurd (cc e)
    by false false q true s d t (inl e) = absurd (cc e)
    by false false q true s d t (inr e) = absurd (cc e)
    by false false q false s true t (inl e) = absurd (cc e)
    by false false q false s true t (inr e) = inl (cc e)
    by false false q false s false t (inl e) = absurd (cc e)
    by false false q false s false t (inr e) = inr (cc e, refused_of_counts (members f) votes (grind (arith, nat_tests, s, t)))

-- ---- replies

promises_rule : (f view : ℕ) (replies : List (Option Told)) (o : Outcome) → by_promises f (taking_over view replies) ≡ PickPropose o →
    ByAccepted replies o ⊎ ((o ≡ Commit) ⊎ (o ≡ Abort (ByTakeover view)))
promises_rule f view replies o = by (nat_lt promises (majority_of f)) (highest (map accepted_in replies)) refl (nat_le (majority_of f) oks) (nat_le (block_of f) others)
  where
    promises : ℕ
    promises = count_slots (members f) is_promise replies

    oks : ℕ
    oks = count_slots (members f) is_ok_promise replies

    others : ℕ
    others = count_slots (members f) is_other_promise replies

    counted : (a b : Bool) → cond a (PickPropose Commit) (cond b (PickPropose (Abort (ByTakeover view))) (Unclear oks others)) ≡ PickPropose o → (o ≡ Commit) ⊎ (o ≡ Abort (ByTakeover view))
    counted true b e = inl (cc e)
    counted false true e = inr (cc e)
    counted false false e = absurd (cc e)

    accepted : (h : Option Accepted) → highest (map accepted_in replies) ≡ h → by_accepted f (taking_over view replies) h ≡ PickPropose o → ByAccepted replies o ⊎ ((o ≡ Commit) ⊎ (o ≡ Abort (ByTakeover view)))
    accepted (Some b) top e = inl (b, top, cc e)
    accepted None top e = inr (counted (nat_le (majority_of f) oks) (nat_le (block_of f) others) e)

    by : (a : Bool) (h : Option Accepted) → highest (map accepted_in replies) ≡ h → (c d : Bool) →
        cond a (PickShort promises) (by_accepted f (taking_over view replies) (highest (map accepted_in replies))) ≡ PickPropose o → ByAccepted replies o ⊎ ((o ≡ Commit) ⊎ (o ≡ Abort (ByTakeover view)))
    by true h top c d e = absurd (cc e)
    by false h top c d e = accepted (highest (map accepted_in replies)) refl e

-- ---- causes

module _ (taught : Taught) (stays : StaysTaught taught) (m : Moment) (reached : IsReached taught m) (id : TxnId) where
  by_votes_caused : (votes : List (Option Vote)) (o : Outcome) → VotesIn m.column.link id votes → ByVotesOnly votes o → IsCausedBy m id o
  by_votes_caused votes o voted (inl e) = subst (IsCausedBy m id) (sym e) tt
  by_votes_caused votes o voted (inr k) =
      let refused = k.1 in
      let c = refusal_named votes refused.0 refused.1 refused.2 refused.3 in
      let v = voted_true taught stays m reached id c.1 0 (VoteAbort c.0) (voted c.1 (VoteAbort c.0) c.2) in
      subst (IsCausedBy m id) (sym (k.0 ∙ c.3)) (c.1, v.0, v.2.0, v.1, v.2.1)

  has_caused : (view : ℕ) → 1 ≤ view → HasProposed m id view (Abort (ByTakeover view)) → IsCausedBy m id (Abort (ByTakeover view))
  has_caused view one (inl k) = absurd (omega (arith, one, k.0))
  has_caused view one (inr k) = k.1

  proposed_caused : (bound view : ℕ) (o : Outcome) → view < bound → Proposed m.column.link id view o → IsCausedBy m id o
  proposed_caused zero view o less p = absurd (omega (arith, less))
  proposed_caused (suc bound) zero o less p =
      let g = own_grounds taught stays m reached id o p in
      by_votes_caused g.0 o g.1 (votes_rule m.round.faults g.0 o (inr g.2))
  proposed_caused (suc bound) (suc view) o less p =
      let g = takeover_grounds taught stays m reached id (suc view) o (omega arith) p in
      by (λ v p. proposed_caused bound v p) g.0 g.1 (promises_rule m.round.faults (suc view) g.0 o g.2)
    where
      by : ((v : ℕ) (p : Outcome) → v < bound → Proposed m.column.link id v p → IsCausedBy m id p) → (replies : List (Option Told)) → RepliesIn m.column.link id (suc view) replies →
          ByAccepted replies o ⊎ ((o ≡ Commit) ⊎ (o ≡ Abort (ByTakeover (suc view)))) → IsCausedBy m id o
      by again replies replied (inl b) =
          let earlier = highest_proposed m.round.faults m.column.link (orderly taught m (reached_facts taught stays m reached)) id (suc view) replies replied b.0 b.1 in
          subst (IsCausedBy m id) b.2 (again b.0.view b.0.outcome (omega (arith, earlier.1, less)) earlier.0)
      by again replies replied (inr (inl e)) = subst (IsCausedBy m id) (sym e) tt
      by again replies replied (inr (inr e)) =
          subst (IsCausedBy m id) (sym e)
          (has_caused (suc view) (omega arith) (accept_is_proposal taught stays m reached id (suc view) (Abort (ByTakeover (suc view))) (subst (Proposed m.column.link id (suc view)) e p)))

  decided_caused : (o : Outcome) → IsDecided m.round.faults m.column id o → IsCausedBy m id o
  decided_caused o (inl a) = let g = (fast_grounds taught stays m reached id o a).0 in by_votes_caused g.0 o g.1 (votes_rule m.round.faults g.0 o (inl g.2))
  decided_caused o (inr c) = proposed_caused (suc c.0) c.0 o (omega arith) c.1.0

pub causes_are_true : CausesAreTrue
causes_are_true taught stays m reached id =
    record { proposed = λ view o p. proposed_caused taught stays m reached id (suc view) view o (omega arith) p; decided = λ o d. decided_caused taught stays m reached id o d }
