-- Votes, views and decisions of one attempt, at one moment of its column.
use Rattle.std.proofs.Common.{◌≡◌, ◌⊎◌, ◌≤◌, ◌<◌, ℕ, Bool, true, false, refl, arith, inl, inr, sym, ap, ◌∙◌, List, Option, Some, None, subst}
use Rattle.std.specs.Prelude.{option_map, nat_le, not}
use Rattle.std.proofs.lemmas.Bool.Decides.{nat_tests}
use Rattle.std.proofs.lemmas.Bool.{and_parts}
use Rattle.mk_lists.specs.Among.{Among}
use Rattle.mk_txn.specs.declared.TxnId.{TxnId}
use Rattle.mk_txn.specs.declared.Vote.{Vote}
use Rattle.mk_txn.specs.declared.Accepted.{Accepted}
use Rattle.mk_txn.specs.declared.Outcome.{Outcome}
use Rattle.mk_txn.specs.declared.Outcome.TheVariants.{Commit, Abort}
use Rattle.mk_txn.specs.Outcomes.{is_ok_vote, is_commit, agrees}
use Rattle.mk_words.specs.declared.Entry.{Entry}
use Rattle.mk_words.specs.declared.Body.TheVariants.{Voted, Accepted as AcceptedBody}
use Rattle.mk_quorum.specs.Counts.{count_below}
use Rattle.mk_quorum.specs.Sizes.{members, majority_of, fast_of}
use Rattle.mk_quorum.specs.Slots.{slot, passes, count_slots}
use Rattle.mk_quorum.proofs.Counting.{count_below-weaker}
use Rattle.mk_quorum.proofs.Slots.{passes-some}
use Rattle.mk_words.specs.declared.Ruling.TheVariants.{Fast}
use Rattle.mk_words.specs.Rulings.{by_votes, is_abort_vote}
use Rattle.mk_model.specs.ColumnState.Way.{ByVotes}
use Rattle.mk_model.specs.Learnings.{learning}
use Rattle.mk_model.specs.Sending.{Sent, Proposed}
use Rattle.mk_model.specs.Deciding.{has_accepted, IsChosen, IsDecided}
use Rattle.mk_column_laws.specs.Moments.{Moment, PastEntry, Taught, past_vote}
use Rattle.mk_column_laws.specs.Messages.{VotesIn}
use Rattle.mk_column_laws.specs.Moves.{undated, entry_of_past}
use Rattle.mk_column_laws.specs.Facts.{Facts, AcceptFacts, IsSupported, is_ok_by}
use Rattle.mk_column_laws.specs.Laws.{SupportOf, BackingOf}
use Rattle.mk_column_laws.proofs.Choices.{accept_sent, by_votes-fast}
use Rattle.mk_fate_laws.specs.Composing.{is_ok_entry}

-- what holds of a column at a moment that is reached
pub record MomentLaws (taught : Taught) (m : Moment) : Type 0 where
  pub facts : Facts taught m
  pub one_proposal : (id : TxnId) (view : ℕ) (one other : Outcome) → Proposed m.column.link id view one → Proposed m.column.link id view other → one ≡ other
  pub voted_true : (id : TxnId) (r view : ℕ) (vote : Vote) → Sent m.column.link id r view (Voted vote) →
      (entry : PastEntry) × (m.past.entries r id ≡ Some entry) × ((round : ℕ) × (entry.vote ≡ Some (vote, round)))
  pub accepted_true : (id : TxnId) (r view : ℕ) → Sent m.column.link id r view AcceptedBody → AcceptFacts m r id view
  pub fast_grounds : (id : TxnId) (outcome : Outcome) → Among (learning id ByVotes outcome) m.column.learned →
      ((votes : List (Option Vote)) × VotesIn m.column.link id votes × (by_votes m.round.faults votes ≡ Fast outcome))
      × ((other : Outcome) → Proposed m.column.link id 0 other → ⊥)
  pub views_agree : (id : TxnId) (view later : ℕ) (outcome other : Outcome) → IsChosen m.round.faults m.column.link id view outcome → view < later →
      Proposed m.column.link id later other → other ≡ outcome
  pub fast_forbids : (id : TxnId) (view : ℕ) (outcome other : Outcome) → Among (learning id ByVotes outcome) m.column.learned →
      Proposed m.column.link id view other → agrees other outcome ≡ true
  pub one_decision : (id : TxnId) (one other : Outcome) → IsDecided m.round.faults m.column id one → IsDecided m.round.faults m.column id other → agrees one other ≡ true
  pub support : (id : TxnId) → SupportOf m id
  pub backing : (id : TxnId) → BackingOf taught m id

-- outcomes that agree are both commits or both aborts
pub agrees-commit : (o p : Outcome) → agrees o p ≡ true → is_commit o ≡ is_commit p
agrees-commit Commit Commit e = refl
agrees-commit (Abort c) (Abort d) e = refl
agrees-commit Commit (Abort d) e = absurd (cc e)
agrees-commit (Abort c) Commit e = absurd (cc e)

-- ---- what a replica has

abbrev pub has_at : Moment → TxnId → ℕ → Option Entry
has_at m id r = option_map entry_of_past (m.past.entries r id)

abbrev pub is_no_entry : Entry → Bool
is_no_entry entry = passes is_abort_vote entry.vote

abbrev pub ok_at : Moment → TxnId → ℕ → Bool
ok_at m id r = passes is_ok_entry (has_at m id r)

abbrev pub no_at : Moment → TxnId → ℕ → Bool
no_at m id r = passes is_no_entry (has_at m id r)

-- the round of a vote
abbrev pub vote_round : Option (Vote × ℕ) → ℕ
vote_round (Some vote) = vote.1
vote_round None = 0

abbrev pub voted_at : Moment → TxnId → ℕ → ℕ
voted_at m id r = vote_round (past_vote (m.past.entries r id))

-- the replica finished the attempt, whatever the cause
pub record FinalAt (m : Moment) (id : TxnId) (r : ℕ) (o : Bool) (round : ℕ) : Type 0 where
  pub entry : PastEntry
  pub there : m.past.entries r id ≡ Some entry
  pub outcome : Outcome
  pub last : entry.last ≡ Some (outcome, round)
  pub commits : is_commit outcome ≡ o

-- it holds an outcome as accepted
pub record AcceptedAt (m : Moment) (id : TxnId) (r view : ℕ) (o : Bool) : Type 0 where
  pub entry : PastEntry
  pub there : m.past.entries r id ≡ Some entry
  pub kept : Accepted
  pub accepted : entry.accepted ≡ Some kept
  pub in_view : kept.view ≡ view
  pub commits : is_commit kept.outcome ≡ o

pub record ProposedAt (m : Moment) (id : TxnId) (view : ℕ) (o : Bool) : Type 0 where
  pub outcome : Outcome
  pub proposed : Proposed m.column.link id view outcome
  pub commits : is_commit outcome ≡ o

pub record FastAt (m : Moment) (id : TxnId) (o : Bool) : Type 0 where
  pub outcome : Outcome
  pub learned : Among (learning id ByVotes outcome) m.column.learned
  pub commits : is_commit outcome ≡ o

-- a replica with an Ok vote
pub ok_entry : (m : Moment) (id : TxnId) (r : ℕ) → ok_at m id r ≡ true → (entry : PastEntry) × (m.past.entries r id ≡ Some entry) × (vote : Vote × ℕ) × (entry.vote ≡ Some vote) × (is_ok_vote vote.0 ≡ true)
ok_entry m id r e = by (m.past.entries r id) refl e
  where
    voted : (entry : PastEntry) → m.past.entries r id ≡ Some entry → (x : Option (Vote × ℕ)) → entry.vote ≡ x → passes is_ok_vote (option_map (λ (v : Vote × ℕ). v.0) x) ≡ true →
        (entry : PastEntry) × (m.past.entries r id ≡ Some entry) × (vote : Vote × ℕ) × (entry.vote ≡ Some vote) × (is_ok_vote vote.0 ≡ true)
    voted entry there None k e = absurd (cc e)
    voted entry there (Some vote) k e = (entry, there, vote, k, e)

    by : (x : Option PastEntry) → m.past.entries r id ≡ x → passes is_ok_entry (option_map entry_of_past x) ≡ true →
        (entry : PastEntry) × (m.past.entries r id ≡ Some entry) × (vote : Vote × ℕ) × (entry.vote ≡ Some vote) × (is_ok_vote vote.0 ≡ true)
    by None there e = absurd (cc e)
    by (Some entry) there e = voted entry there entry.vote refl e

-- an entry with a vote
pub voted_there : (m : Moment) (id : TxnId) (r : ℕ) (entry : PastEntry) (vote : Vote × ℕ) → m.past.entries r id ≡ Some entry → entry.vote ≡ Some vote →
    (ok_at m id r ≡ is_ok_vote vote.0) × (no_at m id r ≡ is_abort_vote vote.0) × (voted_at m id r ≡ vote.1)
voted_there m id r entry vote there is = (
  ap (λ (x : Option PastEntry). passes is_ok_entry (option_map entry_of_past x)) there ∙ ap (λ (x : Option (Vote × ℕ)). passes is_ok_vote (undated x)) is,
  ap (λ (x : Option PastEntry). passes is_no_entry (option_map entry_of_past x)) there ∙ ap (λ (x : Option (Vote × ℕ)). passes is_abort_vote (undated x)) is,
  ap (λ (x : Option PastEntry). vote_round (past_vote x)) there ∙ ap vote_round is,
)

-- who voted Ok by a round
pub ok_by : (m : Moment) (id : TxnId) (r round : ℕ) → is_ok_by round (past_vote (m.past.entries r id)) ≡ true → (ok_at m id r ≡ true) × (voted_at m id r ≤ round)
ok_by m id r round e = by (m.past.entries r id) refl e
  where
    voted : (entry : PastEntry) → m.past.entries r id ≡ Some entry → (x : Option (Vote × ℕ)) → entry.vote ≡ x → is_ok_by round x ≡ true → (ok_at m id r ≡ true) × (voted_at m id r ≤ round)
    voted entry there None k e = absurd (cc e)
    voted entry there (Some vote) k e =
        let b = and_parts (is_ok_vote vote.0) (nat_le vote.1 round) e in
        let v = voted_there m id r entry vote there k in
        let early : vote.1 ≤ round = grind (arith, nat_tests, b.1) in
        let same = v.2 in
        (v.0 ∙ b.0, omega (arith, early, same))

    by : (x : Option PastEntry) → m.past.entries r id ≡ x → is_ok_by round (past_vote x) ≡ true → (ok_at m id r ≡ true) × (voted_at m id r ≤ round)
    by None there e = absurd (cc e)
    by (Some entry) there e = voted entry there entry.vote refl e

pub support_of : (m : Moment) (id : TxnId) (round : ℕ) → IsSupported m id round →
    (voters : ℕ → Bool) × (majority_of m.round.faults ≤ count_below (members m.round.faults) voters) × ((r : ℕ) → voters r ≡ true → (ok_at m id r ≡ true) × (voted_at m id r ≤ round))
support_of m id round s = ((λ r. is_ok_by round (past_vote (m.past.entries r id))), s, (λ r e. ok_by m id r round e))

-- ---- the laws of one attempt

module _ (taught : Taught) (m : Moment) (laws : MomentLaws taught m) (id : TxnId) where
  pub one_vote_at : (r : ℕ) → ok_at m id r ≡ true → no_at m id r ≡ true → ⊥
  one_vote_at r ok refuses =
      let k = ok_entry m id r ok in
      let v = voted_there m id r k.0 k.2 k.1 k.3 in
      let is_not : not true ≡ true = ap not (sym k.4) ∙ sym v.1 ∙ refuses in
      cc is_not

  pub one_proposal_at : (view : ℕ) (o p : Bool) → ProposedAt m id view o → ProposedAt m id view p → o ≡ p
  one_proposal_at view o p a b = sym a.commits ∙ ap is_commit (laws.one_proposal id view a.outcome b.outcome a.proposed b.proposed) ∙ b.commits

  pub views_agree_at : (view later : ℕ) (o p : Bool) → majority_of m.round.faults ≤ count_below (members m.round.faults) (has_accepted m.column.link id view) →
      ProposedAt m id view o → view < later → ProposedAt m id later p → p ≡ o
  views_agree_at view later o p many a lt b = sym b.commits ∙ ap is_commit (laws.views_agree id view later a.outcome b.outcome (a.proposed, many) lt b.proposed) ∙ a.commits

  pub fast_forbids_at : (view : ℕ) (o p : Bool) → FastAt m id o → ProposedAt m id view p → p ≡ o
  fast_forbids_at view o p a b = sym b.commits ∙ agrees-commit b.outcome a.outcome (laws.fast_forbids id view a.outcome b.outcome a.learned b.proposed) ∙ a.commits

  pub fast_once_at : (o p : Bool) → FastAt m id o → FastAt m id p → o ≡ p
  fast_once_at o p a b = sym a.commits ∙ agrees-commit a.outcome b.outcome (laws.one_decision id a.outcome b.outcome (inl a.learned) (inl b.learned)) ∙ b.commits

  -- votes that were counted are those of entries
  votes_there : (p : Vote → Bool) (votes : List (Option Vote)) → VotesIn m.column.link id votes → (q : ℕ → Bool) →
      ((r : ℕ) (entry : PastEntry) (vote : Vote) (round : ℕ) → m.past.entries r id ≡ Some entry → entry.vote ≡ Some (vote, round) → p vote ≡ true → q r ≡ true) →
      count_slots (members m.round.faults) p votes ≤ count_below (members m.round.faults) q
  votes_there p votes voted q h =
      count_below-weaker (members m.round.faults) (λ r. passes p (slot votes r)) q
      (λ r lt e.
      let v = passes-some p (slot votes r) e in
      let t = laws.voted_true id r 0 v.0 (voted r v.0 v.1) in
      h r t.0 v.0 t.2.0 t.1 t.2.1 v.2)

  pub fast_commit_at : FastAt m id true → fast_of m.round.faults ≤ count_below (members m.round.faults) (ok_at m id)
  fast_commit_at a =
      let g = (laws.fast_grounds id a.outcome a.learned).0 in
      elim (by_votes-fast m.round.faults g.0 a.outcome g.2) [
        | inl k ↦ (
            let less = votes_there is_ok_vote g.0 g.1 (ok_at m id) (λ r entry vote round there is p. (voted_there m id r entry (vote, round) there is).0 ∙ p) in
            let many = k.0 in
            omega (arith, many, less))
        | inr k ↦ (let not_so : false ≡ true = sym (ap is_commit k.1.1) ∙ a.commits in absurd (cc not_so))
      ]

  pub fast_abort_at : FastAt m id false → fast_of m.round.faults ≤ count_below (members m.round.faults) (no_at m id)
  fast_abort_at a =
      let g = (laws.fast_grounds id a.outcome a.learned).0 in
      elim (by_votes-fast m.round.faults g.0 a.outcome g.2) [
        | inl k ↦ (let not_so : true ≡ false = sym (ap is_commit k.1) ∙ a.commits in absurd (cc not_so))
        | inr k ↦ (
            let less = votes_there is_abort_vote g.0 g.1 (no_at m id) (λ r entry vote round there is p. (voted_there m id r entry (vote, round) there is).1 ∙ p) in
            let many = k.0 in
            omega (arith, many, less))
      ]

  pub commit_votes_at : (view : ℕ) → ProposedAt m id view true → majority_of m.round.faults ≤ count_below (members m.round.faults) (ok_at m id)
  commit_votes_at view a =
      let s = support_of m id m.past.now ((laws.support id).proposed view a.outcome a.proposed a.commits) in
      let less = count_below-weaker (members m.round.faults) s.0 (ok_at m id) (λ r lt e. (s.2 r e).0) in
      let many = s.1 in
      omega (arith, many, less)

  pub accepted_true_at : (view r : ℕ) → has_accepted m.column.link id view r ≡ true → (u : ℕ) × (o : Bool) × AcceptedAt m id r u o × (view ≤ u)
  accepted_true_at view r e =
      let k = laws.accepted_true id r view (accept_sent m.column.link id view r e) in
      (k.accepted.view, is_commit k.accepted.outcome, record { entry = k.entry; there = k.found; kept = k.accepted; accepted = k.has_accepted; in_view = refl; commits = refl }, k.from_view)

  pub accepted_was_proposed_at : (r u : ℕ) (o : Bool) → AcceptedAt m id r u o → ProposedAt m id u o
  accepted_was_proposed_at r u o a =
      let k = ((laws.facts.entries r id a.entry a.there).accepted a.kept a.accepted).1 in
      record { outcome = a.kept.outcome; proposed = subst (λ (n : ℕ). Proposed m.column.link id n a.kept.outcome) a.in_view k; commits = a.commits }

  -- a decision, whatever its cause
  pub decided_at : (o : Outcome) → IsDecided m.round.faults m.column id o → FastAt m id (is_commit o) ⊎ ((view : ℕ) × ProposedAt m id view (is_commit o) × (majority_of m.round.faults ≤ count_below (members m.round.faults) (has_accepted m.column.link id view)))
  decided_at o (inl fast) = inl (record { outcome = o; learned = fast; commits = refl })
  decided_at o (inr chosen) = inr (chosen.0, record { outcome = o; proposed = chosen.1.0; commits = refl }, chosen.1.1)
