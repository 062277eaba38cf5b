-- Whatever is chosen in one view is what every later view proposes, and what a fast quorum decided too.
use Rattle.std.proofs.Common.{◌≡◌, ◌⊎◌, ◌<◌, ◌≤◌, ℕ, zero, suc, ◌+◌, Bool, true, false, refl, arith, inl, inr, sym, ap, ◌∙◌, List, [], ◌∷◌, Option, Some, None, subst, cond, map, not, ◌&&◌}
use Rattle.std.specs.Prelude.{nat_lt, nat_le, ◌==◌}
use Rattle.std.proofs.lemmas.Bool.Decides.{nat_tests}
use Rattle.std.proofs.lemmas.Bool.{and_parts}
use Rattle.mk_lists.specs.Among.{Among}
use Rattle.mk_lists.proofs.Tests.{Among-from_list_any}
use Rattle.mk_txn.specs.declared.TxnId.{TxnId}
use Rattle.mk_txn.specs.declared.Cause.{Cause}
use Rattle.mk_txn.specs.declared.Cause.TheVariants.{Takeover as ByTakeover}
use Rattle.mk_txn.specs.declared.Vote.{Vote}
use Rattle.mk_txn.specs.declared.Vote.TheVariants.{Ok as VoteOk, Abort as VoteAbort}
use Rattle.mk_txn.specs.declared.Accepted.{Accepted}
use Rattle.mk_txn.specs.declared.Outcome.{Outcome}
use Rattle.mk_txn.specs.declared.Outcome.TheVariants.{Commit, Abort}
use Rattle.mk_txn.specs.Outcomes.{is_ok_vote, highest, agrees}
use Rattle.mk_txn.specs.Transactions.{same_id}
use Rattle.mk_txn.proofs.IdOrder.{same_id-tells}
use Rattle.mk_words.specs.declared.Told.{Told}
use Rattle.mk_words.specs.declared.Msg.{Msg}
use Rattle.mk_words.specs.declared.Body.{Body}
use Rattle.mk_words.specs.declared.Body.TheVariants.{Voted, Accepted as AcceptedBody}
use Rattle.mk_quorum.specs.Counts.{count_below}
use Rattle.mk_quorum.specs.Sizes.{members, majority_of, fast_of, block_of}
use Rattle.mk_quorum.specs.Slots.{slot, passes, count_slots}
use Rattle.mk_quorum.proofs.Meeting.{majorities_meet, count_below-overlap, count_below-both}
use Rattle.mk_quorum.proofs.Slots.{passes-some}
use Rattle.mk_words.specs.declared.Ruling.TheVariants.{Fast, Propose, Short}
use Rattle.mk_words.specs.Rulings.{by_votes, is_abort_vote, any_vote, first_refusal}
use Rattle.mk_words.specs.declared.Pick.TheVariants.{Propose as PickPropose, Short as PickShort, Unclear}
use Rattle.mk_words.specs.Picks.{by_promises, by_accepted, by_counts, is_promise, is_ok_promise, is_other_promise, accepted_in}
use Rattle.mk_model.specs.Sending.{Sent, Proposed, msg_of}
use Rattle.mk_column_laws.specs.Messages.{VotesIn, RepliesIn, taking_over}
use Rattle.mk_model.specs.Deciding.{IsChosen, has_accepted, is_accepted_body}
use Rattle.mk_column_laws.proofs.Orderly.{IsOrderly}
use Rattle.mk_column_laws.proofs.Highest.{highest-above, highest-member}

slot-accepted_in : (replies : List (Option Told)) (r : ℕ) → slot (map accepted_in replies) r ≡ accepted_in (slot replies r)
slot-accepted_in [] r = refl
slot-accepted_in (x ∷ xs) zero = refl
slot-accepted_in (x ∷ xs) (suc r) = slot-accepted_in xs r

accepted_in-some : (o : Option Told) (a : Accepted) → accepted_in o ≡ Some a → (t : Told) × (o ≡ Some t) × (t.accepted ≡ Some a)
accepted_in-some None a e = absurd (cc e)
accepted_in-some (Some t) a e = (t, refl, e)

is_accepted_body-tells : (b : Body) → is_accepted_body b ≡ true → b ≡ AcceptedBody
is_accepted_body-tells AcceptedBody e = refl
is_accepted_body-tells _ e = cc e

pub accept_sent : (link : List Msg) (id : TxnId) (view r : ℕ) → has_accepted link id view r ≡ true → Sent link id r view AcceptedBody
accept_sent link id view r e =
    let m = Among-from_list_any (λ msg. is_accepted_body msg.body && same_id msg.id id && msg.view == view && msg.replica == r) link e in
    let three = (and_parts (is_accepted_body m.0.body && same_id m.0.id id && m.0.view == view) (m.0.replica == r) m.2).0 in
    let replica : m.0.replica ≡ r = (let k = (and_parts (is_accepted_body m.0.body && same_id m.0.id id && m.0.view == view) (m.0.replica == r) m.2).1 in grind (arith, nat_tests, k)) in
    let two = (and_parts (is_accepted_body m.0.body && same_id m.0.id id) (m.0.view == view) three).0 in
    let viewed : m.0.view ≡ view = (let k = (and_parts (is_accepted_body m.0.body && same_id m.0.id id) (m.0.view == view) three).1 in grind (arith, nat_tests, k)) in
    let body = is_accepted_body-tells m.0.body (and_parts (is_accepted_body m.0.body) (same_id m.0.id id) two).0 in
    let attempt = same_id-tells m.0.id id (and_parts (is_accepted_body m.0.body) (same_id m.0.id id) two).1 in
    let same : m.0 ≡ msg_of m.0.epoch id r view AcceptedBody = λ i. record { epoch = m.0.epoch; id = attempt i; replica = replica i; view = viewed i; body = body i } in
    (m.0.epoch, subst (λ (x : Msg). Among x link) same m.1)

-- why a takeover proposes an outcome
abbrev pub ByCounts : ℕ → List (Option Told) → Outcome → Type 0
ByCounts f replies o =
    ((majority_of f ≤ count_slots (members f) is_ok_promise replies) × (o ≡ Commit))
    ⊎ ((block_of f ≤ count_slots (members f) is_other_promise replies) × ((c : Cause) × (o ≡ Abort c)))

abbrev pub ByAccepted : List (Option Told) → Outcome → Type 0
ByAccepted replies o = (b : Accepted) × (highest (map accepted_in replies) ≡ Some b) × (b.outcome ≡ o)

by_counts-propose : (f view : ℕ) (replies : List (Option Told)) (o : Outcome) → by_counts f (taking_over view replies) ≡ PickPropose o → ByCounts f replies o
by_counts-propose f view replies o e = by (nat_le (majority_of f) oks) refl (nat_le (block_of f) others) refl e
  where
    oks : ℕ
    oks = count_slots (members f) is_ok_promise replies

    others : ℕ
    others = count_slots (members f) is_other_promise replies

    by : (a : Bool) → nat_le (majority_of f) oks ≡ a → (b : Bool) → nat_le (block_of f) others ≡ b →
        cond a (PickPropose Commit) (cond b (PickPropose (Abort (ByTakeover view))) (Unclear oks others)) ≡ PickPropose o → ByCounts f replies o
    by true p b q e = inl (grind (arith, nat_tests, p), cc e)
    by false p true q e = inr (grind (arith, nat_tests, q), (ByTakeover view, cc e))
    by false p false q e = absurd (cc e)

by_accepted-propose : (f view : ℕ) (replies : List (Option Told)) (o : Outcome) (h : Option Accepted) → highest (map accepted_in replies) ≡ h →
    by_accepted f (taking_over view replies) h ≡ PickPropose o → (ByAccepted replies o ⊎ ((highest (map accepted_in replies) ≡ None) × ByCounts f replies o))
by_accepted-propose f view replies o (Some b) p e = inl (b, p, cc e)
by_accepted-propose f view replies o None p e = inr (p, by_counts-propose f view replies o e)

pub by_promises-propose : (f view : ℕ) (replies : List (Option Told)) (o : Outcome) → by_promises f (taking_over view replies) ≡ PickPropose o →
    (majority_of f ≤ count_slots (members f) is_promise replies) × (ByAccepted replies o ⊎ ((highest (map accepted_in replies) ≡ None) × ByCounts f replies o))
by_promises-propose f view replies o e = by (nat_lt promises (majority_of f)) refl e
  where
    promises : ℕ
    promises = count_slots (members f) is_promise replies

    by : (a : Bool) → nat_lt promises (majority_of f) ≡ a →
        cond a (PickShort promises) (by_accepted f (taking_over view replies) (highest (map accepted_in replies))) ≡ PickPropose o →
        (majority_of f ≤ promises) × (ByAccepted replies o ⊎ ((highest (map accepted_in replies) ≡ None) × ByCounts f replies o))
    by true p e = absurd (cc e)
    by false p e = (grind (arith, nat_tests, p), by_accepted-propose f view replies o (highest (map accepted_in replies)) refl e)

pub above_or_same : (v n : ℕ) → v ≤ n → (v < n) ⊎ (n ≡ v)
above_or_same v n le = grind arith

from_highest : {Other : Type 0} (replies : List (Option Told)) (p o : Outcome) (b : Accepted) → highest (map accepted_in replies) ≡ Some b → b.outcome ≡ o →
    (ByAccepted replies p ⊎ ((highest (map accepted_in replies) ≡ None) × Other)) → p ≡ o
from_highest replies p o b top e (inl a) = sym a.2 ∙ ap (λ (x : Accepted). x.outcome) (same_top (sym a.1 ∙ top)) ∙ e
  where
    same_top : {x y : Accepted} → ◌≡◌ {A = Option Accepted} (Some x) (Some y) → x ≡ y
    same_top q = cc q
from_highest replies p o b top e (inr n) = absurd (cc (sym n.0 ∙ top))

-- A reply in a view above one that the replica accepted in tells of an accepted outcome.
module _ (f : ℕ) (link : List Msg) (ok : IsOrderly f link) (id : TxnId) where
  -- a replica that accepted in v and replied in a later view
  meeting : (v w : ℕ) (replies : List (Option Told)) → majority_of f ≤ count_below (members f) (has_accepted link id v) →
      majority_of f ≤ count_slots (members f) is_promise replies →
      (r : ℕ) × (Sent link id r v AcceptedBody) × ((t : Told) × (slot replies r ≡ Some t))
  meeting v w replies h k =
      let m = majorities_meet f (has_accepted link id v) (λ r. passes is_promise (slot replies r)) h k in
      let t = passes-some is_promise (slot replies m.0) m.3 in
      (m.0, accept_sent link id v m.0 m.2, (t.0, t.1))

  -- what is reported as the highest was proposed in an earlier view
  pub highest_proposed : (w : ℕ) (replies : List (Option Told)) → RepliesIn link id w replies → (b : Accepted) → highest (map accepted_in replies) ≡ Some b →
      (Proposed link id b.view b.outcome) × (b.view < w)
  highest_proposed w replies h b e =
      let k = highest-member (map accepted_in replies) b e in
      let t = accepted_in-some (slot replies k.0) b (sym (slot-accepted_in replies k.0) ∙ k.1) in
      let reply = h k.0 t.0 t.1 in
      (ok.told_accepted id k.0 w t.0 b reply.sent t.2, reply.earlier b t.2)

  -- where a majority accepted in v, replies of a later view report v or a view above it
  highest_reported : (v w : ℕ) (replies : List (Option Told)) → v < w → majority_of f ≤ count_below (members f) (has_accepted link id v) →
      RepliesIn link id w replies → majority_of f ≤ count_slots (members f) is_promise replies →
      (b : Accepted) × (highest (map accepted_in replies) ≡ Some b) × (v ≤ b.view)
  highest_reported v w replies lt h replied k =
      let m = meeting v w replies h k in
      let t = m.2.0 in
      let reply = replied m.0 t m.2.1 in
      let a = ok.accepted_told id m.0 w v t m.1 reply.sent reply.not_final lt in
      let here : slot (map accepted_in replies) m.0 ≡ Some a.0 = slot-accepted_in replies m.0 ∙ ap accepted_in m.2.1 ∙ a.1 in
      let top = highest-above (map accepted_in replies) m.0 a.0 here in
      (top.0, top.1, omega (arith, a.2, top.2))

  -- every later view proposes what was chosen
  pub chosen_kept : (bound v w : ℕ) (o p : Outcome) → w < bound → v < w → IsChosen f link id v o → Proposed link id w p → p ≡ o
  chosen_kept zero v w o p l lt c q = absurd (omega arith)
  chosen_kept (suc bound) v w o p l lt c q =
      let just = ok.later_proposal id w p (omega arith) q in
      let why = by_promises-propose f w just.0 p just.2 in
      let top = highest_reported v w just.0 lt c.1 just.1 why.0 in
      let earlier = highest_proposed w just.0 just.1 top.0 top.1 in
      let again : v < top.0.view → top.0.outcome ≡ o = λ up. chosen_kept bound v top.0.view o top.0.outcome (omega (arith, earlier.1)) up c earlier.0 in
      let same : top.0.view ≡ v → top.0.outcome ≡ o = λ here. ok.one_proposal id v top.0.outcome o (subst (λ (n : ℕ). Proposed link id n top.0.outcome) here earlier.0) c.0 in
      let kept : top.0.outcome ≡ o = elim (above_or_same v top.0.view top.2) [ inl up ↦ again up | inr here ↦ same here ] in
      from_highest just.0 p o top.0 top.1 kept why.1

-- Two sets that together are larger than the whole share a replica.
pub share : (f : ℕ) (p q : ℕ → Bool) → members f < count_below (members f) p + count_below (members f) q → (r : ℕ) × (r < members f) × (p r ≡ true) × (q r ≡ true)
share f p q h = count_below-both (members f) p q (omega (arith, count_below-overlap (members f) p q))

-- why a coordinator decides fast
abbrev pub FastCounts : ℕ → List (Option Vote) → Outcome → Type 0
FastCounts f votes o =
    ((fast_of f ≤ count_slots (members f) is_ok_vote votes) × (o ≡ Commit))
    ⊎ ((fast_of f ≤ count_slots (members f) is_abort_vote votes) × ((c : Cause) × (o ≡ Abort c)))

pub first_refusal-abort : (votes : List (Option Vote)) → (c : Cause) × (first_refusal votes ≡ Abort c)
first_refusal-abort [] = (ByTakeover 0, refl)
first_refusal-abort (Some (VoteAbort conflict) ∷ votes) = (Rattle.mk_txn.specs.declared.Cause.TheVariants.Conflict conflict, refl)
first_refusal-abort (Some VoteOk ∷ votes) = first_refusal-abort votes
first_refusal-abort (None ∷ votes) = first_refusal-abort votes

pub by_votes-fast : (f : ℕ) (votes : List (Option Vote)) (o : Outcome) → by_votes f votes ≡ Fast o → FastCounts f votes o
by_votes-fast f votes o e = by (nat_le (fast_of f) oks) refl (nat_le (fast_of f) aborts) refl (nat_lt all (majority_of f)) (nat_le (majority_of f) oks) e
  where
    oks : ℕ
    oks = count_slots (members f) is_ok_vote votes

    aborts : ℕ
    aborts = count_slots (members f) is_abort_vote votes

    all : ℕ
    all = count_slots (members f) any_vote votes

    by : (a : Bool) → nat_le (fast_of f) oks ≡ a → (b : Bool) → nat_le (fast_of f) aborts ≡ b → (c d : Bool) →
        cond a (Fast Commit) (cond b (Fast (first_refusal votes)) (cond c (Short all) (cond d (Propose Commit) (Propose (first_refusal votes))))) ≡ Fast o → FastCounts f votes o
    by true p b q c d e = inl (grind (arith, nat_tests, p), cc e)
    by false p true q c d e = let r = first_refusal-abort votes in inr (grind (arith, nat_tests, q), (r.0, cc (e, r.1)))
    by false p false q true d e = absurd (cc e)
    by false p false q false true e = absurd (cc e)
    by false p false q false false e = absurd (cc e)

pub ok_vote-is : (v : Vote) → is_ok_vote v ≡ true → v ≡ VoteOk
ok_vote-is VoteOk e = refl
ok_vote-is (VoteAbort c) e = cc e

pub abort_vote-is : (v : Vote) → is_abort_vote v ≡ true → v ≡ VoteOk → ⊥
abort_vote-is VoteOk e h = cc e
abort_vote-is (VoteAbort c) e h = cc h

pub ok_promise-votes : (t : Told) → is_ok_promise t ≡ true → passes is_ok_vote t.vote ≡ true
ok_promise-votes t e = (and_parts (is_promise t) (passes is_ok_vote t.vote) e).1

other_promise-votes : (t : Told) → is_other_promise t ≡ true → passes is_ok_vote t.vote ≡ false
other_promise-votes t e = not-true (passes is_ok_vote t.vote) (and_parts (is_promise t) (not (passes is_ok_vote t.vote)) e).1
  where
    not-true : (b : Bool) → not b ≡ true → b ≡ false
    not-true true e = cc e
    not-true false e = refl

module _ (f : ℕ) (link : List Msg) (ok : IsOrderly f link) (id : TxnId) where
  -- where a fast quorum voted Ok, no block of replicas can report otherwise
  no_block : (w : ℕ) (votes : List (Option Vote)) (replies : List (Option Told)) → VotesIn link id votes → RepliesIn link id w replies →
      fast_of f ≤ count_slots (members f) is_ok_vote votes → block_of f ≤ count_slots (members f) is_other_promise replies → ⊥
  no_block w votes replies voted replied h k =
      let m = share f (λ r. passes is_ok_vote (slot votes r)) (λ r. passes is_other_promise (slot replies r)) (omega (arith, h, k)) in
      let v = passes-some is_ok_vote (slot votes m.0) m.2 in
      let t = passes-some is_other_promise (slot replies m.0) m.3 in
      let reply = replied m.0 t.0 t.1 in
      ok.told_other id m.0 w t.0 reply.sent reply.not_final (other_promise-votes t.0 t.2)
      (subst (λ (x : Vote). Sent link id m.0 0 (Voted x)) (ok_vote-is v.0 v.2) (voted m.0 v.0 v.1))

  -- where a fast quorum refused, no majority can report Ok
  no_majority : (w : ℕ) (votes : List (Option Vote)) (replies : List (Option Told)) → VotesIn link id votes → RepliesIn link id w replies →
      fast_of f ≤ count_slots (members f) is_abort_vote votes → majority_of f ≤ count_slots (members f) is_ok_promise replies → ⊥
  no_majority w votes replies voted replied h k =
      let m = share f (λ r. passes is_abort_vote (slot votes r)) (λ r. passes is_ok_promise (slot replies r)) (omega (arith, h, k)) in
      let v = passes-some is_abort_vote (slot votes m.0) m.2 in
      let t = passes-some is_ok_promise (slot replies m.0) m.3 in
      let reply = replied m.0 t.0 t.1 in
      abort_vote-is v.0 v.2 (ok.told_ok id m.0 w t.0 v.0 reply.sent reply.not_final (ok_promise-votes t.0 t.2) (voted m.0 v.0 v.1))

  counts_agree : (w : ℕ) (o p : Outcome) (votes : List (Option Vote)) (replies : List (Option Told)) → VotesIn link id votes → RepliesIn link id w replies →
      FastCounts f votes o → ByCounts f replies p → agrees p o ≡ true
  counts_agree w o p votes replies voted replied (inl a) (inl b) = grind (arith, a.1, b.1)
  counts_agree w o p votes replies voted replied (inr a) (inr b) = grind (arith, a.1.1, b.1.1)
  counts_agree w o p votes replies voted replied (inl a) (inr b) = absurd (no_block w votes replies voted replied a.0 b.0)
  counts_agree w o p votes replies voted replied (inr a) (inl b) = absurd (no_majority w votes replies voted replied a.0 b.0)

  -- every later view proposes what was decided fast, if view 0 did
  pub fast_kept : (bound w : ℕ) (o p : Outcome) (votes : List (Option Vote)) → w < bound → VotesIn link id votes → FastCounts f votes o →
      ((q : Outcome) → Proposed link id 0 q → agrees q o ≡ true) → Proposed link id w p → agrees p o ≡ true
  fast_kept zero w o p votes l voted fast first q = absurd (omega arith)
  fast_kept (suc bound) zero o p votes l voted fast first q = first p q
  fast_kept (suc bound) (suc w) o p votes l voted fast first q =
      let just = ok.later_proposal id (suc w) p (omega arith) q in
      let why = by_promises-propose f (suc w) just.0 p just.2 in
      elim why.1 [
        | inl a ↦
            let earlier = highest_proposed f link ok id (suc w) just.0 just.1 a.0 a.1 in
            let again = fast_kept bound a.0.view o a.0.outcome votes (omega (arith, earlier.1)) voted fast first earlier.0 in
            subst (λ (x : Outcome). agrees x o ≡ true) a.2 again
        | inr c ↦ counts_agree (suc w) o p votes just.0 voted just.1 fast c.1
      ]
