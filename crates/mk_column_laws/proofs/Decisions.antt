-- What a ruling and a pick tell of the votes, replies and accepts.
use Rattle.std.proofs.Common.{◌≡◌, ◌≤◌, ℕ, Bool, true, false, refl, arith, sym, ap, ◌∙◌, List, Option, Some, None, subst, cond, map}
use Rattle.std.specs.Prelude.{nat_lt, nat_le, ◌==◌, ◌&&◌}
use Rattle.std.proofs.lemmas.Bool.Decides.{nat_tests}
use Rattle.mk_lists.proofs.Tests.{list_any-from_Among}
use Rattle.mk_txn.specs.declared.TxnId.{TxnId}
use Rattle.mk_txn.specs.Transactions.{same_id}
use Rattle.mk_txn.specs.declared.Vote.{Vote}
use Rattle.mk_txn.specs.declared.Accepted.{Accepted}
use Rattle.mk_txn.specs.declared.Outcome.{Outcome}
use Rattle.mk_txn.specs.declared.Outcome.TheVariants.{Commit, Abort}
use Rattle.mk_txn.specs.Outcomes.{is_ok_vote, highest}
use Rattle.mk_txn.proofs.IdOrder.{same_id-itself}
use Rattle.mk_words.specs.declared.Msg.{Msg}
use Rattle.mk_words.specs.declared.Body.TheVariants.{Accepted as AcceptedBody}
use Rattle.mk_quorum.specs.Counts.{count_below}
use Rattle.mk_quorum.specs.Sizes.{members, majority_of, fast_of}
use Rattle.mk_quorum.specs.Slots.{slot, passes, count_slots}
use Rattle.mk_words.specs.declared.Ruling.{Ruling}
use Rattle.mk_words.specs.declared.Ruling.TheVariants.{Fast, Propose, Learned, Short, Unaccepted}
use Rattle.mk_words.specs.Rulings.{CoordState, by_votes, by_accepts, ruling, unless_learned, unless_proposed, count_accepts, first_refusal, is_abort_vote, any_vote}
use Rattle.mk_words.specs.declared.Pick.{Pick}
use Rattle.mk_words.specs.declared.Pick.TheVariants.{Known, Learned as PickLearned, Propose as PickPropose, Short as PickShort, Unaccepted as PickUnaccepted, Unclear}
use Rattle.mk_words.specs.Picks.{TakeoverState, by_promises, by_accepted, pick, accepted_in, is_promise, is_ok_promise, is_other_promise, by_accepts as pick_by_accepts, unless_proposed as pick_unless_proposed, unless_learned as pick_unless_learned}
use Rattle.mk_model.specs.Sending.{Sent, msg_of}
use Rattle.mk_column_laws.specs.Messages.{taking_over}
use Rattle.mk_model.specs.Deciding.{has_accepted, is_accepted_body}
use Rattle.mk_quorum.proofs.Counting.{count_below-weaker}

-- ---- rulings

not_learned : (f : ℕ) (votes : List (Option Vote)) (o : Outcome) → by_votes f votes ≡ Learned o → ⊥
not_learned f votes o e = by (nat_le (fast_of f) oks) (nat_le (fast_of f) aborts) (nat_lt all (majority_of f)) (nat_le (majority_of f) oks) e
  where
    oks : ℕ
    oks = count_slots (members f) is_ok_vote votes

    aborts : ℕ
    aborts = count_slots (members f) is_abort_vote votes

    all : ℕ
    all = count_slots (members f) any_vote votes

    by : (a b c d : Bool) → cond a (Fast Commit) (cond b (Fast (first_refusal votes)) (cond c (Short all) (cond d (Propose Commit) (Propose (first_refusal votes))))) ≡ Learned o → ⊥
    by true b c d e = cc e
    by false true c d e = cc e
    by false false true d e = cc e
    by false false false true e = cc e
    by false false false false e = cc e

by_accepts-learned : (f : ℕ) (p o : Outcome) (accepts : List (Option Bool)) → by_accepts f p accepts ≡ Learned o → (p ≡ o) × (majority_of f ≤ count_accepts f accepts)
by_accepts-learned f p o accepts e = by (nat_le (majority_of f) (count_accepts f accepts)) refl e
  where
    by : (a : Bool) → nat_le (majority_of f) (count_accepts f accepts) ≡ a → cond a (Learned p) (Unaccepted (count_accepts f accepts)) ≡ Learned o → (p ≡ o) × (majority_of f ≤ count_accepts f accepts)
    by true q e = (cc e, grind (arith, nat_tests, q))
    by false q e = absurd (cc e)

by_accepts-other : (f : ℕ) (p : Outcome) (accepts : List (Option Bool)) (r : Ruling) → by_accepts f p accepts ≡ r → ((o : Outcome) → r ≡ Fast o → ⊥) × ((o : Outcome) → r ≡ Propose o → ⊥)
by_accepts-other f p accepts r e = by (nat_le (majority_of f) (count_accepts f accepts)) e
  where
    by : (a : Bool) → cond a (Learned p) (Unaccepted (count_accepts f accepts)) ≡ r → ((o : Outcome) → r ≡ Fast o → ⊥) × ((o : Outcome) → r ≡ Propose o → ⊥)
    by true e = ((λ o q. cc (e, q)), (λ o q. cc (e, q)))
    by false e = ((λ o q. cc (e, q)), (λ o q. cc (e, q)))

-- a fast ruling and a proposal go by the votes
pub ruling-fast : (f : ℕ) (coord : CoordState) (o : Outcome) (l p : Option Outcome) → coord.learned ≡ l → coord.proposed ≡ p → ruling f coord ≡ Fast o →
    (coord.proposed ≡ None) × (by_votes f coord.votes ≡ Fast o)
ruling-fast f coord o l p el ep e = by l p (subst (λ (x : Option Outcome). unless_learned f coord x ≡ Fast o) el e) ep
  where
    by : (l p : Option Outcome) → unless_learned f coord l ≡ Fast o → coord.proposed ≡ p → (coord.proposed ≡ None) × (by_votes f coord.votes ≡ Fast o)
    by (Some x) p e q = absurd (cc e)
    by None (Some x) e q = absurd ((by_accepts-other f x coord.accepts (Fast o) (subst (λ (y : Option Outcome). unless_proposed f coord y ≡ Fast o) q e)).0 o refl)
    by None None e q = (q, subst (λ (y : Option Outcome). unless_proposed f coord y ≡ Fast o) q e)

pub ruling-propose : (f : ℕ) (coord : CoordState) (o : Outcome) (l p : Option Outcome) → coord.learned ≡ l → coord.proposed ≡ p → ruling f coord ≡ Propose o →
    (coord.proposed ≡ None) × (by_votes f coord.votes ≡ Propose o)
ruling-propose f coord o l p el ep e = by l p (subst (λ (x : Option Outcome). unless_learned f coord x ≡ Propose o) el e) ep
  where
    by : (l p : Option Outcome) → unless_learned f coord l ≡ Propose o → coord.proposed ≡ p → (coord.proposed ≡ None) × (by_votes f coord.votes ≡ Propose o)
    by (Some x) p e q = absurd (cc e)
    by None (Some x) e q = absurd ((by_accepts-other f x coord.accepts (Propose o) (subst (λ (y : Option Outcome). unless_proposed f coord y ≡ Propose o) q e)).1 o refl)
    by None None e q = (q, subst (λ (y : Option Outcome). unless_proposed f coord y ≡ Propose o) q e)

pub ruling-learned : (f : ℕ) (coord : CoordState) (o : Outcome) (p : Option Outcome) → coord.learned ≡ None → coord.proposed ≡ p → ruling f coord ≡ Learned o →
    (coord.proposed ≡ Some o) × (majority_of f ≤ count_accepts f coord.accepts)
ruling-learned f coord o p el ep e = by p (subst (λ (x : Option Outcome). unless_learned f coord x ≡ Learned o) el e) ep
  where
    by : (p : Option Outcome) → unless_learned f coord None ≡ Learned o → coord.proposed ≡ p → (coord.proposed ≡ Some o) × (majority_of f ≤ count_accepts f coord.accepts)
    by (Some x) e q =
        let k = by_accepts-learned f x o coord.accepts (subst (λ (y : Option Outcome). unless_proposed f coord y ≡ Learned o) q e) in
        (q ∙ ap Some k.0, k.1)
    by None e q = absurd (not_learned f coord.votes o (subst (λ (y : Option Outcome). unless_proposed f coord y ≡ Learned o) q e))

-- ---- picks

by_accepted-same : (f : ℕ) (s : TakeoverState) (a : Option Accepted) → by_accepted f s a ≡ by_accepted f (taking_over s.view s.told) a
by_accepted-same f s (Some a) = refl
by_accepted-same f s None = refl

by_promises-same : (f : ℕ) (s : TakeoverState) → by_promises f s ≡ by_promises f (taking_over s.view s.told)
by_promises-same f s =
    ap (λ (x : Pick). cond (nat_lt (count_slots (members f) is_promise s.told) (majority_of f)) (PickShort (count_slots (members f) is_promise s.told)) x)
    (by_accepted-same f s (highest (map accepted_in s.told)))

pick_by_accepts-is : (f : ℕ) (p : Outcome) (accepts : List (Option Bool)) (r : Pick) → pick_by_accepts f p accepts ≡ r →
    ((o : Outcome) → r ≡ PickLearned o → (p ≡ o) × (majority_of f ≤ count_accepts f accepts)) × ((o : Outcome) → r ≡ PickPropose o → ⊥)
pick_by_accepts-is f p accepts r e = by (nat_le (majority_of f) (count_accepts f accepts)) refl e
  where
    by : (a : Bool) → nat_le (majority_of f) (count_accepts f accepts) ≡ a → cond a (PickLearned p) (PickUnaccepted (count_accepts f accepts)) ≡ r →
        ((o : Outcome) → r ≡ PickLearned o → (p ≡ o) × (majority_of f ≤ count_accepts f accepts)) × ((o : Outcome) → r ≡ PickPropose o → ⊥)
    by true q e = ((λ o k. (cc (e, k), grind (arith, nat_tests, q))), (λ o k. cc (e, k)))
    by false q e = ((λ o k. absurd (cc (e, k))), (λ o k. cc (e, k)))

-- Known and Learned end a takeover
is_closing : Pick → Bool
is_closing (Known o) = true
is_closing (PickLearned o) = true
is_closing _ = false

is_known : Pick → Bool
is_known (Known o) = true
is_known _ = false

by_promises-open : (f : ℕ) (s : TakeoverState) → is_closing (by_promises f s) ≡ false
unfolding is_closing
by_promises-open f s = by (nat_lt promises (majority_of f)) (highest (map accepted_in s.told))
  where
    promises : ℕ
    promises = count_slots (members f) is_promise s.told

    counts : (a b : Bool) (x : Outcome) (m n : ℕ) → is_closing (cond a (PickPropose Commit) (cond b (PickPropose x) (Unclear m n))) ≡ false
    counts true b x m n = refl
    counts false true x m n = refl
    counts false false x m n = refl

    by : (a : Bool) (h : Option Accepted) → is_closing (cond a (PickShort promises) (by_accepted f s h)) ≡ false
    by true h = refl
    by false (Some h) = refl
    by false None =
        counts (nat_le (majority_of f) (count_slots (members f) is_ok_promise s.told)) (nat_le (Rattle.mk_quorum.specs.Sizes.block_of f) (count_slots (members f) is_other_promise s.told))
        (Abort (Rattle.mk_txn.specs.declared.Cause.TheVariants.Takeover s.view)) (count_slots (members f) is_ok_promise s.told) (count_slots (members f) is_other_promise s.told)

by_promises-not_learned : (f : ℕ) (s : TakeoverState) (o : Outcome) → by_promises f s ≡ PickLearned o → ⊥
unfolding is_closing
by_promises-not_learned f s o e = let k : is_closing (by_promises f s) ≡ true = ap is_closing e in cc (k, by_promises-open f s)

by_promises-not_known : (f : ℕ) (s : TakeoverState) (o : Outcome) → by_promises f s ≡ Known o → ⊥
unfolding is_closing
by_promises-not_known f s o e = let k : is_closing (by_promises f s) ≡ true = ap is_closing e in cc (k, by_promises-open f s)

by_accepts-not_known : (f : ℕ) (p o : Outcome) (accepts : List (Option Bool)) → pick_by_accepts f p accepts ≡ Known o → ⊥
unfolding is_known
by_accepts-not_known f p o accepts e =
    let k : is_known (pick_by_accepts f p accepts) ≡ true = ap is_known e in cc (k, by (nat_le (majority_of f) (count_accepts f accepts)))
  where
    by : (a : Bool) → is_known (cond a (PickLearned p) (PickUnaccepted (count_accepts f accepts))) ≡ false
    by true = refl
    by false = refl

pub pick-known : (f : ℕ) (s : TakeoverState) (o : Outcome) (l p : Option Outcome) → s.learned ≡ l → s.proposed ≡ p → pick f s ≡ Known o → s.learned ≡ Some o
pick-known f s o l p el ep e = by l p (subst (λ (x : Option Outcome). pick_unless_learned f s x ≡ Known o) el e) el ep
  where
    by : (l p : Option Outcome) → pick_unless_learned f s l ≡ Known o → s.learned ≡ l → s.proposed ≡ p → s.learned ≡ Some o
    by (Some x) p e q r = let k : x ≡ o = cc e in q ∙ ap Some k
    by None (Some x) e q r = absurd (by_accepts-not_known f x o s.accepts (subst (λ (y : Option Outcome). pick_unless_proposed f s y ≡ Known o) r e))
    by None None e q r = absurd (by_promises-not_known f s o (subst (λ (y : Option Outcome). pick_unless_proposed f s y ≡ Known o) r e))

pub pick-learned : (f : ℕ) (s : TakeoverState) (o : Outcome) (l p : Option Outcome) → s.learned ≡ l → s.proposed ≡ p → pick f s ≡ PickLearned o →
    (s.proposed ≡ Some o) × (majority_of f ≤ count_accepts f s.accepts)
pick-learned f s o l p el ep e = by l p (subst (λ (x : Option Outcome). pick_unless_learned f s x ≡ PickLearned o) el e) ep
  where
    by : (l p : Option Outcome) → pick_unless_learned f s l ≡ PickLearned o → s.proposed ≡ p → (s.proposed ≡ Some o) × (majority_of f ≤ count_accepts f s.accepts)
    by (Some x) p e q = absurd (cc e)
    by None (Some x) e q =
        let k = (pick_by_accepts-is f x s.accepts (PickLearned o) (subst (λ (y : Option Outcome). pick_unless_proposed f s y ≡ PickLearned o) q e)).0 o refl in
        (q ∙ ap Some k.0, k.1)
    by None None e q = absurd (by_promises-not_learned f s o (subst (λ (y : Option Outcome). pick_unless_proposed f s y ≡ PickLearned o) q e))

pub pick-propose : (f : ℕ) (s : TakeoverState) (o : Outcome) (l p : Option Outcome) → s.learned ≡ l → s.proposed ≡ p → pick f s ≡ PickPropose o →
    (s.proposed ≡ None) × (by_promises f (taking_over s.view s.told) ≡ PickPropose o)
pick-propose f s o l p el ep e = by l p (subst (λ (x : Option Outcome). pick_unless_learned f s x ≡ PickPropose o) el e) ep
  where
    by : (l p : Option Outcome) → pick_unless_learned f s l ≡ PickPropose o → s.proposed ≡ p → (s.proposed ≡ None) × (by_promises f (taking_over s.view s.told) ≡ PickPropose o)
    by (Some x) p e q = absurd (cc e)
    by None (Some x) e q = absurd ((pick_by_accepts-is f x s.accepts (PickPropose o) (subst (λ (y : Option Outcome). pick_unless_proposed f s y ≡ PickPropose o) q e)).1 o refl)
    by None None e q = (q, sym (by_promises-same f s) ∙ subst (λ (y : Option Outcome). pick_unless_proposed f s y ≡ PickPropose o) q e)

-- ---- accepts

pub accept_counted : (link : List Msg) (id : TxnId) (v r : ℕ) → Sent link id r v AcceptedBody → has_accepted link id v r ≡ true
accept_counted link id v r s =
    list_any-from_Among (λ msg. is_accepted_body msg.body && same_id msg.id id && msg.view == v && msg.replica == r) link (msg_of s.0 id r v AcceptedBody) s.1
    (let k = same_id-itself id in grind (arith, nat_tests, k))

-- where a majority's accepts were taken, a majority accepted
pub accepts_chosen : (f : ℕ) (link : List Msg) (id : TxnId) (v : ℕ) (accepts : List (Option Bool)) → ((r : ℕ) (b : Bool) → slot accepts r ≡ Some b → Sent link id r v AcceptedBody) →
    majority_of f ≤ count_accepts f accepts → majority_of f ≤ count_below (members f) (has_accepted link id v)
accepts_chosen f link id v accepts taken enough =
    omega (arith, enough, count_below-weaker (members f) (λ r. passes (λ (b : Bool). b) (slot accepts r)) (has_accepted link id v) (λ r lt e. by r (slot accepts r) refl e))
  where
    by : (r : ℕ) (o : Option Bool) → slot accepts r ≡ o → passes (λ (b : Bool). b) o ≡ true → has_accepted link id v r ≡ true
    by r None q e = absurd (cc e)
    by r (Some b) q e = accept_counted link id v r (taken r b q)
