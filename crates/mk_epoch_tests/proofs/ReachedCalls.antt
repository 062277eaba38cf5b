-- Calls on what is kept of the epoch machine lead from reached states to reached states.
use Rattle.std.proofs.Common.{◌≡◌, ◌⊎◌, ℕ, Bool, true, false, refl, sym, ap, ◌∙◌, inl, inr, List, [], ◌∷◌, ◌++◌, map, Option, Some, None, subst, cond, arith}
use Rattle.mk_lists.specs.Among.{Among, Each, Each-among, Among-append}
use Rattle.mk_lists.proofs.Members.{Among-from_flat_map, Among-from_map}
use Rattle.mk_txn.specs.declared.Stamp.{Stamp}
use Rattle.mk_txn.specs.declared.TxnId.{TxnId}
use Rattle.mk_txn.specs.Transactions.{Transaction, AreCoherent}
use Rattle.mk_words.specs.declared.Entry.{Entry}
use Rattle.mk_words.specs.Bases.{BaseState}
use Rattle.mk_words.specs.Promises.{PromiseState, ArePromises}
use Rattle.mk_merge_laws.proofs.Counting.{AreCoherent-within}
use Rattle.mk_words.specs.declared.GlobalLine.{GlobalLine}
use Rattle.mk_words.specs.declared.GlobalLine.TheVariants.{Promise, Merge}
use Rattle.mk_words.specs.declared.GlobalAnswer.{GlobalAnswer}
use Rattle.mk_model.specs.EpochState.{EpochState, GivenPromise, first_epochs, promises_for}
use Rattle.mk_model.specs.GlobalAnswers.{is_accepted}
use Rattle.mk_model.specs.GlobalSteps.{HandedIn, GlobalStep, global_after, nothing_handed}
use Rattle.mk_epoch.specs.Standing.{ReplicasView, StandsFor, Does, Merges}
use Rattle.mk_epoch_laws.specs.FitLaws.{txns_in, handed_txns, LineFits, IsReached}
use Rattle.mk_epoch_laws.proofs.LineNews.{promise_news}
use Rattle.mk_epoch_laws.proofs.HandedTxns.{handed_here}
use Rattle.mk_epoch_laws.proofs.Turning.{answer_given}
use Rattle.mk_epoch_calls.specs.Leading.{LeadsOn}
use Rattle.mk_epoch_tests.specs.Reached.{StandsReached, MayBeHanded, FitsReplica, first, second, both, committed}

-- the two attempts are coherent
pub both_coherent : AreCoherent both
both_coherent = record { one_of_a_number = number; one_of_a_stamp = stamp }
  where
    apart : first.id ≡ second.id → ⊥
    apart e = let k : first.id.seq ≡ second.id.seq = ap (λ (i : TxnId). i.seq) e in omega (arith, k)

    times : first.stamp ≡ second.stamp → ⊥
    times e = let k : first.stamp.time ≡ second.stamp.time = ap (λ (s : Stamp). s.time) e in omega (arith, k)

    id_of : Transaction → TxnId
    id_of t = t.id

    number : (a b : Transaction) → Among a both → Among b both → a.id ≡ b.id → a ≡ b
    number a b (inl p) (inl q) e = sym p ∙ q
    number a b (inr (inl p)) (inr (inl q)) e = sym p ∙ q
    number a b (inl p) (inr (inl q)) e = absurd (apart (ap id_of p ∙ e ∙ sym (ap id_of q)))
    number a b (inr (inl p)) (inl q) e = absurd (apart (ap id_of q ∙ sym e ∙ sym (ap id_of p)))
    number a b (inr (inr n)) q e = absurd n
    number a b p (inr (inr n)) e = absurd n

    stamp : (a b : Transaction) → Among a both → Among b both → a.stamp ≡ b.stamp → a.id ≡ b.id
    stamp a b (inl p) (inl q) e = ap id_of (sym p ∙ q)
    stamp a b (inr (inl p)) (inr (inl q)) e = ap id_of (sym p ∙ q)
    stamp a b (inl p) (inr (inl q)) e = absurd (times (ap (λ (t : Transaction). t.stamp) p ∙ e ∙ sym (ap (λ (t : Transaction). t.stamp) q)))
    stamp a b (inr (inl p)) (inl q) e = absurd (times (ap (λ (t : Transaction). t.stamp) q ∙ sym e ∙ sym (ap (λ (t : Transaction). t.stamp) p)))
    stamp a b (inr (inr n)) q e = absurd n
    stamp a b p (inr (inr n)) e = absurd n

-- each alone, and both, may be handed in
pub one_may : MayBeHanded (committed first ∷ [])
one_may = (((λ a. a), tt), (inl refl, tt))

pub two_may : MayBeHanded (committed first ∷ committed second ∷ [])
two_may = (((λ a. elim a [ inl e ↦ absurd (apart (sym e)) | inr n ↦ n ]), ((λ a. a), tt)), (inl refl, (inr (inl refl), tt)))
  where
    apart : first.id ≡ second.id → ⊥
    apart e = let k : first.id.seq ≡ second.id.seq = ap (λ (i : TxnId). i.seq) e in omega (arith, k)

-- after a line nothing is handed in but what was, and what comes with the line
handed_after : (state : EpochState) (handed : HandedIn) (line : GlobalLine) (answer : GlobalAnswer) (after : EpochState) → GlobalStep state handed line answer after →
    (t : Transaction) → Among t (handed_txns after) → Among t (handed_txns state) ⊎ Among t (txns_in handed.entries)
handed_after state handed line answer after step t a = by (is_accepted answer) refl (subst (λ s. Among t (handed_txns s)) step.after a)
  where
    of : (e : EpochState) → Among t (handed_txns e) → (g : GivenPromise) × Among g e.promises × Among t (txns_in g.promise.entries)
    of e m = Among-from_flat_map (λ (x : GivenPromise). txns_in x.promise.entries) t e.promises m

    by : (b : Bool) → is_accepted answer ≡ b → Among t (handed_txns (cond b (global_after state handed line) state)) → Among t (handed_txns state) ⊎ Among t (txns_in handed.entries)
    by false e m = inl m
    by true e m =
        let g = of (global_after state handed line) m in
        elim (promise_news state handed line (answer_given state line answer step.answered e) g.0 g.1) [
          | inl old ↦ inl (handed_here state g.0 old t g.2)
          | inr new ↦ inr (subst (λ (p : PromiseState). Among t (txns_in p.entries)) (sym new.1.2) g.2)
        ]

abbrev pub Leads : {B : Type 0} → (B → BaseState → Type 0) → Type 0
Leads {B} stands = (state : EpochState) (old new : ReplicasView B) (handed : HandedIn) (line : GlobalLine) (answer : GlobalAnswer) →
    IsReached state → StandsFor stands old state → LineFits state handed line → Does stands old new handed line (Some answer) → LeadsOn stands new state handed line answer

led : {B : Type 0} (stands : B → BaseState → Type 0) (new : ReplicasView B) (state : EpochState) (handed : HandedIn) (line : GlobalLine) (answer : GlobalAnswer) →
    ((t : Transaction) → Among t (handed_txns state) → Among t both) → ((t : Transaction) → Among t (txns_in handed.entries) → Among t both) →
    LeadsOn stands new state handed line answer → StandsReached stands new
led stands new state handed line answer before here l = record {
  state = l.after;
  reached = l.reached;
  stood_for = l.stood_for;
  handed = λ t a. elim (handed_after state handed line answer l.after l.step t a) [ inl old ↦ before t old | inr now ↦ here t now ];
}

pub stays_reached : {B : Type 0} (stands : B → BaseState → Type 0) → Leads stands → (old new : ReplicasView B) (line : GlobalLine) (told : Option GlobalAnswer) →
    (r : StandsReached stands old) → LineFits r.state nothing_handed line → Does stands old new nothing_handed line told → StandsReached stands new
stays_reached stands lead old new line (Some answer) r fits does =
    led stands new r.state nothing_handed line answer r.handed (λ t none. absurd none) (lead r.state old new nothing_handed line answer r.reached r.stood_for fits does)
stays_reached stands lead old new line None r fits does = subst (λ v. StandsReached stands v) (sym does.0) r

pub promise_reached : {B : Type 0} (stands : B → BaseState → Type 0) → Leads stands → (old new : ReplicasView B) (handed : HandedIn) (epoch q : ℕ) (told : Option GlobalAnswer) →
    StandsReached stands old → MayBeHanded handed.entries → ((state : EpochState) → StandsFor stands old state → FitsReplica state q handed.entries) →
    Does stands old new handed (Promise epoch q) told → StandsReached stands new
promise_reached stands lead old new handed epoch q (Some answer) r may fits does =
    led stands new r.state handed (Promise epoch q) answer r.handed here (lead r.state old new handed (Promise epoch q) answer r.reached r.stood_for (record {
      distinct_ids = may.0;
      entries_fit = λ replica at. fits r.state r.stood_for replica at;
      coherent = AreCoherent-within (handed_txns r.state ++ txns_in handed.entries) both
          (λ t a. elim (Among-append t (handed_txns r.state) (txns_in handed.entries) a) [ inl old ↦ r.handed t old | inr now ↦ here t now ]) both_coherent;
    }) does)
  where
    here : (t : Transaction) → Among t (txns_in handed.entries) → Among t both
    here t a =
        let e = Among-from_map (λ (e : Entry). e.txn) t handed.entries a in
        subst (λ (x : Transaction). Among x both) e.2 (Each-among (λ (e : Entry). Among e.txn both) e.0 handed.entries may.1 e.1)
promise_reached stands lead old new handed epoch q None r may fits does = subst (λ v. StandsReached stands v) (sym does.0) r

abbrev pub MergeLeads : {B : Type 0} → (B → BaseState → Type 0) → Type 0
MergeLeads {B} stands = (state : EpochState) (old new : ReplicasView B) (epoch : ℕ) (answer : GlobalAnswer) →
    IsReached state → StandsFor stands old state → Merges stands old new epoch (Some answer) → LeadsOn stands new state nothing_handed (Merge epoch) answer

pub merge_reached : {B : Type 0} (stands : B → BaseState → Type 0) → MergeLeads stands → (old new : ReplicasView B) (epoch : ℕ) (told : Option GlobalAnswer) →
    StandsReached stands old → Merges stands old new epoch told → StandsReached stands new
merge_reached stands lead old new epoch (Some answer) r does =
    led stands new r.state nothing_handed (Merge epoch) answer r.handed (λ t none. absurd none) (lead r.state old new epoch answer r.reached r.stood_for does)
merge_reached stands lead old new epoch None r does = subst (λ v. StandsReached stands v) (sym does.0) r

pub merge_fits : {B : Type 0} (stands : B → BaseState → Type 0) (old : ReplicasView B) (epoch : ℕ) → ((state : EpochState) → IsReached state → (e : ℕ) → ArePromises (promises_for e state)) → StandsReached stands old →
    (state : EpochState) × StandsFor stands old state × ArePromises (promises_for epoch state)
merge_fits stands old epoch fit r = (r.state, r.stood_for, fit r.state r.reached epoch)
