-- Epoch order and the path of a base, for a state of which the facts are so.
use Rattle.std.proofs.Common.{◌≡◌, ◌⊎◌, ◌<◌, ◌≤◌, ◌+◌, ℕ, zero, suc, Bool, true, false, refl, arith, inl, inr, sym, ap, ◌∙◌, List, [], ◌∷◌, Option, Some, None, subst, cond}
use Rattle.std.specs.Prelude.{is_some, ◌==◌}
use Rattle.std.specs.List.{list_any}
use Rattle.std.proofs.lemmas.List.{length-map}
use Rattle.std.proofs.lemmas.Bool.{eqb-true, cases_lt}
use Rattle.std.proofs.lemmas.Option.{slice_get_within}
use Rattle.mk_lists.specs.Among.{Among}
use Rattle.mk_lists.proofs.Tests.{Among-from_list_any}
use Rattle.mk_lists.proofs.Members.{Among-from_map}
use Rattle.mk_quorum.specs.Sizes.{members, majority_of}
use Rattle.mk_quorum.proofs.Meeting.{majorities_meet}
use Rattle.mk_words.specs.Bases.{BaseState, empty_base}
use Rattle.mk_words.specs.Promises.{PromiseState, can_merge, chosen, highest_adopted}
use Rattle.mk_model.specs.EpochState.{GivenPromise, Adoption, EpochState, MadeBase, promises_for, made_for, base_for, ever_adopted, adopters}
use Rattle.mk_model.specs.Force.{InForce, LeadsToMajority, source_of}
use Rattle.mk_basic_laws.proofs.ListCounting.{list_counts}
use Rattle.mk_epoch_laws.specs.BaseLaws.{IsMade, IsHeld}
use Rattle.mk_epoch_laws.specs.PathLaws.{EpochsInOrder, IsBuiltOn, down, PathsPass}
use Rattle.mk_epoch_laws.proofs.EpochFacts.{EpochFacts}
use Rattle.mk_epoch_laws.proofs.FactsKept.{given_of}
use Rattle.mk_epoch_laws.proofs.ReplicasKept.{made_there}
use Rattle.mk_epoch_laws.proofs.Resetting.{adoption_of, held_was_made}
use Rattle.mk_epoch_laws.proofs.PromisesTaken.{replicas_of, each_below, chosen_distinct, chosen_majority, chosen_member, highest_above, highest_is, highest_below}

pub at_most : (a b : ℕ) → a ≤ b → (b ≡ a) ⊎ (a < b)
at_most zero zero h = inl refl
at_most zero (suc b) h = inr (omega arith)
at_most (suc a) zero h = absurd (omega (arith, h))
at_most (suc a) (suc b) h = elim (at_most a b (omega (arith, h))) [ inl p ↦ inl (ap suc p) | inr q ↦ inr (omega (arith, q)) ]

-- a base that an epoch has is epoch 0's, or stands among those that were made
pub made_or_first : (state : EpochState) (e : ℕ) → IsMade state e → (e ≡ 0) ⊎ ((m : MadeBase) × Among m state.made × (m.epoch ≡ e) × (base_for e state ≡ Some m.base))
made_or_first state e is = by (e == 0) refl (made_for e state) refl is
  where
    by : (b : Bool) → (e == 0) ≡ b → (o : Option BaseState) → made_for e state ≡ o → is_some (cond b (Some empty_base) o) ≡ true →
        (e ≡ 0) ⊎ ((m : MadeBase) × Among m state.made × (m.epoch ≡ e) × (cond b (Some empty_base) (made_for e state) ≡ Some m.base))
    by true z o k is = inl (eqb-true e 0 z)
    by false z None k is = absurd (cc is)
    by false z (Some base) k is = let m = made_there state e base k in inr (m.0, m.1, m.2, k ∙ ap Some (sym m.3))

module _ (state : EpochState) (h : EpochFacts state) where
  -- a promise that may be taken for an epoch is of a lower one
  promised_lower : (e : ℕ) (p : PromiseState) → Among p (promises_for e state) → p.adopted < e
  promised_lower e p a =
      let g = given_of e state p a in
      let low = (h.given g.0 g.1).lower in
      let same = ap (λ (x : PromiseState). x.adopted) g.3 in
      let epoch = g.2 in
      omega (arith, low, same, epoch)

  pub taken_given : (e : ℕ) (p : PromiseState) → Among p (chosen state.faults e (promises_for e state)) → can_merge state.faults e (promises_for e state) ≡ true → Among p (promises_for e state)
  taken_given e p a may = chosen_member state.faults e (promises_for e state) (h.one_promise e) may p a

  pub source_below : (m : MadeBase) → Among m state.made → source_of state m.epoch < m.epoch
  source_below m a =
      let well = h.well m a in
      highest_below m.epoch (chosen state.faults m.epoch (promises_for m.epoch state)) well.after_first
      (λ p b. promised_lower m.epoch p (taken_given m.epoch p b well.could))

  pub source_made : (m : MadeBase) → Among m state.made → IsMade state (source_of state m.epoch)
  source_made m a = elim (highest_is (chosen state.faults m.epoch (promises_for m.epoch state))) [
    | inl none ↦ subst (λ (n : ℕ). IsMade state n) (sym none) refl
    | inr k ↦
        let g = given_of m.epoch state k.0 (taken_given m.epoch k.0 k.1 (h.well m a).could) in
        let base = (h.given g.0 g.1).base_then in
        let same : g.0.promise.adopted ≡ source_of state m.epoch = ap (λ (x : PromiseState). x.adopted) g.3 ∙ k.2 in
        subst (λ (n : ℕ). IsMade state n) same (ap is_some base)
  ]

  pub source_zero : source_of state 0 ≡ 0
  source_zero = none_promised (promises_for 0 state) (λ p a. absurd (nothing_below p.adopted (promised_lower 0 p a)))
    where
      nothing_below : (n : ℕ) → n < 0 → ⊥
      nothing_below n lt = omega (arith, lt)

      none_promised : (ps : List PromiseState) → ((p : PromiseState) → Among p ps → ⊥) → highest_adopted (chosen state.faults 0 ps) ≡ 0
      none_promised [] none = by state.faults
        where
          by : (f : ℕ) → highest_adopted (chosen f 0 []) ≡ 0
          by zero = refl
          by (suc f) = refl
      none_promised (p ∷ ps) none = absurd (none p (inl refl))

  pub below : (e : ℕ) → IsMade state e → 0 < e → source_of state e < e
  below e is up = elim (made_or_first state e is) [
    | inl first ↦ absurd (omega (arith, first, up))
    | inr m ↦ subst (λ (n : ℕ). source_of state n < n) m.2 (source_below m.0 m.1)
  ]

  pub further_made : (e : ℕ) → IsMade state e → IsMade state (source_of state e)
  further_made e is = elim (made_or_first state e is) [
    | inl first ↦ subst (λ (n : ℕ). IsMade state n) (sym (ap (source_of state) first ∙ source_zero)) refl
    | inr m ↦ subst (λ (n : ℕ). IsMade state (source_of state n)) m.2 (source_made m.0 m.1)
  ]

  -- a replica that adopted an epoch below its promise knew it then
  knew_then : (held : ℕ) (g : GivenPromise) → Among g state.promises → (b : Adoption) → Among b state.adoptions → b.epoch ≡ held → b.replica ≡ g.promise.replica → held < g.epoch →
      held ≤ g.promise.adopted
  knew_then held g a b adopts at by_r lt =
      elim ((h.given g a).gap b.epoch (inr (subst (λ (n : ℕ). Among (record { epoch = b.epoch; replica = n }) state.adoptions) by_r adopts))) [
        | inl knows ↦ omega (arith, knows, at)
        | inr above ↦ absurd (omega (arith, above, at, lt))
      ]

  -- a replica of the promises taken that adopted the epoch has it below their highest
  taken_know : (held : ℕ) (m : MadeBase) → Among m state.made → held < m.epoch → (p : PromiseState) → Among p (chosen state.faults m.epoch (promises_for m.epoch state)) →
      (b : Adoption) → Among b state.adoptions → b.epoch ≡ held → b.replica ≡ p.replica → held ≤ source_of state m.epoch
  taken_know held m a lt p taken b adopts at by_p =
      let g = given_of m.epoch state p (taken_given m.epoch p taken (h.well m a).could) in
      let of_m = g.2 in
      let knows = knew_then held g.0 g.1 b adopts at (by_p ∙ ap (λ (y : PromiseState). y.replica) (sym g.3)) (omega (arith, lt, of_m)) in
      let adopted = ap (λ (y : PromiseState). y.adopted) g.3 in
      let top = highest_above p (chosen state.faults m.epoch (promises_for m.epoch state)) taken in
      omega (arith, knows, adopted, top)

  -- who gave a promise is one of the replicas
  pub promiser_there : (g : GivenPromise) → Among g state.promises → g.promise.replica < members state.faults
  promiser_there g a =
      let k = (h.given g a).of_member in
      let low = slice_get_within state.replicas g.promise.replica k.0 k.1 in
      let all = h.all_there in
      omega (arith, low, all)

  pub inside : (e : ℕ) (p : PromiseState) → Among p (promises_for e state) → p.replica < members state.faults
  inside e p b = let g = given_of e state p b in subst (λ (x : PromiseState). x.replica < members state.faults) g.3 (promiser_there g.0 g.1)

  -- the promises of a base and the adopters of an epoch below share a replica
  promises_know : (held : ℕ) (m : MadeBase) → Among m state.made → held < m.epoch → majority_of state.faults ≤ adopters held state → held ≤ source_of state m.epoch
  promises_know held m a lt many =
      let f = state.faults in
      let ps = promises_for m.epoch state in
      let may = (h.well m a).could in
      let distinct = h.one_promise m.epoch in
      let cs = chosen f m.epoch ps in
      let counted = list_counts (members f) (replicas_of cs) (chosen_distinct f m.epoch ps distinct may)
      (each_below (members f) cs (λ p b. inside m.epoch p (taken_given m.epoch p b may))) in
      let long = chosen_majority f m.epoch ps distinct may in
      let same_long = length-map cs (λ (p : PromiseState). p.replica) in
      let r = majorities_meet f (ever_adopted held state) (λ r. list_any (λ x. x == r) (replicas_of cs)) many (omega (arith, counted, long, same_long)) in
      let x = Among-from_list_any (λ y. y == r.0) (replicas_of cs) r.3 in
      let p = Among-from_map (λ (p : PromiseState). p.replica) x.0 cs x.1 in
      let b = adoption_of held state r.0 r.2 in
      taken_know held m a lt p.0 p.1 b.0 b.1 b.2 (b.3 ∙ sym (eqb-true x.0 r.0 x.2) ∙ sym p.2)

  pub in_order : EpochsInOrder state
  in_order held made (inl first) is lt = omega (arith, first)
  in_order held made (inr many) is lt = elim (made_or_first state made is) [
    | inl first ↦ absurd (omega (arith, first, lt))
    | inr m ↦ subst (λ (n : ℕ). held ≤ source_of state n) m.2 (promises_know held m.0 m.1 (let same = m.2 in omega (arith, same, lt)) many)
  ]

  source_le : (e : ℕ) → IsMade state e → source_of state e ≤ e
  source_le e is = elim (at_most 0 e (omega arith)) [
    | inl first ↦ (let k = ap (source_of state) first in let z = source_zero in omega (arith, first, k, z))
    | inr up ↦ (let low = below e is up in omega (arith, low))
  ]

  pub down_le : (k e : ℕ) → IsMade state e → down state k e ≤ e
  down_le zero e is = omega arith
  down_le (suc k) e is = let low = down_le k (source_of state e) (further_made e is) in let le = source_le e is in omega (arith, low, le)

  pub down_made : (k e : ℕ) → IsMade state e → IsMade state (down state k e)
  down_made zero e is = is
  down_made (suc k) e is = down_made k (source_of state e) (further_made e is)

  pub built_made : (e other : ℕ) → IsMade state e → IsBuiltOn state e other → IsMade state other
  built_made e other is on = subst (λ (n : ℕ). IsMade state n) on.1 (down_made on.0 e is)

  passes_within : (limit held made : ℕ) → made ≤ limit → IsHeld state held → IsMade state made → held ≤ made → IsBuiltOn state made held
  passes_within zero held made small holds is le = (0, omega (arith, small, le))
  passes_within (suc limit) held made small holds is le = elim (at_most held made le) [
    | inl same ↦ (0, same)
    | inr lt ↦
        let low = below made is (omega (arith, lt)) in
        let on = passes_within limit held (source_of state made) (omega (arith, low, small)) holds (further_made made is) (in_order held made holds is lt) in
        (suc on.0, on.1)
  ]

  pub paths_pass : PathsPass state
  paths_pass held made holds is le = passes_within made held made (omega arith) holds is le

  down_more : (j k e : ℕ) → down state (j + k) e ≡ down state k (down state j e)
  down_more zero k e = ap (λ (n : ℕ). down state n e) {x = 0 + k} {y = k} (omega arith)
  down_more (suc j) k e = ap (λ (n : ℕ). down state n e) {x = suc j + k} {y = suc (j + k)} (omega arith) ∙ down_more j k (source_of state e)

  pub built_further : (e m other : ℕ) → IsBuiltOn state e m → IsBuiltOn state m other → IsBuiltOn state e other
  built_further e m other p q = (p.0 + q.0, down_more p.0 q.0 e ∙ ap (down state q.0) p.1 ∙ q.1)

  -- of two members of one path the higher was built on the lower
  between : (k j e : ℕ) → IsMade state e → down state j e ≤ down state k e → IsBuiltOn state (down state k e) (down state j e)
  between zero j e is le = (j, refl)
  between (suc k) zero e is le =
      let low = down_le k (source_of state e) (further_made e is) in
      let up = source_le e is in
      (0, omega (arith, le, low, up))
  between (suc k) (suc j) e is le = between k j (source_of state e) (further_made e is) le

  pub built_between : (e high low : ℕ) → IsMade state e → IsBuiltOn state e high → IsBuiltOn state e low → low ≤ high → IsBuiltOn state high low
  built_between e high low is p q le =
      let a = p.1 in
      let b = q.1 in
      subst (λ (n : ℕ). IsBuiltOn state n low) p.1
      (subst (IsBuiltOn state (down state p.0 e)) q.1 (between p.0 q.0 e is (omega (arith, a, b, le))))

  -- what is in force lies on the path of what a majority ever adopted
  pub forced : (e : ℕ) → InForce state e → (top : ℕ) × IsHeld state top × IsBuiltOn state top e
  forced e (inl first) = (0, inl refl, (0, sym first))
  forced e (inr (path, leads)) = by path e leads
    where
      by : (path : List ℕ) (e : ℕ) → LeadsToMajority state e path → (top : ℕ) × IsHeld state top × IsBuiltOn state top e
      by [] e many = (e, inr many, (0, refl))
      by (later ∷ rest) e (from, leads) = let k = by rest later leads in (k.0, k.1, built_further k.0 later e k.2 (1, from))

  pub force_made : (e : ℕ) → InForce state e → IsMade state e
  force_made e force = let k = forced e force in built_made k.0 e (held_was_made state h k.0 k.1) k.2

  -- a held epoch above the source of one in force was built on it
  pub force_under : (e held : ℕ) → InForce state e → 0 < e → IsHeld state held → source_of state e < held → IsBuiltOn state held e
  force_under e held force up holds lt =
      let k = forced e force in
      let made = force_made e force in
      let held_made = held_was_made state h held holds in
      let top_made = held_was_made state h k.0 k.1 in
      let le : e ≤ held = elim (cases_lt held e) [ inr p ↦ p | inl q ↦ (let order = in_order held e holds made q in absurd (omega (arith, order, lt))) ] in
      elim (cases_lt held k.0) [
        | inr p ↦ built_further held k.0 e (paths_pass k.0 held k.1 held_made p) k.2
        | inl q ↦ built_between k.0 held e top_made (paths_pass held k.0 holds top_made (omega (arith, q))) k.2 le
      ]
