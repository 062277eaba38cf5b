-- The promises of which a base is made: a majority's, of different replicas, the leader's among them; they stay when more are given.
use Rattle.std.proofs.Common.{◌≡◌, ◌⊎◌, ◌<◌, ◌≤◌, ℕ, zero, suc, Bool, true, false, refl, arith, inl, inr, sym, ap, ◌∙◌, List, [], ◌∷◌, ◌++◌, subst, cond, not, ◌&&◌, length, map, take}
use Rattle.std.specs.Prelude.{nat_le, max, ◌==◌, filter}
use Rattle.std.specs.List.{list_any}
use Rattle.std.proofs.lemmas.Bool.Decides.{nat_tests}
use Rattle.std.proofs.lemmas.List.Filters.{length-filter_both}
use Rattle.std.proofs.lemmas.List.{length-take-le, length-append, map-append, take-append-le}
use Rattle.std.proofs.lemmas.Bool.{and_parts, eqb-true}
use Rattle.std.proofs.lemmas.List.Elements.{filter-append}
use Rattle.mk_lists.specs.Among.{Among, AllDistinct, Each, Among-append}
use Rattle.mk_lists.proofs.Members.{Among-from_filter, Among-from_take, Among-from_map, Among-map}
use Rattle.mk_lists.proofs.Tests.{list_any-append_left}
use Rattle.mk_lists.proofs.Distinct.{AllDistinct-append}
use Rattle.mk_lists.proofs.Filters.{length-filter_some}
use Rattle.mk_quorum.specs.Sizes.{majority_of}
use Rattle.mk_words.specs.Promises.{PromiseState}
use Rattle.mk_words.specs.Promises.{chosen, highest_adopted, leader_of, can_merge}

-- replicas of a list of promises
abbrev pub replicas_of : List PromiseState → List ℕ
replicas_of promises = map (λ p. p.replica) promises

pub distinct-filter : (test : PromiseState → Bool) (ps : List PromiseState) → AllDistinct (replicas_of ps) → AllDistinct (replicas_of (filter test ps))
distinct-filter test [] d = tt
distinct-filter test (p ∷ ps) d = by (test p) (distinct-filter test ps d.1)
  where
    by : (b : Bool) → AllDistinct (replicas_of (filter test ps)) → AllDistinct (replicas_of (cond b (p ∷ filter test ps) (filter test ps)))
    by true again = ((λ a. let k = Among-from_map (λ (p : PromiseState). p.replica) p.replica (filter test ps) a in d.0 (subst (λ (n : ℕ). Among n (replicas_of ps)) k.2 (Among-map (λ (p : PromiseState). p.replica) k.0 ps (Among-from_filter test k.0 ps k.1).0))), again)
    by false again = again

distinct-take : (n : ℕ) (ps : List PromiseState) → AllDistinct (replicas_of ps) → AllDistinct (replicas_of (take n ps))
distinct-take zero ps d = tt
distinct-take (suc n) [] d = tt
distinct-take (suc n) (p ∷ ps) d = ((λ a. let k = Among-from_map (λ (p : PromiseState). p.replica) p.replica (take n ps) a in d.0 (subst (λ (m : ℕ). Among m (replicas_of ps)) k.2 (Among-map (λ (p : PromiseState). p.replica) k.0 ps (Among-from_take k.0 n ps k.1)))), distinct-take n ps d.1)

-- an adopted epoch that a promise of the list knows is at most the highest
pub highest_above : (p : PromiseState) (ps : List PromiseState) → Among p ps → p.adopted ≤ highest_adopted ps
highest_above p [] a = absurd a
highest_above p (q ∷ ps) (inl e) = let k : q.adopted ≡ p.adopted = ap (λ (x : PromiseState). x.adopted) e in omega (arith, k)
highest_above p (q ∷ ps) (inr a) = omega (arith, highest_above p ps a)

same_replica-few : (r : ℕ) (ps : List PromiseState) → AllDistinct (replicas_of ps) → ((p : PromiseState) → Among p ps → p.replica ≡ r) → length ps ≤ 1
same_replica-few r [] d h = omega arith
same_replica-few r (p ∷ []) d h = omega arith
same_replica-few r (p ∷ (q ∷ ps)) d h = absurd (d.0 (inl (h q (inr (inl refl)) ∙ sym (h p (inl refl)))))

leads : ℕ → ℕ → PromiseState → Bool
leads f epoch p = p.replica == leader_of f epoch

not_eqb-tells : (a b : ℕ) → not (a == b) ≡ true → a ≡ b → ⊥
not_eqb-tells a b e k = grind (arith, nat_tests)

module _ (f epoch : ℕ) (ps : List PromiseState) (distinct : AllDistinct (replicas_of ps)) (may : can_merge f epoch ps ≡ true) where
  led : List PromiseState
  led = filter (λ p. p.replica == leader_of f epoch) ps

  others : List PromiseState
  others = filter (λ p. not (p.replica == leader_of f epoch)) ps

  enough : (majority_of f ≤ length ps) × (list_any (λ p. p.replica == leader_of f epoch) ps ≡ true)
  enough = let k = both (nat_le (majority_of f) (length ps)) (list_any (λ p. p.replica == leader_of f epoch) ps) may in (grind (arith, nat_tests, k.0), k.1)
    where
      both : (a b : Bool) → (a && b) ≡ true → (a ≡ true) × (b ≡ true)
      both true b e = (refl, e)
      both false b e = absurd (cc e)

  few_led : length led ≤ 1
  unfolding led
  few_led = same_replica-few (leader_of f epoch) (filter (λ p. p.replica == leader_of f epoch) ps) (distinct-filter (λ p. p.replica == leader_of f epoch) ps distinct)
      (λ p a. eqb-true p.replica (leader_of f epoch) (Among-from_filter (λ q. q.replica == leader_of f epoch) p ps a).1)

  one_led : 1 ≤ length led
  unfolding led
  one_led = length-filter_some (λ p. p.replica == leader_of f epoch) ps enough.1

  many_others : f ≤ length others
  unfolding led others
  many_others = let k = length-filter_both (λ p. p.replica == leader_of f epoch) (λ p. not (p.replica == leader_of f epoch)) (λ _. refl) ps in
      let few = few_led in let much = enough.0 in omega (arith, k, few, much)

  pub chosen_distinct : AllDistinct (replicas_of (chosen f epoch ps))
  unfolding led others
  chosen_distinct =
      subst AllDistinct (sym (map-append (λ (p : PromiseState). p.replica) (take 1 led) (take f others)))
      (AllDistinct-append (replicas_of (take 1 led)) (replicas_of (take f others))
      (distinct-take 1 led (distinct-filter (λ p. p.replica == leader_of f epoch) ps distinct))
      (distinct-take f others (distinct-filter (λ p. not (p.replica == leader_of f epoch)) ps distinct))
      (λ r a b.
      let p = Among-from_map (λ (p : PromiseState). p.replica) r (take 1 led) a in
      let q = Among-from_map (λ (p : PromiseState). p.replica) r (take f others) b in
      let leader = eqb-true p.0.replica (leader_of f epoch) (Among-from_filter (λ p. p.replica == leader_of f epoch) p.0 ps (Among-from_take p.0 1 led p.1)).1 in
      not_eqb-tells q.0.replica (leader_of f epoch) (Among-from_filter (λ p. not (p.replica == leader_of f epoch)) q.0 ps (Among-from_take q.0 f others q.1)).1 (q.2 ∙ sym p.2 ∙ leader)))

  pub chosen_member : (p : PromiseState) → Among p (chosen f epoch ps) → Among p ps
  chosen_member p a = elim (Among-append p (take 1 (filter (λ p. p.replica == leader_of f epoch) ps)) (take f (filter (λ p. not (p.replica == leader_of f epoch)) ps)) a) [
    | inl b ↦ (Among-from_filter (λ p. p.replica == leader_of f epoch) p ps (Among-from_take p 1 (filter (λ p. p.replica == leader_of f epoch) ps) b)).0
    | inr b ↦ (Among-from_filter (λ p. not (p.replica == leader_of f epoch)) p ps (Among-from_take p f (filter (λ p. not (p.replica == leader_of f epoch)) ps) b)).0
  ]

pub each_below : (n : ℕ) (ps : List PromiseState) → ((p : PromiseState) → Among p ps → p.replica < n) → Each (λ r. r < n) (replicas_of ps)
each_below n [] h = tt
each_below n (p ∷ ps) h = (h p (inl refl), each_below n ps (λ q a. h q (inr a)))

-- Where a base can be made, its promises stay when more are given.
module _ (f epoch : ℕ) (ps more : List PromiseState) (distinct : AllDistinct (replicas_of ps)) (may : can_merge f epoch ps ≡ true) where
  pub chosen_stays : chosen f epoch (ps ++ more) ≡ chosen f epoch ps
  unfolding led others
  chosen_stays =
      let first = take-append-le 1 (led f epoch ps distinct may) (filter (λ p. p.replica == leader_of f epoch) more) (one_led f epoch ps distinct may) in
      let rest = take-append-le f (others f epoch ps distinct may) (filter (λ p. not (p.replica == leader_of f epoch)) more) (many_others f epoch ps distinct may) in
      let a = ap (λ (xs : List PromiseState). take 1 xs ++ take f (filter (λ p. not (p.replica == leader_of f epoch)) (ps ++ more))) (filter-append (λ (p : PromiseState). p.replica == leader_of f epoch) ps more) in
      let b = ap (λ (xs : List PromiseState). take 1 (filter (λ p. p.replica == leader_of f epoch) ps ++ filter (λ p. p.replica == leader_of f epoch) more) ++ take f xs)
      (filter-append (λ (p : PromiseState). not (p.replica == leader_of f epoch)) ps more) in
      a ∙ b
      ∙ ap (λ (xs : List PromiseState). xs ++ take f (filter (λ p. not (p.replica == leader_of f epoch)) ps ++ filter (λ p. not (p.replica == leader_of f epoch)) more)) first
      ∙ ap (λ (xs : List PromiseState). take 1 (filter (λ p. p.replica == leader_of f epoch) ps) ++ xs) rest

  pub could_stays : can_merge f epoch (ps ++ more) ≡ true
  could_stays =
      let k = and_parts (nat_le (majority_of f) (length ps)) (list_any (λ p. p.replica == leader_of f epoch) ps) may in
      let longer = length-append ps more in
      let enough : nat_le (majority_of f) (length (ps ++ more)) ≡ true = grind (arith, nat_tests, k.0, longer) in
      let leads = list_any-append_left (λ (p : PromiseState). p.replica == leader_of f epoch) ps more k.1 in
      grind (arith, enough, leads)

module _ (f epoch : ℕ) (ps : List PromiseState) (distinct : AllDistinct (replicas_of ps)) (may : can_merge f epoch ps ≡ true) where
  pub chosen_majority : length (chosen f epoch ps) ≡ majority_of f
  unfolding led others
  chosen_majority =
      let a = length-take-le 1 (led f epoch ps distinct may) (one_led f epoch ps distinct may) in
      let b = length-take-le f (others f epoch ps distinct may) (many_others f epoch ps distinct may) in
      let c = length-append (take 1 (led f epoch ps distinct may)) (take f (others f epoch ps distinct may)) in
      omega (arith, a, b, c)

  pub chosen_leader : Among (leader_of f epoch) (replicas_of (chosen f epoch ps))
  unfolding led
  chosen_leader = by (led f epoch ps distinct may) refl (one_led f epoch ps distinct may)
    where
      by : (ls : List PromiseState) → filter (λ p. p.replica == leader_of f epoch) ps ≡ ls → 1 ≤ length ls → Among (leader_of f epoch) (replicas_of (take 1 ls ++ take f (filter (λ p. not (p.replica == leader_of f epoch)) ps)))
      by [] e one = absurd (omega (arith, one))
      by (l ∷ ls) e one = inl (eqb-true l.replica (leader_of f epoch) (Among-from_filter (λ p. p.replica == leader_of f epoch) l ps (subst (Among l) (sym e) (inl refl))).1)

-- the highest adopted epoch is 0 or that of one of them
pub highest_is : (ps : List PromiseState) → (highest_adopted ps ≡ 0) ⊎ ((p : PromiseState) × Among p ps × (p.adopted ≡ highest_adopted ps))
highest_is [] = inl refl
highest_is (p ∷ ps) = elim (highest_is ps) [
  | inl none ↦ inr (p, inl refl, omega (arith, none))
  | inr k ↦ elim (larger p.adopted (highest_adopted ps)) [
    | inl here ↦ inr (p, inl refl, sym here)
    | inr there ↦ inr (k.0, inr k.1, k.2 ∙ sym there)
  ]
]
  where
    larger : (a b : ℕ) → (max a b ≡ a) ⊎ (max a b ≡ b)
    larger a b = grind arith

-- the highest is below what all are below
pub highest_below : (limit : ℕ) (ps : List PromiseState) → 0 < limit → ((p : PromiseState) → Among p ps → p.adopted < limit) → highest_adopted ps < limit
highest_below limit ps up h = elim (highest_is ps) [ inl none ↦ omega (arith, none, up) | inr k ↦ let below = h k.0 k.1 in let same = k.2 in omega (arith, below, same) ]
