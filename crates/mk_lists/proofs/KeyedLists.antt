-- What the index of a list tells of a member, and what appending and changing members does to it.
use Rattle.std.proofs.Common.{◌≡◌, ℕ, zero, suc, ◌+◌, ◌<◌, ◌≤◌, Bool, true, false, cond, not, refl, sym, ap, subst, ◌∙◌, inl, inr, arith, List, [], ◌∷◌, ◌++◌, length, get_or, map, Option, Some, None}
use Rattle.std.specs.Prelude.{find, slice_get, slice_set, option_copied, option_map, is_some}
use Rattle.std.specs.List.{position, position_or_len, list_any}
use Rattle.std.specs.Borrow.{Bor}
use Rattle.std.specs.Slice.{IsItemAt}
use Rattle.std.proofs.lemmas.Option.{none-some, slice_get-get_or, slice_get_past, slice_get_read}
use Rattle.std.proofs.lemmas.List.{map_push, length-map, same_from_push}
use Rattle.std.proofs.lemmas.List.Folds.{find_at}
use Rattle.std.proofs.lemmas.Bool.Decides.{nat_tests}
use Rattle.std.proofs.Math.Seq.{map-set_same}
use Rattle.mk_lists.specs.Among.{Among, AllDistinct}
use Rattle.mk_lists.specs.Changed.{change}
use Rattle.mk_lists.specs.Keyed.{IsIndex}
use Rattle.mk_lists.proofs.Distinct.{AllDistinct-push, AllDistinct-front}
use Rattle.mk_lists.proofs.Lookups.{list_any-find, find-from_Among, find-map, find-same}

-- what an item of a slice is, as a value
pub got-at : {X : Type 0} (members : List X) (place : ℕ) (got : Option (Bor X)) → IsItemAt members place got → option_copied got ≡ slice_get members place
got-at members place None h = sym (slice_get_past members place h.3)
got-at members place (Some member) h = sym (slice_get_read members (length members) place member.now refl h.3.0 h.1)

-- ---- the first place that passes

module _ {X : Type 0} (p : X → Bool) (xs : List X) where
  pub position-at : (i : ℕ) → position p xs ≡ Some i → position_or_len p xs ≡ i
  position-at i e = grind (arith, nat_tests)

  pub position-within : (i : ℕ) → position p xs ≡ Some i → i < length xs
  position-within i e = grind (arith, nat_tests)

  pub position-past : position p xs ≡ None → length xs ≤ position_or_len p xs
  position-past e = grind (arith, nat_tests)

module _ {K X : Type 0} (same : K → K → Bool) (key : X → K)
    (tells : (a b : K) → same a b ≡ true → a ≡ b) (itself : (a : K) → same a a ≡ true) where
  abbrev has_key : K → X → Bool
  has_key id member = same (key member) id

  abbrev member_of : K → List X → Option X
  member_of id members = find (has_key id) members

  abbrev change_member : K → (X → X) → List X → List X
  change_member id f members = change (has_key id) f members

  same-back : (a b : K) → same a b ≡ same b a
  same-back a b = by_tests (same a b) (same b a) refl refl
    where
      by_tests : (s t : Bool) → same a b ≡ s → same b a ≡ t → s ≡ t
      by_tests true true e k = refl
      by_tests false false e k = refl
      by_tests true false e k = sym (itself b) ∙ ap (same b) (sym (tells a b e)) ∙ k
      by_tests false true e k = sym e ∙ ap (same a) (tells b a k) ∙ itself a

  -- ---- the place of a key is that of its member

  place-keys : (id : K) (members : List X) → position_or_len (same id) (map key members) ≡ position_or_len (has_key id) members
  place-keys id [] = refl
  place-keys id (first ∷ rest) =
      ap (λ b. cond (not b) (1 + position_or_len (same id) (map key rest)) 0) (same-back id (key first))
      ∙ ap (λ n. cond (not (has_key id first)) (1 + n) 0) (place-keys id rest)

  record IsPlaceOf (id : K) (members : List X) (place : ℕ) : Type 0 where
    pub at : position_or_len (has_key id) members ≡ place
    pub within : place < length members

  place-is : (id : K) (members : List X) (keys : List K) (place : ℕ) → IsIndex key members keys → position (same id) keys ≡ Some place → IsPlaceOf id members place
  place-is id members keys place h e = record {
    at = sym (place-keys id members) ∙ ap (position_or_len (same id)) (sym h.keys_are) ∙ position-at (same id) keys place e;
    within = subst (λ n. place < n) (ap length h.keys_are ∙ length-map members key) (position-within (same id) keys place e);
  }

  pub place_within : (id : K) (members : List X) (keys : List K) (place : ℕ) → IsIndex key members keys → position (same id) keys ≡ Some place → place < length members
  place_within id members keys place h e = (place-is id members keys place h e).within

  pub place_finds : (id : K) (members : List X) (keys : List K) (place : ℕ) → IsIndex key members keys → position (same id) keys ≡ Some place → slice_get members place ≡ member_of id members
  place_finds id members keys place h e =
      ap (slice_get members) (sym (place-is id members keys place h e).at) ∙ sym (find_at (has_key id) members)

  pub place_holds : (id : K) (members : List X) (keys : List K) (place : ℕ) (member : X) → IsIndex key members keys → position (same id) keys ≡ Some place
      → member_of id members ≡ Some (get_or members place member)
  place_holds id members keys place member h e =
      sym (place_finds id members keys place h e) ∙ slice_get-get_or members place member (place_within id members keys place h e)

  pub place_missing : (id : K) (members : List X) (keys : List K) → IsIndex key members keys → position (same id) keys ≡ None → member_of id members ≡ None
  place_missing id members keys h e =
      let past : length members ≤ position_or_len (has_key id) members =
      subst (λ n. n ≤ position_or_len (has_key id) members) (ap length h.keys_are ∙ length-map members key)
      (subst (λ n. length keys ≤ n) (ap (position_or_len (same id)) h.keys_are ∙ place-keys id members) (position-past (same id) keys e)) in
      find_at (has_key id) members ∙ slice_get_past members (position_or_len (has_key id) members) past

  -- ---- changing a member

  change-absent : (id : K) (f : X → X) (members : List X) → ¬ (Among id (map key members)) → change_member id f members ≡ members
  change-absent id f [] h = refl
  change-absent id f (first ∷ rest) h = by_first (has_key id first) refl (change-absent id f rest (λ a. h (inr a)))
    where
      by_first : (b : Bool) → has_key id first ≡ b → change_member id f rest ≡ rest → cond b (f first) first ∷ change_member id f rest ≡ first ∷ rest
      by_first true here e = absurd (h (inl (tells (key first) id here)))
      by_first false here e = ap (λ xs. first ∷ xs) e

  change-first : (id : K) (f : X → X) (members : List X) (place : ℕ) (member : X) → AllDistinct (map key members) → position_or_len (has_key id) members ≡ place → place < length members
      → change_member id f members ≡ slice_set members place (f (get_or members place member))
  change-first id f [] place member h at within = refl
  change-first id f (first ∷ rest) place member h at within = by_first (has_key id first) refl place at within (λ k e l. change-first id f rest k member h.1 e l)
    where
      by_first : (b : Bool) → has_key id first ≡ b → (place : ℕ) → cond (not b) (1 + position_or_len (has_key id) rest) 0 ≡ place → place < length (first ∷ rest)
          → ((k : ℕ) → position_or_len (has_key id) rest ≡ k → k < length rest → change_member id f rest ≡ slice_set rest k (f (get_or rest k member)))
          → cond b (f first) first ∷ change_member id f rest ≡ slice_set (first ∷ rest) place (f (get_or (first ∷ rest) place member))
      by_first true here zero e l next =
          let absent : ¬ (Among id (map key rest)) = subst (λ x. ¬ (Among x (map key rest))) (tells (key first) id here) h.0 in
          ap (λ xs. f first ∷ xs) (change-absent id f rest absent)
      by_first true here (suc k) e l next = absurd (omega (arith, e))
      by_first false here zero e l next = absurd (omega (arith, e))
      by_first false here (suc k) e l next = ap (λ xs. first ∷ xs) (next k (omega (arith, e)) (omega (arith, l)))

  pub place_changes : (id : K) (members : List X) (keys : List K) (place : ℕ) (f : X → X) (member : X) → IsIndex key members keys → position (same id) keys ≡ Some place
      → change_member id f members ≡ slice_set members place (f (get_or members place member))
  place_changes id members keys place f member h e =
      let is = place-is id members keys place h e in
      change-first id f members place member (subst AllDistinct h.keys_are h.distinct) is.at is.within

  -- writing what a member becomes at its place is changing it in the list
  pub written-changes : (id : K) (f : X → X) (items members : List X) (place : ℕ) (member : X) → items ≡ members → member ≡ get_or items place member
      → ((g : X → X) (other : X) → change_member id g members ≡ slice_set members place (g (get_or members place other))) → slice_set items place (f member) ≡ change_member id f items
  written-changes id f items members place member list_is at changes =
      ap (λ x. slice_set items place (f x)) at
      ∙ subst (λ all. slice_set all place (f (get_or all place member)) ≡ change_member id f all) (sym list_is) (sym (changes f member))

  -- ---- the index after a write, an append and a removal at the end

  -- a member of the same key leaves the keys as they are
  pub IsIndex-written : (members : List X) (keys : List K) (place : ℕ) (new member : X) → key new ≡ key (get_or members place member) → IsIndex key members keys → IsIndex key (slice_set members place new) keys
  IsIndex-written members keys place new member is h = record {
    keys_are = h.keys_are ∙ sym (map-set_same key members place new member is);
    distinct = h.distinct;
  }

  not-found : (id : K) (members : List X) → member_of id members ≡ None → find (same id) (map key members) ≡ None
  not-found id members none =
      find-map (same id) key members
      ∙ ap (option_map key) (find-same (λ member. same id (key member)) (has_key id) (λ member. same-back id (key member)) members ∙ none)

  not-among : (id : K) (members : List X) → member_of id members ≡ None → ¬ (Among id (map key members))
  not-among id members none = λ a.
      let found = find-from_Among (same id) (map key members) id a (itself id) in
      none-some found.0 (sym (not-found id members none) ∙ found.1)

  -- a key of no member is not found
  pub key-is_new : (id : K) (members : List X) (keys : List K) → IsIndex key members keys → member_of id members ≡ None → list_any (same id) keys ≡ false
  key-is_new id members keys h none =
      ap (list_any (same id)) h.keys_are ∙ list_any-find (same id) (map key members) ∙ ap is_some (not-found id members none)

  pub IsIndex-pushed : (members : List X) (member : X) (keys : List K) → member_of (key member) members ≡ None → IsIndex key members keys → IsIndex key (members ++ member ∷ []) (keys ++ key member ∷ [])
  IsIndex-pushed members member keys none h = record {
    keys_are = ap (λ ks. ks ++ key member ∷ []) h.keys_are ∙ sym (map_push key members member);
    distinct = AllDistinct-push keys (key member) h.distinct (subst (λ ks. ¬ (Among (key member) ks)) (sym h.keys_are) (not-among (key member) members none));
  }
