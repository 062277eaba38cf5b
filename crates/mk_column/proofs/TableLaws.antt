-- What writing a member of a list with an index does to the list and to the index.
use Rattle.std.proofs.Common.{◌≡◌, ℕ, zero, suc, Bool, true, refl, sym, ap, ◌∙◌, List, [], ◌∷◌, ◌++◌, take, length, get_or, map, Option, Some, None}
use Rattle.std.specs.Prelude.{find, slice_set, IsSome, IsSomeAnd}
use Rattle.std.proofs.lemmas.Option.{same_Some}
use Rattle.std.proofs.lemmas.List.{set-get_or}
use Rattle.std.proofs.Math.Seq.{map-set_same}
use Rattle.mk_lists.specs.Among.{AllDistinct}
use Rattle.mk_lists.specs.Changed.{change}
use Rattle.mk_lists.specs.Keyed.{IsIndex}
use Rattle.mk_lists.proofs.Changes.{map-change}
use Rattle.mk_lists.proofs.Lookups.{find-passes}
use Rattle.mk_lists.proofs.Members.{Among-from_take}

-- what has a property is there
pub some_there : {A : Type 0} (o : Option A) (P : A → Type 0) → IsSomeAnd o P → IsSome o
some_there None P h = absurd h
some_there (Some x) P h = refl

-- the same keys have the same index
pub IsIndex-same : {K X : Type 0} (key : X → K) (old new : List X) (keys : List K) → map key new ≡ map key old → IsIndex key old keys → IsIndex key new keys
IsIndex-same key old new keys same h = record { keys_are = h.keys_are ∙ sym same; distinct = h.distinct }

AllDistinct-take : {X : Type 0} (n : ℕ) (xs : List X) → AllDistinct xs → AllDistinct (take n xs)
AllDistinct-take zero xs h = tt
AllDistinct-take (suc n) [] h = tt
AllDistinct-take (suc n) (x ∷ xs) h = ((λ a. h.0 (Among-from_take x n xs a)), AllDistinct-take n xs h.1)

take-map_front : {K X : Type 0} (key : X → K) (members more : List X) → take (length members) (map key (members ++ more)) ≡ map key members
take-map_front key [] more = refl
take-map_front key (x ∷ members) more = ap (λ keys. key x ∷ keys) (take-map_front key members more)

-- the first keys are an index of the first members
pub IsIndex-taken : {K X : Type 0} (key : X → K) (members more : List X) (keys : List K) → IsIndex key (members ++ more) keys
    → IsIndex key members (take (length members) keys)
IsIndex-taken key members more keys h = record {
  keys_are = ap (take (length members)) h.keys_are ∙ take-map_front key members more;
  distinct = AllDistinct-take (length members) keys h.distinct;
}

-- writing a member as it is changes nothing
pub written-same : {X : Type 0} (items : List X) (place : ℕ) (member new : X) → new ≡ member → member ≡ get_or items place member
    → slice_set items place new ≡ items
written-same items place member new same at = ap (slice_set items place) (same ∙ at) ∙ set-get_or items place member

module _ {K X : Type 0} (same : K → K → Bool) (key : X → K) (tells : (a b : K) → same a b ≡ true → a ≡ b) where
  abbrev has_key : K → X → Bool
  has_key id member = same (key member) id

  abbrev member_of : K → List X → Option X
  member_of id members = find (has_key id) members

  abbrev change_member : K → (X → X) → List X → List X
  change_member id f members = change (has_key id) f members

  -- a change that keeps the keys keeps the index
  pub IsIndex-changed : (id : K) (f : X → X) → ((member : X) → key (f member) ≡ key member) → (old new : List X) (keys : List K)
      → new ≡ change_member id f old → IsIndex key old keys → IsIndex key new keys
  IsIndex-changed id f keeps old new keys is h = IsIndex-same key old new keys (ap (map key) is ∙ map-change key (has_key id) f keeps old) h

  -- the member that stands at its place is that of its key
  pub found-there : (id : K) (items members : List X) (place : ℕ) (member : X) → items ≡ members → member ≡ get_or items place member
      → ((other : X) → member_of id members ≡ Some (get_or members place other)) → member_of id members ≡ Some member
  found-there id items members place member list_is at found =
      found member ∙ ap (λ all. Some (get_or all place member)) (sym list_is) ∙ ap Some (sym at)

  -- writing what a change would make of a member is changing it
  pub written-as : (id : K) (f : X → X) (items members : List X) (place : ℕ) (new member : X) → items ≡ members → member_of id members ≡ Some member
      → f member ≡ new
      → ((other : X) → member_of id members ≡ Some (get_or members place other))
      → ((g : X → X) (other : X) → change_member id g members ≡ slice_set members place (g (get_or members place other)))
      → slice_set items place new ≡ change_member id f members
  written-as id f items members place new member list_is there becomes found changes =
      let at : get_or members place member ≡ member = same_Some (get_or members place member) member (sym (found member) ∙ there) in
      ap (λ all. slice_set all place new) list_is ∙ ap (slice_set members place) (sym becomes ∙ ap f (sym at)) ∙ sym (changes f member)

  -- a member of the same key leaves the index as it is
  pub IsIndex-put : (id : K) (items members : List X) (place : ℕ) (new : X) (keys : List K) → items ≡ members → key new ≡ id
      → ((other : X) → member_of id members ≡ Some (get_or members place other)) → IsIndex key items keys → IsIndex key (slice_set items place new) keys
  IsIndex-put id items members place new keys list_is is found h =
      let there : same (key (get_or members place new)) id ≡ true = find-passes (has_key id) members (get_or members place new) (found new) in
      let key_there : key (get_or items place new) ≡ id = ap (λ all. key (get_or all place new)) list_is ∙ tells (key (get_or members place new)) id there in
      IsIndex-same key items (slice_set items place new) keys (map-set_same key items place new new (is ∙ sym key_there)) h
