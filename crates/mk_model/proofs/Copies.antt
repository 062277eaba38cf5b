-- What a copy holds of a key, and after one more write.
use Rattle.std.proofs.Common.{◌≡◌, ℕ, refl, sym, ap, subst, ◌∙◌, ◌<◌, ◌+◌, length, get_or, drop, add-one, arith, List, [], ◌∷◌, ◌==◌, Option, Some, None, if◌then◌else◌}
use Rattle.std.proofs.lemmas.Bool.Decides.{nat_tests}
use Rattle.std.specs.Ordering.{nat_cmp}
use Rattle.std.proofs.Math.Seq.{drop-cons}
use Rattle.std.specs.Map.{lookup}
use Rattle.std.specs.BTreeMap.{is_at, insert_entry}
use Rattle.mk_txn.specs.declared.Stamp.{Stamp}
use Rattle.mk_txn.specs.declared.Value.{Value}
use Rattle.mk_txn.specs.declared.WriteItem.{WriteItem}
use Rattle.mk_txn.specs.LatestWrites.{VersionedValue, first_version}
use Rattle.mk_model.specs.OneCopy.{Copy, version_in, with_writes}

-- what is held, or what every key holds at first
abbrev pub held_or_first : Option (Stamp × Value) → VersionedValue
held_or_first None = first_version
held_or_first (Some held) = record { version = held.0; value = held.1 }

pub version_in-lookup : (copy : Copy) (key : ℕ) → held_or_first (lookup (is_at (nat_cmp key)) copy) ≡ version_in copy key
version_in-lookup [] key = refl
version_in-lookup (first ∷ rest) key = grind (arith, nat_tests, version_in-lookup rest key)

-- what a look-up in the map found, at a model that is the map's entries
pub version_in-found : (entries copy : Copy) (key : ℕ) (found : Option (Stamp × Value)) → entries ≡ copy → found ≡ lookup (is_at (nat_cmp key)) entries →
    held_or_first found ≡ version_in copy key
version_in-found entries copy key found is e = ap held_or_first e ∙ version_in-lookup entries key ∙ ap (λ c. version_in c key) is

-- after a write to a key
pub version_in-insert : (copy : Copy) (at : ℕ) (stamp : Stamp) (value : Value) (key : ℕ) →
    version_in (insert_entry nat_cmp copy at (stamp, value)) key ≡ (if at == key then record { version = stamp; value = value } else version_in copy key)
version_in-insert [] at stamp value key = refl
version_in-insert (first ∷ rest) at stamp value key = grind (arith, nat_tests, version_in-insert rest at stamp value key)

-- one write of a list of writes
pub with_writes-at : (stamp : Stamp) (items : List WriteItem) (i : ℕ) (d : WriteItem) (copy next : Copy) → i < length items →
    next ≡ insert_entry nat_cmp copy (get_or items i d).key (stamp, (get_or items i d).value) →
    with_writes stamp (drop (i + 1) items) next ≡ with_writes stamp (drop i items) copy
with_writes-at stamp items i d copy next within is =
    let cut : drop i items ≡ get_or items i d ∷ drop (i + 1) items =
    subst (λ k. drop i items ≡ get_or items i d ∷ drop k items) (sym (add-one i)) (drop-cons items i d within) in
    ap (with_writes stamp (drop (i + 1) items)) is ∙ sym (ap (λ list. with_writes stamp list copy) cut)
