-- A write that is put where its key's place is, or at the end.
use Rattle.std.proofs.Common.{◌≡◌, ℕ, suc, ◌+◌, ◌-◌, ◌≤◌, Bool, true, false, eqb, List, [], ◌∷◌, ◌++◌, Option, None, Some, set, get_or, refl, ap, arith}
use Rattle.std.specs.List.{position_from}
use Rattle.mk_txn.specs.declared.Value.{Value}
use Rattle.mk_txn.specs.declared.WriteItem.{WriteItem}
use Rattle.mk_client.specs.Computed.{put, place_of}

-- what `put` leaves, where the place of the key among these writes, counted from `from`, is this
abbrev IsPutAt : ℕ → Value → List WriteItem → ℕ → Option ℕ → Type 0
IsPutAt key value writes from None = put key value writes ≡ writes ++ record { key = key; value = value } ∷ []
IsPutAt key value writes from (Some place) =
    (from ≤ place)
    × ((item : WriteItem) → put key value writes ≡ set writes (place - from) (record (get_or writes (place - from) item) { value = value }))

later : (key : ℕ) (value : Value) (first : WriteItem) (writes : List WriteItem) (from : ℕ) (place : Option ℕ)
    → eqb first.key key ≡ false → IsPutAt key value writes (from + 1) place → IsPutAt key value (first ∷ writes) from place
later key value first writes from None e h = rw e (ap (λ items. first ∷ items) h)
later key value first writes from (Some place) e h =
    let next : place - from ≡ suc (place - (from + 1)) = omega (arith, h.0) in
    (omega (arith, h.0), λ item. rw (e, next) (ap (λ items. first ∷ items) (h.1 item)))

put_from : (key : ℕ) (value : Value) (writes : List WriteItem) (from : ℕ)
    → IsPutAt key value writes from (position_from (λ item. eqb item.key key) from writes)
put_from key value [] from = refl
put_from key value (first ∷ writes) from = head (eqb first.key key) refl (put_from key value writes (from + 1))
  where
    head : (b : Bool) → eqb first.key key ≡ b → IsPutAt key value writes (from + 1) (position_from (λ item. eqb item.key key) (from + 1) writes)
        → IsPutAt key value (first ∷ writes) from (position_from (λ item. eqb item.key key) from (first ∷ writes))
    head true e h = rw e (omega arith, λ item. let none : from - from ≡ 0 = omega arith in rw (e, none))
    head false e h = rw e (later key value first writes from _ e h)

pub put_is_at : (key : ℕ) (value : Value) (writes : List WriteItem) (place : ℕ) (item : WriteItem) → place_of key writes ≡ Some place
    → put key value writes ≡ set writes place (record (get_or writes place item) { value = value })
put_is_at key value writes place item e =
    let (low, put_there) = rw e at (put_from key value writes 0) in let same : place - 0 ≡ place = omega arith in rw same at (put_there item)

pub put_is_last : (key : ℕ) (value : Value) (writes : List WriteItem) → place_of key writes ≡ None
    → put key value writes ≡ writes ++ record { key = key; value = value } ∷ []
put_is_last key value writes e = rw e at (put_from key value writes 0)
