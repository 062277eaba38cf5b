-- The place of a key at a replica among the keys of all replicas.
use Rattle.std.proofs.Common.{◌≡◌, ◌∙◌, ℕ, zero, suc, ◌+◌, ◌*◌, ◌<◌, List, length, slice_get, slice_index_or, Some, refl, sym, ap, arith}
use Rattle.std.specs.Prelude.{option_map}
use Rattle.std.proofs.lemmas.List.{length-map}
use Rattle.std.proofs.lemmas.Option.{slice_get-get_or, slice_get-map}
use Rattle.crossbeam_utils.specs.declared.cache_padded.CachePadded.{CachePadded}
use Rattle.crossbeam_utils.specs.Padded.{padded_value}
use Rattle.mk_lock.specs.Seats.{LockView}
use Rattle.mk_workers.specs.Seating.{locks_of, AreLocksOf}

pub place_inside : (n keys r key : ℕ) → r < n → key < keys → r * keys + key < n * keys
place_inside zero keys r key lt below = absurd (omega arith)
place_inside (suc n) keys zero key lt below = omega (arith, below)
place_inside (suc n) keys (suc r) key lt below = let rest = place_inside n keys r key (omega arith) below in omega (arith, rest)

pub same_place : (keys r key s other : ℕ) → key < keys → other < keys → r * keys + key ≡ s * keys + other → (r ≡ s) × (key ≡ other)
same_place keys zero key zero other below under e = (refl, omega (arith, e))
same_place keys zero key (suc s) other below under e = absurd (omega (arith, e, below))
same_place keys (suc r) key zero other below under e = absurd (omega (arith, e, under))
same_place keys (suc r) key (suc s) other below under e =
    let rest = same_place keys r key s other below under (omega (arith, e)) in (ap suc rest.0, rest.1)

-- the lock at a key's place is that of the key
pub lock_here : (n keys : ℕ) (locks : List LockView) (r key : ℕ) (l : LockView) → AreLocksOf n keys locks → key < keys → slice_get locks (r * keys + key) ≡ Some l → (l.replica ≡ r) × (l.key ≡ key)
lock_here n keys locks r key l are below at =
    let is = are.each (r * keys + key) l at in
    let same = same_place keys r key l.replica l.key below is.1 is.0 in (sym same.0, sym same.1)

-- there is a lock at a key's place
pub index_there : (n keys : ℕ) (locks : List LockView) (r key : ℕ) → AreLocksOf n keys locks → r < n → key < keys → r * keys + key < length locks
index_there n keys locks r key are lt below = let inside = place_inside n keys r key lt below in let all = are.all in omega (arith, inside, all)

-- the lock that is read at a place
pub lock_read : (locks : List (CachePadded LockView)) (k : ℕ) (d : CachePadded LockView) (l : LockView) → k < length (locks_of locks) → l ≡ padded_value {T = LockView} (slice_index_or locks k d) →
    slice_get (locks_of locks) k ≡ Some l
lock_read locks k d l inside value =
    let long = length-map locks (λ (p : CachePadded LockView). padded_value {T = LockView} p) in
    slice_get-map (λ (p : CachePadded LockView). padded_value {T = LockView} p) locks k
    ∙ (ap (option_map (λ (p : CachePadded LockView). padded_value {T = LockView} p)) (slice_get-get_or locks k d (omega (arith, inside, long))) ∙ ap Some (sym value))
