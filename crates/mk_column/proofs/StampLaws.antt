-- A stamp that there is not, since a version read is past the last time.
use Rattle.std.proofs.Common.{◌≡◌, ℕ, ◌+◌, ◌<◌, ◌^◌, ◌||◌, Bool, true, false, refl, arith, max, nat_lt, List, [], ◌∷◌, None}
use Rattle.std.specs.List.{list_any}
use Rattle.std.proofs.lemmas.Bool.Decides.{nat_tests}
use Rattle.std.proofs.lemmas.Bool.{cond-true}
use Rattle.mk_txn.specs.declared.ReadItem.{ReadItem}
use Rattle.mk_txn.specs.Stamps.{time_above_reads, fresh_time, next_stamp_of}

late-above : (reads : List ReadItem) → list_any (λ item. nat_lt (2 ^ 62) item.version.time) reads ≡ true → 2 ^ 62 < time_above_reads reads
late-above [] e = absurd (cc e)
late-above (item ∷ items) e = by_test (nat_lt (2 ^ 62) item.version.time) refl (late-above items) e
  where
    by_test : (b : Bool) → nat_lt (2 ^ 62) item.version.time ≡ b
        → (list_any (λ (i : ReadItem). nat_lt (2 ^ 62) i.version.time) items ≡ true → 2 ^ 62 < time_above_reads items)
        → (b || list_any (λ (i : ReadItem). nat_lt (2 ^ 62) i.version.time) items) ≡ true → 2 ^ 62 < max (item.version.time + 1) (time_above_reads items)
    by_test true here later e =
        let late : 2 ^ 62 < item.version.time = grind (arith, nat_tests, here) in
        omega (arith, late)
    by_test false here later e = let more = later e in omega (arith, more)

pub late-none : (client last clock : ℕ) (reads : List ReadItem) → list_any (λ item. nat_lt (2 ^ 62) item.version.time) reads ≡ true
    → next_stamp_of client last clock reads ≡ None
late-none client last clock reads e =
    let above = late-above reads e in
    let past : 2 ^ 62 < fresh_time last clock reads = omega (arith, above) in
    let test : nat_lt (2 ^ 62) (fresh_time last clock reads) ≡ true = grind (arith, nat_tests, past) in
    cond-true _ _ _ test
