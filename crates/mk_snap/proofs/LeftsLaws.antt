-- What commits leave at keys, one write or read after another.
use Rattle.std.proofs.Common.{◌≡◌, ℕ, ◌<◌, ◌≤◌, ◌+◌, Bool, true, false, refl, sym, ap, subst, ◌∙◌, List, [], ◌∷◌, ◌++◌, length, get_or, drop, arith, length-append, ◌==◌, cond}
use Rattle.std.proofs.lemmas.Bool.Decides.{nat_tests}
use Rattle.std.proofs.lemmas.List.{drop_all, get_or_append_left, get_or_push}
use native.Mathlib.Decide.{dec_lt}
use mathlib.Core.Logic.{dite}
use Rattle.mk_txn.specs.declared.Stamp.{Stamp}
use Rattle.mk_txn.specs.declared.ReadItem.{ReadItem}
use Rattle.mk_txn.specs.declared.WriteItem.{WriteItem}
use Rattle.mk_txn.specs.Outcomes.{is_commit}
use Rattle.mk_txn.specs.LatestWrites.{after_writes}
use Rattle.mk_words.specs.Cells.{CellView}
use Rattle.mk_words.specs.declared.Fated.{Fated}
use Rattle.mk_words.specs.Bases.{commits_in}
use Rattle.mk_merge_laws.specs.Lefts.{LeftState, with_write, with_read, after_reads, after_commit, left_by, cell_left}
use Rattle.mk_snap.specs.Snapshots.{left_at, AreCells}
use Rattle.mk_lists.proofs.Places.{drop_read}

swapped : (a b : ℕ) → (a == b) ≡ (b == a)
swapped a b = grind (arith, nat_tests)

-- ---- writes

-- with the writes that are left it comes to all of them
abbrev pub ComesToWritten : Stamp → List WriteItem → ℕ → List (ℕ × LeftState) → List (ℕ × LeftState) → Type 0
ComesToWritten stamp items i begun lefts =
    (key : ℕ) → (after_writes key stamp (left_at key lefts).latest (drop i items) ≡ after_writes key stamp (left_at key begun).latest items) × ((left_at key lefts).rts ≡ (left_at key begun).rts)

pub written-next : (stamp : Stamp) (items : List WriteItem) (i : ℕ) (item : WriteItem) (begun old new : List (ℕ × LeftState)) → i < length items → item ≡ get_or items i item
    → ((other : ℕ) → left_at other new ≡ cond (other == item.key) (with_write stamp item.value (left_at other old)) (left_at other old))
    → ComesToWritten stamp items i begun old → ComesToWritten stamp items (i + 1) begun new
written-next stamp items i item begun old new within is made h key =
    let here : left_at key new ≡ cond (item.key == key) (with_write stamp item.value (left_at key old)) (left_at key old) =
    made key ∙ ap (λ (b : Bool). cond b (with_write stamp item.value (left_at key old)) (left_at key old)) (swapped key item.key) in (
      ap (λ (l : LeftState). after_writes key stamp l.latest (drop (i + 1) items)) here
          ∙ latest (item.key == key)
          ∙ sym (ap (after_writes key stamp (left_at key old).latest) (drop_read items i item within is))
          ∙ (h key).0,
      ap (λ (l : LeftState). l.rts) here ∙ rts (item.key == key) ∙ (h key).1,
    )
  where
    one : LeftState
    one = with_write stamp item.value (left_at key old)

    latest : (b : Bool) → after_writes key stamp (cond b one (left_at key old)).latest (drop (i + 1) items) ≡ after_writes key stamp (cond b one.latest (left_at key old).latest) (drop (i + 1) items)
    latest true = refl
    latest false = refl

    rts : (b : Bool) → (cond b one (left_at key old)).rts ≡ (left_at key old).rts
    rts true = refl
    rts false = refl

pub written-ends : (stamp : Stamp) (items all : List WriteItem) (i : ℕ) (begun lefts : List (ℕ × LeftState)) → length items ≤ i → items ≡ all → ComesToWritten stamp items i begun lefts
    → (key : ℕ) → left_at key lefts ≡ record { latest = after_writes key stamp (left_at key begun).latest all; rts = (left_at key begun).rts }
written-ends stamp items all i begun lefts past same h key =
    let latest : (left_at key lefts).latest ≡ after_writes key stamp (left_at key begun).latest all =
    sym (ap (after_writes key stamp (left_at key lefts).latest) (drop_all i items past)) ∙ (h key).0 ∙ ap (after_writes key stamp (left_at key begun).latest) same in
    λ j. record { latest = latest j; rts = (h key).1 j }

-- ---- reads

abbrev pub ComesToRead : Stamp → List ReadItem → ℕ → List (ℕ × LeftState) → List (ℕ × LeftState) → Type 0
ComesToRead stamp items i begun lefts =
    (key : ℕ) → (after_reads key stamp (left_at key lefts).rts (drop i items) ≡ after_reads key stamp (left_at key begun).rts items) × ((left_at key lefts).latest ≡ (left_at key begun).latest)

pub read-next : (stamp : Stamp) (items : List ReadItem) (i : ℕ) (item : ReadItem) (begun old new : List (ℕ × LeftState)) → i < length items → item ≡ get_or items i item
    → ((other : ℕ) → left_at other new ≡ cond (other == item.key) (with_read stamp (left_at other old)) (left_at other old))
    → ComesToRead stamp items i begun old → ComesToRead stamp items (i + 1) begun new
read-next stamp items i item begun old new within is made h key =
    let here : left_at key new ≡ cond (item.key == key) (with_read stamp (left_at key old)) (left_at key old) =
    made key ∙ ap (λ (b : Bool). cond b (with_read stamp (left_at key old)) (left_at key old)) (swapped key item.key) in (
      ap (λ (l : LeftState). after_reads key stamp l.rts (drop (i + 1) items)) here
          ∙ rts (item.key == key)
          ∙ sym (ap (after_reads key stamp (left_at key old).rts) (drop_read items i item within is))
          ∙ (h key).0,
      ap (λ (l : LeftState). l.latest) here ∙ latest (item.key == key) ∙ (h key).1,
    )
  where
    one : LeftState
    one = with_read stamp (left_at key old)

    rts : (b : Bool) → after_reads key stamp (cond b one (left_at key old)).rts (drop (i + 1) items) ≡ after_reads key stamp (cond b one.rts (left_at key old).rts) (drop (i + 1) items)
    rts true = refl
    rts false = refl

    latest : (b : Bool) → (cond b one (left_at key old)).latest ≡ (left_at key old).latest
    latest true = refl
    latest false = refl

pub read-ends : (stamp : Stamp) (items all : List ReadItem) (i : ℕ) (begun lefts : List (ℕ × LeftState)) → length items ≤ i → items ≡ all → ComesToRead stamp items i begun lefts
    → (key : ℕ) → left_at key lefts ≡ record { latest = (left_at key begun).latest; rts = after_reads key stamp (left_at key begun).rts all }
read-ends stamp items all i begun lefts past same h key =
    let rts : (left_at key lefts).rts ≡ after_reads key stamp (left_at key begun).rts all =
    sym (ap (after_reads key stamp (left_at key lefts).rts) (drop_all i items past)) ∙ (h key).0 ∙ ap (after_reads key stamp (left_at key begun).rts) same in
    λ j. record { latest = (h key).1 j; rts = rts j }

-- ---- commits

abbrev pub ComesToAdded : List Fated → ℕ → List (ℕ × LeftState) → List (ℕ × LeftState) → Type 0
ComesToAdded list i begun lefts = (key : ℕ) → left_by key (left_at key lefts) (commits_in (drop i list)) ≡ left_by key (left_at key begun) (commits_in list)

-- ---- cells
