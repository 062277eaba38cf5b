-- What commits leave at every key, one item and one commit after another.
use Rattle.std.proofs.Common.{◌≡◌, ℕ, ◌<◌, ◌≤◌, ◌+◌, true, false, refl, sym, ap, subst, ◌∙◌, List, [], ◌∷◌, length, get_or, set, drop, replicate, arith, ◌==◌, if◌then◌else◌, length-set, get_or-set_same, get_or-set_other}
use Rattle.std.proofs.lemmas.Bool.Decides.{nat_tests}
use Rattle.std.proofs.lemmas.List.{drop_all, get_or-replicate, length-replicate}
use Rattle.std.proofs.lemmas.Option.{same_Some, slice_get-get_or}
use native.Mathlib.Decide.{ℕ_discrete}
use Rattle.mk_txn.specs.declared.Stamp.{Stamp}
use Rattle.mk_txn.specs.declared.ReadItem.{ReadItem}
use Rattle.mk_txn.specs.declared.WriteItem.{WriteItem}
use Rattle.mk_txn.specs.Stamps.{is_before, later_stamp}
use Rattle.mk_txn.specs.Transactions.{Transaction}
use Rattle.mk_txn.specs.LatestWrites.{after_writes}
use Rattle.mk_txn.specs.Outcomes.{is_commit}
use Rattle.mk_words.specs.declared.Fated.{Fated}
use Rattle.mk_words.specs.Bases.{commits_in}
use Rattle.mk_merge_laws.specs.Lefts.{LeftState, nothing_left, with_write, with_read, after_reads, after_commit, left_by, AreWritten, AreRead, AreLeft}
use Rattle.mk_lists.proofs.Places.{drop_read}

-- what is read inside a list is read whatever stands for its outside
pub default-free : {X : Type 0} (xs : List X) (k : ℕ) (a b : X) → k < length xs → get_or xs k a ≡ get_or xs k b
default-free xs k a b inside = same_Some (get_or xs k a) (get_or xs k b) (sym (slice_get-get_or xs k a inside) ∙ slice_get-get_or xs k b inside)

-- what stands at a key after one was changed
set-here : (now : List LeftState) (k key : ℕ) (new d : LeftState) → k < length now → key ≡ k → get_or (set now k new) key d ≡ new
set-here now k key new d inside here = ap (λ i. get_or (set now k new) i d) here ∙ get_or-set_same now k new d inside

was-here : (now : List LeftState) (k key : ℕ) (x d : LeftState) → k < length now → key ≡ k → x ≡ get_or now k x → get_or now key d ≡ x
was-here now k key x d inside here is = ap (λ i. get_or now i d) here ∙ default-free now k d x inside ∙ sym is

-- ---- writes

-- with the writes that are left it comes to all of them
pub record ComeToWritten (stamp : Stamp) (all left : List WriteItem) (old now : List LeftState) : Type 0 where
  pub long : length now ≡ length old
  pub latest : (key : ℕ) (d : LeftState) → key < length old → after_writes key stamp (get_or now key d).latest left ≡ after_writes key stamp (get_or old key d).latest all
  pub rts : (key : ℕ) (d : LeftState) → key < length old → (get_or now key d).rts ≡ (get_or old key d).rts

pub written-ends : (stamp : Stamp) (all : List WriteItem) (i : ℕ) (old now : List LeftState) → length all ≤ i → ComeToWritten stamp all (drop i all) old now → AreWritten stamp all old now
written-ends stamp all i old now past h =
    let none : ComeToWritten stamp all [] old now = subst (λ left. ComeToWritten stamp all left old now) (drop_all i all past) h in
    record { all = none.long; latest = none.latest; rts = none.rts }

-- a write at its key
written-here : (stamp : Stamp) (all left : List WriteItem) (item : WriteItem) (old now : List LeftState) (x : LeftState) → item.key < length now → x ≡ get_or now item.key x
    → ComeToWritten stamp all (item ∷ left) old now → ComeToWritten stamp all left old (set now item.key (with_write stamp item.value x))
written-here stamp all left item old now x inside is h = record {
  long = length-set now item.key (with_write stamp item.value x) ∙ h.long;
  latest = λ key d within. latest_by key d within (ℕ_discrete key item.key);
  rts = λ key d within. rts_by key d within (ℕ_discrete key item.key);
} where
  latest_by : (key : ℕ) (d : LeftState) → key < length old → Dec (key ≡ item.key)
      → after_writes key stamp (get_or (set now item.key (with_write stamp item.value x)) key d).latest left ≡ after_writes key stamp (get_or old key d).latest all
  latest_by key d within (yes here) =
      let hit : (item.key == key) ≡ true = grind (arith, nat_tests, here) in
      let at = (get_or now key d).latest in
      ap (λ (l : LeftState). after_writes key stamp l.latest left) (set-here now item.key key (with_write stamp item.value x) d inside here)
      ∙ ap (λ (y : LeftState). after_writes key stamp (if is_before stamp y.latest.version then y.latest else record { version = stamp; value = item.value }) left) (sym (was-here now item.key key x d inside here is))
      ∙ ap (λ b. after_writes key stamp (if b then (if is_before stamp at.version then at else record { version = stamp; value = item.value }) else at) left) (sym hit)
      ∙ h.latest key d within
  latest_by key d within (no apart) =
      let miss : (item.key == key) ≡ false = grind (arith, nat_tests, apart) in
      let at = (get_or now key d).latest in
      ap (λ (l : LeftState). after_writes key stamp l.latest left) (get_or-set_other now item.key key (with_write stamp item.value x) d apart)
      ∙ ap (λ b. after_writes key stamp (if b then (if is_before stamp at.version then at else record { version = stamp; value = item.value }) else at) left) (sym miss)
      ∙ h.latest key d within

  rts_by : (key : ℕ) (d : LeftState) → key < length old → Dec (key ≡ item.key) → (get_or (set now item.key (with_write stamp item.value x)) key d).rts ≡ (get_or old key d).rts
  rts_by key d within (yes here) =
      ap (λ (l : LeftState). l.rts) (set-here now item.key key (with_write stamp item.value x) d inside here ∙ refl)
      ∙ ap (λ (l : LeftState). l.rts) (sym (was-here now item.key key x d inside here is)) ∙ h.rts key d within
  rts_by key d within (no apart) = ap (λ (l : LeftState). l.rts) (get_or-set_other now item.key key (with_write stamp item.value x) d apart) ∙ h.rts key d within

pub written-next : (stamp : Stamp) (all : List WriteItem) (i : ℕ) (item : WriteItem) (old now : List LeftState) (x new : LeftState) → i < length all → item ≡ get_or all i item
    → item.key < length now → x ≡ get_or now item.key x → new ≡ with_write stamp item.value x
    → ComeToWritten stamp all (drop i all) old now → ComeToWritten stamp all (drop (i + 1) all) old (set now item.key new)
written-next stamp all i item old now x new within is inside at made h =
    subst (λ y. ComeToWritten stamp all (drop (i + 1) all) old (set now item.key y)) (sym made)
    (written-here stamp all (drop (i + 1) all) item old now x inside at (subst (λ left. ComeToWritten stamp all left old now) (drop_read all i item within is) h))

-- ---- reads

-- with the reads that are left it comes to all of them
pub record ComeToRead (stamp : Stamp) (all left : List ReadItem) (old now : List LeftState) : Type 0 where
  pub long : length now ≡ length old
  pub latest : (key : ℕ) (d : LeftState) → key < length old → (get_or now key d).latest ≡ (get_or old key d).latest
  pub rts : (key : ℕ) (d : LeftState) → key < length old → after_reads key stamp (get_or now key d).rts left ≡ after_reads key stamp (get_or old key d).rts all

pub read-ends : (stamp : Stamp) (all : List ReadItem) (i : ℕ) (old now : List LeftState) → length all ≤ i → ComeToRead stamp all (drop i all) old now → AreRead stamp all old now
read-ends stamp all i old now past h =
    let none : ComeToRead stamp all [] old now = subst (λ left. ComeToRead stamp all left old now) (drop_all i all past) h in
    record { all = none.long; latest = none.latest; rts = none.rts }

-- a read at its key
read-here : (stamp : Stamp) (all left : List ReadItem) (item : ReadItem) (old now : List LeftState) (x : LeftState) → item.key < length now → x ≡ get_or now item.key x
    → ComeToRead stamp all (item ∷ left) old now → ComeToRead stamp all left old (set now item.key (with_read stamp x))
read-here stamp all left item old now x inside is h = record {
  long = length-set now item.key (with_read stamp x) ∙ h.long;
  latest = λ key d within. latest_by key d within (ℕ_discrete key item.key);
  rts = λ key d within. rts_by key d within (ℕ_discrete key item.key);
} where
  rts_by : (key : ℕ) (d : LeftState) → key < length old → Dec (key ≡ item.key)
      → after_reads key stamp (get_or (set now item.key (with_read stamp x)) key d).rts left ≡ after_reads key stamp (get_or old key d).rts all
  rts_by key d within (yes here) =
      let hit : (item.key == key) ≡ true = grind (arith, nat_tests, here) in
      ap (λ (l : LeftState). after_reads key stamp l.rts left) (set-here now item.key key (with_read stamp x) d inside here)
      ∙ ap (λ (y : LeftState). after_reads key stamp (later_stamp y.rts stamp) left) (sym (was-here now item.key key x d inside here is))
      ∙ ap (λ b. after_reads key stamp (if b then later_stamp (get_or now key d).rts stamp else (get_or now key d).rts) left) (sym hit)
      ∙ h.rts key d within
  rts_by key d within (no apart) =
      let miss : (item.key == key) ≡ false = grind (arith, nat_tests, apart) in
      ap (λ (l : LeftState). after_reads key stamp l.rts left) (get_or-set_other now item.key key (with_read stamp x) d apart)
      ∙ ap (λ b. after_reads key stamp (if b then later_stamp (get_or now key d).rts stamp else (get_or now key d).rts) left) (sym miss)
      ∙ h.rts key d within

  latest_by : (key : ℕ) (d : LeftState) → key < length old → Dec (key ≡ item.key) → (get_or (set now item.key (with_read stamp x)) key d).latest ≡ (get_or old key d).latest
  latest_by key d within (yes here) =
      ap (λ (l : LeftState). l.latest) (set-here now item.key key (with_read stamp x) d inside here)
      ∙ ap (λ (l : LeftState). l.latest) (sym (was-here now item.key key x d inside here is)) ∙ h.latest key d within
  latest_by key d within (no apart) = ap (λ (l : LeftState). l.latest) (get_or-set_other now item.key key (with_read stamp x) d apart) ∙ h.latest key d within

pub read-next : (stamp : Stamp) (all : List ReadItem) (i : ℕ) (item : ReadItem) (old now : List LeftState) (x new : LeftState) → i < length all → item ≡ get_or all i item
    → item.key < length now → x ≡ get_or now item.key x → new ≡ with_read stamp x
    → ComeToRead stamp all (drop i all) old now → ComeToRead stamp all (drop (i + 1) all) old (set now item.key new)
read-next stamp all i item old now x new within is inside at made h =
    subst (λ y. ComeToRead stamp all (drop (i + 1) all) old (set now item.key y)) (sym made)
    (read-here stamp all (drop (i + 1) all) item old now x inside at (subst (λ left. ComeToRead stamp all left old now) (drop_read all i item within is) h))

-- ---- commits

-- with the commits that are left it comes to all of them
pub record ComeToLeft (all left : List Transaction) (keys : ℕ) (lefts : List LeftState) : Type 0 where
  pub long : length lefts ≡ keys
  pub each : (key : ℕ) (d : LeftState) → key < keys → left_by key (get_or lefts key d) left ≡ left_by key nothing_left all

-- ---- a list of fates
