-- What commits leave at a key is the rebuilt cell of the key.
use Rattle.std.proofs.Common.{◌≡◌, ℕ, Bool, true, false, refl, sym, ap, ◌∙◌, List, [], ◌∷◌, arith, ◌==◌, ◌||◌, if◌then◌else◌}
use Rattle.std.proofs.lemmas.Bool.Decides.{nat_tests}
use Rattle.std.specs.List.{list_any}
use Rattle.mk_txn.specs.declared.Stamp.{Stamp}
use Rattle.mk_txn.specs.declared.ReadItem.{ReadItem}
use Rattle.mk_txn.specs.Stamps.{is_before, later_stamp, zero_stamp}
use Rattle.mk_txn.specs.Transactions.{Transaction}
use Rattle.mk_txn.specs.LatestWrites.{latest_write, latest_read, reads_key}
use Rattle.mk_txn.proofs.StampOrder.{same-from_neither, not_before-through, later_stamp-left, later_stamp-right}
use Rattle.mk_words.specs.Bases.{BaseState, commits_in}
use Rattle.mk_words.specs.Rebuilding.{rebuilt}
use Rattle.mk_merge_laws.specs.Lefts.{LeftState, nothing_left, after_reads, after_commit, left_by, cell_left}

-- nothing is before the first stamp
later_stamp-zero : (a : Stamp) → later_stamp zero_stamp a ≡ a
later_stamp-zero a = by_order (is_before zero_stamp a) refl
  where
    by_order : (b : Bool) → is_before zero_stamp a ≡ b → (if b then a else zero_stamp) ≡ a
    by_order true e = refl
    by_order false e = same-from_neither zero_stamp a e (grind (arith, nat_tests))

later_stamp-twice : (a b : Stamp) → later_stamp (later_stamp a b) b ≡ later_stamp a b
later_stamp-twice a b = same-from_neither (later_stamp (later_stamp a b) b) (later_stamp a b) (grind (arith, nat_tests)) (grind (arith, nat_tests))

-- what is not before either of two is not before the later
later_stamp-least : (a b c : Stamp) → is_before c a ≡ false → is_before c b ≡ false → is_before c (later_stamp a b) ≡ false
later_stamp-least a b c h k = by_order (is_before a b)
  where
    by_order : (o : Bool) → is_before c (if o then b else a) ≡ false
    by_order true = k
    by_order false = h

-- the latest of three, in whatever order two of them come
pub later_stamp-swap : (a b c : Stamp) → later_stamp a (later_stamp b c) ≡ later_stamp (later_stamp a c) b
later_stamp-swap a b c =
    let bc = later_stamp b c in
    let ac = later_stamp a c in
    let l = later_stamp a bc in
    let r = later_stamp ac b in
    let l_bc : is_before l bc ≡ false = later_stamp-right a bc in
    let r_ac : is_before r ac ≡ false = later_stamp-left ac b in
    same-from_neither l r
    (later_stamp-least ac b l
    (later_stamp-least a c l (later_stamp-left a bc) (not_before-through l bc c l_bc (later_stamp-right b c)))
    (not_before-through l bc b l_bc (later_stamp-left b c)))
    (later_stamp-least a bc r
    (not_before-through r ac a r_ac (later_stamp-left a c))
    (later_stamp-least b c r (later_stamp-right ac b) (not_before-through r ac c r_ac (later_stamp-right a c))))

-- the reads of one stamp count once
pub after_reads-any : (key : ℕ) (stamp rts : Stamp) (items : List ReadItem) →
    after_reads key stamp rts items ≡ (if list_any (λ item. item.key == key) items then later_stamp rts stamp else rts)
after_reads-any key stamp rts [] = refl
after_reads-any key stamp rts (item ∷ items) =
    by_key (item.key == key) (list_any (λ other. other.key == key) items) (after_reads-any key stamp (later_stamp rts stamp) items) (after_reads-any key stamp rts items)
  where
    by_key : (b c : Bool) → after_reads key stamp (later_stamp rts stamp) items ≡ (if c then later_stamp (later_stamp rts stamp) stamp else later_stamp rts stamp)
        → after_reads key stamp rts items ≡ (if c then later_stamp rts stamp else rts)
        → after_reads key stamp (if b then later_stamp rts stamp else rts) items ≡ (if b || c then later_stamp rts stamp else rts)
    by_key true true more same = more ∙ later_stamp-twice rts stamp
    by_key true false more same = more
    by_key false true more same = same
    by_key false false more same = same

latest-left : (key : ℕ) (left : LeftState) (txns : List Transaction) → (left_by key left txns).latest ≡ latest_write key left.latest txns
latest-left key left [] = refl
latest-left key left (txn ∷ txns) = latest-left key (after_commit key txn left) txns

rts-left : (key : ℕ) (left : LeftState) (txns : List Transaction) → (left_by key left txns).rts ≡ later_stamp (latest_read key txns) left.rts
rts-left key left [] = sym (later_stamp-zero left.rts)
rts-left key left (txn ∷ txns) =
    rts-left key (after_commit key txn left) txns
    ∙ ap (λ r. later_stamp (latest_read key txns) r) (after_reads-any key txn.stamp left.rts txn.reads)
    ∙ by_read (reads_key key txn)
  where
    by_read : (b : Bool) → later_stamp (latest_read key txns) (if b then later_stamp left.rts txn.stamp else left.rts)
        ≡ later_stamp (if b then later_stamp (latest_read key txns) txn.stamp else latest_read key txns) left.rts
    by_read true = later_stamp-swap (latest_read key txns) left.rts txn.stamp
    by_read false = refl

pub wts-rebuilt : (base : BaseState) (key : ℕ) → (left_by key nothing_left (commits_in base.list)).latest.version ≡ (rebuilt base key).wts
wts-rebuilt base key = ap (λ v. v.version) (latest-left key nothing_left (commits_in base.list))

later_stamp-last : (a : Stamp) → later_stamp a zero_stamp ≡ a
later_stamp-last a = same-from_neither (later_stamp a zero_stamp) a (grind (arith, nat_tests)) (grind (arith, nat_tests))

pub rts-rebuilt : (base : BaseState) (key : ℕ) → (left_by key nothing_left (commits_in base.list)).rts ≡ (rebuilt base key).rts
rts-rebuilt base key = rts-left key nothing_left (commits_in base.list) ∙ later_stamp-last (latest_read key (commits_in base.list))

pub left-rebuilt : (base : BaseState) (key : ℕ) → cell_left (left_by key nothing_left (commits_in base.list)) ≡ rebuilt base key
left-rebuilt base key = λ i. record {
  value = (latest-left key nothing_left (commits_in base.list) i).value;
  wts = (latest-left key nothing_left (commits_in base.list) i).version;
  rts = rts-rebuilt base key i;
  readers = [];
  writers = [];
}
