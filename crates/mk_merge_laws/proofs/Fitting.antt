-- What fits a base conflicts with none of its commits.
use Rattle.std.proofs.Common.{◌≡◌, ℕ, inl, inr, Bool, true, false, not, refl, sym, ap, subst, ◌∙◌, List, [], ◌∷◌, cond, ◌||◌, ◌==◌}
use Rattle.std.proofs.lemmas.Bool.{false≢true, and_parts, false_from_ne_true, eq-eqb, not-true}
use Rattle.mk_lists.specs.Among.{Among}
use Rattle.mk_txn.specs.declared.Stamp.{Stamp}
use Rattle.mk_txn.specs.declared.ReadItem.{ReadItem}
use Rattle.mk_txn.specs.declared.WriteItem.{WriteItem}
use Rattle.mk_txn.specs.Stamps.{is_before, later_stamp}
use Rattle.mk_txn.specs.Transactions.{Transaction}
use Rattle.mk_txn.specs.Clashes.{clashes, conflict}
use Rattle.mk_txn.specs.LatestWrites.{VersionedValue, first_version, after_write, after_writes, latest_write, reads_key, latest_read}
use Rattle.mk_txn.proofs.StampOrder.{is_before-itself, is_before-up, is_before-not_back, not_before-through, later_stamp-above, later_stamp-right, test-from_Before}
use Rattle.mk_txn.proofs.ClashFacts.{Clash-from_test}
use Rattle.mk_words.specs.Bases.{BaseState, commits_in}
use Rattle.mk_words.specs.Rebuilding.{rebuilt, fits_base}
use Rattle.mk_lists.proofs.Tests.{list_all-among, list_any-from_Among}

-- ---- the last write is not before any

write-above : (key : ℕ) (stamp low : Stamp) (latest : VersionedValue) (item : WriteItem) → is_before latest.version low ≡ false → is_before (after_write key stamp latest item).version low ≡ false
write-above key stamp low latest item h = by (item.key == key) (is_before stamp latest.version) refl
  where
    by : (b c : Bool) → is_before stamp latest.version ≡ c → is_before (cond b (cond c latest (record { version = stamp; value = item.value })) latest).version low ≡ false
    by true true e = h
    by true false e = not_before-through stamp latest.version low e h
    by false c e = h

writes-above : (key : ℕ) (stamp low : Stamp) (latest : VersionedValue) (items : List WriteItem) → is_before latest.version low ≡ false → is_before (after_writes key stamp latest items).version low ≡ false
writes-above key stamp low latest [] h = h
writes-above key stamp low latest (item ∷ items) h = writes-above key stamp low (after_write key stamp latest item) items (write-above key stamp low latest item h)

write-own : (key : ℕ) (stamp : Stamp) (latest : VersionedValue) (item : WriteItem) → item.key ≡ key → is_before (after_write key stamp latest item).version stamp ≡ false
write-own key stamp latest item same = by (item.key == key) (eq-eqb item.key key same) (is_before stamp latest.version) refl
  where
    by : (b : Bool) → b ≡ true → (c : Bool) → is_before stamp latest.version ≡ c → is_before (cond b (cond c latest (record { version = stamp; value = item.value })) latest).version stamp ≡ false
    by true e true k = is_before-not_back stamp latest.version k
    by true e false k = is_before-itself stamp
    by false e c k = absurd (cc e)

writes-own : (key : ℕ) (stamp : Stamp) (latest : VersionedValue) (items : List WriteItem) (w : WriteItem) → Among w items → w.key ≡ key → is_before (after_writes key stamp latest items).version stamp ≡ false
writes-own key stamp latest [] w a same = absurd a
writes-own key stamp latest (item ∷ items) w (inl e) same =
    writes-above key stamp stamp (after_write key stamp latest item) items (write-own key stamp latest item (ap (λ (i : WriteItem). i.key) e ∙ same))
writes-own key stamp latest (item ∷ items) w (inr a) same = writes-own key stamp (after_write key stamp latest item) items w a same

latest-above : (key : ℕ) (low : Stamp) (latest : VersionedValue) (txns : List Transaction) → is_before latest.version low ≡ false → is_before (latest_write key latest txns).version low ≡ false
latest-above key low latest [] h = h
latest-above key low latest (txn ∷ txns) h = latest-above key low (after_writes key txn.stamp latest txn.writes) txns (writes-above key txn.stamp low latest txn.writes h)

latest-own : (key : ℕ) (latest : VersionedValue) (txns : List Transaction) (c : Transaction) (w : WriteItem) → Among c txns → Among w c.writes → w.key ≡ key → is_before (latest_write key latest txns).version c.stamp ≡ false
latest-own key latest [] c w a b same = absurd a
latest-own key latest (txn ∷ txns) c w (inl e) b same =
    latest-above key c.stamp (after_writes key txn.stamp latest txn.writes) txns
    (subst (λ (t : Transaction). is_before (after_writes key t.stamp latest t.writes).version c.stamp ≡ false) (sym e) (writes-own key c.stamp latest c.writes w b same))
latest-own key latest (txn ∷ txns) c w (inr a) b same = latest-own key (after_writes key txn.stamp latest txn.writes) txns c w a b same

-- ---- the last read is not before any

read-own : (key : ℕ) (txns : List Transaction) (c : Transaction) → Among c txns → reads_key key c ≡ true → is_before (latest_read key txns) c.stamp ≡ false
read-own key [] c a r = absurd a
read-own key (txn ∷ txns) c a r = by (λ k. read-own key txns c k r) (reads_key key txn) refl a
  where
    by : (Among c txns → is_before (latest_read key txns) c.stamp ≡ false) → (b : Bool) → reads_key key txn ≡ b → Among c (txn ∷ txns) → is_before (cond b (later_stamp (latest_read key txns) txn.stamp) (latest_read key txns)) c.stamp ≡ false
    by again true e (inl same) = subst (λ (t : Transaction). is_before (later_stamp (latest_read key txns) t.stamp) c.stamp ≡ false) (sym same) (later_stamp-right (latest_read key txns) c.stamp)
    by again true e (inr k) = later_stamp-above (latest_read key txns) txn.stamp c.stamp (again k)
    by again false e (inl same) = absurd (false≢true (sym e ∙ subst (λ (t : Transaction). reads_key key t ≡ true) (sym same) r))
    by again false e (inr k) = again k

-- ---- no conflict

-- false_from_ne_true does what fits read below a commit's write
reads-fit : (base : BaseState) (t c : Transaction) → fits_base base t ≡ true → Among c (commits_in base.list) → clashes t c ≡ true → ⊥
reads-fit base t c fit a e =
    let k = Clash-from_test t c e in
    let p : not (is_before k.read.version (rebuilt base k.read.key).wts) ≡ true = list_all-among (λ item. not (is_before item.version (rebuilt base item.key).wts)) t.reads k.read (and_parts _ _ fit).0 k.reads in
    let up : is_before (rebuilt base k.read.key).wts c.stamp ≡ false = latest-own k.read.key first_version (commits_in base.list) c k.write a k.writes k.same_key in
    false≢true (sym (not-true _ p) ∙ is_before-up k.read.version c.stamp (rebuilt base k.read.key).wts (test-from_Before k.read.version c.stamp k.above_version) up)

-- nor does it write below a commit's read
writes-fit : (base : BaseState) (t c : Transaction) → fits_base base t ≡ true → Among c (commits_in base.list) → clashes c t ≡ true → ⊥
writes-fit base t c fit a e =
    let k = Clash-from_test c t e in
    let p : not (is_before t.stamp (rebuilt base k.write.key).rts) ≡ true = list_all-among (λ item. not (is_before t.stamp (rebuilt base item.key).rts)) t.writes k.write (and_parts _ _ fit).1 k.writes in
    let reads : reads_key k.write.key c ≡ true = list_any-from_Among (λ (item : ReadItem). item.key == k.write.key) c.reads k.read k.reads (eq-eqb k.read.key k.write.key (sym k.same_key)) in
    let up : is_before (rebuilt base k.write.key).rts c.stamp ≡ false = read-own k.write.key (commits_in base.list) c a reads in
    false≢true (sym (not-true _ p) ∙ is_before-up t.stamp c.stamp (rebuilt base k.write.key).rts (test-from_Before t.stamp c.stamp k.below_reader) up)

pub fit-apart : (base : BaseState) (t c : Transaction) → fits_base base t ≡ true → Among c (commits_in base.list) → conflict t c ≡ false
fit-apart base t c fit a = by (clashes t c) (clashes c t) (false_from_ne_true (clashes t c) (reads-fit base t c fit a)) (false_from_ne_true (clashes c t) (writes-fit base t c fit a))
  where
    by : (p q : Bool) → p ≡ false → q ≡ false → (p || q) ≡ false
    by p q e f = (λ i. e i || f i)
