-- What is kept of a base and what its commits leave at a key, once more is added to its list.
use Rattle.std.proofs.Common.{◌≡◌, ℕ, ◌≤◌, max, Bool, true, false, not, refl, sym, ap, subst, ◌∙◌, List, [], ◌∷◌, cond, arith, ◌==◌, inl, inr}
use Rattle.std.proofs.lemmas.Bool.{false≢true}
use Rattle.std.proofs.lemmas.Bool.Decides.{nat_tests}
use Rattle.std.specs.Prelude.{nat_le}
use Rattle.std.specs.List.{list_any}
use Rattle.mk_lists.specs.Among.{Among, Each, Each-weaker}
use Rattle.mk_txn.specs.declared.TxnId.{TxnId}
use Rattle.mk_txn.specs.declared.Outcome.{Outcome}
use Rattle.mk_txn.specs.declared.Stamp.{Stamp}
use Rattle.mk_txn.specs.declared.Value.{Value}
use Rattle.mk_txn.specs.declared.ReadItem.{ReadItem}
use Rattle.mk_txn.specs.declared.WriteItem.{WriteItem}
use Rattle.mk_txn.specs.MarkMaps.{MarkMap, IsMarkMap, mark_of, covers, raised, joined_marks}
use Rattle.mk_txn.specs.Outcomes.{is_commit}
use Rattle.mk_txn.specs.Stamps.{is_before, later_stamp}
use Rattle.mk_txn.specs.LatestWrites.{VersionedValue, after_write, after_writes}
use Rattle.mk_txn.specs.Transactions.{Transaction, AreCoherent, same_id, id_before}
use Rattle.mk_txn.proofs.IdOrder.{id_before-not_back, id_before-through, same_id-tells, id_before-turned_other}
use Rattle.mk_txn.proofs.StampOrder.{same-from_neither, is_before-not_back, is_before-up}
use Rattle.mk_txn.proofs.MarkLaws.{IsMarkMap-raised, IsMarkMap-joined, mark_of-raised, mark_of-raised_other, mark_of-joined, MarkMap-from_marks}
use Rattle.mk_words.specs.KeptOutcomes.{Outcomes, put_outcome, not_covered, covered_by}
use Rattle.mk_words.specs.declared.Fated.{Fated}
use Rattle.mk_words.specs.Bases.{BaseState, IsBase, IsInIdOrder, fates_in, kept_of, commits_in}
use Rattle.mk_words.specs.Promises.{PromiseState}
use Rattle.mk_merge_laws.specs.Lefts.{LeftState, nothing_left, after_reads, after_commit, left_by, cell_left}
use Rattle.mk_words.specs.Rebuilding.{rebuilt}
use Rattle.mk_merge_laws.specs.Adding.{put_fated, with_fated, put_fates, raised_marks}
use Rattle.mk_merge_laws.proofs.Adding.{IsApart, AreApart, order-put, apart-later, put-from}
use Rattle.mk_merge_laws.proofs.Lefts.{after_reads-any, later_stamp-swap, left-rebuilt}

-- ---- marks only rise

raised-up : (c s : ℕ) (marks : MarkMap) (client : ℕ) → IsMarkMap marks → mark_of marks client ≤ mark_of (raised c s marks) client
raised-up c s marks client h = by (client == c) refl
  where
    told : (a b : ℕ) → (a == b) ≡ true → a ≡ b
    told a b e = grind (arith, nat_tests)

    apart : (a b : ℕ) → (a == b) ≡ false → a ≡ b → ⊥
    apart a b e = grind (arith, nat_tests)

    by : (b : Bool) → (client == c) ≡ b → mark_of marks client ≤ mark_of (raised c s marks) client
    by true e =
        let same = told client c e in
        let is : mark_of (raised c s marks) client ≡ max (mark_of marks client) s = subst (λ (k : ℕ). mark_of (raised c s marks) k ≡ max (mark_of marks k) s) (sym same) (mark_of-raised c s marks h) in
        grind (arith, nat_tests, is)
    by false e = let is = mark_of-raised_other c s marks client (apart client c e) in omega (arith, is)

joined-up : (marks more : MarkMap) (client : ℕ) → IsMarkMap marks → mark_of marks client ≤ mark_of (joined_marks marks more) client
joined-up marks [] client h = omega arith
joined-up marks (m ∷ more) client h =
    let here = raised-up m.0 m.1 marks client h in
    let later = joined-up (raised m.0 m.1 marks) more client (IsMarkMap-raised m.0 m.1 marks h) in
    omega (arith, here, later)

marks-up : (marks : MarkMap) (ps : List PromiseState) (client : ℕ) → IsMarkMap marks → mark_of marks client ≤ mark_of (raised_marks marks ps) client
marks-up marks [] client h = omega arith
marks-up marks (p ∷ ps) client h =
    let here = joined-up marks p.marks client h in
    let later = marks-up (joined_marks marks p.marks) ps client (IsMarkMap-joined marks p.marks h) in
    omega (arith, here, later)

-- what was raised is joined with what it was raised from
pub raised-joined : (marks : MarkMap) (ps : List PromiseState) → IsMarkMap marks → IsMarkMap (raised_marks marks ps) → joined_marks marks (raised_marks marks ps) ≡ raised_marks marks ps
raised-joined marks ps h k =
    MarkMap-from_marks (joined_marks marks (raised_marks marks ps)) (raised_marks marks ps) (IsMarkMap-joined marks (raised_marks marks ps) h) k (λ client.
    let is = mark_of-joined marks (raised_marks marks ps) client h k in
    let up = marks-up marks ps client h in
    grind (arith, nat_tests, is, up))

-- ---- what is kept

-- where the first is not before or the same, an outcome is put first
put-first : (id : TxnId) (outcome : Outcome) (outcomes : Outcomes) → Each (λ first. id_before id first.0 ≡ true) outcomes → put_outcome id outcome outcomes ≡ (id, outcome) ∷ outcomes
put-first id outcome [] h = refl
put-first id outcome (first ∷ rest) h = by (id_before first.0 id) (same_id first.0 id) (id_before-not_back id first.0 h.0) (other first.0 id (id_before-not_back id first.0 h.0) h.0)
  where
    other : (a b : TxnId) → id_before a b ≡ false → id_before b a ≡ true → same_id a b ≡ false
    other a b e f = by_test (same_id a b) refl
      where
        by_test : (t : Bool) → same_id a b ≡ t → t ≡ false
        by_test true k = absurd (false≢true (sym e ∙ subst (λ (x : TxnId). id_before a x ≡ true) (same_id-tells a b k) (subst (λ (x : TxnId). id_before x a ≡ true) (sym (same_id-tells a b k)) f)))
        by_test false k = refl

    by : (b c : Bool) → b ≡ false → c ≡ false → cond b (first ∷ put_outcome id outcome rest) (cond c (first ∷ rest) ((id, outcome) ∷ first ∷ rest)) ≡ (id, outcome) ∷ first ∷ rest
    by b c e f = (λ i. cond (e i) (first ∷ put_outcome id outcome rest) (cond (f i) (first ∷ rest) ((id, outcome) ∷ first ∷ rest)))

each-kept : (P : TxnId × Outcome → Type 0) (marks : MarkMap) (outcomes : Outcomes) → Each P outcomes → Each P (not_covered marks outcomes)
each-kept P marks [] h = tt
each-kept P marks (first ∷ rest) h = by (not (covers marks first.0)) (each-kept P marks rest h.1)
  where
    by : (b : Bool) → Each P (not_covered marks rest) → Each P (cond b (first ∷ not_covered marks rest) (not_covered marks rest))
    by true again = (h.0, again)
    by false again = again

each-fates : (id : TxnId) (list : List Fated) → Each (λ (g : Fated). id_before id g.txn.id ≡ true) list → Each (λ (o : TxnId × Outcome). id_before id o.0 ≡ true) (fates_in list)
each-fates id [] h = tt
each-fates id (g ∷ list) h = (h.0, each-fates id list h.1)

-- an outcome is put among those that are kept as its attempt is put among all
kept-put : (marks : MarkMap) (f : Fated) (list : List Fated) → IsApart f.txn.id list → IsInIdOrder list
    → cond (covers marks f.txn.id) (not_covered marks (fates_in list)) (put_outcome f.txn.id f.outcome (not_covered marks (fates_in list))) ≡ not_covered marks (fates_in (put_fated f list))
kept-put marks f [] n h = by (covers marks f.txn.id)
  where
    by : (b : Bool) → ◌≡◌ {A = Outcomes} (cond {A = Outcomes} b [] ((f.txn.id, f.outcome) ∷ [])) (cond {A = Outcomes} (not b) ((f.txn.id, f.outcome) ∷ []) [])
    by true = refl
    by false = refl
kept-put marks f (g ∷ list) n h = by_order (kept-put marks f list n.1 h.1) (id_before g.txn.id f.txn.id) refl
  where
    kept : Outcomes
    kept = not_covered marks (fates_in list)

    made : Outcomes
    made = not_covered marks (fates_in (put_fated f list))

    later : id_before g.txn.id f.txn.id ≡ true → (cg cf : Bool) → cond cf kept (put_outcome f.txn.id f.outcome kept) ≡ made
        → cond cf (cond {A = Outcomes} (not cg) ((g.txn.id, g.outcome) ∷ kept) kept) (put_outcome f.txn.id f.outcome (cond {A = Outcomes} (not cg) ((g.txn.id, g.outcome) ∷ kept) kept)) ≡ cond {A = Outcomes} (not cg) ((g.txn.id, g.outcome) ∷ made) made
    later e true cf again = again
    later e false true again = ap (λ (os : Outcomes). (g.txn.id, g.outcome) ∷ os) again
    later e false false again =
        ap (λ (b : Bool). cond {A = Outcomes} b ((g.txn.id, g.outcome) ∷ put_outcome f.txn.id f.outcome kept) (cond {A = Outcomes} (same_id g.txn.id f.txn.id) ((g.txn.id, g.outcome) ∷ kept) ((f.txn.id, f.outcome) ∷ (g.txn.id, g.outcome) ∷ kept))) e
        ∙ ap (λ (os : Outcomes). (g.txn.id, g.outcome) ∷ os) again

    first : (cf : Bool) → Each (λ (o : TxnId × Outcome). id_before f.txn.id o.0 ≡ true) (not_covered marks (fates_in (g ∷ list)))
        → cond cf (not_covered marks (fates_in (g ∷ list))) (put_outcome f.txn.id f.outcome (not_covered marks (fates_in (g ∷ list)))) ≡ cond {A = Outcomes} (not cf) ((f.txn.id, f.outcome) ∷ not_covered marks (fates_in (g ∷ list))) (not_covered marks (fates_in (g ∷ list)))
    first true up = refl
    first false up = put-first f.txn.id f.outcome (not_covered marks (fates_in (g ∷ list))) up

    by_order : cond (covers marks f.txn.id) kept (put_outcome f.txn.id f.outcome kept) ≡ made → (b : Bool) → id_before g.txn.id f.txn.id ≡ b
        → cond (covers marks f.txn.id) (not_covered marks (fates_in (g ∷ list))) (put_outcome f.txn.id f.outcome (not_covered marks (fates_in (g ∷ list)))) ≡ not_covered marks (fates_in (cond b (g ∷ put_fated f list) (f ∷ (g ∷ list))))
    by_order again true e = later e (covers marks g.txn.id) (covers marks f.txn.id) again
    by_order again false e =
        let up : id_before f.txn.id g.txn.id ≡ true = id_before-turned_other g.txn.id f.txn.id e n.0 in
        first (covers marks f.txn.id) (each-kept (λ (o : TxnId × Outcome). id_before f.txn.id o.0 ≡ true) marks (fates_in (g ∷ list))
        (each-fates f.txn.id (g ∷ list) (up, Each-weaker (λ (x : Fated). id_before g.txn.id x.txn.id ≡ true) (λ (x : Fated). id_before f.txn.id x.txn.id ≡ true) (λ x k. id_before-through f.txn.id g.txn.id x.txn.id up k) list h.0)))

kept-with : (marks : MarkMap) (more list : List Fated) → IsInIdOrder more → AreApart more list → IsInIdOrder list
    → put_fates more (record { outcomes = not_covered marks (fates_in list); marks = marks }) ≡ record { outcomes = not_covered marks (fates_in (with_fated more list)); marks = marks }
kept-with marks [] list d n h = refl
kept-with marks (f ∷ more) list d n h =
    (λ i. put_fates more (record { outcomes = kept-put marks f list n.0 h i; marks = marks }))
    ∙ kept-with marks more (put_fated f list) d.1 (apart-later f more d.0 list n.1) (order-put f list n.0 h)

-- what greater marks cover is forgotten once
covered-twice : (low high : MarkMap) (outcomes : Outcomes) → ((id : TxnId) → covers low id ≡ true → covers high id ≡ true) → not_covered high (not_covered low outcomes) ≡ not_covered high outcomes
covered-twice low high [] up = refl
covered-twice low high (o ∷ outcomes) up = by (covers low o.0) refl (covered-twice low high outcomes up)
  where
    by : (b : Bool) → covers low o.0 ≡ b → not_covered high (not_covered low outcomes) ≡ not_covered high outcomes
        → not_covered high (cond (not b) (o ∷ not_covered low outcomes) (not_covered low outcomes)) ≡ cond (not (covers high o.0)) (o ∷ not_covered high outcomes) (not_covered high outcomes)
    by true e again = again ∙ sym (ap (λ (c : Bool). cond (not c) (o ∷ not_covered high outcomes) (not_covered high outcomes)) (up o.0 e))
    by false e again = ap (λ os. cond (not (covers high o.0)) (o ∷ os) os) again

at_most : (a b c : ℕ) → b ≤ c → nat_le a b ≡ true → nat_le a c ≡ true
at_most a b c h e = grind (arith, nat_tests, h, e)

pub kept-merged : (base : BaseState) (more : List Fated) (marks : MarkMap) (ps : List PromiseState) → IsBase base → IsInIdOrder more → AreApart more base.list → marks ≡ raised_marks base.marks ps → IsMarkMap marks
    → covered_by marks (put_fates more (kept_of base)) ≡ kept_of (record { list = with_fated more base.list; marks = marks })
kept-merged base more marks ps h d n is k =
    let same : joined_marks base.marks marks ≡ marks =
    subst (λ (m : MarkMap). joined_marks base.marks m ≡ m) (sym is) (raised-joined base.marks ps h.marked (subst IsMarkMap is k)) in
    let up : (id : TxnId) → covers base.marks id ≡ true → covers marks id ≡ true =
    λ id e. at_most id.seq (mark_of base.marks id.client) (mark_of marks id.client) (subst (λ (m : MarkMap). mark_of base.marks id.client ≤ mark_of m id.client) (sym is) (marks-up base.marks ps id.client h.marked)) e in
    ap (covered_by marks) (kept-with base.marks more base.list d n h.in_order)
    ∙ (λ i. record { outcomes = not_covered (same i) (not_covered base.marks (fates_in (with_fated more base.list))); marks = same i })
    ∙ ap (λ (os : Outcomes). record { outcomes = os; marks = marks }) (covered-twice base.marks marks (fates_in (with_fated more base.list)) up)

-- ---- what is left at a key

later-swap : (a b : Stamp) → later_stamp a b ≡ later_stamp b a
later-swap a b = by (is_before a b) (is_before b a) refl refl
  where
    by : (p q : Bool) → is_before a b ≡ p → is_before b a ≡ q → cond p b a ≡ cond q a b
    by true true e f = absurd (false≢true (sym (is_before-not_back a b e) ∙ f))
    by true false e f = refl
    by false true e f = refl
    by false false e f = same-from_neither a b e f

reads-swap : (r a b : Stamp) → later_stamp (later_stamp r a) b ≡ later_stamp (later_stamp r b) a
reads-swap r a b = sym (later_stamp-swap r b a) ∙ ap (later_stamp r) (later-swap b a) ∙ later_stamp-swap r a b

-- a write that stands unless a later one does
abbrev written : Stamp → Value → VersionedValue → VersionedValue
written stamp value latest = cond (is_before stamp latest.version) latest (record { version = stamp; value = value })

written-swap : (a b : Stamp) (x y : Value) (v : VersionedValue) → (a ≡ b → ⊥) → written a x (written b y v) ≡ written b y (written a x v)
written-swap a b x y v apart = by (is_before a v.version) (is_before b v.version) refl refl
  where
    at_a : VersionedValue
    at_a = record { version = a; value = x }

    at_b : VersionedValue
    at_b = record { version = b; value = y }

    both : (p q : Bool) → is_before a b ≡ p → is_before b a ≡ q → cond p at_b at_a ≡ cond q at_a at_b
    both true true e f = absurd (false≢true (sym (is_before-not_back a b e) ∙ f))
    both true false e f = refl
    both false true e f = refl
    both false false e f = absurd (apart (same-from_neither a b e f))

    by : (p q : Bool) → is_before a v.version ≡ p → is_before b v.version ≡ q → written a x (cond q v at_b) ≡ written b y (cond p v at_a)
    by true true e f = ap (λ (t : Bool). cond t v at_a) e ∙ sym (ap (λ (t : Bool). cond t v at_b) f)
    by false true e f =
        ap (λ (t : Bool). cond t v at_a) e
        ∙ sym (ap (λ (t : Bool). cond t at_a at_b) (is_before-up b v.version a f e))
    by true false e f =
        ap (λ (t : Bool). cond t at_b at_a) (is_before-up a v.version b e f)
        ∙ sym (ap (λ (t : Bool). cond t v at_b) f)
    by false false e f = both (is_before a b) (is_before b a) refl refl

write-swap : (key : ℕ) (a b : Stamp) (v : VersionedValue) (i j : WriteItem) → (a ≡ b → ⊥) → after_write key a (after_write key b v j) i ≡ after_write key b (after_write key a v i) j
write-swap key a b v i j apart = by (i.key == key) (j.key == key)
  where
    by : (p q : Bool) → cond p (written a i.value (cond q (written b j.value v) v)) (cond q (written b j.value v) v) ≡ cond q (written b j.value (cond p (written a i.value v) v)) (cond p (written a i.value v) v)
    by true true = written-swap a b i.value j.value v apart
    by true false = refl
    by false true = refl
    by false false = refl

writes-through : (key : ℕ) (a b : Stamp) (v : VersionedValue) (is : List WriteItem) (j : WriteItem) → (a ≡ b → ⊥) → after_writes key a (after_write key b v j) is ≡ after_write key b (after_writes key a v is) j
writes-through key a b v [] j apart = refl
writes-through key a b v (i ∷ is) j apart =
    ap (λ w. after_writes key a w is) (write-swap key a b v i j apart) ∙ writes-through key a b (after_write key a v i) is j apart

writes-swap : (key : ℕ) (a b : Stamp) (v : VersionedValue) (is js : List WriteItem) → (a ≡ b → ⊥) → after_writes key a (after_writes key b v js) is ≡ after_writes key b (after_writes key a v is) js
writes-swap key a b v is [] apart = refl
writes-swap key a b v is (j ∷ js) apart =
    writes-swap key a b (after_write key b v j) is js apart ∙ ap (λ w. after_writes key b w js) (writes-through key a b v is j apart)

some-reads-swap : (key : ℕ) (a b r : Stamp) (is js : List ReadItem) → after_reads key a (after_reads key b r js) is ≡ after_reads key b (after_reads key a r is) js
some-reads-swap key a b r is js =
    after_reads-any key a (after_reads key b r js) is
    ∙ ap (λ s. cond (list_any (λ item. item.key == key) is) (later_stamp s a) s) (after_reads-any key b r js)
    ∙ by (list_any (λ item. item.key == key) is) (list_any (λ item. item.key == key) js)
    ∙ sym (ap (λ s. cond (list_any (λ item. item.key == key) js) (later_stamp s b) s) (after_reads-any key a r is))
    ∙ sym (after_reads-any key b (after_reads key a r is) js)
  where
    by : (p q : Bool) → cond p (later_stamp (cond q (later_stamp r b) r) a) (cond q (later_stamp r b) r) ≡ cond q (later_stamp (cond p (later_stamp r a) r) b) (cond p (later_stamp r a) r)
    by true true = reads-swap r b a
    by true false = refl
    by false true = refl
    by false false = refl

commit-swap : (key : ℕ) (t c : Transaction) (left : LeftState) → (t.stamp ≡ c.stamp → ⊥) → after_commit key c (after_commit key t left) ≡ after_commit key t (after_commit key c left)
commit-swap key t c left apart = λ i. record {
  latest = writes-swap key c.stamp t.stamp left.latest c.writes t.writes (λ e. apart (sym e)) i;
  rts = some-reads-swap key c.stamp t.stamp left.rts c.reads t.reads i;
}

-- one commit may come last
commit-last : (key : ℕ) (t : Transaction) (left : LeftState) (cs : List Transaction) → Each (λ (c : Transaction). t.stamp ≡ c.stamp → ⊥) cs → left_by key (after_commit key t left) cs ≡ after_commit key t (left_by key left cs)
commit-last key t left [] h = refl
commit-last key t left (c ∷ cs) h =
    ap (λ (l : LeftState). left_by key l cs) (commit-swap key t c left h.0) ∙ commit-last key t (after_commit key c left) cs h.1

-- the stamp is none of theirs
abbrev pub IsFresh : Stamp → List Fated → Type 0
IsFresh stamp list = Each (λ (g : Fated). stamp ≡ g.txn.stamp → ⊥) list

each-commits : (P : Transaction → Type 0) (list : List Fated) → Each (λ (g : Fated). P g.txn) list → Each P (commits_in list)
each-commits P [] h = tt
each-commits P (g ∷ list) h = by (is_commit g.outcome) (each-commits P list h.1)
  where
    by : (b : Bool) → Each P (commits_in list) → Each P (cond b (g.txn ∷ commits_in list) (commits_in list))
    by true again = (h.0, again)
    by false again = again

-- what one more leaves, if it is a commit
abbrev left_with : ℕ → Fated → LeftState → LeftState
left_with key f left = cond (is_commit f.outcome) (after_commit key f.txn left) left

left-put : (key : ℕ) (f : Fated) (left : LeftState) (list : List Fated) → IsFresh f.txn.stamp list → left_by key left (commits_in (put_fated f list)) ≡ left_with key f (left_by key left (commits_in list))
left-put key f left [] h = by (is_commit f.outcome)
  where
    by : (b : Bool) → left_by key left (cond b (f.txn ∷ []) []) ≡ cond b (after_commit key f.txn left) left
    by true = refl
    by false = refl
left-put key f left (g ∷ list) h = by_order (left-put key f (after_commit key g.txn left) list h.1) (left-put key f left list h.1) (id_before g.txn.id f.txn.id)
  where
    first : (b : Bool) → left_by key left (cond b (f.txn ∷ commits_in (g ∷ list)) (commits_in (g ∷ list))) ≡ cond b (after_commit key f.txn (left_by key left (commits_in (g ∷ list)))) (left_by key left (commits_in (g ∷ list)))
    first true = commit-last key f.txn left (commits_in (g ∷ list)) (each-commits (λ (c : Transaction). f.txn.stamp ≡ c.stamp → ⊥) (g ∷ list) h)
    first false = refl

    later : (b : Bool) → left_by key (after_commit key g.txn left) (commits_in (put_fated f list)) ≡ left_with key f (left_by key (after_commit key g.txn left) (commits_in list))
        → left_by key left (commits_in (put_fated f list)) ≡ left_with key f (left_by key left (commits_in list))
        → left_by key left (cond b (g.txn ∷ commits_in (put_fated f list)) (commits_in (put_fated f list))) ≡ left_with key f (left_by key left (cond b (g.txn ∷ commits_in list) (commits_in list)))
    later true taken skipped = taken
    later false taken skipped = skipped

    by_order : left_by key (after_commit key g.txn left) (commits_in (put_fated f list)) ≡ left_with key f (left_by key (after_commit key g.txn left) (commits_in list))
        → left_by key left (commits_in (put_fated f list)) ≡ left_with key f (left_by key left (commits_in list))
        → (b : Bool) → left_by key left (commits_in (cond b (g ∷ put_fated f list) (f ∷ (g ∷ list)))) ≡ left_with key f (left_by key left (commits_in (g ∷ list)))
    by_order taken skipped true = later (is_commit g.outcome) taken skipped
    by_order taken skipped false = first (is_commit f.outcome)

-- the stamps of those that are added are none of the list's, nor of those added before
abbrev pub AreFresh : List Fated → List Fated → Type 0
AreFresh [] list = Unit {0}
AreFresh (f ∷ more) list = IsFresh f.txn.stamp list × AreFresh more (put_fated f list)

left-with : (key : ℕ) (left : LeftState) (more list : List Fated) → AreFresh more list → left_by key left (commits_in (with_fated more list)) ≡ left_by key (left_by key left (commits_in list)) (commits_in more)
left-with key left [] list h = refl
left-with key left (f ∷ more) list h =
    left-with key left more (put_fated f list) h.1
    ∙ ap (λ (l : LeftState). left_by key l (commits_in more)) (left-put key f left list h.0)
    ∙ by (is_commit f.outcome)
  where
    by : (b : Bool) → left_by key (cond b (after_commit key f.txn (left_by key left (commits_in list))) (left_by key left (commits_in list))) (commits_in more)
        ≡ left_by key (left_by key left (commits_in list)) (cond b (f.txn ∷ commits_in more) (commits_in more))
    by true = refl
    by false = refl

pub fresh-from : (all : List Transaction) (more list : List Fated) → AreCoherent all → ((f : Fated) → Among f more → Among f.txn all) → ((g : Fated) → Among g list → Among g.txn all)
    → IsInIdOrder more → AreApart more list → AreFresh more list
fresh-from all [] list coherent of_more of_list d n = tt
fresh-from all (f ∷ more) list coherent of_more of_list d n = (
  each list n.0 of_list,
  fresh-from all more (put_fated f list) coherent (λ g a. of_more g (inr a))
      (λ g a. elim (put-from f g list a) [ inl e ↦ of_more g (inl e) | inr b ↦ of_list g b ]) d.1 (apart-later f more d.0 list n.1),
)
  where
    each : (gs : List Fated) → IsApart f.txn.id gs → ((g : Fated) → Among g gs → Among g.txn all) → IsFresh f.txn.stamp gs
    each [] k of_gs = tt
    each (g ∷ gs) k of_gs = ((λ e. k.0 (sym (coherent.one_of_a_stamp f.txn g.txn (of_more f (inl refl)) (of_gs g (inl refl)) e))), each gs k.1 (λ x a. of_gs x (inr a)))

-- the cell of a key, rebuilt with what was added
pub rebuilt-with : (key : ℕ) (base : BaseState) (more : List Fated) (marks : MarkMap) (left new : LeftState) → AreFresh more base.list → cell_left left ≡ rebuilt base key → new ≡ left_by key left (commits_in more)
    → cell_left new ≡ rebuilt (record { list = with_fated more base.list; marks = marks }) key
rebuilt-with key base more marks left new fresh is made =
    let was : cell_left left ≡ cell_left (left_by key nothing_left (commits_in base.list)) = is ∙ sym (left-rebuilt base key) in
    let same : left ≡ left_by key nothing_left (commits_in base.list) = λ i. record { latest = record { version = (was i).wts; value = (was i).value }; rts = (was i).rts } in
    ap cell_left (made ∙ ap (λ (l : LeftState). left_by key l (commits_in more)) same ∙ sym (left-with key nothing_left more base.list fresh))
    ∙ left-rebuilt (record { list = with_fated more base.list; marks = marks }) key
