-- What is merged is the base of the promises that count and what the merge adds.
use Rattle.std.proofs.Common.{◌≡◌, ◌⊎◌, ℕ, ◌≤◌, ◌+◌, inl, inr, Bool, true, false, not, refl, sym, ap, subst, ◌∙◌, List, [], ◌∷◌, ◌++◌, map, filter, Option, Some, None, cond, ◌&&◌, ◌||◌, arith}
use Rattle.std.specs.Prelude.{find, is_none, nat_le, option_map, option_and_then, ◌==◌}
use Rattle.std.specs.List.{list_any}
use Rattle.std.specs.Option.{option_or}
use Rattle.std.proofs.lemmas.Bool.{false≢true, and_parts, false_from_ne_true}
use Rattle.std.proofs.lemmas.Bool.Decides.{nat_tests}
use Rattle.mk_lists.specs.Among.{Among, Each, AllDistinct, Each-among, Each-weaker, Among-append, Among-append_left, Among-append_right}
use Rattle.mk_txn.specs.declared.TxnId.{TxnId}
use Rattle.mk_txn.specs.declared.Outcome.{Outcome}
use Rattle.mk_txn.specs.declared.Outcome.TheVariants.{Commit}
use Rattle.mk_txn.specs.Clashes.{conflict}
use Rattle.mk_txn.specs.MarkMaps.{covers}
use Rattle.mk_txn.specs.Outcomes.{is_commit, is_ok_vote}
use Rattle.mk_txn.specs.Transactions.{Transaction, AreCoherent, same_id, id_before}
use Rattle.mk_txn.proofs.IdOrder.{id_before-itself, id_before-through, id_before-not_same, same_id-itself, same_id-tells, id_before-turned_other}
use Rattle.mk_words.specs.declared.Entry.{Entry}
use Rattle.mk_words.specs.Entries.{entry_of, is_entry_of}
use Rattle.mk_quorum.proofs.Meeting.{count_below-some}
use Rattle.mk_quorum.specs.Sizes.{members, hint_of}
use Rattle.mk_quorum.specs.Slots.{passes}
use Rattle.mk_words.specs.KeptOutcomes.{KeptOutcomes, outcome_of}
use Rattle.mk_words.specs.declared.Fated.{Fated}
use Rattle.mk_words.specs.Bases.{BaseState, IsInIdOrder, fated, fate_in, fates_in, kept_of, taught_by, commits_in, in_stamp_order}
use Rattle.mk_words.specs.Rebuilding.{fits_base}
use Rattle.mk_words.specs.Promises.{PromiseState, base_of}
use Rattle.mk_words.specs.Merging.{reported, settled_fate, settled_commits, candidates, ok_reports, taken, fate_by, merged_from, reported_txns}
use Rattle.mk_merge_laws.specs.Adding.{is_new, entered_txns, new_txns, entered_fate, new_commits, new_candidates, additions, put_fated, with_fated, AreCounted, bare}
use Rattle.mk_words.proofs.KnownLaws.{fate_in-fates_in, outcome_of-not_covered}
use Rattle.mk_merge_laws.proofs.Counting.{ascend_filter, AreCoherent-within, stamps-distinct, all_of}
use Rattle.mk_merge_laws.proofs.Orders.{IdsAscend, ascend_ordered, fated_in_order, ordered_from, by_stamp_from}
use Rattle.mk_merge_laws.proofs.Members.{InOrder, same-members, ordered-keeps}
use Rattle.mk_merge_laws.proofs.Fitting.{fit-apart}
use Rattle.mk_merge_laws.proofs.Bare.{entered-bare}
use Rattle.mk_lists.proofs.EachMember.{Each-from_Among}
use Rattle.mk_lists.proofs.Lookups.{find_tells}
use Rattle.mk_lists.proofs.Members.{Among-map, Among-from_map, Among-flat_map, Among-from_flat_map, Among-filter, Among-from_filter}
use Rattle.mk_lists.proofs.Options.{None-from_is_none}
use Rattle.mk_lists.proofs.Tests.{list_any-push, same-from_tests, list_any-from_Among, Among-from_list_any}

-- ---- outcomes in a list that stands in order

pub fate-there : (list : List Fated) (g : Fated) → IsInIdOrder list → Among g list → fate_in g.txn.id list ≡ Some g.outcome
fate-there [] g h a = absurd a
fate-there (first ∷ rest) g h (inl e) = subst (λ (x : Fated). fate_in x.txn.id (first ∷ rest) ≡ Some x.outcome) e (by (same_id first.txn.id first.txn.id) (same_id-itself first.txn.id))
  where
    by : (b : Bool) → b ≡ true → option_map (λ (f : Fated). f.outcome) (cond b (Some first) (find (λ f. same_id f.txn.id first.txn.id) rest)) ≡ Some first.outcome
    by true k = refl
    by false k = absurd (cc k)
fate-there (first ∷ rest) g h (inr a) = by (same_id first.txn.id g.txn.id) (id_before-not_same first.txn.id g.txn.id (Each-among (λ (x : Fated). id_before first.txn.id x.txn.id ≡ true) g rest h.0 a)) (fate-there rest g h.1 a)
  where
    by : (b : Bool) → b ≡ false → fate_in g.txn.id rest ≡ Some g.outcome → option_map (λ (f : Fated). f.outcome) (cond b (Some first) (find (λ f. same_id f.txn.id g.txn.id) rest)) ≡ Some g.outcome
    by true k again = absurd (cc k)
    by false k again = again

pub fate-member : (id : TxnId) (list : List Fated) (o : Outcome) → fate_in id list ≡ Some o → (g : Fated) × Among g list × (g.txn.id ≡ id) × (g.outcome ≡ o)
fate-member id list o e = by (find (λ f. same_id f.txn.id id) list) refl e
  where
    by : (x : Option Fated) → find (λ f. same_id f.txn.id id) list ≡ x → option_map (λ (f : Fated). f.outcome) x ≡ Some o → (g : Fated) × Among g list × (g.txn.id ≡ id) × (g.outcome ≡ o)
    by None k e = absurd (cc e)
    by (Some g) k e = let m = find_tells (λ (f : Fated). same_id f.txn.id id) list g k in (g, m.0, same_id-tells g.txn.id id m.1, cc e)

-- a member that commits is among the commits
pub commits-member : (list : List Fated) (g : Fated) → Among g list → is_commit g.outcome ≡ true → Among g.txn (commits_in list)
commits-member [] g a c = absurd a
commits-member (first ∷ rest) g a c = by (is_commit first.outcome) refl (λ b. commits-member rest g b c) a
  where
    by : (b : Bool) → is_commit first.outcome ≡ b → (Among g rest → Among g.txn (commits_in rest)) → Among g (first ∷ rest) → Among g.txn (cond b (first.txn ∷ commits_in rest) (commits_in rest))
    by true e again (inl same) = inl (ap (λ (x : Fated). x.txn) same)
    by true e again (inr k) = inr (again k)
    by false e again (inl same) = absurd (false≢true (sym e ∙ subst (λ (x : Fated). is_commit x.outcome ≡ true) (sym same) c))
    by false e again (inr k) = again k

-- ---- placing by number

pub put-there : (f g : Fated) (list : List Fated) → (f ≡ g) ⊎ Among g list → Among g (put_fated f list)
put-there f g [] a = a
put-there f g (first ∷ rest) a = by (id_before first.txn.id f.txn.id) (put-there f g rest) a
  where
    by : (b : Bool) → ((f ≡ g) ⊎ Among g rest → Among g (put_fated f rest)) → (f ≡ g) ⊎ Among g (first ∷ rest) → Among g (cond b (first ∷ put_fated f rest) (f ∷ (first ∷ rest)))
    by true again (inl e) = inr (again (inl e))
    by true again (inr (inl e)) = inl e
    by true again (inr (inr k)) = inr (again (inr k))
    by false again k = k

pub put-from : (f g : Fated) (list : List Fated) → Among g (put_fated f list) → (f ≡ g) ⊎ Among g list
put-from f g [] a = a
put-from f g (first ∷ rest) a = by (id_before first.txn.id f.txn.id) (put-from f g rest) a
  where
    by : (b : Bool) → (Among g (put_fated f rest) → (f ≡ g) ⊎ Among g rest) → Among g (cond b (first ∷ put_fated f rest) (f ∷ (first ∷ rest))) → (f ≡ g) ⊎ Among g (first ∷ rest)
    by true again (inl e) = inr (inl e)
    by true again (inr k) = elim (again k) [ inl e ↦ inl e | inr c ↦ inr (inr c) ]
    by false again k = k

pub with-there : (more list : List Fated) (g : Fated) → Among g more ⊎ Among g list → Among g (with_fated more list)
with-there [] list g a = elim a [ inl n ↦ absurd n | inr k ↦ k ]
with-there (f ∷ more) list g a = with-there more (put_fated f list) g (elim a [
  | inl (inl e) ↦ inr (put-there f g list (inl e))
  | inl (inr k) ↦ inl k
  | inr k ↦ inr (put-there f g list (inr k))
])

pub with-from : (more list : List Fated) (g : Fated) → Among g (with_fated more list) → Among g more ⊎ Among g list
with-from [] list g a = inr a
with-from (f ∷ more) list g a = elim (with-from more (put_fated f list) g a) [
  | inl k ↦ inl (inr k)
  | inr k ↦ elim (put-from f g list k) [ inl e ↦ inl (inl e) | inr c ↦ inr c ]
]

-- the number is none of theirs
abbrev pub IsApart : TxnId → List Fated → Type 0
IsApart id list = Each (λ (g : Fated). g.txn.id ≡ id → ⊥) list

Each-put : (P : Fated → Type 0) (f : Fated) (list : List Fated) → P f → Each P list → Each P (put_fated f list)
Each-put P f [] p h = (p, tt)
Each-put P f (first ∷ rest) p h = by (id_before first.txn.id f.txn.id) (Each-put P f rest p h.1)
  where
    by : (b : Bool) → Each P (put_fated f rest) → Each P (cond b (first ∷ put_fated f rest) (f ∷ (first ∷ rest)))
    by true again = (h.0, again)
    by false again = (p, h)

pub order-put : (f : Fated) (list : List Fated) → IsApart f.txn.id list → IsInIdOrder list → IsInIdOrder (put_fated f list)
order-put f [] n h = (tt, tt)
order-put f (first ∷ rest) n h = by (id_before first.txn.id f.txn.id) refl (order-put f rest n.1 h.1)
  where
    by : (b : Bool) → id_before first.txn.id f.txn.id ≡ b → IsInIdOrder (put_fated f rest) → IsInIdOrder (cond b (first ∷ put_fated f rest) (f ∷ (first ∷ rest)))
    by true e again = (Each-put (λ (x : Fated). id_before first.txn.id x.txn.id ≡ true) f rest e h.0, again)
    by false e again =
        let up : id_before f.txn.id first.txn.id ≡ true = id_before-turned_other first.txn.id f.txn.id e n.0 in
        ((up, Each-weaker (λ (x : Fated). id_before first.txn.id x.txn.id ≡ true) (λ (x : Fated). id_before f.txn.id x.txn.id ≡ true) (λ x k. id_before-through f.txn.id first.txn.id x.txn.id up k) rest h.0), h)

-- none of these numbers is one of theirs
abbrev pub AreApart : List Fated → List Fated → Type 0
AreApart more list = Each (λ (f : Fated). IsApart f.txn.id list) more

pub apart-later : (f : Fated) (rest : List Fated) → Each (λ (g : Fated). id_before f.txn.id g.txn.id ≡ true) rest → (list : List Fated) → AreApart rest list → AreApart rest (put_fated f list)
apart-later f [] h list n = tt
apart-later f (g ∷ rest) h list n =
    (Each-put (λ (x : Fated). x.txn.id ≡ g.txn.id → ⊥) f list (λ e. false≢true (sym (id_before-itself f.txn.id) ∙ subst (λ (i : TxnId). id_before f.txn.id i ≡ true) (sym e) h.0)) n.0, apart-later f rest h.1 list n.1)

pub order-with : (more list : List Fated) → IsInIdOrder more → AreApart more list → IsInIdOrder list → IsInIdOrder (with_fated more list)
order-with [] list d n h = h
order-with (f ∷ more) list d n h = order-with more (put_fated f list) d.1 (apart-later f more d.0 list n.1) (order-put f list n.0 h)

-- ---- candidates taken beside other commits

-- where the candidates conflict with the same, and an attempt is among both or false_from_ne_true, it is taken both times or false_from_ne_true
pub taken-same : (xs ys cs : List Transaction) (id : TxnId) → ((t : Transaction) → Among t cs → list_any (conflict t) xs ≡ list_any (conflict t) ys)
    → list_any (λ c. same_id c.id id) xs ≡ list_any (λ c. same_id c.id id) ys
    → list_any (λ c. same_id c.id id) (taken xs cs) ≡ list_any (λ c. same_id c.id id) (taken ys cs)
taken-same xs ys [] id clash same = same
taken-same xs ys (t ∷ cs) id clash same =
    by (taken-same xs ys cs id (λ u a. clash u (inr a)) same)
    (taken-same (xs ++ t ∷ []) (ys ++ t ∷ []) cs id (λ u a. also (conflict u) (clash u (inr a))) (also (λ c. same_id c.id id) same))
    (list_any (conflict t) xs) (list_any (conflict t) ys) (clash t (inl refl))
  where
    also : (p : Transaction → Bool) → list_any p xs ≡ list_any p ys → list_any p (xs ++ t ∷ []) ≡ list_any p (ys ++ t ∷ [])
    also p e = list_any-push p xs t ∙ ap (λ (b : Bool). b || p t) e ∙ sym (list_any-push p ys t)

    by : list_any (λ c. same_id c.id id) (taken xs cs) ≡ list_any (λ c. same_id c.id id) (taken ys cs)
        → list_any (λ c. same_id c.id id) (taken (xs ++ t ∷ []) cs) ≡ list_any (λ c. same_id c.id id) (taken (ys ++ t ∷ []) cs)
        → (a b : Bool) → a ≡ b → list_any (λ c. same_id c.id id) (taken (cond a xs (xs ++ t ∷ [])) cs) ≡ list_any (λ c. same_id c.id id) (taken (cond b ys (ys ++ t ∷ [])) cs)
    by skip add true true e = skip
    by skip add false false e = add
    by skip add true false e = absurd (cc e)
    by skip add false true e = absurd (cc e)

-- ---- promises that count

-- what is asked of them, and their base is in order
pub record IsGiven (ps : List PromiseState) : Type 0 where
  pub in_order : IsInIdOrder (base_of ps).list
  pub counted : AreCounted ps

-- an entry of a transaction that one of them handed in
record Handed (ps : List PromiseState) (t : Transaction) : Type 0 where
  promise : PromiseState
  entry : Entry
  given : Among promise ps
  within : Among entry promise.entries
  is : entry.txn ≡ t

handed-from : (ps : List PromiseState) (t : Transaction) → Among t (entered_txns ps) → Handed ps t
handed-from ps t a =
    let p = Among-from_flat_map (λ (p : PromiseState). map (λ (e : Entry). e.txn) p.entries) t ps a in
    let e = Among-from_map (λ (e : Entry). e.txn) t (p.0).entries p.2 in
    record { promise = p.0; entry = e.0; given = p.1; within = e.1; is = e.2 }

entered-from : (ps : List PromiseState) (p : PromiseState) (e : Entry) → Among p ps → Among e p.entries → Among e.txn (entered_txns ps)
entered-from ps p e a b = Among-flat_map (λ (p : PromiseState). map (λ (e : Entry). e.txn) p.entries) e.txn p ps a (Among-map (λ (e : Entry). e.txn) e p.entries b)

uncovered : (ps : List PromiseState) (t : Transaction) → IsGiven ps → Among t (entered_txns ps) → covers (base_of ps).marks t.id ≡ false
uncovered ps t h a =
    let k = handed-from ps t a in
    subst (λ (b : BaseState). covers b.marks t.id ≡ false) (h.counted.one_base k.promise k.given)
    (subst (λ (u : Transaction). covers k.promise.base.marks u.id ≡ false) k.is (h.counted.fit k.promise k.entry k.given k.within).uncovered)

new-is : (ps : List PromiseState) (t : Transaction) → IsGiven ps → Among t (entered_txns ps) → is_new (kept_of (base_of ps)) t.id ≡ is_none (fate_in t.id (base_of ps).list)
new-is ps t h a =
    let un = uncovered ps t h a in
    let out : outcome_of t.id (taught_by (base_of ps)) ≡ fate_in t.id (base_of ps).list =
    outcome_of-not_covered (base_of ps).marks (fates_in (base_of ps).list) t.id un ∙ fate_in-fates_in t.id (base_of ps).list in
    λ i. not (un i) && is_none (out i)

-- the transaction is of a new attempt that an entry reports
record IsFresh (ps : List PromiseState) (t : Transaction) : Type 0 where
  entered : Among t (entered_txns ps)
  fresh : fate_in t.id (base_of ps).list ≡ None

fresh-from : (ps : List PromiseState) (t : Transaction) → IsGiven ps → Among t (new_txns (kept_of (base_of ps)) ps) → IsFresh ps t
fresh-from ps t h a =
    let k = Among-from_filter (λ (u : Transaction). is_new (kept_of (base_of ps)) u.id) t (entered_txns ps) (ordered_from t (filter (λ u. is_new (kept_of (base_of ps)) u.id) (entered_txns ps)) a) in
    record { entered = k.0; fresh = None-from_is_none (fate_in t.id (base_of ps).list) (sym (new-is ps t h k.0) ∙ k.1) }

entered-all : (ps : List PromiseState) (t : Transaction) → Among t (entered_txns ps) → Among t (all_of ps)
entered-all ps t a = Among-append_right t (map (λ (f : Fated). f.txn) (base_of ps).list) (entered_txns ps) a

based-all : (ps : List PromiseState) (g : Fated) → Among g (base_of ps).list → Among g.txn (all_of ps)
based-all ps g a = Among-append_left g.txn (map (λ (f : Fated). f.txn) (base_of ps).list) (entered_txns ps) (Among-map (λ (f : Fated). f.txn) g (base_of ps).list a)

new-from : (ps : List PromiseState) (t : Transaction) → IsGiven ps → IsFresh ps t → Among t (new_txns (kept_of (base_of ps)) ps)
new-from ps t h k =
    ordered-keeps (all_of ps) (filter (λ u. is_new (kept_of (base_of ps)) u.id) (entered_txns ps)) t h.counted.coherent
    (λ u a. entered-all ps u (Among-from_filter (λ (x : Transaction). is_new (kept_of (base_of ps)) x.id) u (entered_txns ps) a).0)
    (Among-filter (λ (u : Transaction). is_new (kept_of (base_of ps)) u.id) t (entered_txns ps) k.entered (new-is ps t h k.entered ∙ ap is_none k.fresh))

reported-from : (ps : List PromiseState) (t : Transaction) → IsGiven ps → Among t (all_of ps) → Among t (reported_txns ps)
reported-from ps t h a = ordered-keeps (all_of ps) (all_of ps) t h.counted.coherent (λ u b. b) a

-- what is reported is the base's or new
abbrev IsEither : List PromiseState → Transaction → Type 0
IsEither ps t = ((g : Fated) × Among g (base_of ps).list × (g.txn ≡ t)) ⊎ IsFresh ps t

either : (ps : List PromiseState) (t : Transaction) → IsGiven ps → Among t (reported_txns ps) → IsEither ps t
either ps t h a = elim (Among-append t (map (λ (f : Fated). f.txn) (base_of ps).list) (entered_txns ps) (ordered_from t (all_of ps) a)) [
  | inl b ↦ inl (Among-from_map (λ (f : Fated). f.txn) t (base_of ps).list b)
  | inr e ↦ by (fate_in t.id (base_of ps).list) refl e
]
  where
    by : (o : Option Outcome) → fate_in t.id (base_of ps).list ≡ o → Among t (entered_txns ps) → IsEither ps t
    by None k e = inr (record { entered = e; fresh = k })
    by (Some o) k e =
        let g = fate-member t.id (base_of ps).list o k in
        inl (g.0, g.1, h.counted.coherent.one_of_a_number (g.0).txn t (based-all ps g.0 g.1) (entered-all ps t e) g.2)

settled-new : (f : ℕ) (ps : List PromiseState) (t : Transaction) → fate_in t.id (base_of ps).list ≡ None → settled_fate f ps t.id ≡ entered_fate f ps t.id
settled-new f ps t e = ap (λ o. option_or o (entered_fate f ps t.id)) e

settled-old : (f : ℕ) (ps : List PromiseState) (t : Transaction) (g : Fated) → IsGiven ps → Among g (base_of ps).list → g.txn ≡ t → settled_fate f ps t.id ≡ Some g.outcome
settled-old f ps t g h a same = ap (λ o. option_or o (entered_fate f ps t.id)) (subst (λ (u : Transaction). fate_in u.id (base_of ps).list ≡ Some g.outcome) same (fate-there (base_of ps).list g h.in_order a))

-- ---- candidates

abbrev awaits : ℕ → List PromiseState → (TxnId → Option Outcome) → Transaction → Bool
awaits f ps fate txn = is_none (fate txn.id) && nat_le (hint_of f) (ok_reports f ps txn.id)

in-order : (txns : List Transaction) → IdsAscend txns → InOrder (λ t. t.id) txns
in-order [] h = tt
in-order (t ∷ txns) h = (h.0, in-order txns h.1)

awaiting-same : (f : ℕ) (ps : List PromiseState) → IsGiven ps
    → filter (awaits f ps (settled_fate f ps)) (reported_txns ps) ≡ filter (awaits f ps (entered_fate f ps)) (new_txns (kept_of (base_of ps)) ps)
awaiting-same f ps h = same-members (λ t. t.id) all new
    (in-order all (ascend_filter (awaits f ps (settled_fate f ps)) (reported_txns ps) (ascend_ordered (all_of ps))))
    (in-order new (ascend_filter (awaits f ps (entered_fate f ps)) (new_txns kept ps) (ascend_ordered (filter (λ u. is_new kept u.id) (entered_txns ps)))))
    to back
  where
    kept : KeptOutcomes
    kept = kept_of (base_of ps)

    all : List Transaction
    all = filter (awaits f ps (settled_fate f ps)) (reported_txns ps)

    new : List Transaction
    new = filter (awaits f ps (entered_fate f ps)) (new_txns kept ps)

    to : (t : Transaction) → Among t all → Among t new
    to t a = let k = Among-from_filter (awaits f ps (settled_fate f ps)) t (reported_txns ps) a in elim (either ps t h k.0) [
      | inl old ↦ absurd (false≢true (sym (ap is_none (settled-old f ps t old.0 h old.1 old.2)) ∙ (and_parts (is_none (settled_fate f ps t.id)) (nat_le (hint_of f) (ok_reports f ps t.id)) k.1).0))
      | inr fresh ↦ Among-filter (awaits f ps (entered_fate f ps)) t (new_txns kept ps) (new-from ps t h fresh)
          (subst (λ (o : Option Outcome). (is_none o && nat_le (hint_of f) (ok_reports f ps t.id)) ≡ true) (settled-new f ps t fresh.fresh) k.1)
    ]

    back : (t : Transaction) → Among t new → Among t all
    back t a = let k = Among-from_filter (awaits f ps (entered_fate f ps)) t (new_txns kept ps) a in let fresh = fresh-from ps t h k.0 in
        Among-filter (awaits f ps (settled_fate f ps)) t (reported_txns ps) (reported-from ps t h (entered-all ps t fresh.entered))
        (subst (λ (o : Option Outcome). (is_none o && nat_le (hint_of f) (ok_reports f ps t.id)) ≡ true) (sym (settled-new f ps t fresh.fresh)) k.1)

at_least_one : (x y : ℕ) → nat_le (x + 1) y ≡ true → 1 ≤ y
at_least_one x y e = grind (arith, nat_tests, e)

-- an Ok vote was reported for what a hint of votes is there for, so it fits the base
hinted : (f : ℕ) (ps : List PromiseState) (t : Transaction) → IsGiven ps → Among t (all_of ps) → nat_le (hint_of f) (ok_reports f ps t.id) ≡ true → fits_base (base_of ps) t ≡ true
hinted f ps t h a e =
    let r = count_below-some (members f) (λ (r : ℕ). passes (λ (e : Entry). passes is_ok_vote e.vote) (reported ps t.id r)) (at_least_one _ _ e) in
    voted r.0 (find (λ p. p.replica == r.0) ps) refl r.2
  where
    of_entry : (p : PromiseState) (x : Option Entry) → Among p ps → entry_of t.id p.entries ≡ x → passes (λ (e : Entry). passes is_ok_vote e.vote) x ≡ true → fits_base (base_of ps) t ≡ true
    of_entry p None b k ok = absurd (cc ok)
    of_entry p (Some entry) b k ok =
        let m = find_tells (is_entry_of t.id) p.entries entry k in
        let same : entry.txn ≡ t = h.counted.coherent.one_of_a_number entry.txn t (entered-all ps entry.txn (entered-from ps p entry b m.0)) a (same_id-tells entry.txn.id t.id m.1) in
        subst (λ (u : Transaction). fits_base (base_of ps) u ≡ true) same
        (subst (λ (base : BaseState). fits_base base entry.txn ≡ true) (h.counted.one_base p b) ((h.counted.fit p entry b m.0).voted ok))

    voted : (r : ℕ) (x : Option PromiseState) → find (λ p. p.replica == r) ps ≡ x → passes (λ (e : Entry). passes is_ok_vote e.vote) (option_and_then (λ p. entry_of t.id p.entries) x) ≡ true → fits_base (base_of ps) t ≡ true
    voted r None k ok = absurd (cc ok)
    voted r (Some p) k ok = of_entry p (entry_of t.id p.entries) (find_tells (λ (q : PromiseState). q.replica == r) ps p k).0 refl ok

-- ---- commits

-- a candidate conflicts with a settled commit where it conflicts with a new one
clash-same : (f : ℕ) (ps : List PromiseState) → IsGiven ps → (t : Transaction) → Among t (new_candidates f (kept_of (base_of ps)) ps)
    → list_any (conflict t) (settled_commits f ps) ≡ list_any (conflict t) (new_commits f (kept_of (base_of ps)) ps)
clash-same f ps h t a = same-from_tests (list_any (conflict t) (settled_commits f ps)) (list_any (conflict t) (new_commits f kept ps)) to back
  where
    kept : KeptOutcomes
    kept = kept_of (base_of ps)

    waits : Among t (new_txns kept ps) × (awaits f ps (entered_fate f ps) t ≡ true)
    waits = Among-from_filter (awaits f ps (entered_fate f ps)) t (new_txns kept ps) (by_stamp_from t (filter (awaits f ps (entered_fate f ps)) (new_txns kept ps)) a)

    fits : fits_base (base_of ps) t ≡ true
    fits = hinted f ps t h (entered-all ps t (fresh-from ps t h waits.0).entered) (and_parts (is_none (entered_fate f ps t.id)) (nat_le (hint_of f) (ok_reports f ps t.id)) waits.1).1

    to : list_any (conflict t) (settled_commits f ps) ≡ true → list_any (conflict t) (new_commits f kept ps) ≡ true
    to e =
        let m = Among-from_list_any (conflict t) (settled_commits f ps) e in
        let k = Among-from_filter (λ (txn : Transaction). passes is_commit (settled_fate f ps txn.id)) m.0 (reported_txns ps) m.1 in
        elim (either ps m.0 h k.0) [
          | inl old ↦
              let c : is_commit (old.0).outcome ≡ true = sym (ap (passes is_commit) (settled-old f ps m.0 old.0 h old.1 old.2)) ∙ k.1 in
              let in_base : Among m.0 (commits_in (base_of ps).list) = subst (λ (u : Transaction). Among u (commits_in (base_of ps).list)) old.2 (commits-member (base_of ps).list old.0 old.1 c) in
              absurd (false≢true (sym (fit-apart (base_of ps) t m.0 fits in_base) ∙ m.2))
          | inr fresh ↦ list_any-from_Among (conflict t) (new_commits f kept ps) m.0
              (Among-filter (λ (txn : Transaction). passes is_commit (entered_fate f ps txn.id)) m.0 (new_txns kept ps) (new-from ps m.0 h fresh)
              (sym (ap (passes is_commit) (settled-new f ps m.0 fresh.fresh)) ∙ k.1)) m.2
        ]

    back : list_any (conflict t) (new_commits f kept ps) ≡ true → list_any (conflict t) (settled_commits f ps) ≡ true
    back e =
        let m = Among-from_list_any (conflict t) (new_commits f kept ps) e in
        let k = Among-from_filter (λ (txn : Transaction). passes is_commit (entered_fate f ps txn.id)) m.0 (new_txns kept ps) m.1 in
        let fresh = fresh-from ps m.0 h k.0 in
        list_any-from_Among (conflict t) (settled_commits f ps) m.0
        (Among-filter (λ (txn : Transaction). passes is_commit (settled_fate f ps txn.id)) m.0 (reported_txns ps) (reported-from ps m.0 h (entered-all ps m.0 fresh.entered))
        (ap (passes is_commit) (settled-new f ps m.0 fresh.fresh) ∙ k.1)) m.2

-- an attempt without an outcome is no commit by one
no_commit : (fate : TxnId → Option Outcome) (txns : List Transaction) (id : TxnId) → fate id ≡ None → list_any (λ c. same_id c.id id) (filter (λ txn. passes is_commit (fate txn.id)) txns) ≡ false
no_commit fate txns id none = false_from_ne_true (list_any (λ c. same_id c.id id) (filter (λ txn. passes is_commit (fate txn.id)) txns)) (λ e.
    let m = Among-from_list_any (λ (c : Transaction). same_id c.id id) (filter (λ txn. passes is_commit (fate txn.id)) txns) e in
    let k = Among-from_filter (λ (txn : Transaction). passes is_commit (fate txn.id)) m.0 txns m.1 in
    false≢true (ap (passes is_commit) (sym none ∙ ap fate (sym (same_id-tells (m.0).id id m.2))) ∙ k.1))

-- ---- fates

-- the commits that were taken in all, and those among the new
abbrev all_taken : ℕ → List PromiseState → List Transaction
all_taken f ps = taken (settled_commits f ps) (candidates f ps)

abbrev new_taken : ℕ → List PromiseState → List Transaction
new_taken f ps = taken (new_commits f (kept_of (base_of ps)) ps) (new_candidates f (kept_of (base_of ps)) ps)

fate-same : (f epoch : ℕ) (ps : List PromiseState) (t : Transaction) → IsGiven ps → IsFresh ps t
    → fate_by epoch t (all_taken f ps) (settled_fate f ps t.id) ≡ fate_by epoch t (new_taken f ps) (entered_fate f ps t.id)
fate-same f epoch ps t h fresh = ap (fate_by epoch t (all_taken f ps)) (settled-new f ps t fresh.fresh) ∙ by (entered_fate f ps t.id) refl
  where
    kept : KeptOutcomes
    kept = kept_of (base_of ps)

    among : entered_fate f ps t.id ≡ None → list_any (λ c. same_id c.id t.id) (all_taken f ps) ≡ list_any (λ c. same_id c.id t.id) (new_taken f ps)
    among e =
        ap (λ cs. list_any (λ (c : Transaction). same_id c.id t.id) (taken (settled_commits f ps) (in_stamp_order cs))) (awaiting-same f ps h)
        ∙ taken-same (settled_commits f ps) (new_commits f kept ps) (new_candidates f kept ps) t.id (clash-same f ps h)
        (no_commit (settled_fate f ps) (reported_txns ps) t.id (settled-new f ps t fresh.fresh ∙ e) ∙ sym (no_commit (entered_fate f ps) (new_txns kept ps) t.id e))

    by : (o : Option Outcome) → entered_fate f ps t.id ≡ o → fate_by epoch t (all_taken f ps) o ≡ fate_by epoch t (new_taken f ps) o
    by (Some outcome) e = refl
    by None e = ap (λ (b : Bool). cond b Commit (Rattle.mk_txn.specs.declared.Outcome.TheVariants.Abort (Rattle.mk_txn.specs.declared.Cause.TheVariants.Epoch epoch))) (among e)

-- ---- what is new, gathered

pub new-coherent : (kept : KeptOutcomes) (ps : List PromiseState) → AreCoherent (entered_txns ps) → AreCoherent (filter (λ txn. is_new kept txn.id) (entered_txns ps))
new-coherent kept ps h = AreCoherent-within (filter (λ txn. is_new kept txn.id) (entered_txns ps)) (entered_txns ps) (λ t a. (Among-from_filter (λ (u : Transaction). is_new kept u.id) t (entered_txns ps) a).0) h

pub new-distinct : (kept : KeptOutcomes) (ps : List PromiseState) (p : Transaction → Bool) → AreCoherent (entered_txns ps) → AllDistinct (map (λ txn. txn.stamp) (filter p (new_txns kept ps)))
new-distinct kept ps p coherent =
    stamps-distinct (entered_txns ps) (filter p (new_txns kept ps)) coherent
    (λ t a. (Among-from_filter (λ (u : Transaction). is_new kept u.id) t (entered_txns ps) (ordered_from t (filter (λ u. is_new kept u.id) (entered_txns ps)) (Among-from_filter p t (new_txns kept ps) a).0)).0)
    (ascend_filter p (new_txns kept ps) (ascend_ordered (filter (λ u. is_new kept u.id) (entered_txns ps))))

-- what a merge adds, put together from what was found
pub additions-are : (f epoch : ℕ) (kept : KeptOutcomes) (ps : List PromiseState) (txns before waiting ordered commits : List Transaction) (list : List Fated)
    → txns ≡ new_txns kept ps
    → before ≡ filter (λ txn. passes is_commit (entered_fate f ps txn.id)) txns
    → waiting ≡ filter (λ txn. is_none (entered_fate f ps txn.id) && nat_le (hint_of f) (ok_reports f ps txn.id)) txns
    → ordered ≡ in_stamp_order waiting
    → commits ≡ taken before ordered
    → list ≡ map (λ txn. fated txn (fate_by epoch txn commits (entered_fate f ps txn.id))) txns
    → list ≡ additions f epoch kept ps
additions-are f epoch kept ps txns before waiting ordered commits list txns_is before_is waiting_is ordered_is commits_is list_is =
    let settled : before ≡ new_commits f kept ps = before_is ∙ ap (filter (λ txn. passes is_commit (entered_fate f ps txn.id))) txns_is in
    let in_turn : ordered ≡ new_candidates f kept ps = ordered_is ∙ ap in_stamp_order (waiting_is ∙ ap (filter (λ txn. is_none (entered_fate f ps txn.id) && nat_le (hint_of f) (ok_reports f ps txn.id))) txns_is) in
    let all : commits ≡ taken (new_commits f kept ps) (new_candidates f kept ps) = commits_is ∙ (λ i. taken (settled i) (in_turn i)) in
    list_is ∙ (λ i. map (λ txn. fated txn (fate_by epoch txn (all i) (entered_fate f ps txn.id))) (txns_is i))

-- ---- the whole

fated-order : (list : List Fated) → IsInIdOrder list → InOrder (λ g. g.txn.id) list
fated-order [] h = tt
fated-order (g ∷ list) h = (h.0, fated-order list h.1)

pub additions-apart : (f epoch : ℕ) (ps : List PromiseState) → IsGiven ps → AreApart (additions f epoch (kept_of (base_of ps)) ps) (base_of ps).list
additions-apart f epoch ps h = Each-from_Among (λ (g : Fated). IsApart g.txn.id (base_of ps).list) (additions f epoch (kept_of (base_of ps)) ps) (λ g a.
    let t = Among-from_map (λ txn. fated txn (fate_by epoch txn (new_taken f ps) (entered_fate f ps txn.id))) g (new_txns (kept_of (base_of ps)) ps) a in
    let fresh = fresh-from ps t.0 h t.1 in
    Each-from_Among (λ (x : Fated). x.txn.id ≡ g.txn.id → ⊥) (base_of ps).list (λ x b e.
    let is : fate_in (t.0).id (base_of ps).list ≡ Some x.outcome =
    ap (λ (i : TxnId). fate_in i (base_of ps).list) (ap (λ (y : Fated). y.txn.id) t.2 ∙ sym e) ∙ fate-there (base_of ps).list x h.in_order b in
    let none : fate_in (t.0).id (base_of ps).list ≡ None = fresh.fresh in
    absurd (cc (sym none ∙ is))))

pub additions-in_order : (f epoch : ℕ) (kept : KeptOutcomes) (ps : List PromiseState) → IsInIdOrder (additions f epoch kept ps)
additions-in_order f epoch kept ps =
    fated_in_order (λ txn. fate_by epoch txn (taken (new_commits f kept ps) (new_candidates f kept ps)) (entered_fate f ps txn.id)) (new_txns kept ps)
    (ascend_ordered (filter (λ u. is_new kept u.id) (entered_txns ps)))

pub merged-added : (f epoch : ℕ) (ps : List PromiseState) → IsGiven ps
    → (merged_from f epoch ps).list ≡ with_fated (additions f epoch (kept_of (base_of ps)) ps) (base_of ps).list
merged-added f epoch ps h = same-members (λ g. g.txn.id) all new
    (fated-order all (fated_in_order (λ txn. fate_by epoch txn (all_taken f ps) (settled_fate f ps txn.id)) (reported_txns ps) (ascend_ordered (all_of ps))))
    (fated-order new (order-with added (base_of ps).list (additions-in_order f epoch kept ps) (additions-apart f epoch ps h) h.in_order))
    to back
  where
    kept : KeptOutcomes
    kept = kept_of (base_of ps)

    made : Transaction → Fated
    made txn = fated txn (fate_by epoch txn (all_taken f ps) (settled_fate f ps txn.id))

    made_new : Transaction → Fated
    made_new txn = fated txn (fate_by epoch txn (new_taken f ps) (entered_fate f ps txn.id))

    added : List Fated
    added = additions f epoch kept ps

    all : List Fated
    all = (merged_from f epoch ps).list

    new : List Fated
    new = with_fated added (base_of ps).list

    old-made : (t : Transaction) (g : Fated) → Among g (base_of ps).list → g.txn ≡ t → made t ≡ g
    old-made t g a same = ap (λ o. fated t (fate_by epoch t (all_taken f ps) o)) (settled-old f ps t g h a same) ∙ ap (λ u. fated u g.outcome) (sym same)

    new-made : (t : Transaction) → IsFresh ps t → made t ≡ made_new t
    new-made t fresh = ap (fated t) (fate-same f epoch ps t h fresh)

    to : (g : Fated) → Among g all → Among g new
    to g a = let t = Among-from_map made g (reported_txns ps) a in elim (either ps t.0 h t.1) [
      | inl old ↦ with-there added (base_of ps).list g (inr (subst (λ (x : Fated). Among x (base_of ps).list) (sym (old-made t.0 old.0 old.1 old.2) ∙ t.2) old.1))
      | inr fresh ↦ with-there added (base_of ps).list g (inl (subst (λ (x : Fated). Among x added) (sym (new-made t.0 fresh) ∙ t.2) (Among-map made_new t.0 (new_txns kept ps) (new-from ps t.0 h fresh))))
    ]

    back : (g : Fated) → Among g new → Among g all
    back g a = elim (with-from added (base_of ps).list g a) [
      | inl b ↦
          let t = Among-from_map made_new g (new_txns kept ps) b in
          let fresh = fresh-from ps t.0 h t.1 in
          subst (λ (x : Fated). Among x all) (new-made t.0 fresh ∙ t.2) (Among-map made t.0 (reported_txns ps) (reported-from ps t.0 h (entered-all ps t.0 fresh.entered)))
      | inr b ↦ subst (λ (x : Fated). Among x all) (old-made g.txn g b refl) (Among-map made g.txn (reported_txns ps) (reported-from ps g.txn h (based-all ps g b)))
    ]

-- what is added was entered
pub additions-from : (f epoch : ℕ) (kept : KeptOutcomes) (ps : List PromiseState) (g : Fated) → Among g (additions f epoch kept ps) → Among g.txn (entered_txns ps)
additions-from f epoch kept ps g a =
    let t = Among-from_map (λ txn. fated txn (fate_by epoch txn (taken (new_commits f kept ps) (new_candidates f kept ps)) (entered_fate f ps txn.id))) g (new_txns kept ps) a in
    subst (λ (u : Transaction). Among u (entered_txns ps)) (ap (λ (x : Fated). x.txn) t.2)
    (Among-from_filter (λ (u : Transaction). is_new kept u.id) t.0 (entered_txns ps) (ordered_from t.0 (filter (λ u. is_new kept u.id) (entered_txns ps)) t.1)).0

-- ---- what was added

pub entered-coherent : (hs ps : List PromiseState) → hs ≡ map bare ps → AreCounted ps → AreCoherent (entered_txns hs)
entered-coherent hs ps is h = subst AreCoherent (sym (ap entered_txns is ∙ entered-bare ps)) (AreCoherent-within (entered_txns ps) (all_of ps) (λ t a. entered-all ps t a) h.coherent)

-- what stands for what a merge adds
pub record IsAddition (f epoch : ℕ) (ps : List PromiseState) (more : List Fated) : Type 0 where
  pub given : IsGiven ps
  pub made : more ≡ additions f epoch (kept_of (base_of ps)) ps

pub added-in_order : (f epoch : ℕ) (ps : List PromiseState) (more : List Fated) → IsAddition f epoch ps more → IsInIdOrder more
added-in_order f epoch ps more h = subst IsInIdOrder (sym h.made) (additions-in_order f epoch (kept_of (base_of ps)) ps)

pub added-apart : (f epoch : ℕ) (ps : List PromiseState) (more : List Fated) → IsAddition f epoch ps more → AreApart more (base_of ps).list
added-apart f epoch ps more h = subst (λ (m : List Fated). AreApart m (base_of ps).list) (sym h.made) (additions-apart f epoch ps h.given)

pub added-whole : (f epoch : ℕ) (ps : List PromiseState) (more : List Fated) → IsAddition f epoch ps more → with_fated more (base_of ps).list ≡ (merged_from f epoch ps).list
added-whole f epoch ps more h = ap (λ (m : List Fated). with_fated m (base_of ps).list) h.made ∙ sym (merged-added f epoch ps h.given)

-- what was added is of transactions that were entered
pub added-from : (f epoch : ℕ) (ps : List PromiseState) (more : List Fated) (g : Fated) → IsAddition f epoch ps more → Among g more → Among g.txn (entered_txns ps)
added-from f epoch ps more g h a = additions-from f epoch (kept_of (base_of ps)) ps g (subst (λ (m : List Fated). Among g m) h.made a)
