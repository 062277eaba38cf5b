-- Transactions put in order of stamp: their order, their members, and that a part in order is the ordered part.
use Rattle.std.proofs.Common.{◌≡◌, ◌≢◌, ◌⊎◌, Bool, true, false, refl, sym, ap, ◌∙◌, inl, inr, List, [], ◌∷◌, ◌++◌, filter, map, if◌then◌else◌}
use Rattle.std.proofs.lemmas.Bool.{false≢true}
use Rattle.mk_lists.specs.Among.{Among, Each, AllDistinct, Each-among, Each-weaker, Among-append_right}
use Rattle.mk_txn.specs.declared.Stamp.{Stamp}
use Rattle.mk_txn.specs.Stamps.{is_before}
use Rattle.mk_txn.specs.Transactions.{Transaction}
use Rattle.mk_txn.proofs.StampOrder.{is_before-itself, is_before-through, is_before-not_back, same-from_neither}
use Rattle.mk_words.specs.Bases.{placed_by_stamp, in_stamp_order}

-- each stamp is before all later ones
abbrev pub IsInStampOrder : List Transaction → Type 0
IsInStampOrder [] = Unit {0}
IsInStampOrder (txn ∷ txns) = Each (λ later. is_before txn.stamp later.stamp ≡ true) txns × IsInStampOrder txns

-- the stamps, one by one
abbrev pub stamps_in : List Transaction → List Stamp
stamps_in txns = map (λ txn. txn.stamp) txns

-- of two stamps that are not one, that are not before and after, the other is before
pub after_first : (a b : Stamp) → a ≢ b → is_before a b ≡ false → is_before b a ≡ true
after_first a b apart e = by (is_before b a) refl
  where
    by : (r : Bool) → is_before b a ≡ r → r ≡ true
    by true f = refl
    by false f = absurd (apart (same-from_neither a b e f))

-- ---- members

-- a member is the one that was placed, or one of the others
pub placed-from : (member txn : Transaction) (txns : List Transaction) → Among member (placed_by_stamp txn txns) → (txn ≡ member) ⊎ Among member txns
placed-from member txn [] a = a
placed-from member txn (first ∷ rest) a = by (placed-from member txn rest) (is_before first.stamp txn.stamp) a
  where
    by : (Among member (placed_by_stamp txn rest) → (txn ≡ member) ⊎ Among member rest) → (b : Bool) →
        Among member (if b then first ∷ placed_by_stamp txn rest else txn ∷ (first ∷ rest)) → (txn ≡ member) ⊎ Among member (first ∷ rest)
    by more true (inl e) = inr (inl e)
    by more true (inr a) = elim (more a) [ inl e ↦ inl e | inr b ↦ inr (inr b) ]
    by more false a = a

-- the other way round
pub placed-there : (member txn : Transaction) (txns : List Transaction) → (txn ≡ member) ⊎ Among member txns → Among member (placed_by_stamp txn txns)
placed-there member txn [] a = a
placed-there member txn (first ∷ rest) a = by (placed-there member txn rest) (is_before first.stamp txn.stamp) a
  where
    by : ((txn ≡ member) ⊎ Among member rest → Among member (placed_by_stamp txn rest)) → (b : Bool) →
        (txn ≡ member) ⊎ Among member (first ∷ rest) → Among member (if b then first ∷ placed_by_stamp txn rest else txn ∷ (first ∷ rest))
    by more true (inl e) = inr (more (inl e))
    by more true (inr (inl e)) = inl e
    by more true (inr (inr a)) = inr (more (inr a))
    by more false a = a

-- those in order are members of the list
pub ordered-from : (member : Transaction) (txns : List Transaction) → Among member (in_stamp_order txns) → Among member txns
ordered-from member [] a = a
ordered-from member (txn ∷ txns) a = elim (placed-from member txn (in_stamp_order txns) a) [ inl e ↦ inl e | inr b ↦ inr (ordered-from member txns b) ]

-- and the list's members are among those in order
pub ordered-there : (member : Transaction) (txns : List Transaction) → Among member txns → Among member (in_stamp_order txns)
ordered-there member [] a = a
ordered-there member (txn ∷ txns) (inl e) = placed-there member txn (in_stamp_order txns) (inl e)
ordered-there member (txn ∷ txns) (inr a) = placed-there member txn (in_stamp_order txns) (inr (ordered-there member txns a))

-- ---- stamps

-- a stamp is the placed one's, or one of the others
pub placed-stamp : (stamp : Stamp) (txn : Transaction) (txns : List Transaction) → Among stamp (stamps_in (placed_by_stamp txn txns)) →
    (txn.stamp ≡ stamp) ⊎ Among stamp (stamps_in txns)
placed-stamp stamp txn [] a = a
placed-stamp stamp txn (first ∷ rest) a = by (placed-stamp stamp txn rest) (is_before first.stamp txn.stamp) a
  where
    by : (Among stamp (stamps_in (placed_by_stamp txn rest)) → (txn.stamp ≡ stamp) ⊎ Among stamp (stamps_in rest)) → (b : Bool) →
        Among stamp (stamps_in (if b then first ∷ placed_by_stamp txn rest else txn ∷ (first ∷ rest))) → (txn.stamp ≡ stamp) ⊎ Among stamp
        (stamps_in (first ∷ rest))
    by more true (inl e) = inr (inl e)
    by more true (inr a) = elim (more a) [ inl e ↦ inl e | inr b ↦ inr (inr b) ]
    by more false a = a

-- no stamp is new
pub ordered-stamp : (stamp : Stamp) (txns : List Transaction) → Among stamp (stamps_in (in_stamp_order txns)) → Among stamp (stamps_in txns)
ordered-stamp stamp [] a = a
ordered-stamp stamp (txn ∷ txns) a = elim (placed-stamp stamp txn (in_stamp_order txns) a) [ inl e ↦ inl e | inr b ↦ inr (ordered-stamp stamp txns b) ]

-- distinct stamps stay distinct
pub placed-distinct : (txn : Transaction) (txns : List Transaction) → ¬ (Among txn.stamp (stamps_in txns)) → AllDistinct (stamps_in txns) →
    AllDistinct (stamps_in (placed_by_stamp txn txns))
placed-distinct txn [] new d = ((λ a. a), tt)
placed-distinct txn (first ∷ rest) new d = by (is_before first.stamp txn.stamp) (placed-distinct txn rest (λ a. new (inr a)) d.1)
  where
    apart : ¬ (Among first.stamp (stamps_in (placed_by_stamp txn rest)))
    apart a = elim (placed-stamp first.stamp txn rest a) [ inl e ↦ new (inl (sym e)) | inr m ↦ d.0 m ]

    by : (b : Bool) → AllDistinct (stamps_in (placed_by_stamp txn rest)) →
        AllDistinct (stamps_in (if b then first ∷ placed_by_stamp txn rest else txn ∷ (first ∷ rest)))
    by true more = (apart, more)
    by false more = (new, d)

pub ordered-distinct : (txns : List Transaction) → AllDistinct (stamps_in txns) → AllDistinct (stamps_in (in_stamp_order txns))
ordered-distinct [] d = d
ordered-distinct (txn ∷ txns) d = placed-distinct txn (in_stamp_order txns) (λ a. d.0 (ordered-stamp txn.stamp txns a)) (ordered-distinct txns d.1)

-- ---- the order

Each-placed : (P : Transaction → Type 0) (txn : Transaction) (txns : List Transaction) → P txn → Each P txns → Each P (placed_by_stamp txn txns)
Each-placed P txn [] p h = (p, tt)
Each-placed P txn (first ∷ rest) p h = by (Each-placed P txn rest p h.1) (is_before first.stamp txn.stamp)
  where
    by : Each P (placed_by_stamp txn rest) → (b : Bool) → Each P (if b then first ∷ placed_by_stamp txn rest else txn ∷ (first ∷ rest))
    by more true = (h.0, more)
    by more false = (p, h)

placed-in_order : (txn : Transaction) (txns : List Transaction) → ¬ (Among txn.stamp (stamps_in txns)) → IsInStampOrder txns →
    IsInStampOrder (placed_by_stamp txn txns)
placed-in_order txn [] new h = (tt, tt)
placed-in_order txn (first ∷ rest) new h = by (placed-in_order txn rest (λ a. new (inr a)) h.1) (is_before first.stamp txn.stamp) refl
  where
    by : IsInStampOrder (placed_by_stamp txn rest) → (b : Bool) → is_before first.stamp txn.stamp ≡ b →
        IsInStampOrder (if b then first ∷ placed_by_stamp txn rest else txn ∷ (first ∷ rest))
    by more true e = (Each-placed (λ later. is_before first.stamp later.stamp ≡ true) txn rest e h.0, more)
    by more false e =
        let before : is_before txn.stamp first.stamp ≡ true = after_first first.stamp txn.stamp (λ same. new (inl same)) e in
        let further : (later : Transaction) → is_before first.stamp later.stamp ≡ true → is_before txn.stamp later.stamp ≡ true =
        λ later k. is_before-through txn.stamp first.stamp later.stamp before k in
        ((before, Each-weaker (λ later. is_before first.stamp later.stamp ≡ true) (λ later. is_before txn.stamp later.stamp ≡ true) further rest h.0), h)

-- where no two stamps are one
pub ordered-in_order : (txns : List Transaction) → AllDistinct (stamps_in txns) → IsInStampOrder (in_stamp_order txns)
ordered-in_order [] d = tt
ordered-in_order (txn ∷ txns) d = placed-in_order txn (in_stamp_order txns) (λ a. d.0 (ordered-stamp txn.stamp txns a)) (ordered-in_order txns d.1)

-- ---- those that pass a test

-- one before which none stands comes first
placed-first : (txn : Transaction) (txns : List Transaction) → Each (λ other. is_before other.stamp txn.stamp ≡ false) txns →
    placed_by_stamp txn txns ≡ txn ∷ txns
placed-first txn [] h = refl
placed-first txn (first ∷ rest) h = ap (λ b. if b then first ∷ placed_by_stamp txn rest else txn ∷ (first ∷ rest)) h.0

Each-filter : (P : Transaction → Type 0) (p : Transaction → Bool) (txns : List Transaction) → Each P txns → Each P (filter p txns)
Each-filter P p [] h = tt
Each-filter P p (txn ∷ txns) h = by (Each-filter P p txns h.1) (p txn)
  where
    by : Each P (filter p txns) → (b : Bool) → Each P (if b then txn ∷ filter p txns else filter p txns)
    by more true = (h.0, more)
    by more false = more

filter-placed : (p : Transaction → Bool) (txn : Transaction) (txns : List Transaction) → IsInStampOrder txns →
    filter p (placed_by_stamp txn txns) ≡ (if p txn then placed_by_stamp txn (filter p txns) else filter p txns)
filter-placed p txn [] h = refl
filter-placed p txn (first ∷ rest) h = by (filter-placed p txn rest h.1) (is_before first.stamp txn.stamp) refl
  where
    by_txn : is_before first.stamp txn.stamp ≡ true → (c : Bool) →
        first ∷ (if c then placed_by_stamp txn (filter p rest) else filter p rest) ≡
        (if c then placed_by_stamp txn (first ∷ filter p rest) else first ∷ filter p rest)
    by_txn e true = sym (ap (λ b. if b then first ∷ placed_by_stamp txn (filter p rest) else txn ∷ (first ∷ filter p rest)) e)
    by_txn e false = refl

    by_first : filter p (placed_by_stamp txn rest) ≡ (if p txn then placed_by_stamp txn (filter p rest) else filter p rest) →
        is_before first.stamp txn.stamp ≡ true → (d : Bool) →
        (if d then first ∷ filter p (placed_by_stamp txn rest) else filter p (placed_by_stamp txn rest))
        ≡ (if p txn then placed_by_stamp txn (if d then first ∷ filter p rest else filter p rest) else (if d then first ∷ filter p rest else filter p rest))
    by_first more e true = ap (λ ys. first ∷ ys) more ∙ by_txn e (p txn)
    by_first more e false = more

    later_stays : is_before first.stamp txn.stamp ≡ false → (later : Transaction) → is_before first.stamp later.stamp ≡ true →
        is_before later.stamp txn.stamp ≡ false
    later_stays e later k = by_order (is_before later.stamp txn.stamp) refl
      where
        by_order : (r : Bool) → is_before later.stamp txn.stamp ≡ r → r ≡ false
        by_order true f = absurd (false≢true (sym e ∙ is_before-through first.stamp later.stamp txn.stamp k f))
        by_order false f = refl

    by : filter p (placed_by_stamp txn rest) ≡ (if p txn then placed_by_stamp txn (filter p rest) else filter p rest) → (b : Bool) →
        is_before first.stamp txn.stamp ≡ b →
        filter p (if b then first ∷ placed_by_stamp txn rest else txn ∷ (first ∷ rest)) ≡
        (if p txn then placed_by_stamp txn (filter p (first ∷ rest)) else filter p (first ∷ rest))
    by more true e = by_first more e (p first)
    by more false e =
        let none : Each (λ (other : Transaction). is_before other.stamp txn.stamp ≡ false) (first ∷ rest) =
        (e, Each-weaker (λ later. is_before first.stamp later.stamp ≡ true) (λ later. is_before later.stamp txn.stamp ≡ false) (later_stays e) rest h.0) in
        ap (λ ys. if p txn then ys else filter p (first ∷ rest))
        (sym (placed-first txn (filter p (first ∷ rest)) (Each-filter (λ other. is_before other.stamp txn.stamp ≡ false) p (first ∷ rest) none)))

-- to filter those in order is to put the filtered ones in order
pub filter-ordered : (p : Transaction → Bool) (txns : List Transaction) → AllDistinct (stamps_in txns) →
    filter p (in_stamp_order txns) ≡ in_stamp_order (filter p txns)
filter-ordered p [] d = refl
filter-ordered p (txn ∷ txns) d =
    filter-placed p txn (in_stamp_order txns) (ordered-in_order txns d.1) ∙ by (p txn) (filter-ordered p txns d.1)
  where
    by : (b : Bool) → filter p (in_stamp_order txns) ≡ in_stamp_order (filter p txns) →
        (if b then placed_by_stamp txn (filter p (in_stamp_order txns)) else filter p (in_stamp_order txns)) ≡ in_stamp_order
        (if b then txn ∷ filter p txns else filter p txns)
    by true e = ap (placed_by_stamp txn) e
    by false e = e

filter-none : (p : Transaction → Bool) (txns : List Transaction) → Each (λ txn. p txn ≡ false) txns → filter p txns ≡ []
filter-none p [] h = refl
filter-none p (txn ∷ txns) h = ap (λ b. if b then txn ∷ filter p txns else filter p txns) h.0 ∙ filter-none p txns h.1

-- those before one of them
pub filter-before : (done : List Transaction) (txn : Transaction) (rest : List Transaction) → IsInStampOrder (done ++ txn ∷ rest) →
    filter (λ other. is_before other.stamp txn.stamp) (done ++ txn ∷ rest) ≡ done
filter-before [] txn rest h =
    let earlier : Transaction → Bool = λ other. is_before other.stamp txn.stamp in
    ap (λ b. if b then txn ∷ filter earlier rest else filter earlier rest) (is_before-itself txn.stamp)
    ∙ filter-none earlier rest
    (Each-weaker (λ later. is_before txn.stamp later.stamp ≡ true) (λ later. is_before later.stamp txn.stamp ≡ false) (λ later k. is_before-not_back txn.stamp later.stamp k) rest h.0)
filter-before (first ∷ done) txn rest h =
    let earlier : Transaction → Bool = λ other. is_before other.stamp txn.stamp in
    let before : is_before first.stamp txn.stamp ≡ true =
    Each-among (λ later. is_before first.stamp later.stamp ≡ true) txn (done ++ txn ∷ rest) h.0 (Among-append_right txn done (txn ∷ rest) (inl refl)) in
    ap (λ b. if b then first ∷ filter earlier (done ++ txn ∷ rest) else filter earlier (done ++ txn ∷ rest)) before
    ∙ ap (λ ys. first ∷ ys) (filter-before done txn rest h.1)
