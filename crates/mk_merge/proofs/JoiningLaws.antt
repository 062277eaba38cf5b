-- What is added, joined with a list one after another.
use Rattle.std.proofs.Common.{◌≡◌, ℕ, zero, suc, ◌<◌, ◌≤◌, ◌+◌, Bool, true, false, refl, sym, ap, subst, ◌∙◌, List, [], ◌∷◌, ◌++◌, length, get_or, drop, append_assoc, cond}
use Rattle.std.proofs.lemmas.List.{append-nil, drop_all}
use Rattle.std.proofs.Math.Seq.{drop-cons}
use Rattle.mk_lists.specs.Among.{Each, Each-weaker}
use Rattle.mk_txn.specs.Transactions.{id_before}
use Rattle.mk_txn.proofs.IdOrder.{id_before-through}
use Rattle.mk_words.specs.declared.Fated.{Fated}
use Rattle.mk_words.specs.Bases.{IsInIdOrder}
use Rattle.mk_merge_laws.specs.Adding.{put_fated, with_fated}
use Rattle.mk_lists.proofs.Places.{drop_read}

-- one that is before all that are added stays first
with-first : (x : Fated) (more list : List Fated) → Each (λ (f : Fated). id_before x.txn.id f.txn.id ≡ true) more → with_fated more (x ∷ list) ≡ x ∷ with_fated more list
with-first x [] list h = refl
with-first x (f ∷ more) list h =
    ap (λ (b : Bool). with_fated more (cond b (x ∷ put_fated f list) (f ∷ (x ∷ list)))) h.0 ∙ with-first x more (put_fated f list) h.1

with-head : (f : Fated) (more list : List Fated) → Each (λ (g : Fated). id_before f.txn.id g.txn.id ≡ true) more → put_fated f list ≡ f ∷ list → with_fated (f ∷ more) list ≡ f ∷ with_fated more list
with-head f more list h is = ap (with_fated more) is ∙ with-first f more list h

put-first : (f x : Fated) (list : List Fated) → id_before x.txn.id f.txn.id ≡ false → put_fated f (x ∷ list) ≡ f ∷ (x ∷ list)
put-first f x list e = ap (λ (b : Bool). cond b (x ∷ put_fated f list) (f ∷ (x ∷ list))) e

order-drop : (i : ℕ) (list : List Fated) → IsInIdOrder list → IsInIdOrder (drop i list)
order-drop zero list h = h
order-drop (suc i) [] h = tt
order-drop (suc i) (x ∷ list) h = order-drop i list h.1

-- with those that are left it comes to both lists
abbrev pub ComesToJoined : List Fated → ℕ → List Fated → ℕ → List Fated → Type 0
ComesToJoined list at more next all = all ++ with_fated (drop next more) (drop at list) ≡ with_fated more list

-- the next is one that is added
pub joined-more : (list : List Fated) (at : ℕ) (more : List Fated) (next : ℕ) (f : Fated) (old new : List Fated) → IsInIdOrder more → next < length more → f ≡ get_or more next f → new ≡ old ++ f ∷ []
    → put_fated f (drop at list) ≡ f ∷ drop at list → ComesToJoined list at more next old → ComesToJoined list at more (next + 1) new
joined-more list at more next f old new order within is pushed first h =
    let here : drop next more ≡ f ∷ drop (next + 1) more = drop_read more next f within is in
    let later : IsInIdOrder (f ∷ drop (next + 1) more) = subst IsInIdOrder here (order-drop next more order) in
    ap (λ all. all ++ with_fated (drop (next + 1) more) (drop at list)) pushed
    ∙ append_assoc old (f ∷ []) (with_fated (drop (next + 1) more) (drop at list))
    ∙ ap (λ left. old ++ left) (sym (with-head f (drop (next + 1) more) (drop at list) later.0 first))
    ∙ ap (λ left. old ++ with_fated left (drop at list)) (sym here)
    ∙ h

-- the next is one of the list
pub joined-list : (list : List Fated) (at : ℕ) (more : List Fated) (next : ℕ) (g : Fated) (old new : List Fated) → at < length list → g ≡ get_or list at g → new ≡ old ++ g ∷ []
    → Each (λ (f : Fated). id_before g.txn.id f.txn.id ≡ true) (drop next more) → ComesToJoined list at more next old → ComesToJoined list (at + 1) more next new
joined-list list at more next g old new within is pushed first h =
    let here : drop at list ≡ g ∷ drop (at + 1) list = drop_read list at g within is in
    ap (λ all. all ++ with_fated (drop next more) (drop (at + 1) list)) pushed
    ∙ append_assoc old (g ∷ []) (with_fated (drop next more) (drop (at + 1) list))
    ∙ ap (λ left. old ++ left) (sym (with-first g (drop next more) (drop (at + 1) list) first))
    ∙ ap (λ left. old ++ with_fated (drop next more) left) (sym here)
    ∙ h

-- where the list is at its end, or its next is not before
pub first-more : (list : List Fated) (at : ℕ) (f : Fated) → at < length list → id_before (get_or list at f).txn.id f.txn.id ≡ false → put_fated f (drop at list) ≡ f ∷ drop at list
first-more list at f within e =
    let here : drop at list ≡ get_or list at f ∷ drop (suc at) list = drop-cons list at f within in
    subst (λ left. put_fated f left ≡ f ∷ left) (sym here) (put-first f (get_or list at f) (drop (suc at) list) e)

pub first-end : (list : List Fated) (at : ℕ) (f : Fated) → length list ≤ at → put_fated f (drop at list) ≡ f ∷ drop at list
first-end list at f past = subst (λ left. put_fated f left ≡ f ∷ left) (sym (drop_all at list past)) refl

-- what is before the next that is added is before all that are left
pub before-more : (more : List Fated) (next : ℕ) (g : Fated) → IsInIdOrder more → next < length more → id_before g.txn.id (get_or more next g).txn.id ≡ true
    → Each (λ (x : Fated). id_before g.txn.id x.txn.id ≡ true) (drop next more)
before-more more next g order within e =
    let f = get_or more next g in
    let here : drop next more ≡ f ∷ drop (suc next) more = drop-cons more next g within in
    let later : IsInIdOrder (f ∷ drop (suc next) more) = subst IsInIdOrder here (order-drop next more order) in
    subst (λ left. Each (λ (x : Fated). id_before g.txn.id x.txn.id ≡ true) left) (sym here)
    (e, Each-weaker (λ (x : Fated). id_before f.txn.id x.txn.id ≡ true) (λ (x : Fated). id_before g.txn.id x.txn.id ≡ true) (λ x k. id_before-through g.txn.id f.txn.id x.txn.id e k) (drop (suc next) more) later.0)

pub before-end : (more : List Fated) (next : ℕ) (g : Fated) → length more ≤ next → Each (λ (x : Fated). id_before g.txn.id x.txn.id ≡ true) (drop next more)
before-end more next g past = subst (λ left. Each (λ (x : Fated). id_before g.txn.id x.txn.id ≡ true) left) (sym (drop_all next more past)) tt
