-- Laws of lists of names.
use Rattle.std.proofs.Common.{◌≡◌, ℕ, zero, suc, ◌+◌, ◌<◌, Bool, true, false, cond, List, [], ◌∷◌, ◌++◌, length, take, Option, Some, None, refl, sym, ap, subst, ◌∙◌, arith, inl, inr, length-append}
use Rattle.std.specs.List.{slice_get}
use Rattle.std.specs.Str.{bytes_eq}
use Rattle.std.proofs.Math.Seq.{take-suc}
use Rattle.std.proofs.lemmas.Slice.Eq.{bytes_eq-Decides}
use Rattle.std.proofs.lemmas.Option.{get_or_from_slice_get}
use Rattle.mk_lists.specs.Among.{Among, Each, Each-append, AllDistinct, Among-append}
use Rattle.mk_lists.proofs.Members.{Among-slice_get}
use Rattle.mk_lists.proofs.Distinct.{AllDistinct-push}
use Rattle.mk_spelling.specs.Words.{is_name}
use Rattle.mk_spelling.specs.Fields.{place, one_on}
use Rattle.std.proofs.lemmas.Option.{same_Some}
use Rattle.mk_names.specs.NameLists.{NameList, IsNameList}

abbrev pub some_text : List ℕ → Option (List ℕ)
some_text w = Some w

abbrev pub some_place : ℕ → Option ℕ
some_place n = Some n

-- what stands at a place is a name
pub name_at : (names : List (List ℕ)) (k : ℕ) (w : List ℕ) → Each (λ name. is_name name ≡ true) names → slice_get names k ≡ Some w → is_name w ≡ true
name_at [] k w h e = absurd cc
name_at (x ∷ xs) zero w h e = subst (λ (n : List ℕ). is_name n ≡ true) (same_Some x w e) h.0
name_at (x ∷ xs) (suc k) w h e = name_at xs k w h.1 e

-- and its place is the first of that name
pub place_at : (names : List (List ℕ)) (k : ℕ) (w : List ℕ) → AllDistinct names → slice_get names k ≡ Some w → place w names ≡ Some k
place_at [] k w h e = absurd cc
place_at (x ∷ xs) zero w h e = rw ((bytes_eq-Decides w x).1 (sym (same_Some x w e))) refl
place_at (x ∷ xs) (suc k) w h e = here (bytes_eq w x) refl (place_at xs k w h.1 e)
  where
    here : (b : Bool) → bytes_eq w x ≡ b → place w xs ≡ Some k → cond b (Some 0) (one_on (place w xs)) ≡ Some (suc k)
    here true b rest = absurd (h.0 (Among-slice_get xs k x (e ∙ ap (λ (n : List ℕ). some_text n) ((bytes_eq-Decides w x).0 b))))
    here false b rest = ap one_on rest

other_text : (w x : List ℕ) → bytes_eq w x ≡ false → x ≡ w → ⊥
other_text w x b same = let yes : bytes_eq w x ≡ true = (bytes_eq-Decides w x).1 (sym same) in absurd cc

-- a name without a place is none of them
pub not_among : (names : List (List ℕ)) (w : List ℕ) → place w names ≡ None → ¬ Among w names
not_among [] w e = λ a. a
not_among (x ∷ xs) w e = here (bytes_eq w x) refl (place w xs) (not_among xs w) e
  where
    here : (b : Bool) → bytes_eq w x ≡ b → (o : Option ℕ) → (o ≡ None → ¬ Among w xs) → cond b (Some 0) (one_on o) ≡ None → ¬ Among w (x ∷ xs)
    here true b o ih k = absurd cc
    here false b (Some n) ih k = absurd cc
    here false b None ih k = λ a. elim a [ inl same ↦ other_text w x b same | inr c ↦ ih refl c ]

-- a new name may stand last
pub pushed : (list : NameList) (w : List ℕ) → IsNameList list → is_name w ≡ true → place w list.names ≡ None → length list.names < list.limit
    → IsNameList (record list { names = list.names ++ w ∷ [] })
pushed list w h well_named fresh room = record {
  named = Each-append (λ name. is_name name ≡ true) list.names (w ∷ []) h.named (well_named, tt);
  distinct = AllDistinct-push list.names w h.distinct (not_among list.names w fresh);
  within = omega (arith, length-append list.names (w ∷ []));
  counted = h.counted;
}

-- before its first place a name does not stand
pub place-take : (names : List (List ℕ)) (k : ℕ) (w : List ℕ) → place w names ≡ Some k → place w (take k names) ≡ None
place-take [] k w e = absurd cc
place-take (x ∷ xs) zero w e = refl
place-take (x ∷ xs) (suc k) w e = here (bytes_eq w x) refl (place w xs) (place-take xs k w) e
  where
    here : (b : Bool) → bytes_eq w x ≡ b → (o : Option ℕ) → (o ≡ Some k → place w (take k xs) ≡ None) → cond b (Some 0) (one_on o) ≡ Some (suc k)
        → place w (x ∷ take k xs) ≡ None
    here true b o ih h = absurd cc
    here false b None ih h = absurd cc
    here false b (Some n) ih h =
        let same : n ≡ k = cc in
        rw (b, ih (ap some_place same)) refl

-- one more of them
pub take-next : (names : List (List ℕ)) (k : ℕ) (w : List ℕ) → slice_get names k ≡ Some w → k < length names → take (k + 1) names ≡ take k names ++ w ∷ []
take-next names k w e within =
    let one_more : k + 1 ≡ suc k = omega arith in
    let next : take (k + 1) names ≡ take (suc k) names = ap (λ (n : ℕ). take n names) one_more in
    next ∙ take-suc names k [] within ∙ ap (λ (x : List ℕ). take k names ++ x ∷ []) (get_or_from_slice_get names k w [] e)
