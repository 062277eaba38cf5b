-- A letter and a number are a name, and names of numbers are as many as the numbers.
use Rattle.std.proofs.Common.{◌≡◌, ℕ, ◌^◌, ◌<◌, ◌≤◌, Bool, true, false, cond, leb, ◌&&◌, List, [], ◌∷◌, ◌++◌, length, map, Option, Some, None, refl, sym, ap, subst, ◌∙◌, inl, inr, arith, length-append}
use Rattle.std.specs.Prelude.{is_some}
use Rattle.std.specs.Fmt.{decimal}
use Rattle.std.specs.Str.{bytes_eq}
use Rattle.std.proofs.lemmas.Bool.{and_parts}
use Rattle.std.proofs.lemmas.Bool.Decides.{nat_tests}
use Rattle.std.proofs.lemmas.Fmt.{length-decimal-le}
use Rattle.std.proofs.lemmas.List.{map-append, length-map}
use Rattle.std.proofs.lemmas.Slice.Eq.{bytes_eq-Decides}
use Rattle.mk_lists.specs.Among.{Among, Each-append}
use Rattle.mk_lists.proofs.Members.{Among-map}
use Rattle.mk_lists.proofs.Distinct.{AllDistinct-push}
use Rattle.mk_spelling.specs.Words.{is_name, is_letter, is_name_byte, are_name_bytes, are_digits}
use Rattle.mk_spelling.specs.Fields.{place, one_on}
use Rattle.mk_spelling.proofs.Numbers.{decimal_digits}
use Rattle.mk_names.specs.NameLists.{NameList, IsBeyond, with_name}
use Rattle.mk_gen.specs.Generated.{key_name, AreKeyNames}
use Rattle.mk_gen.proofs.Pigeons.{pigeons}

name_bytes-digits : (bs : List ℕ) → are_digits bs ≡ true → are_name_bytes bs ≡ true
name_bytes-digits [] e = refl
name_bytes-digits (b ∷ bs) e =
    let h = and_parts (leb 48 b && leb b 57) (are_digits bs) e in
    let digit : (leb 48 b && leb b 57) ≡ true = h.0 in
    let one : is_name_byte b ≡ true = grind (arith, nat_tests) in
    rw (one, name_bytes-digits bs h.1) refl

-- a letter and a number
pub number_name : (letter n : ℕ) → is_letter letter ≡ true → n < 2 ^ 32 → is_name (letter ∷ decimal n) ≡ true
number_name letter n l small =
    let short : length (decimal n) ≤ 10 = length-decimal-le 10 n (omega arith) (omega arith) (omega arith) in
    let fits : leb (length (decimal n)) 15 ≡ true = grind (arith, nat_tests) in
    rw (l, fits, name_bytes-digits (decimal n) (decimal_digits n (omega arith))) refl

placed : (w : List ℕ) (names : List (List ℕ)) → Among w names → place w names ≡ None → ⊥
placed w [] a e = a
placed w (x ∷ xs) a e = here (bytes_eq w x) refl (place w xs) (placed w xs) a e
  where
    here : (t : Bool) → bytes_eq w x ≡ t → (o : Option ℕ) → (Among w xs → o ≡ None → ⊥) → Among w (x ∷ xs) → cond t (Some 0) (one_on o) ≡ None → ⊥
    here true b o later m k = absurd cc
    here false b (Some n) later m k = absurd cc
    here false b None later (inl same) k = let yes : bytes_eq w x ≡ true = (bytes_eq-Decides w x).1 (sym same) in absurd cc
    here false b None later (inr m) k = later m refl

absent : (key : ℕ) (names : List (List ℕ)) (numbers : List ℕ) → names ≡ map key_name numbers → place (key_name key) names ≡ None → ¬ Among key numbers
absent key names numbers named fresh =
    λ a. placed (key_name key) names (subst (λ (x : List (List ℕ)). Among (key_name key) x) (sym named) (Among-map key_name key numbers a)) fresh

-- one name more
pub named_more : (keys key : ℕ) (names : List (List ℕ)) → AreKeyNames keys names → key < keys → AreKeyNames keys (with_name names (key_name key))
named_more keys key names h below = here (place (key_name key) names) refl
  where
    here : (o : Option ℕ) → place (key_name key) names ≡ o → AreKeyNames keys (cond (is_some o) names (names ++ key_name key ∷ []))
    here (Some n) e = h
    here None e = record {
      numbers = h.numbers ++ key ∷ [];
      named = ap (λ (x : List (List ℕ)). x ++ key_name key ∷ []) h.named ∙ sym (map-append key_name h.numbers (key ∷ []));
      below = Each-append (λ k. k < keys) h.numbers (key ∷ []) h.below (below, tt);
      distinct = AllDistinct-push h.numbers key h.distinct (absent key names h.numbers h.named e);
    }

-- there is room for each key below the limit
pub not_beyond : (list : NameList) (key : ℕ) → list.limit ≡ 256 → AreKeyNames 256 list.names → key < 256 → ¬ IsBeyond list (key_name key)
not_beyond list key limit h below beyond =
    let distinct = AllDistinct-push h.numbers key h.distinct (absent key list.names h.numbers h.named beyond.fresh) in
    let few = pigeons 256 (h.numbers ++ key ∷ []) distinct (Each-append (λ k. k < 256) h.numbers (key ∷ []) h.below (below, tt)) in
    let size : length list.names ≡ length h.numbers = ap length h.named ∙ length-map h.numbers key_name in
    omega (arith, few, size, beyond.reached, limit, length-append h.numbers (key ∷ []))

-- distinct keys below 256 are at most 256
pub few_names : (names : List (List ℕ)) → AreKeyNames 256 names → length names ≤ 256
few_names names h =
    let few = pigeons 256 h.numbers h.distinct h.below in
    omega (arith, few, ap length h.named ∙ length-map h.numbers key_name)
