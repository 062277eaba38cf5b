-- The place of a name in a set that keeps its order.
use Rattle.std.proofs.Common.{◌≡◌, ℕ, suc, ◌+◌, Bool, true, false, cond, ltb, List, [], ◌∷◌, length, map, Option, Some, None, refl, sym, ap, ◌∙◌, arith}
use Rattle.std.specs.List.{position, position_or_len, list_any}
use Rattle.std.specs.Str.{bytes_eq}
use Rattle.std.proofs.lemmas.Bool.Decides.{nat_tests}
use Rattle.mk_spelling.specs.Fields.{place, one_on}

pub position_is_place : {X : Type 0} (p : X → Bool) (text : X → List ℕ) (w : List ℕ) → ((x : X) → p x ≡ bytes_eq w (text x)) → (xs : List X)
    → position p xs ≡ place w (map text xs)
position_is_place p text w same [] = refl
position_is_place {X} p text w same (x ∷ xs) = here (p x) refl (position_is_place p text w same xs)
  where
    pushed : (m k n : ℕ) → m ≡ suc k → cond (ltb m (suc n)) (Some m) None ≡ one_on (cond (ltb k n) (Some k) None)
    pushed m k n same = rw same (chosen (ltb k n) refl)
      where
        chosen : (b : Bool) → ltb k n ≡ b → cond (ltb (suc k) (suc n)) (Some (suc k)) None ≡ one_on (cond (ltb k n) (Some k) None)
        chosen true b = let up : ltb (suc k) (suc n) ≡ true = grind (arith, nat_tests) in rw (up, b) refl
        chosen false b = let up : ltb (suc k) (suc n) ≡ false = grind (arith, nat_tests) in rw (up, b) refl

    here : (b : Bool) → p x ≡ b → position p xs ≡ place w (map text xs) → position p (x ∷ xs) ≡ place w (map text (x ∷ xs))
    here true b rest =
        let e : bytes_eq w (text x) ≡ true = sym (same x) ∙ b in
        let up : ltb 0 (suc (length xs)) ≡ true = grind (arith, nat_tests) in
        rw (b, e, up) refl
    here false b rest =
        let e : bytes_eq w (text x) ≡ false = sym (same x) ∙ b in
        rw (b, e) (pushed (1 + position_or_len p xs) (position_or_len p xs) (length xs) (omega arith) ∙ ap one_on rest)

pub none_is_new : {X : Type 0} (p : X → Bool) (text : X → List ℕ) (w : List ℕ) → ((x : X) → p x ≡ bytes_eq w (text x)) → (xs : List X)
    → place w (map text xs) ≡ None → list_any p xs ≡ false
none_is_new p text w same [] h = refl
none_is_new {X} p text w same (x ∷ xs) h = here (bytes_eq w (text x)) refl (place w (map text xs)) (λ k. none_is_new p text w same xs k) h
  where
    here : (b : Bool) → bytes_eq w (text x) ≡ b → (o : Option ℕ) → (o ≡ None → list_any p xs ≡ false) → cond b (Some 0) (one_on o) ≡ None
        → list_any p (x ∷ xs) ≡ false
    here true b o ih k = absurd cc
    here false b None ih k = rw (same x, b, ih refl) refl
    here false b (Some n) ih k = absurd cc
