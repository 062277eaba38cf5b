-- The first place of a text in a list.
use Rattle.std.proofs.Common.{◌≡◌, ℕ, zero, suc, ◌<◌, Bool, true, false, cond, List, [], ◌∷◌, ◌++◌, length, Option, Some, None, refl, sym, ap, subst, arith}
use Rattle.std.specs.Prelude.{slice_get}
use Rattle.std.specs.Str.{bytes_eq}
use Rattle.std.proofs.lemmas.Option.{same_Some}
use Rattle.std.proofs.lemmas.Slice.Eq.{bytes_eq-Decides}
use Rattle.mk_spelling.specs.Fields.{place, one_on}
use Rattle.mk_spelling.proofs.FieldLaws.{bytes_eq-same}

-- a new text's place is how many there were
pub place_new : (w : List ℕ) (keys : List (List ℕ)) → place w keys ≡ None → place w (keys ++ w ∷ []) ≡ Some (length keys)
place_new w [] h = rw (bytes_eq-same w) refl
place_new w (k ∷ ks) h = here (bytes_eq w k) refl (place w ks) (place_new w ks) h
  where
    here : (b : Bool) → bytes_eq w k ≡ b → (o : Option ℕ) → (o ≡ None → place w (ks ++ w ∷ []) ≡ Some (length ks)) → cond b (Some 0) (one_on o) ≡ None
        → place w (k ∷ (ks ++ w ∷ [])) ≡ Some (suc (length ks))
    here true b o ih e = absurd cc
    here false b None ih e = rw (b, ih refl) refl
    here false b (Some n) ih e = absurd cc

-- and stays where others follow
pub place_stays : (w : List ℕ) (keys more : List (List ℕ)) (n : ℕ) → place w keys ≡ Some n → place w (keys ++ more) ≡ Some n
place_stays w [] more n h = absurd cc
place_stays w (k ∷ ks) more n h = here (bytes_eq w k) refl (place w ks) (λ m e. place_stays w ks more m e) h
  where
    here : (b : Bool) → bytes_eq w k ≡ b → (o : Option ℕ) → ((m : ℕ) → o ≡ Some m → place w (ks ++ more) ≡ Some m) → cond b (Some 0) (one_on o) ≡ Some n
        → place w (k ∷ (ks ++ more)) ≡ Some n
    here true b o ih e = rw b e
    here false b None ih e = absurd cc
    here false b (Some m) ih e = rw (b, ih m refl) e

-- a place is one of the list's
pub place_below : (w : List ℕ) (keys : List (List ℕ)) (n : ℕ) → place w keys ≡ Some n → n < length keys
place_below w [] n h = absurd cc
place_below w (k ∷ ks) n h = here (bytes_eq w k) refl (place w ks) (place_below w ks) h
  where
    here : (b : Bool) → bytes_eq w k ≡ b → (o : Option ℕ) → ((m : ℕ) → o ≡ Some m → m < length ks) → cond b (Some 0) (one_on o) ≡ Some n → n < suc (length ks)
    here true b o ih e = let zero_is : 0 ≡ n = cc in omega (arith, zero_is)
    here false b None ih e = absurd cc
    here false b (Some m) ih e =
        let next : suc m ≡ n = cc in
        let below = ih m refl in
        omega (arith, next, below)

-- the text stands at its place
pub place-get : (w : List ℕ) (names : List (List ℕ)) (k : ℕ) → place w names ≡ Some k → slice_get names k ≡ Some w
place-get w [] k e = absurd cc
place-get w (x ∷ xs) k e = here (bytes_eq w x) refl (place w xs) refl (place-get w xs) e
  where
    some_text : List ℕ → Option (List ℕ)
    some_text t = Some t

    at_zero : bytes_eq w x ≡ true → (n : ℕ) → zero ≡ n → slice_get (x ∷ xs) n ≡ Some w
    at_zero b n z = subst (λ (m : ℕ). slice_get (x ∷ xs) m ≡ Some w) z (ap some_text (sym ((bytes_eq-Decides w x).0 b)))

    at_suc : (m n : ℕ) → slice_get xs m ≡ Some w → suc m ≡ n → slice_get (x ∷ xs) n ≡ Some w
    at_suc m n h z = subst (λ (i : ℕ). slice_get (x ∷ xs) i ≡ Some w) z h

    here : (b : Bool) → bytes_eq w x ≡ b → (o : Option ℕ) → place w xs ≡ o → ((m : ℕ) → place w xs ≡ Some m → slice_get xs m ≡ Some w)
        → cond b (Some 0) (one_on o) ≡ Some k → slice_get (x ∷ xs) k ≡ Some w
    here true b o p ih h = at_zero b k (same_Some 0 k h)
    here false b None p ih h = absurd cc
    here false b (Some m) p ih h = at_suc m k (ih m p) (same_Some (suc m) k h)
