-- Tests that were passed.
use Rattle.std.proofs.Common.{◌≡◌, ℕ, Bool, true, false, cond, List, [], ◌∷◌, Option, Some, None, Result, Ok, Err, refl, sym, ap, ◌∙◌}
use Rattle.std.specs.Str.{bytes_eq}
use Rattle.std.proofs.lemmas.Option.{same_Some}
use Rattle.std.proofs.lemmas.Slice.Eq.{bytes_eq-Decides}
use Rattle.mk_spelling.specs.declared.fault.TextFault.{TextFault}
use Rattle.mk_spelling.specs.Fields.{◌>>=◌, ◌>>◌, need, found, named}

-- the value of a step that did not fail
pub bind_ok : {A B : Type 0} (r : Result A TextFault) (f : A → Result B TextFault) (y : B) → (r >>= f) ≡ Ok y → (x : A) × (r ≡ Ok x) × (f x ≡ Ok y)
bind_ok (Ok x) f y e = (x, refl, e)
bind_ok (Err d) f y e = absurd cc

-- a test that was passed
pub need_ok : {B : Type 0} (b : Bool) (fault : TextFault) (r : Result B TextFault) (y : B) → (need b fault >> r) ≡ Ok y → (b ≡ true) × (r ≡ Ok y)
need_ok true fault r y e = (refl, e)
need_ok false fault r y e = absurd cc

pub found_ok : {A : Type 0} (fault : TextFault) (o : Option A) (x : A) → found fault o ≡ Ok x → o ≡ Some x
found_ok fault None x e = absurd cc
found_ok fault (Some y) x e = cc

abbrev done : {A : Type 0} → A → Result A TextFault
done x = Ok x

pub ok_is : {A : Type 0} (x y : A) → done x ≡ done y → x ≡ y
ok_is x y e = cc

bytes_eq-true : (xs ys : List ℕ) → bytes_eq xs ys ≡ true → xs ≡ ys
bytes_eq-true xs ys e = (bytes_eq-Decides xs ys).0 e

pub bytes_eq-same : (xs : List ℕ) → bytes_eq xs xs ≡ true
bytes_eq-same xs = (bytes_eq-Decides xs xs).1 refl

-- a word that is found is written so
pub named-back : {A : Type 0} (text : A → List ℕ) (xs : List A) (word : List ℕ) (x : A) → named text xs word ≡ Some x → word ≡ text x
named-back text [] word x e = absurd cc
named-back {A} text (y ∷ ys) word x e = here (bytes_eq (text y) word) refl (λ h. named-back text ys word x h) e
  where
    here : (t : Bool) → bytes_eq (text y) word ≡ t → (named text ys word ≡ Some x → word ≡ text x) → cond t (Some y) (named text ys word) ≡ Some x
        → word ≡ text x
    here true t ih h = sym (bytes_eq-true (text y) word t) ∙ ap text (same_Some y x h)
    here false t ih h = ih h
