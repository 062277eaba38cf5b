-- A word among those of two lists.
use Rattle.std.proofs.Common.{◌≡◌, ℕ, Bool, true, false, cond, List, [], ◌∷◌, ◌++◌, Option, Some, None, refl, sym, ap, ◌∙◌}
use Rattle.std.specs.Str.{bytes_eq}
use Rattle.mk_spelling.specs.Fields.{named}

-- the first of the two that is there
abbrev one_or : {A : Type 0} → Option A → Option A → Option A
one_or None o = o
one_or (Some x) o = Some x

pub named_append : {A : Type 0} (text : A → List ℕ) (xs ys : List A) (word : List ℕ)
    → named text (xs ++ ys) word ≡ one_or (named text xs word) (named text ys word)
named_append text [] ys word = refl
named_append {A} text (x ∷ xs) ys word = here (bytes_eq (text x) word) (named_append text xs ys word)
  where
    here : (t : Bool) → named text (xs ++ ys) word ≡ one_or (named text xs word) (named text ys word)
        → cond t (Some x) (named text (xs ++ ys) word) ≡ one_or (cond t (Some x) (named text xs word)) (named text ys word)
    here true rest = refl
    here false rest = rest

-- it is found in the first list
pub named_first : {A : Type 0} (text : A → List ℕ) (xs ys : List A) (word : List ℕ) (x : A) → Some x ≡ named text xs word → Some x ≡ named text (xs ++ ys) word
named_first text xs ys word x e = sym (named_append text xs ys word ∙ ap (λ (o : Option _). one_or o (named text ys word)) (sym e))

-- it is not, and is looked for in the second
pub named_second : {A : Type 0} (text : A → List ℕ) (xs ys : List A) (word : List ℕ) → None ≡ named text xs word → named text (xs ++ ys) word ≡ named text ys word
named_second text xs ys word e = named_append text xs ys word ∙ ap (λ (o : Option _). one_or o (named text ys word)) (sym e)
