-- What changing some members of a list, and appending to it, leaves.
use Rattle.std.proofs.Common.{◌≡◌, Bool, true, false, cond, refl, sym, ap, ◌∙◌, ◌||◌, List, [], ◌∷◌, Option, Some, None}
use Rattle.std.specs.Prelude.{find, map, option_map, IsSome}
use Rattle.std.specs.List.{list_any}
use Rattle.mk_lists.specs.Among.{Each}
use Rattle.mk_lists.specs.Changed.{change}
use Rattle.mk_quorum.specs.Slots.{passes}

module _ {X : Type 0} (p : X → Bool) (f : X → X) where
  -- a member as it is after the change
  abbrev pub changed_member : X → X
  changed_member x = cond (p x) (f x) x

  pub Each-turn : (P Q : X → Type 0) → ((x : X) → p x ≡ true → P x → Q (f x)) → ((x : X) → p x ≡ false → P x → Q x) → (xs : List X) → Each P xs
      → Each Q (change p f xs)
  Each-turn P Q here other [] h = tt
  Each-turn P Q here other (x ∷ xs) h = (head (p x) refl, Each-turn P Q here other xs h.1)
    where
      head : (b : Bool) → p x ≡ b → Q (cond b (f x) x)
      head true e = here x e h.0
      head false e = other x e h.0

  pub find-change : (q : X → Bool) → ((x : X) → q (f x) ≡ q x) → (xs : List X) → find q (change p f xs) ≡ option_map changed_member (find q xs)
  find-change q keeps [] = refl
  find-change q keeps (x ∷ xs) = by_test (p x) refl (find-change q keeps xs)
    where
      by_found : (b : Bool) (y : X) → changed_member x ≡ y → find q (change p f xs) ≡ option_map changed_member (find q xs)
          → cond b (Some y) (find q (change p f xs)) ≡ option_map changed_member (cond b (Some x) (find q xs))
      by_found true y e ih = ap Some (sym e)
      by_found false y e ih = ih

      by_test : (b : Bool) → p x ≡ b → find q (change p f xs) ≡ option_map changed_member (find q xs)
          → find q (cond b (f x) x ∷ change p f xs) ≡ option_map changed_member (find q (x ∷ xs))
      by_test true e ih = ap (λ t. cond t (Some (f x)) (find q (change p f xs))) (keeps x) ∙ by_found (q x) (f x) (ap (λ t. cond t (f x) x) e) ih
      by_test false e ih = by_found (q x) x (ap (λ t. cond t (f x) x) e) ih

  pub map-change : {Y : Type 0} (q : Y → Bool) (h : Y → Y) (k : X → Y) → ((x : X) → q (k x) ≡ p x) → ((x : X) → k (f x) ≡ h (k x)) → (xs : List X)
      → map k (change p f xs) ≡ change q h (map k xs)
  map-change q h k tests turns [] = refl
  map-change q h k tests turns (x ∷ xs) =
      ap (λ y. y ∷ map k (change p f xs)) (by_test (p x) ∙ ap (λ t. cond t (h (k x)) (k x)) (sym (tests x)))
      ∙ ap (λ ys. cond (q (k x)) (h (k x)) (k x) ∷ ys) (map-change q h k tests turns xs)
    where
      by_test : (b : Bool) → k (cond b (f x) x) ≡ cond b (h (k x)) (k x)
      by_test true = turns x
      by_test false = refl

  pub map-kept : {Y : Type 0} (k : X → Y) → ((x : X) → k (f x) ≡ k x) → (xs : List X) → map k (change p f xs) ≡ map k xs
  map-kept k keeps [] = refl
  map-kept k keeps (x ∷ xs) = ap (λ y. y ∷ map k (change p f xs)) (by_test (p x)) ∙ ap (λ ys. k x ∷ ys) (map-kept k keeps xs)
    where
      by_test : (b : Bool) → k (cond b (f x) x) ≡ k x
      by_test true = keeps x
      by_test false = refl

  pub list_any-kept : (t : X → Bool) → ((x : X) → t (f x) ≡ t x) → (xs : List X) → list_any t (change p f xs) ≡ list_any t xs
  list_any-kept t keeps [] = refl
  list_any-kept t keeps (x ∷ xs) = ap (λ b. b || list_any t (change p f xs)) (by_test (p x)) ∙ ap (λ b. t x || b) (list_any-kept t keeps xs)
    where
      by_test : (b : Bool) → t (cond b (f x) x) ≡ t x
      by_test true = keeps x
      by_test false = refl

  -- a test of a member that is found passes as before
  pub passes-changed : (t : X → Bool) → ((x : X) → t (f x) ≡ t x) → (o : Option X) → passes t (option_map changed_member o) ≡ passes t o
  passes-changed t keeps None = refl
  passes-changed t keeps (Some x) = by_test (p x)
    where
      by_test : (b : Bool) → t (cond b (f x) x) ≡ t x
      by_test true = keeps x
      by_test false = refl

-- what is there is there under a map
pub map-there : {X Y : Type 0} (f : X → Y) (o : Option X) → IsSome o → IsSome (option_map f o)
map-there f None h = absurd (cc h)
map-there f (Some x) h = refl
