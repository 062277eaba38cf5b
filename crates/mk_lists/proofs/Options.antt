-- What an option tells of its value.
use Rattle.std.proofs.Common.{◌≡◌, ◌⊎◌, true, refl, inl, inr, Option, Some, None}
use Rattle.std.specs.Prelude.{option_map, is_none, is_some}
use Rattle.std.specs.Option.{option_or}
use Rattle.std.proofs.lemmas.Option.{same_Some}

module _ {X : Type 0} where
  pub None-from_is_none : (o : Option X) → is_none o ≡ true → o ≡ None
  None-from_is_none None e = refl
  None-from_is_none (Some x) e = cc e

  pub option_or-cases : (o other : Option X) (x : X) → option_or o other ≡ Some x → (o ≡ Some x) ⊎ (other ≡ Some x)
  option_or-cases None other x e = inr e
  option_or-cases (Some y) other x e = inl e

module _ {X Y : Type 0} (f : X → Y) where
  pub Some-from_map : (o : Option X) (y : Y) → option_map f o ≡ Some y → (x : X) × (o ≡ Some x) × (f x ≡ y)
  Some-from_map None y e = absurd (cc e)
  Some-from_map (Some x) y e = (x, refl, same_Some (f x) y e)

  pub None-from_map : (o : Option X) → option_map f o ≡ None → o ≡ None
  None-from_map None e = refl
  None-from_map (Some x) e = absurd (cc e)
