-- What an enabled step tells, and what it leaves.
use Rattle.std.proofs.Common.{◌≡◌, ℕ, ◌+◌, Bool, true, false, refl, List, [], ◌∷◌, Option, Some, None}
use Rattle.std.specs.Prelude.{if◌then◌else◌}
use Rattle.mk_words.specs.declared.Step.{Step}
use Rattle.mk_model.specs.ColumnState.{ColumnState, Setting}
use Rattle.mk_model.specs.Conditions.{blocked, first_failing, conditions}
use Rattle.mk_model.specs.Steps.{on_some}

-- every test passes
abbrev pub AllTrue : List Bool → Type 0
AllTrue [] = Unit {0}
AllTrue (test ∷ tests) = (test ≡ true) × AllTrue tests

pub AllTrue-from_first_failing : (k : ℕ) (tests : List Bool) → first_failing k tests ≡ None → AllTrue tests
AllTrue-from_first_failing k [] e = tt
AllTrue-from_first_failing k (true ∷ tests) e = (refl, AllTrue-from_first_failing (k + 1) tests e)
AllTrue-from_first_failing k (false ∷ tests) e = cc e

pub enabled : (round : Setting) (column : ColumnState) (step : Step) → blocked round column step ≡ None → AllTrue (conditions round column step)
enabled round column step e = AllTrue-from_first_failing 1 (conditions round column step) e

-- what holds both where a value is there and where it is not
pub on_some-keeps : {X : Type 0} (P : ColumnState → Type 0) (f : X → ColumnState → ColumnState) (o : Option X) (column : ColumnState) →
    ((x : X) → o ≡ Some x → P (f x column)) → P column → P (on_some f o column)
on_some-keeps P f (Some x) column h k = h x refl
on_some-keeps P f None column h k = k

-- what holds of both choices
pub either_way : {A : Type 0} (P : A → Type 0) (b : Bool) (x y : A) → (b ≡ true → P x) → (b ≡ false → P y) → P (if b then x else y)
either_way P true x y h k = h refl
either_way P false x y h k = k refl
