-- Names in order of their numbers.
use Rattle.std.specs.Prelude.{◌≡◌, ◌≤◌, ◌<◌, ◌^◌, ℕ, true, List, [], ◌∷◌, ◌++◌, length, None, is_some, if◌then◌else◌}
use Rattle.mk_lists.specs.Among.{Each, AllDistinct}
use Rattle.mk_spelling.specs.Words.{is_name}
use Rattle.mk_spelling.specs.Fields.{place}

-- distinct names, and how many there may be
pub record NameList : Type 0 where
  pub names : List (List ℕ)
  pub limit : ℕ

-- a new name stands last
abbrev pub with_name : List (List ℕ) → List ℕ → List (List ℕ)
with_name names name = if is_some (place name names) then names else names ++ name ∷ []

-- what holds of all of them: names, no two alike, within the limit, whose number has 32 bits
pub record IsNameList (list : NameList) : Type 0 where
  pub named : Each (λ name. is_name name ≡ true) list.names
  pub distinct : AllDistinct list.names
  pub within : length list.names ≤ list.limit
  pub counted : list.limit < 2 ^ 32

-- a new name that goes beyond the limit
pub record IsBeyond (list : NameList) (name : List ℕ) : Type 0 where
  pub well_named : is_name name ≡ true
  pub fresh : place name list.names ≡ None
  pub reached : length list.names ≡ list.limit
