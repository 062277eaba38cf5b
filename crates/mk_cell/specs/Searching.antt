-- Places in lists of stamps, and bounds on the steps of a search.
use Rattle.std.specs.Prelude.{ℕ, suc, ◌<◌, ◌^◌, List, [], ◌∷◌, if◌then◌else◌}
use Rattle.mk_txn.specs.declared.Stamp.{Stamp}
use Rattle.mk_txn.specs.Stamps.{is_before}

-- the first place whose stamp is after this one, and the length where there is none
abbrev pub place_above : Stamp → List Stamp → ℕ
place_above stamp [] = 0
place_above stamp (first ∷ rest) = if is_before stamp first then 0 else suc (place_above stamp rest)

-- the number is written with so many binary digits, or fewer
abbrev pub HasDigits : ℕ → ℕ → Type 0
HasDigits number digits = number < 2 ^ digits
