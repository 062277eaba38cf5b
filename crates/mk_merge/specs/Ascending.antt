-- What ascends along a list, and stamps that do.
use Rattle.std.specs.Prelude.{◌≡◌, Bool, false, List, [], ◌∷◌}
use Rattle.std.specs.List.{list_any}
use Rattle.mk_lists.specs.Among.{Each}
use Rattle.mk_txn.specs.declared.Stamp.{Stamp}
use Rattle.mk_txn.specs.Stamps.{is_before}
use Rattle.mk_txn.specs.Clashes.{is_between}

-- the stamp of none is before that of one in front of it
abbrev pub AscendsBy : {X : Type 0} → (X → Stamp) → List X → Type 0
AscendsBy stamp_of [] = Unit {0}
AscendsBy stamp_of (first ∷ rest) = Each (λ later. is_before (stamp_of later) (stamp_of first) ≡ false) rest × AscendsBy stamp_of rest

-- no stamp is before one in front of it
abbrev pub IsAscending : List Stamp → Type 0
IsAscending stamps = AscendsBy (λ stamp. stamp) stamps

-- whether one of the stamps lies between the two others
abbrev pub has_between : Stamp → Stamp → List Stamp → Bool
has_between low high stamps = list_any (λ stamp. is_between low stamp high) stamps
