-- Lists of pending stamps, ascending and distinct.
use Rattle.std.specs.Prelude.{◌≡◌, ℕ, Bool, true, not, List, [], ◌∷◌, Option, filter, find, if◌then◌else◌}
use Rattle.std.specs.List.{list_any}
use Rattle.mk_txn.specs.declared.Stamp.{Stamp}
use Rattle.mk_txn.specs.Stamps.{is_before, same_stamp}
use Rattle.mk_lists.specs.Among.{Each}

-- a stamp joins at its place; one that is there already changes nothing
abbrev pub joined : Stamp → List Stamp → List Stamp
joined stamp [] = stamp ∷ []
joined stamp (first ∷ rest) =
    if is_before first stamp
    then first ∷ joined stamp rest
    else if same_stamp first stamp then first ∷ rest else stamp ∷ (first ∷ rest)

-- the stamp leaves; one that is not there changes nothing
abbrev pub without : Stamp → List Stamp → List Stamp
without stamp stamps = filter (λ other. not (same_stamp other stamp)) stamps

-- the stamp is in the list
abbrev pub has_stamp : Stamp → List Stamp → Bool
has_stamp stamp stamps = list_any (λ other. same_stamp other stamp) stamps

-- each stamp is before all that follow it
abbrev pub IsAscending : List Stamp → Type 0
IsAscending [] = Unit {0}
IsAscending (first ∷ rest) = Each (λ later. is_before first later ≡ true) rest × IsAscending rest

-- the least member that is before this stamp
abbrev pub least_below : Stamp → List Stamp → Option Stamp
least_below stamp stamps = find (λ other. is_before other stamp) stamps

-- the least member that is after this stamp
abbrev pub least_above : Stamp → List Stamp → Option Stamp
least_above stamp stamps = find (λ other. is_before stamp other) stamps

-- what contracts see of a list that is kept: its stamps, and for how many more it has room
pub record PendingView : Type 0 where
  pub stamps : List Stamp
  pub spare : ℕ
