-- The bounds between which the mark stamp of a column lies.
use Rattle.std.specs.Prelude.{ℕ, Bool, true, false, not, ◌&&◌, List, [], ◌∷◌, Option, Some, None, if◌then◌else◌}
use Rattle.mk_txn.specs.declared.Stamp.{Stamp}
use Rattle.mk_txn.specs.Stamps.{zero_stamp, is_before, later_stamp}
use Rattle.mk_feed_words.specs.Feed.{earlier_stamp}
use Rattle.mk_feed_words.specs.MarkStamps.{Stamped, last_of}

-- the earlier of a stamp and one that there may be
abbrev pub earlier_of : Stamp → Option Stamp → Stamp
earlier_of a None = a
earlier_of a (Some b) = earlier_stamp a b

-- the least stamp of an attempt that is not closed
abbrev pub first_open : List Stamped → Option Stamp
first_open [] = None
first_open (s ∷ rest) = if s.closed then first_open rest else Some (earlier_of s.stamp (first_open rest))

-- the least of the last stamps of these clients
abbrev pub least_last : List Stamped → List ℕ → Option Stamp
least_last stamped [] = None
least_last stamped (client ∷ clients) = Some (earlier_of (last_of stamped client) (least_last stamped clients))

-- below this stamp, where there is one
abbrev pub is_below : Stamp → Option Stamp → Bool
is_below stamp None = true
is_below stamp (Some first) = is_before stamp first

-- above this stamp, where there is one
abbrev pub is_above : Stamp → Option Stamp → Bool
is_above stamp None = false
is_above stamp (Some last) = is_before last stamp

-- below the one and not above the other
abbrev pub is_between : Stamp → Option Stamp → Option Stamp → Bool
is_between stamp first last = is_below stamp first && not (is_above stamp last)

-- the greatest of the stamps there, and 0.0 where there is none
abbrev pub greatest_between : Option Stamp → Option Stamp → List Stamped → Stamp
greatest_between first last [] = zero_stamp
greatest_between first last (s ∷ rest) =
    if is_between s.stamp first last then later_stamp s.stamp (greatest_between first last rest) else greatest_between first last rest
