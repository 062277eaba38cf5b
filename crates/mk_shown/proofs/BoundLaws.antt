-- A stamp may be marked where it lies between the bounds.
use Rattle.std.proofs.Common.{◌≡◌, ◌∙◌, ◌<◌, ◌==◌, ℕ, Bool, true, false, not, ◌&&◌, ◌||◌, refl, sym, ap, arith, List, [], ◌∷◌, Option, Some, None, length, if◌then◌else◌}
use Rattle.std.proofs.lemmas.Bool.Decides.{nat_tests}
use Rattle.mk_txn.specs.declared.Stamp.{Stamp}
use Rattle.mk_txn.specs.Stamps.{is_before, later_stamp}
use Rattle.mk_feed_words.specs.Feed.{earlier_stamp}
use Rattle.mk_feed_words.specs.MarkStamps.{Stamped, greatest, last_of, is_below_open, is_within_lasts, may_be_marked, markable, mark_for}
use Rattle.mk_shown.specs.Marks.{earlier_of, first_open, least_last, is_below, is_above, is_between, greatest_between}

-- ---- bounds

below-earlier : (s a b : Stamp) → (is_before s a && is_before s b) ≡ is_before s (earlier_stamp a b)
below-earlier s a b = grind (arith, nat_tests)

above-earlier : (s a b : Stamp) → (not (is_before a s) && not (is_before b s)) ≡ not (is_before (earlier_stamp a b) s)
above-earlier s a b = grind (arith, nat_tests)

below-one : (s a : Stamp) (o : Option Stamp) → (is_before s a && is_below s o) ≡ is_before s (earlier_of a o)
below-one s a None = and-true (is_before s a)
  where
    and-true : (b : Bool) → (b && true) ≡ b
    and-true true = refl
    and-true false = refl
below-one s a (Some b) = below-earlier s a b

above-one : (s a : Stamp) (o : Option Stamp) → (not (is_before a s) && not (is_above s o)) ≡ not (is_before (earlier_of a o) s)
above-one s a None = and-true (not (is_before a s))
  where
    and-true : (b : Bool) → (b && true) ≡ b
    and-true true = refl
    and-true false = refl
above-one s a (Some b) = above-earlier s a b

open-is : (s : Stamp) (all : List Stamped) → is_below_open all s ≡ is_below s (first_open all)
open-is s [] = refl
open-is s (x ∷ all) = ap (λ (b : Bool). (x.closed || is_before s x.stamp) && b) (open-is s all) ∙ by x.closed
  where
    by : (b : Bool) → ((b || is_before s x.stamp) && is_below s (first_open all)) ≡ is_below s (if b then first_open all else Some (earlier_of x.stamp (first_open all)))
    by true = refl
    by false = below-one s x.stamp (first_open all)

lasts-are : (s : Stamp) (all : List Stamped) (clients : List ℕ) → is_within_lasts clients all s ≡ not (is_above s (least_last all clients))
lasts-are s all [] = refl
lasts-are s all (client ∷ clients) =
    ap (λ (b : Bool). not (is_before (last_of all client) s) && b) (lasts-are s all clients) ∙ above-one s (last_of all client) (least_last all clients)

between-is : (s : Stamp) (all : List Stamped) (clients : List ℕ) → may_be_marked clients all s ≡ is_between s (first_open all) (least_last all clients)
between-is s all clients = let o = open-is s all in let l = lasts-are s all clients in λ i. o i && l i

greatest-is : (all : List Stamped) (clients : List ℕ) (part : List Stamped) → greatest_between (first_open all) (least_last all clients) part ≡ greatest (markable clients all part)
greatest-is all clients [] = refl
greatest-is all clients (x ∷ part) =
    by (may_be_marked clients all x.stamp) (between-is x.stamp all clients) (greatest-is all clients part)
  where
    by : (b : Bool) → b ≡ is_between x.stamp (first_open all) (least_last all clients) →
        greatest_between (first_open all) (least_last all clients) part ≡ greatest (markable clients all part) →
        greatest_between (first_open all) (least_last all clients) (x ∷ part) ≡ greatest (if b then x.stamp ∷ markable clients all part else markable clients all part)
    by true is rest = ap (λ (b : Bool). if b then later_stamp x.stamp (greatest_between (first_open all) (least_last all clients) part) else greatest_between (first_open all) (least_last all clients) part) (sym is) ∙ ap (later_stamp x.stamp) rest
    by false is rest = ap (λ (b : Bool). if b then later_stamp x.stamp (greatest_between (first_open all) (least_last all clients) part) else greatest_between (first_open all) (least_last all clients) part) (sym is) ∙ rest

pub some-there : (n : ℕ) → (n == 0) ≡ false → 0 < n
some-there n h = grind (arith, nat_tests, h)

-- so the greatest stamp between them is the mark stamp
pub mark-is : (all : List Stamped) (clients : List ℕ) → 0 < length clients → greatest_between (first_open all) (least_last all clients) all ≡ mark_for clients all
mark-is all [] some = absurd (omega (arith, some))
mark-is all (client ∷ clients) some = greatest-is all (client ∷ clients) all
