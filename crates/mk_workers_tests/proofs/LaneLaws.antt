-- The clients of a column, the first round of a script, and lanes one after another.
use Rattle.std.proofs.Common.{◌≡◌, ◌∙◌, ℕ, ◌+◌, ◌<◌, ◌≤◌, Bool, true, false, ◌==◌, List, [], ◌∷◌, ◌++◌, length, length-append, slice_get, Some, sym, subst, arith, if◌then◌else◌}
use mathlib.Core.Logic.{dite}
use native.Mathlib.Decide.{dec_lt}
use Rattle.std.proofs.lemmas.Option.{slice_get_within, same_Some}
use Rattle.mk_lists.specs.Among.{Each, Each-among, Each-weaker, AllDistinct}
use Rattle.mk_lists.proofs.Places.{slice_get-append_left, slice_get_push}
use Rattle.mk_script.specs.Scripts.{ScriptParts}
use Rattle.mk_script.specs.Whole.{IsWhole}
use Rattle.mk_column.specs.ColumnByCode.{ColumnView}
use Rattle.mk_history.specs.Histories.{clients_of}
use Rattle.mk_driver.specs.declared.RoundLines.{RoundLines}
use Rattle.mk_driver.specs.Driven.{begun_with}
use Rattle.mk_driver.specs.Drivers.{DriverView, after_lines}
use Rattle.mk_driver.specs.Standings.{driver_of}
use Rattle.mk_workers_tests.specs.Lanes.{IsFirstColumn, IsFirstDriver, IsLane, AreLanes}

-- numbers of clients rise
rising : (c k : ℕ) (columns : List ℕ) → Each (λ n. k ≤ n) (clients_of c k columns) × AllDistinct (clients_of c k columns)
rising c k [] = (tt, tt)
rising c k (x ∷ columns) = by (x == c) (rising c (k + 1) columns)
  where
    by : (b : Bool) → Each (λ n. k + 1 ≤ n) (clients_of c (k + 1) columns) × AllDistinct (clients_of c (k + 1) columns) →
        Each (λ n. k ≤ n) (if b then k ∷ clients_of c (k + 1) columns else clients_of c (k + 1) columns)
        × AllDistinct (if b then k ∷ clients_of c (k + 1) columns else clients_of c (k + 1) columns)
    by true rest = (
      (omega arith, Each-weaker (λ n. k + 1 ≤ n) (λ n. k ≤ n) (λ n h. omega (arith, h)) (clients_of c (k + 1) columns) rest.0),
      ((λ among. let above : k + 1 ≤ k = Each-among (λ n. k + 1 ≤ n) k (clients_of c (k + 1) columns) rest.0 among in absurd (omega (arith, above))), rest.1),
    )
    by false rest = (Each-weaker (λ n. k + 1 ≤ n) (λ n. k ≤ n) (λ n h. omega (arith, h)) (clients_of c (k + 1) columns) rest.0, rest.1)

-- no two of them are equal
pub clients_distinct : (c : ℕ) (columns : List ℕ) → AllDistinct (clients_of c 1 columns)
clients_distinct c columns = let both = rising c 1 columns in both.1

-- a script has a round
pub some_round : (script : ScriptParts) → IsWhole script → 0 < length script.rounds
some_round script whole = let some = whole.rounds.some in omega (arith, some)

-- a new driver, once its next round began
pub first_driver_is : (script : ScriptParts) (number : ℕ) (old driver : DriverView) → old ≡ driver_of script number →
    ((lines : RoundLines) → slice_get old.rounds 0 ≡ Some lines → driver ≡ record old { round = 1; rounds = after_lines old.rounds; driver = begun_with lines old.driver }) → IsFirstDriver script number driver
first_driver_is script number old driver is begun =
    subst (λ (z : DriverView). (lines : RoundLines) → slice_get z.rounds 0 ≡ Some lines → driver ≡ record z { round = 1; rounds = after_lines z.rounds; driver = begun_with lines z.driver }) is begun

-- the last of a list that one was put behind
last_same : {X : Type 0} (xs : List X) (x y : X) (k : ℕ) → k ≡ length xs → slice_get (xs ++ x ∷ []) k ≡ Some y → x ≡ y
last_same xs x y k here at = same_Some x y (sym (slice_get_push xs x k here) ∙ at)

-- a lane more
pub lane_more : (script : ScriptParts) (number : ℕ) (drivers new_drivers : List DriverView) (columns new_columns : List ColumnView) (driver : DriverView) (column : ColumnView) →
    AreLanes script drivers columns → number ≡ length columns → IsFirstDriver script number driver → IsFirstColumn script number column →
    new_drivers ≡ drivers ++ driver ∷ [] → new_columns ≡ columns ++ column ∷ [] → AreLanes script new_drivers new_columns
lane_more script number drivers new_drivers columns new_columns driver column lanes numbered is_driver is_column drivers_are columns_are =
    subst (λ (z : List DriverView × List ColumnView). AreLanes script z.0 z.1) (λ i. (sym drivers_are i, sym columns_are i))
    record {
      all = let same = lanes.all in let more = length-append columns (column ∷ []) in let longer = length-append drivers (driver ∷ []) in omega arith;
      each = λ k d c at at'.
          let same = lanes.all in
          dite (dec_lt k (length drivers))
          (λ below. lanes.each k d c (sym (slice_get-append_left drivers (driver ∷ []) k below) ∙ at) (sym (slice_get-append_left columns (column ∷ []) k (omega arith)) ∙ at'))
          (λ above.
          let inside = slice_get_within (drivers ++ driver ∷ []) k d at in
          let longer = length-append drivers (driver ∷ []) in
          let here : k ≡ length drivers = omega arith in
          let there : number ≡ k = omega arith in
          let new : IsLane script number driver column = record { driver_is = is_driver; column_is = is_column } in
          subst (λ (z : ℕ × (DriverView × ColumnView)). IsLane script z.0 z.1.0 z.1.1)
          (λ i. (there i, (last_same drivers driver d k here at i, last_same columns column c k (omega arith) at' i))) new);
    }
