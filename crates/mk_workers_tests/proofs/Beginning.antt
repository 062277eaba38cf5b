-- What workers ask of lanes and new cells.
use Rattle.std.proofs.Common.{◌≡◌, ◌∙◌, ℕ, zero, suc, ◌<◌, ◌≤◌, List, [], ◌∷◌, length, map, slice_get, Some, refl, sym, ap, subst, arith}
use Rattle.std.specs.Global.{Vec}
use Rattle.std.proofs.lemmas.List.{length-map}
use Rattle.std.proofs.lemmas.Option.{slice_get_within}
use Rattle.mk_lists.specs.Among.{Each}
use Rattle.mk_quorum.specs.Sizes.{members}
use Rattle.mk_trim.specs.declared.ReplicaView.{ReplicaView}
use Rattle.mk_words.specs.Cells.{CellView}
use Rattle.mk_script.specs.declared.lines.Round.{Round}
use Rattle.mk_script.specs.Scripts.{ScriptParts}
use Rattle.mk_script.specs.Whole.{IsWhole}
use Rattle.mk_faults.specs.Fates.{RuleLines, rules_of}
use Rattle.mk_column.specs.ColumnByCode.{ColumnView}
use Rattle.mk_history.specs.Matching.{turns_in_log}
use Rattle.mk_driver.specs.declared.RoundLines.{RoundLines}
use Rattle.mk_driver.specs.Driven.{begun_with, lines_of_round}
use Rattle.mk_driver.specs.Drivers.{DriverView, after_lines}
use Rattle.mk_driver.specs.Standings.{IsFirst, Stands, driver_of}
use Rattle.mk_driver_laws.specs.Enabled.{HasCome, HasComeAtFirst}
use Rattle.mk_workers.specs.Begun.{AreBegun}
use Rattle.mk_workers.specs.ByKey.{keys_of, states_in, states_of}
use Rattle.mk_workers.specs.Going.{IsOfScript}
use Rattle.mk_workers_tests.specs.Lanes.{AreLanes, IsLane}

-- a new driver and a new column stand, once the first round began on both
abbrev pub StandsAtFirst : Type 0
StandsAtFirst =
    (script : ScriptParts) (views : List ReplicaView) (driver : DriverView) (column : ColumnView) (number : ℕ) →
    IsFirst script number views driver column → Stands script driver column [] views []

-- the lines of the first round, and of those after it
first_lines : (f : Round → RoundLines) (rounds : List Round) → 1 ≤ length rounds → (lines : RoundLines) × (rest : List RoundLines) × (map f rounds ≡ lines ∷ rest)
first_lines f [] some = absurd (omega (arith, some))
first_lines f (round ∷ rounds) some = (f round, map f rounds, refl)

inside : {X : Type 0} (xs : List X) (k : ℕ) → k < length xs → (x : X) × (slice_get xs k ≡ Some x)
inside [] k below = absurd (omega (arith, below))
inside (x ∷ xs) zero below = (x, refl)
inside (x ∷ xs) (suc k) below = inside xs k (omega (arith, below))

module _ (script : ScriptParts) (number : ℕ) (driver : DriverView) (column : ColumnView) (whole : IsWhole script) (lane : IsLane script number driver column) where
  is_first : IsFirst script number column.setting.views driver column
  is_first =
      let found = first_lines (lines_of_round script) script.rounds whole.rounds.some in
      let lines = found.0 in
      let rest = found.1 in
      let rounds : map (lines_of_round script) script.rounds ≡ lines ∷ rest = found.2 in
      let is = lane.column_is.is in
      record {
        lines = lines;
        rest = rest;
        rounds = rounds;
        driver_is = lane.driver_is lines (ap (λ xs. slice_get xs 0) rounds)
            ∙ ap (λ r. (let new = driver_of script number in record new { round = 1; rounds = r; driver = begun_with lines new.driver })) (ap after_lines rounds);
        number_is = ap (λ (c : ColumnView). c.number) is;
        setting = ap (λ (c : ColumnView). c.setting) is;
        state = ap (λ (c : ColumnView). c.state) is;
      }

  -- the lane is of its script
  of_script : StandsAtFirst → HasComeAtFirst → (rules : RuleLines) → rules ≡ rules_of script → (replicas keys : ℕ) → replicas ≡ members script.size → keys ≡ length script.keys →
      IsOfScript rules replicas keys driver column
  of_script at_first has_come rules rules_are replicas keys size keys_are =
      let fresh : column.log ≡ [] = ap (λ (c : ColumnView). c.log) lane.column_is.is in
      let few = lane.column_is.few in
      record {
        script = script;
        rounds = [];
        views = column.setting.views;
        whole = whole;
        rules_are = rules_are;
        stands = subst (λ log. Stands script driver column [] column.setting.views log) (sym fresh) (at_first script column.setting.views driver column number is_first);
        come = subst (λ log. HasCome script driver.column [] column.setting.views log) (sym fresh) (has_come script driver.column column.setting.views);
        past_views = tt;
        few_views = omega (arith, few);
        size = size;
        keys_are = keys_are;
      }

-- how many keys there are at each replica
keys_are_of : (keys : ℕ) (cells : List (Vec CellView)) → 0 < length cells → Each (λ (row : Vec CellView). length row.items ≡ keys) cells → keys_of cells ≡ keys
keys_are_of keys [] some each = absurd (omega (arith, some))
keys_are_of keys (row ∷ rows) some each = each.0

states_each : (keys : ℕ) (cells : List (Vec CellView)) → Each (λ (row : Vec CellView). length row.items ≡ keys) cells → Each (λ row. length row ≡ keys) (states_of cells)
states_each keys [] each = tt
states_each keys (row ∷ rows) each = (length-map row.items (λ (cell : CellView). cell.state) ∙ each.0, states_each keys rows each.1)

-- workers may begin
pub are_begun : StandsAtFirst → HasComeAtFirst → (rules : RuleLines) (script : ScriptParts) → rules ≡ rules_of script → IsWhole script →
    (drivers : List DriverView) (columns : List ColumnView) → AreLanes script drivers columns →
    (cells : List (Vec CellView)) → length cells ≡ members script.size → Each (λ (row : Vec CellView). length row.items ≡ length script.keys) cells →
    AreBegun rules (length cells) (keys_of cells) drivers columns (states_of cells)
are_begun at_first has_come rules script rules_are whole drivers columns lanes cells size each =
    record {
      as_many = sym lanes.all;
      numbers = λ c column at. let lane = at_column c column at in ap (λ (x : ColumnView). x.number) lane.1.column_is.is;
      fresh = λ c column at r key. let lane = at_column c column at in subst (λ log. turns_in_log r key log ≡ []) (sym (ap (λ (x : ColumnView). x.log) lane.1.column_is.is)) refl;
      scripts = λ c driver column at at'. of_script script c driver column whole (lanes.each c driver column at at') at_first has_come rules rules_are (length cells) (keys_of cells) size keys_are;
      cells_are = record {
        all = length-map cells states_in;
        each = subst (λ n. Each (λ row. length row ≡ n) (states_of cells)) (sym keys_are) (states_each (length script.keys) cells each);
      };
    }
  where
    keys_are : keys_of cells ≡ length script.keys
    keys_are = keys_are_of (length script.keys) cells (omega (arith, size)) each

    at_column : (c : ℕ) (column : ColumnView) → slice_get columns c ≡ Some column → (driver : DriverView) × IsLane script c driver column
    at_column c column at =
        let same = lanes.all in
        let below = slice_get_within columns c column at in
        let found = inside drivers c (omega (arith, same, below)) in
        (found.0, lanes.each c found.0 column found.1 at)
