-- What is handed to the parts of a store and comes back from them.
use Rattle.std.proofs.Common.{◌≡◌, ◌≤◌, arith, sym, ap, subst, ◌∙◌, List, [], length}
use Rattle.std.specs.Prelude.{Result, Ok, Err, IfOk, OnOk}
use Rattle.std.specs.Global.{Vec}
use Rattle.std.proofs.lemmas.List.{length-map}
use Rattle.mk_txn.specs.declared.NoMemory.{NoMemory}
use Rattle.mk_words.specs.Cells.{CellState, CellView}
use Rattle.mk_words.specs.declared.GlobalAnswer.{GlobalAnswer}
use Rattle.mk_words.specs.declared.GlobalLine.{GlobalLine}
use Rattle.mk_words.specs.declared.JournalEntry.{JournalEntry}
use Rattle.mk_script.specs.Scripts.{ScriptParts}
use Rattle.mk_script.specs.Whole.{IsWhole}
use Rattle.mk_script.specs.declared.lines.ClientLine.{ClientLine}
use Rattle.mk_faults.specs.Fates.{RuleLines, rules_of}
use Rattle.mk_column.specs.ColumnByCode.{ColumnView}
use Rattle.mk_snap.specs.Snapshots.{SnapState, SnapStands}
use Rattle.mk_history.specs.declared.RoundLog.{RoundLog}
use Rattle.mk_history.specs.Histories.{History}
use Rattle.mk_history.specs.Wholes.{WholeState}
use Rattle.mk_driver.specs.Drivers.{DriverView}
use Rattle.mk_state.specs.Standings.{WholeView, MayDo, WasDone}
use Rattle.mk_workers.specs.Begun.{AreBegun}
use Rattle.mk_workers.specs.ByKey.{keys_of, states_of}
use Rattle.mk_workers.specs.Worked.{AreWorked, HaveEnded, logs_of}
use Rattle.mk_round.specs.Pasts.{run_of}
use Rattle.mk_round.specs.Stores.{StoreView, HasWorked, MayWork}
use Rattle.mk_round.specs.Begun.{IsAtWork, HaveLeft, with_work, without_work, round_with}
use Rattle.mk_round.proofs.WorkLaws.{are_begun, have_left, worked}

-- a script has few clients
pub few_clients : (script : ScriptParts) (one : History) → IsWhole script → one ≡ run_of script [] → length one.client_columns ≤ 64
few_clients script one whole is =
    let few = whole.prelude.clients_few in
    let same : length one.client_columns ≡ length script.clients =
    ap (λ (h : History). length h.client_columns) is ∙ length-map script.clients (λ (line : ClientLine). line.column) in
    omega (arith, few, same)

-- a line that was done on what is kept
pub line_done : (r : Result GlobalAnswer NoMemory) (line : GlobalLine) (old now new : WholeView SnapState) → old ≡ now →
    IfOk r (λ answer. (run : History) (state : WholeState) → MayDo SnapStands run state old line → WasDone SnapStands run state line answer new) →
    IfOk r (λ answer. (run : History) (state : WholeState) → MayDo SnapStands run state now line → WasDone SnapStands run state line answer new)
line_done r line old now new is =
    subst (λ (v : WholeView SnapState). IfOk r (λ answer. (run : History) (state : WholeState) → MayDo SnapStands run state v line → WasDone SnapStands run state line answer new)) is

-- what the workers ask of what is handed to them
pub work_begun : (script : ScriptParts) (done : List RoundLog) (inside now : StoreView) (rules : RuleLines) (rows : List (Vec CellView)) (drivers : List DriverView) (columns : List ColumnView) →
    inside ≡ now → IsAtWork script done now → rules ≡ rules_of script → states_of rows ≡ inside.whole.cells → drivers ≡ inside.drivers → columns ≡ inside.whole.columns →
    AreBegun rules (length rows) (keys_of rows) drivers columns (states_of rows)
work_begun script done inside now rules rows drivers columns is at rules_are rows_is drivers_is columns_is =
    let here = subst (IsAtWork script done) (sym is) at in
    subst (λ (ds : List DriverView). AreBegun rules (length rows) (keys_of rows) ds columns (states_of rows)) (sym drivers_is)
    (subst (λ (cs : List ColumnView). AreBegun rules (length rows) (keys_of rows) inside.drivers cs (states_of rows)) (sym columns_is)
    (are_begun script done inside here rows rows_is rules rules_are))

module _ (rules : RuleLines) (inside now : StoreView) (is : inside ≡ now) (rows : List (Vec CellView)) (drivers : List DriverView) (columns : List ColumnView)
    (rows_is : states_of rows ≡ inside.whole.cells) (drivers_is : drivers ≡ inside.drivers) (columns_is : columns ≡ inside.whole.columns) where
  left_one : (new_columns : List ColumnView) (new_drivers : List DriverView) (cells : List (List CellState)) (journals : List (List (List JournalEntry))) →
      AreWorked (length rows) (keys_of rows) (logs_of new_columns) (states_of rows) cells journals → HaveEnded rules drivers new_drivers columns new_columns →
      (script : ScriptParts) (done : List RoundLog) → rules ≡ rules_of script → IsAtWork script done now → HaveLeft script now new_columns new_drivers cells journals
  left_one new_columns new_drivers cells journals worked ended script done rules_are at =
      let here = subst (IsAtWork script done) (sym is) at in
      let ended_there = subst (λ (ds : List DriverView). HaveEnded rules ds new_drivers columns new_columns) drivers_is ended in
      let ended_here = subst (λ (cs : List ColumnView). HaveEnded rules inside.drivers new_drivers cs new_columns) columns_is ended_there in
      let ended_by = subst (λ (rs : RuleLines). HaveEnded rs inside.drivers new_drivers inside.whole.columns new_columns) rules_are ended_here in
      subst (λ (v : StoreView). HaveLeft script v new_columns new_drivers cells journals) is
      (have_left script done inside here rows rows_is new_columns new_drivers cells journals worked ended_by)

  -- what they leave
  pub all_left : {W : Type 0} (r : Result W NoMemory) (columns_of : W → List ColumnView) (drivers_of : W → List DriverView) (cells_of : W → List (List CellState))
      (journals_of : W → List (List (List JournalEntry))) →
      IfOk r (λ w. AreWorked (length rows) (keys_of rows) (logs_of (columns_of w)) (states_of rows) (cells_of w) (journals_of w)) →
      IfOk r (λ w. HaveEnded rules drivers (drivers_of w) columns (columns_of w)) →
      IfOk r (λ w. (script : ScriptParts) (done : List RoundLog) → rules ≡ rules_of script → IsAtWork script done now →
      HaveLeft script now (columns_of w) (drivers_of w) (cells_of w) (journals_of w))
  all_left (Ok w) columns_of drivers_of cells_of journals_of done ended = left_one (columns_of w) (drivers_of w) (cells_of w) (journals_of w) done ended
  all_left (Err e) columns_of drivers_of cells_of journals_of done ended = tt

-- the round that was worked
module _ (rules : RuleLines) (now begun emptied new : StoreView) (columns : List ColumnView) (drivers : List DriverView) (cells : List (List CellState))
    (journals : List (List (List JournalEntry))) where
  pub round_worked : (r : Result RoundLog NoMemory) →
      ((script : ScriptParts) (done : List RoundLog) → MayWork rules script done now → IsAtWork script done begun) →
      ((script : ScriptParts) (done : List RoundLog) → rules ≡ rules_of script → IsAtWork script done begun → HaveLeft script begun columns drivers cells journals) →
      emptied ≡ without_work begun → IfOk r (λ round. round ≡ round_with columns journals) → OnOk r (new ≡ with_work columns drivers cells emptied) →
      IfOk r (λ round. (script : ScriptParts) (done : List RoundLog) → MayWork rules script done now → HasWorked script done round new)
  round_worked (Err e) begins leaves empty round_is new_is = tt
  round_worked (Ok round) begins leaves empty round_is new_is = λ script done may.
      let at = begins script done may in
      let left = leaves script done may.rules_are at in
      subst (λ (r : RoundLog). HasWorked script done r new) (sym round_is)
      (subst (HasWorked script done (round_with columns journals)) (sym (new_is ∙ ap (with_work columns drivers cells) empty))
      (worked script done begun at columns drivers cells journals left))
