-- How a round begins in the columns, and what is kept then.
use Rattle.std.proofs.Common.{◌≡◌, suc, refl, sym, ap, subst, ◌∙◌, List, [], ◌∷◌, length, map, None}
use Rattle.std.specs.Prelude.{Result, OnOk}
use Rattle.std.proofs.lemmas.Result.{on_ok_weaker}
use Rattle.mk_txn.specs.declared.NoMemory.{NoMemory}
use Rattle.mk_lists.specs.Among.{Each, Each-weaker}
use Rattle.mk_quorum.specs.Sizes.{members}
use Rattle.mk_trim.specs.declared.ReplicaView.{ReplicaView}
use Rattle.mk_words.specs.Bases.{BaseState}
use Rattle.mk_model.specs.Conditions.{wanted}
use Rattle.mk_model.specs.EpochState.{views_of}
use Rattle.mk_model.specs.Logs.{reading_ended}
use Rattle.mk_column.specs.ColumnByCode.{ColumnView}
use Rattle.mk_history.specs.Histories.{History}
use Rattle.mk_history.specs.Wholes.{WholeState, setting_of}
use Rattle.mk_state.specs.Beginning.{column_begun}
use Rattle.mk_state.specs.Handing.{states_in, numbers_in}
use Rattle.mk_state.specs.Standings.{WholeView, IsOfRun, IsAt, IsBegun}

columns-begun : (views : List ReplicaView) (columns : List ColumnView) → states_in (map (column_begun views) columns) ≡ map reading_ended (states_in columns)
columns-begun views [] = refl
columns-begun views (column ∷ columns) = ap (λ rest. reading_ended column.state ∷ rest) (columns-begun views columns)

count-begun : (views : List ReplicaView) (columns : List ColumnView) → length (map (column_begun views) columns) ≡ length columns
count-begun views [] = refl
count-begun views (column ∷ columns) = ap suc (count-begun views columns)

numbers-begun : (views : List ReplicaView) (columns : List ColumnView) → numbers_in (map (column_begun views) columns) ≡ numbers_in columns
numbers-begun views [] = refl
numbers-begun views (column ∷ columns) = ap (λ rest. column.number ∷ rest) (numbers-begun views columns)

of_run-begun : (run : History) (views : List ReplicaView) (columns : List ColumnView) → Each (IsOfRun run) columns → Each (IsOfRun run) (map (column_begun views) columns)
of_run-begun run views [] h = tt
of_run-begun run views (column ∷ columns) h =
    (record { version = h.0.version; faults = h.0.faults; keys = h.0.keys; idle = h.0.idle }, of_run-begun run views columns h.1)

setting-begun : (run : History) (state : WholeState) (views : List ReplicaView) (column : ColumnView) → views ≡ views_of state.epochs → IsOfRun run column →
    (column_begun views column).setting ≡ setting_of run state
setting-begun run state views column seen h =
    let version : column.setting.version ≡ run.version = h.version in
    let faults : column.setting.faults ≡ run.faults = h.faults in
    let keys : column.setting.keys ≡ length run.key_names = h.keys in
    cc

settings-begun : (run : History) (state : WholeState) (views : List ReplicaView) (columns : List ColumnView) → views ≡ views_of state.epochs → Each (IsOfRun run) columns →
    Each (λ column. column.setting ≡ setting_of run state) (map (column_begun views) columns)
settings-begun run state views [] seen h = tt
settings-begun run state views (column ∷ columns) seen h =
    (setting-begun run state views column seen h.0, settings-begun run state views columns seen h.1)

pub round-begun : {B : Type 0} (stands : B → BaseState → Type 0) (run : History) (state : WholeState) (old : WholeView B) (views : List ReplicaView) → views ≡ views_of state.epochs → IsAt stands run old state →
    IsBegun stands run (record old { columns = map (column_begun views) old.columns }) state
round-begun stands run state old views seen at =
    let sizes = at.sizes in
    record {
      within = record {
        sizes = record {
          faults = sizes.faults;
          keys = sizes.keys;
          changes = sizes.changes;
          columns = count-begun views old.columns ∙ sizes.columns;
          numbers = numbers-begun views old.columns ∙ sizes.numbers;
          each = of_run-begun run views old.columns sizes.each;
          replicas = sizes.replicas;
          rows = sizes.rows;
        };
        columns = columns-begun views old.columns ∙ at.columns;
        cells = at.cells;
        epochs = at.epochs;
        count = at.count;
      };
      settings = settings-begun run state views old.columns seen sizes.each;
    }

-- what columns ask of the views
pub views-fit : (run : History) (views : List ReplicaView) (columns : List ColumnView) → length views ≡ members run.faults → Each (IsOfRun run) columns →
    Each (λ column. length views ≡ members column.setting.faults) columns
views-fit run views columns count each =
    Each-weaker (IsOfRun run) (λ column. length views ≡ members column.setting.faults) (λ column h. count ∙ ap members (sym h.faults)) columns each

-- each of them is idle
pub columns-idle : (run : History) (columns : List ColumnView) → Each (IsOfRun run) columns → Each (λ column. wanted column.state.work ≡ None) columns
columns-idle run columns each = Each-weaker (IsOfRun run) (λ column. wanted column.state.work ≡ None) (λ column h. h.idle) columns each

module _ {B : Type 0} (stands : B → BaseState → Type 0) (r : Result (Unit {0}) NoMemory) (old now : WholeView B) (columns : List ColumnView) (views : List ReplicaView) (is : old ≡ now)
    (ok : OnOk r (columns ≡ map (column_begun views) old.columns))
    (seen : (run : History) (state : WholeState) → IsAt stands run old state → views ≡ views_of state.epochs) where
  -- in the columns and nowhere else
  pub begun-after : OnOk r ((run : History) (state : WholeState) → IsAt stands run now state → record old { columns = columns } ≡ record now { columns = map (column_begun (views_of state.epochs)) now.columns })
  begun-after =
      on_ok_weaker {P = columns ≡ map (column_begun views) old.columns}
      {Q = (run : History) (state : WholeState) → IsAt stands run now state → record old { columns = columns } ≡ record now { columns = map (column_begun (views_of state.epochs)) now.columns }} r
      (λ e run state at.
      let here = subst (λ (v : WholeView B). IsAt stands run v state) (sym is) at in
      let told : columns ≡ map (column_begun (views_of state.epochs)) old.columns = e ∙ ap (λ (vs : List ReplicaView). map (column_begun vs) old.columns) (seen run state here) in
      ap (λ (cs : List ColumnView). record old { columns = cs }) told
      ∙ ap (λ (v : WholeView B). record v { columns = map (column_begun (views_of state.epochs)) v.columns }) is)
      ok

  -- so that each goes by the state
  pub begun-on : OnOk r ((run : History) (state : WholeState) → IsAt stands run now state → IsBegun stands run (record old { columns = columns }) state)
  begun-on =
      on_ok_weaker {P = columns ≡ map (column_begun views) old.columns}
      {Q = (run : History) (state : WholeState) → IsAt stands run now state → IsBegun stands run (record old { columns = columns }) state} r
      (λ e run state at.
      let here = subst (λ (v : WholeView B). IsAt stands run v state) (sym is) at in
      subst (λ (cs : List ColumnView). IsBegun stands run (record old { columns = cs }) state) (sym e) (round-begun stands run state old views (seen run state here) here))
      ok
