-- All columns of a round: what their workers ask, and what they leave.
use Rattle.std.proofs.Common.{◌≡◌, ◌<◌, ℕ, ◌+◌, ◌*◌, refl, arith, sym, ap, subst, ◌∙◌, List, [], ◌∷◌, Some, length, map}
use Rattle.std.specs.Prelude.{slice_get, slice_index_or}
use Rattle.std.specs.Global.{Vec}
use Rattle.std.proofs.lemmas.List.{length-map}
use Rattle.std.proofs.lemmas.Option.{slice_get_within}
use Rattle.mk_lists.specs.Among.{Each}
use Rattle.mk_quorum.specs.Sizes.{members}
use Rattle.mk_words.specs.declared.JournalEntry.{JournalEntry}
use Rattle.mk_words.specs.Cells.{CellState, CellView}
use Rattle.mk_words.specs.Journals.{EachAnswered, cell_through}
use Rattle.mk_script.specs.Scripts.{ScriptParts}
use Rattle.mk_faults.specs.Fates.{RuleLines, rules_of}
use Rattle.mk_model.specs.ColumnState.{ColumnState, Setting, Work, new_column, numbers_from}
use Rattle.mk_model.specs.Logs.{column_through}
use Rattle.mk_model.specs.Conditions.{wanted}
use Rattle.mk_column.specs.ColumnByCode.{ColumnView}
use Rattle.mk_snap.specs.Snapshots.{SnapStands}
use Rattle.mk_history.specs.declared.RoundLog.{RoundLog}
use Rattle.mk_history.specs.Histories.{History, log_of, journal_of}
use Rattle.mk_history.specs.Legality.{IsLegalRound}
use Rattle.mk_history.specs.Wholes.{WholeState, after_logs, column_of, setting_of, columns_after_logs, cells_after_journals}
use Rattle.mk_driver.specs.Drivers.{DriverView}
use Rattle.mk_driver.specs.Driven.{setting_in}
use Rattle.mk_driver.specs.Standings.{Stands}
use Rattle.mk_driver_laws.specs.Enabled.{HasCome}
use Rattle.mk_state.specs.Handing.{states_in}
use Rattle.mk_state.specs.Standings.{IsOfRun, HasSizes, IsWithin}
use Rattle.mk_workers.specs.Begun.{AreBegun, HasNoTurn}
use Rattle.mk_workers.specs.ByKey.{IsByKey, cell_at, keys_of, states_of}
use Rattle.mk_workers.specs.Going.{IsOfScript}
use Rattle.mk_workers.specs.Worked.{AreWorked, HaveEnded, logs_of}
use Rattle.mk_workers.specs.Crews.{AreNumbered}
use Rattle.mk_round.specs.Pasts.{run_of, state_behind, views_behind, past_of}
use Rattle.mk_round.specs.Stores.{StoreView, HasWorked, column_count}
use Rattle.mk_round.specs.Begun.{IsAtWork, HaveLeft, without_log, with_work, without_work, round_with}
use Rattle.mk_round.proofs.Placed.{place_of, each_placed, each_here, from_image, to_image, image_at, numbers_placed, numbered_as}
use Rattle.mk_round.proofs.PastLaws.{columns_behind, few_past, few_behind}
use Rattle.mk_round.proofs.AfterLaws.{columns_after, rows_after}
use Rattle.mk_round.proofs.EndLaws.{Ends, ends_turned, ends_replays, ends_state, ends_idle, ends_setting, ends_number, ends_over}

-- what is at a number before the columns work, and behind their work
record At (store : StoreView) (columns : List ColumnView) (drivers : List DriverView) (c : ℕ) : Type 0 where
  pub driver : DriverView
  pub new_driver : DriverView
  pub column : ColumnView
  pub new_column : ColumnView
  pub driver_at : slice_get store.drivers c ≡ Some driver
  pub new_driver_at : slice_get drivers c ≡ Some new_driver
  pub column_at : slice_get store.whole.columns c ≡ Some column
  pub new_column_at : slice_get columns c ≡ Some new_column

-- ---- what the workers ask

-- how many keys the first row has, where all rows have as many
keys_are : (keys n : ℕ) (cells : List (Vec CellView)) → Each (λ (row : List CellState). length row ≡ keys) (states_of cells) → length cells ≡ n + 1 → keys_of cells ≡ keys
keys_are keys n [] each long = absurd (omega (arith, long))
keys_are keys n (row ∷ rows) each long = sym (length-map row.items (λ (cell : CellView). cell.state)) ∙ each.0

module _ (script : ScriptParts) (done : List RoundLog) (store : StoreView) (w : IsAtWork script done store) where
  abbrev pub run : History
  run = run_of script []

  abbrev pub state : WholeState
  state = state_behind script done

  -- the state of the column of this number
  state_at : (c : ℕ) (column : ColumnView) → slice_get store.whole.columns c ≡ Some column → column.state ≡ column_of state c
  state_at c column at =
      sym (image_at (λ (x : ColumnView). x.state) store.whole.columns c column (new_column 0 []) at)
      ∙ ap (λ (cs : List ColumnState). slice_index_or cs c (new_column 0 [])) w.at.within.columns

  setting_at : (c : ℕ) (column : ColumnView) → slice_get store.whole.columns c ≡ Some column → column.setting ≡ setting_in script (views_behind script done)
  setting_at c column at = each_here (λ (x : ColumnView). x.setting ≡ setting_of run state) store.whole.columns c column w.at.settings at

  fresh_at : (c : ℕ) (column : ColumnView) → slice_get store.whole.columns c ≡ Some column → column.log ≡ []
  fresh_at c column at = each_here (λ (x : ColumnView). x.log ≡ []) store.whole.columns c column w.fresh at

  numbers : AreNumbered store.whole.columns
  numbers = numbered_as store.whole.columns (column_count script) w.at.within.sizes.numbers

  module _ (cells : List (Vec CellView)) (cells_is : states_of cells ≡ store.whole.cells) where
    pub rows_are : length cells ≡ members script.size
    rows_are = sym (length-map cells (λ (row : Vec CellView). map (λ (cell : CellView). cell.state) row.items))
        ∙ ap (λ (rows : List (List CellState)). length rows) cells_is ∙ w.at.within.sizes.replicas

    even : Each (λ (row : List CellState). length row ≡ length script.keys) (states_of cells)
    even = subst (Each (λ (row : List CellState). length row ≡ length script.keys)) (sym cells_is) w.at.within.sizes.rows

    pub as_keys : keys_of cells ≡ length script.keys
    as_keys = keys_are (length script.keys) (2 * script.size) cells even rows_are

    by_key : IsByKey (length cells) (keys_of cells) (states_of cells)
    by_key =
        record {
          all = length-map cells (λ (row : Vec CellView). map (λ (cell : CellView). cell.state) row.items);
          each = subst (λ n. Each (λ (row : List CellState). length row ≡ n) (states_of cells)) (sym as_keys) even;
        }

    of_script : (rules : RuleLines) → rules ≡ rules_of script → (c : ℕ) (driver : DriverView) (column : ColumnView) → slice_get store.drivers c ≡ Some driver →
        slice_get store.whole.columns c ≡ Some column → IsOfScript rules (length cells) (keys_of cells) driver column
    of_script rules rules_are c driver column here at =
        let ready = w.ready c driver here in
        let none = fresh_at c column at in
        record {
          script = script;
          rounds = past_of script done;
          views = views_behind script done;
          whole = w.script_whole;
          rules_are = rules_are;
          stands = subst (Stands script driver column (past_of script done) (views_behind script done)) (sym none)
              (ready.stands column (numbers c column at) (setting_at c column at) (state_at c column at));
          come = subst (HasCome script driver.column (past_of script done) (views_behind script done)) (sym none)
              (subst (λ k. HasCome script k (past_of script done) (views_behind script done) []) (sym ready.column) ready.come);
          past_views = few_past script done;
          few_views = few_behind script done;
          size = rows_are;
          keys_are = as_keys;
        }

    pub are_begun : (rules : RuleLines) → rules ≡ rules_of script →
        AreBegun rules (length cells) (keys_of cells) store.drivers store.whole.columns (states_of cells)
    are_begun rules rules_are =
        record {
          as_many = w.as_many ∙ sym w.at.within.sizes.columns;
          numbers = numbers;
          fresh = λ c column at. subst HasNoTurn (sym (fresh_at c column at)) (λ r key. refl);
          scripts = of_script rules rules_are;
          cells_are = by_key;
        }

    pub have_left : (columns : List ColumnView) (drivers : List DriverView) (after : List (List CellState)) (journals : List (List (List JournalEntry))) →
        AreWorked (length cells) (keys_of cells) (logs_of columns) (states_of cells) after journals →
        HaveEnded (rules_of script) store.drivers drivers store.whole.columns columns → HaveLeft script store columns drivers after journals
    have_left columns drivers after journals worked ended =
        record {
          journals_are = subst (λ n. AreWorked n (length script.keys) (logs_of columns) store.whole.cells after journals) rows_are
              (subst (λ n. AreWorked (length cells) n (logs_of columns) store.whole.cells after journals) as_keys
              (subst (λ rows. AreWorked (length cells) (keys_of cells) (logs_of columns) rows after journals) cells_is worked));
          ended = ended;
        }

  -- ---- what they leave

  module _ (columns : List ColumnView) (drivers : List DriverView) (cells : List (List CellState)) (journals : List (List (List JournalEntry)))
      (left : HaveLeft script store columns drivers cells journals) where
    abbrev pub round : RoundLog
    round = round_with columns journals

    abbrev pub after : StoreView
    after = with_work columns drivers cells (without_work store)

    count : length columns ≡ column_count script
    count = left.ended.columns_are ∙ w.at.within.sizes.columns

    at_number : (c : ℕ) → c < column_count script → At store columns drivers c
    at_number c lt =
        let driver = place_of store.drivers c (subst (λ n. c < n) (sym w.as_many) lt) in
        let new_driver = place_of drivers c (subst (λ n. c < n) (sym (left.ended.drivers_are ∙ w.as_many)) lt) in
        let column = place_of store.whole.columns c (subst (λ n. c < n) (sym w.at.within.sizes.columns) lt) in
        let new_column = place_of columns c (subst (λ n. c < n) (sym count) lt) in
        record {
          driver = driver.0;
          new_driver = new_driver.0;
          column = column.0;
          new_column = new_column.0;
          driver_at = driver.1;
          new_driver_at = new_driver.1;
          column_at = column.1;
          new_column_at = new_column.1;
        }

    ends : (c : ℕ) (driver new_driver : DriverView) (column new_column : ColumnView) → slice_get store.drivers c ≡ Some driver → slice_get drivers c ≡ Some new_driver →
        slice_get store.whole.columns c ≡ Some column → slice_get columns c ≡ Some new_column → Ends script done c (log_of round c) driver new_driver column new_column
    ends c driver new_driver column new_column d nd k nk =
        record {
          number = numbers c column k;
          setting = setting_at c column k;
          state = state_at c column k;
          fresh = fresh_at c column k;
          ready = w.ready c driver d;
          ended = left.ended.each c driver new_driver column new_column d nd k nk;
          log_is = sym (image_at (λ (x : ColumnView). x.log) columns c new_column [] nk);
        }

    ends_at : (c : ℕ) (a : At store columns drivers c) → Ends script done c (log_of round c) a.driver a.new_driver a.column a.new_column
    ends_at c a = ends c a.driver a.new_driver a.column a.new_column a.driver_at a.new_driver_at a.column_at a.new_column_at

    -- what is at the number of a column that is left
    beside : (c : ℕ) (new_column : ColumnView) → slice_get columns c ≡ Some new_column → (a : At store columns drivers c) × (a.new_column ≡ new_column)
    beside c new_column at =
        let a = at_number c (subst (λ n. c < n) count (slice_get_within columns c new_column at)) in
        (a, (let same : Some a.new_column ≡ Some new_column = sym a.new_column_at ∙ at in cc same))

    legal : IsLegalRound run round state
    legal =
        record {
          logs = λ c lt. let a = at_number c lt in ends_replays script done c (log_of round c) a.driver a.new_driver a.column a.new_column (ends_at c a);
          journals = λ r key rlt klt.
              let each = left.journals_are.each r key rlt klt in
              subst (λ (rows : List (List CellState)). EachAnswered (cell_at rows r key) (journal_of round r key)) w.at.within.cells each.replayed.answered;
          matched = λ c r key lt rlt klt. (left.journals_are.each r key rlt klt).matched c
              (subst (λ n. c < n) (sym (length-map columns (λ (x : ColumnView). x.log) ∙ count)) lt);
          globals = tt;
        }

    of_run : (c : ℕ) (column : ColumnView) → slice_get (map without_log columns) c ≡ Some column → IsOfRun run column
    of_run c column at =
        let was = from_image without_log columns c column at in
        let b = beside c was.0 was.1 in
        let a = b.0 in
        let e = ends_at c a in
        let old = each_here (IsOfRun run) store.whole.columns c a.column w.at.within.sizes.each a.column_at in
        let setting = ends_setting script done c (log_of round c) a.driver a.new_driver a.column a.new_column e in
        let idle = ends_idle script done c (log_of round c) a.driver a.new_driver a.column a.new_column e in
        let new : IsOfRun run a.new_column =
        record {
          version = ap (λ (s : Setting). s.version) setting;
          faults = ap (λ (s : Setting). s.faults) setting;
          keys = ap (λ (s : Setting). s.keys) setting;
          idle = ap (λ (work : Work). wanted work) idle;
        } in
        subst (IsOfRun run) (sym was.2) (subst (λ (x : ColumnView). IsOfRun run (without_log x)) b.1
        record { version = new.version; faults = new.faults; keys = new.keys; idle = new.idle })

    numbers_are : map (λ (x : ColumnView). x.number) (map without_log columns) ≡ numbers_from 0 (column_count script)
    numbers_are =
        numbers_placed 0 (column_count script) (map (λ (x : ColumnView). x.number) (map without_log columns))
        (length-map (map without_log columns) (λ (x : ColumnView). x.number) ∙ length-map columns without_log ∙ count)
        (λ c n at.
        let one = from_image (λ (x : ColumnView). x.number) (map without_log columns) c n at in
        let two = from_image without_log columns c one.0 one.1 in
        let b = beside c two.0 two.1 in
        let a = b.0 in
        let same : c ≡ 0 + c = omega arith in
        one.2 ∙ ap (λ (x : ColumnView). x.number) two.2 ∙ ap (λ (x : ColumnView). x.number) (sym b.1)
        ∙ ends_number script done c (log_of round c) a.driver a.new_driver a.column a.new_column (ends_at c a) ∙ same)

    sizes : HasSizes run after.whole
    sizes =
        record {
          faults = w.at.within.sizes.faults;
          keys = w.at.within.sizes.keys;
          changes = w.at.within.sizes.changes;
          columns = length-map columns without_log ∙ count;
          numbers = numbers_are;
          each = each_placed (IsOfRun run) (map without_log columns) of_run;
          replicas = left.journals_are.cells.all;
          rows = left.journals_are.cells.each;
        }

    columns_are : states_in after.whole.columns ≡ columns_after_logs (setting_of run state) round 0 state.columns
    columns_are =
        columns_after (setting_of run state) round 0 state.columns (states_in (map without_log columns))
        (length-map (map without_log columns) (λ (x : ColumnView). x.state) ∙ length-map columns without_log ∙ count ∙ sym (columns_behind script done))
        (λ k old new at to.
        let one = from_image (λ (x : ColumnView). x.state) (map without_log columns) k new to in
        let two = from_image without_log columns k one.0 one.1 in
        let b = beside k two.0 two.1 in
        let a = b.0 in
        let old_is : Some a.column.state ≡ Some old =
        sym (to_image (λ (x : ColumnView). x.state) store.whole.columns k a.column a.column_at)
        ∙ ap (λ (cs : List ColumnState). slice_get cs k) w.at.within.columns ∙ at in
        let same : a.column.state ≡ old = cc old_is in
        one.2 ∙ ap (λ (x : ColumnView). x.state) two.2 ∙ ap (λ (x : ColumnView). x.state) (sym b.1)
        ∙ ends_state script done k (log_of round k) a.driver a.new_driver a.column a.new_column (ends_at k a)
        ∙ ap (λ (s : ColumnState). column_through (setting_of run state) s (log_of round k)) (sym (state_at k a.column a.column_at) ∙ same)
        ∙ ap (λ i. column_through (setting_of run state) old (log_of round i)) (omega arith))

    cells_are : after.whole.cells ≡ cells_after_journals round 0 state.cells
    cells_are =
        rows_after round (length script.keys) 0 state.cells cells
        (left.journals_are.cells.all ∙ sym w.at.within.sizes.replicas ∙ ap (λ (rows : List (List CellState)). length rows) w.at.within.cells)
        (subst (Each (λ (row : List CellState). length row ≡ length script.keys)) w.at.within.cells w.at.within.sizes.rows)
        left.journals_are.cells.each
        (λ r key lt klt.
        let rlt : r < members script.size =
        subst (λ n. r < n) (ap (λ (rows : List (List CellState)). length rows) (sym w.at.within.cells) ∙ w.at.within.sizes.replicas) lt in
        let each = left.journals_are.each r key rlt klt in
        each.replayed.closes
        ∙ ap (λ (rows : List (List CellState)). cell_through (cell_at rows r key) (journal_of round r key)) w.at.within.cells
        ∙ ap (λ q. cell_through (cell_at state.cells r key) (journal_of round q key)) (omega arith))

    within : IsWithin SnapStands run after.whole (after_logs run round state)
    within =
        record {
          sizes = sizes;
          columns = columns_are;
          cells = cells_are;
          epochs = w.at.within.epochs;
          count = w.at.within.count;
        }

    pub worked : HasWorked script done round after
    worked =
        record {
          begun = w.begun;
          globals = refl;
          legal = legal;
          turned = λ c lt. let a = at_number c lt in ends_turned script done c (log_of round c) a.driver a.new_driver a.column a.new_column (ends_at c a);
          within = within;
          as_many = left.ended.drivers_are ∙ w.as_many;
          over = λ c driver at.
              let lt : c < column_count script = subst (λ n. c < n) (left.ended.drivers_are ∙ w.as_many) (slice_get_within drivers c driver at) in
              let a = at_number c lt in
              ends_over script done round c a.driver driver a.column a.new_column lt
              (ends c a.driver driver a.column a.new_column a.driver_at at a.column_at a.new_column_at);
        }
