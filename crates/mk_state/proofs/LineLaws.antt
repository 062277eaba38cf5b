-- What is kept behind a global line that was replayed.
use Rattle.std.proofs.Common.{inl, ◌≡◌, ◌<◌, ℕ, zero, suc, Bool, true, false, refl, sym, ap, subst, ◌∙◌, List, [], ◌∷◌, length, map, Option, Some, if◌then◌else◌}
use Rattle.std.specs.Prelude.{slice_get, slice_set, Result, Ok, Err, IfOk}
use Rattle.std.proofs.lemmas.Result.{IfOk-weaker}
use Rattle.std.proofs.lemmas.List.{length-set}
use Rattle.mk_quorum.specs.Sizes.{members}
use Rattle.mk_lists.specs.Among.{Each, Each-weaker}
use Rattle.mk_txn.specs.MarkMaps.{MarkMap}
use Rattle.mk_words.specs.Bases.{BaseState}
use Rattle.mk_words.specs.Cells.{CellState}
use Rattle.mk_words.specs.declared.Entry.{Entry}
use Rattle.mk_words.specs.declared.GlobalLine.{GlobalLine}
use Rattle.mk_words.specs.declared.GlobalLine.TheVariants.{Promise, Merge, Adopt}
use Rattle.mk_words.specs.declared.GlobalAnswer.{GlobalAnswer}
use Rattle.mk_words.specs.declared.GlobalAnswer.TheVariants.{Ok as Done}
use Rattle.mk_model.specs.ColumnState.{ColumnState}
use Rattle.mk_model.specs.EpochState.{EpochState, ReplicaState, made_for, promises_for}
use Rattle.mk_model.specs.GlobalAnswers.{global_answer, is_accepted}
use Rattle.mk_model.specs.GlobalSteps.{HandedIn, nothing_handed, GlobalStep, global_after, base_or_empty}
use Rattle.mk_model.specs.Logs.{replica_reset}
use Rattle.mk_column.specs.ColumnByCode.{ColumnView}
use Rattle.mk_txn.specs.declared.NoMemory.{NoMemory}
use Rattle.mk_words.specs.Promises.{ArePromises}
use Rattle.mk_words.specs.Rebuilding.{NamesBelow}
use Rattle.mk_replay_laws.specs.AtLines.{IsReady}
use Rattle.mk_epoch.specs.declared.EpochError.{EpochError}
use Rattle.mk_epoch.specs.Standing.{ReplicasView, StandsFor, Does, Merges, refusal_of}
use Rattle.mk_history.specs.Histories.{History}
use Rattle.mk_history.specs.Wholes.{WholeState, after_line, after_global, handed_in, restarted, rebuilt_cells, entries_of, marks_of}
use Rattle.mk_state.specs.Handing.{states_in, column_reset}
use Rattle.mk_state.specs.Standings.{WholeView, IsOfRun, IsWithin, MayDo, WasDone}
use Rattle.mk_state.proofs.LineFacts.{told-exactly, refused}
use Rattle.mk_state.proofs.ReplicaCount.{count-global}
use Rattle.mk_state.proofs.Restarting.{columns-reset, of_run-reset, count-reset, numbers-reset, each-set, rebuilt-count, adopted-base, made-names}

-- what a line changes beside the epoch machine
abbrev pub beside : History → WholeState → GlobalLine → GlobalAnswer → WholeState
beside run state line answer = if is_accepted answer then after_line run line state else state

-- a refused line changes nothing
pub beside-refused : (run : History) (state : WholeState) (line : GlobalLine) (answer : GlobalAnswer) → is_accepted answer ≡ false → beside run state line answer ≡ state
beside-refused run state line answer e = ap (λ (b : Bool). if b then after_line run line state else state) e

-- nor does one that has only the epoch machine to change
pub beside-same : (run : History) (state : WholeState) (line : GlobalLine) (answer : GlobalAnswer) → after_line run line state ≡ state → beside run state line answer ≡ state
beside-same run state line answer e = by (is_accepted answer)
  where
    by : (b : Bool) → (if b then after_line run line state else state) ≡ state
    by true = e
    by false = refl

pub outcome-refused : (run : History) (state : WholeState) (line : GlobalLine) (answer : GlobalAnswer) → is_accepted answer ≡ false →
    after_global run state (record { line = line; answer = answer }) ≡ state
outcome-refused run state line answer e =
    ap (λ (b : Bool). record (if b then after_line run line state else state) { epochs = if b then global_after state.epochs (handed_in state line) line else state.epochs }) e

module _ {B : Type 0} (stands : B → BaseState → Type 0) (run : History) (state : WholeState) (old : WholeView B) (line : GlobalLine) (answer : GlobalAnswer) (within : IsWithin stands run old state) where
  -- a line that was refused before any call
  pub refused-early : answer ≡ global_answer state.epochs line → is_accepted answer ≡ false → WasDone stands run state line answer old
  refused-early told out =
      record {
        answered = inl told;
        within = subst (λ (s : WholeState). IsWithin stands run old s) (sym (outcome-refused run state line answer out)) within;
      }

  module _ (epochs : ReplicasView B) (size : epochs.faults ≡ old.epochs.faults) (after : EpochState)
      (step : GlobalStep state.epochs (handed_in state line) line answer after) (later : StandsFor stands epochs after) where
    stands_then : StandsFor stands epochs (after_global run state (record { line = line; answer = answer })).epochs
    stands_then = subst (λ (e : EpochState). StandsFor stands epochs e) step.after later

    count_then : length (after_global run state (record { line = line; answer = answer })).epochs.replicas ≡ members run.faults
    count_then = count-global run state (record { line = line; answer = answer }) ∙ within.count

    -- a line that changed nothing but the epoch machine
    pub goes_on : beside run state line answer ≡ state → WasDone stands run state line answer (record old { epochs = epochs })
    goes_on same =
        let sizes = within.sizes in
        record {
          answered = step.answered;
          within = record {
            sizes = record { faults = sizes.faults; keys = sizes.keys; changes = size ∙ sizes.changes; columns = sizes.columns; numbers = sizes.numbers; each = sizes.each; replicas = sizes.replicas; rows = sizes.rows };
            columns = within.columns ∙ ap (λ (s : WholeState). s.columns) (sym same);
            cells = within.cells ∙ ap (λ (s : WholeState). s.cells) (sym same);
            epochs = stands_then;
            count = count_then;
          };
        }

    -- a line by which the replica began anew with the cells of a base
    pub begins_anew : (r : ℕ) (base : BaseState) (cells : List CellState) → cells ≡ rebuilt_cells (length run.key_names) base →
        beside run state line answer ≡ restarted run r base state →
        WasDone stands run state line answer (record old { columns = map (column_reset r) old.columns; cells = slice_set old.cells r cells; epochs = epochs })
    begins_anew r base cells is same =
        let sizes = within.sizes in
        let count : length cells ≡ length run.key_names = ap (λ (row : List CellState). length row) is ∙ rebuilt-count (length run.key_names) base in
        record {
          answered = step.answered;
          within = record {
            sizes = record {
              faults = sizes.faults;
              keys = sizes.keys;
              changes = size ∙ sizes.changes;
              columns = count-reset r old.columns ∙ sizes.columns;
              numbers = numbers-reset r old.columns ∙ sizes.numbers;
              each = of_run-reset run r old.columns sizes.each;
              replicas = length-set old.cells r cells ∙ sizes.replicas;
              rows = each-set (λ row. length row ≡ length run.key_names) old.cells r cells sizes.rows count;
            };
            columns = columns-reset r old.columns ∙ ap (λ (columns : List ColumnState). map (replica_reset r) columns) within.columns ∙ ap (λ (s : WholeState). s.columns) (sym same);
            cells = ap (λ (rows : List (List CellState)). slice_set rows r cells) within.cells ∙ ap (λ (row : List CellState). slice_set state.cells r row) is
                ∙ ap (λ (s : WholeState). s.cells) (sym same);
            epochs = stands_then;
            count = count_then;
          };
        }

-- a promise hands in what the columns have at the replica
pub handed-in : {B : Type 0} (stands : B → BaseState → Type 0) (run : History) (state : WholeState) (old : WholeView B) (epoch r : ℕ) (entries : List Entry) (marks : MarkMap) →
    IsWithin stands run old state → entries ≡ entries_of (states_in old.columns) r → marks ≡ marks_of (states_in old.columns) r →
    record { entries = entries; marks = marks } ≡ handed_in state (Promise epoch r)
handed-in stands run state old epoch r entries marks within entries_are marks_are =
    let first : entries ≡ entries_of state.columns r = entries_are ∙ ap (λ (columns : List ColumnState). entries_of columns r) within.columns in
    let second : marks ≡ marks_of state.columns r = marks_are ∙ ap (λ (columns : List ColumnState). marks_of columns r) within.columns in
    cc

module _ {B : Type 0} (stands : B → BaseState → Type 0) where
  -- what is kept stands for the state behind the line with this answer
  abbrev pub LeadsTo : ReplicasView B → WholeState → GlobalLine → GlobalAnswer → Type 0
  LeadsTo epochs state line answer = (after : EpochState) × GlobalStep state.epochs (handed_in state line) line answer after × StandsFor stands epochs after

  pub does-leads : (old new : ReplicasView B) (state : WholeState) (handed : HandedIn) (line : GlobalLine) (told : Option GlobalAnswer) (answer : GlobalAnswer) →
      handed ≡ handed_in state line → told ≡ Some answer → StandsFor stands old state.epochs → Does stands old new handed line told → LeadsTo new state line answer
  does-leads old new state handed line told answer handed_is is stood does =
      let at_answer = subst (λ (t : Option GlobalAnswer). Does stands old new handed line t) is does in
      subst (λ (h : HandedIn). (after : EpochState) × GlobalStep state.epochs h line answer after × StandsFor stands new after) handed_is (at_answer state.epochs stood)

  pub merges-leads : (old new : ReplicasView B) (state : WholeState) (epoch : ℕ) (told : Option GlobalAnswer) (answer : GlobalAnswer) →
      told ≡ Some answer → StandsFor stands old state.epochs → ArePromises (promises_for epoch state.epochs) → Merges stands old new epoch told → LeadsTo new state (Merge epoch) answer
  merges-leads old new state epoch told answer is stood fit merges =
      let at_answer = subst (λ (t : Option GlobalAnswer). Merges stands old new epoch t) is merges in
      at_answer state.epochs stood fit

  -- what a call promises of its answer
  abbrev pub Answers : WholeView B → WholeView B → GlobalLine → GlobalAnswer → Type 0
  Answers old new line answer = (run : History) (state : WholeState) → MayDo stands run state old line → WasDone stands run state line answer new

  module _ (old now : WholeView B) (line : GlobalLine) (epochs : ReplicasView B) (is : old ≡ now) (size : epochs.faults ≡ old.epochs.faults) where
    -- a call that was done, of a line that changes nothing beside the epoch machine
    pub done-by : (answer : GlobalAnswer) → ((run : History) (state : WholeState) → after_line run line state ≡ state) →
        ((run : History) (state : WholeState) → MayDo stands run state old line → LeadsTo epochs state line answer) → Answers now (record old { epochs = epochs }) line answer
    done-by answer same leads run state may =
        let m = subst (λ (v : WholeView B). MayDo stands run state v line) (sym is) may in
        let next = leads run state m in
        goes_on stands run state old line answer m.within epochs size next.0 next.1 next.2 (beside-same run state line answer (same run state))

    -- a call that was refused
    pub refused-by : (error : EpochError) (r : Result GlobalAnswer NoMemory) → IfOk r (λ answer. refusal_of error ≡ Some answer) →
        ((run : History) (state : WholeState) → MayDo stands run state old line → (answer : GlobalAnswer) → refusal_of error ≡ Some answer → LeadsTo epochs state line answer) →
        IfOk r (Answers now (record old { epochs = epochs }) line)
    refused-by error r told leads =
        IfOk-weaker r (λ answer. refusal_of error ≡ Some answer) (Answers now (record old { epochs = epochs }) line)
        (λ answer e run state may.
        let m = subst (λ (v : WholeView B). MayDo stands run state v line) (sym is) may in
        let next = leads run state m answer e in
        goes_on stands run state old line answer m.within epochs size next.0 next.1 next.2 (beside-refused run state line answer (refused error answer e)))
        told

  -- a line that was refused before any call
  pub refused-before : (old now : WholeView B) (line : GlobalLine) (error : EpochError) (r : Result GlobalAnswer NoMemory) → old ≡ now → IfOk r (λ answer. refusal_of error ≡ Some answer) →
      ((run : History) (state : WholeState) → MayDo stands run state old line → refusal_of error ≡ Some (global_answer state.epochs line)) → IfOk r (Answers now now line)
  refused-before old now line error r is told gives =
      IfOk-weaker r (λ answer. refusal_of error ≡ Some answer) (Answers now now line)
      (λ answer e run state may.
      let m = subst (λ (v : WholeView B). MayDo stands run state v line) (sym is) may in
      let given : Some answer ≡ Some (global_answer state.epochs line) = sym e ∙ gives run state m in
      let same : answer ≡ global_answer state.epochs line = cc in
      refused-early stands run state now line answer may.within same (refused error answer e))
      told

-- the columns that a line's replica is one of
pub columns-there : (run : History) (r : ℕ) (columns : List ColumnView) → r < members run.faults → Each (IsOfRun run) columns → Each (λ column. r < members column.setting.faults) columns
columns-there run r columns there each =
    Each-weaker (IsOfRun run) (λ column. r < members column.setting.faults) (λ column h. subst (λ (f : ℕ). r < members f) (sym h.faults) there) columns each

map-set : {X Y : Type 0} (f : X → Y) (xs : List X) (i : ℕ) (x : X) → map f (slice_set xs i x) ≡ slice_set (map f xs) i (f x)
map-set f [] i x = refl
map-set f (y ∷ xs) zero x = refl
map-set f (y ∷ xs) (suc i) x = ap (λ rest. f y ∷ rest) (map-set f xs i x)

-- the cells of one replica are set
pub cells-set : {V : Type 0} (f : V → List CellState) (rows : List V) (i : ℕ) (row : V) → map f (slice_set rows i row) ≡ slice_set (map f rows) i (f row)
cells-set f rows i row = map-set f rows i row

module _ {B : Type 0} where
  abbrev whole_of : ℕ → ℕ → List ColumnView → List (List CellState) → ReplicasView B → WholeView B
  whole_of f k cs rows es = record { faults = f; keys = k; columns = cs; cells = rows; epochs = es }

  five : (f g k l : ℕ) (cs ds : List ColumnView) (rows others : List (List CellState)) (es gs : ReplicasView B) → f ≡ g → k ≡ l → cs ≡ ds → rows ≡ others → es ≡ gs →
      whole_of f k cs rows es ≡ whole_of g l ds others gs
  five f g k l cs ds rows others es gs a b c d e =
      ap (λ (x : ℕ). whole_of x k cs rows es) a
      ∙ ap (λ (x : ℕ). whole_of g x cs rows es) b
      ∙ ap (λ (x : List ColumnView). whole_of g l x rows es) c
      ∙ ap (λ (x : List (List CellState)). whole_of g l ds x es) d
      ∙ ap (λ (x : ReplicasView B). whole_of g l ds others x) e

  pub restart-is : (old now new : WholeView B) (r : ℕ) (row : List CellState) → old ≡ now → new.faults ≡ old.faults → new.keys ≡ old.keys → new.columns ≡ map (column_reset r) old.columns →
      new.cells ≡ slice_set old.cells r row → new.epochs ≡ old.epochs → new ≡ record now { columns = map (column_reset r) now.columns; cells = slice_set now.cells r row }
  restart-is old now new r row is faults keys columns cells epochs =
      let same : new ≡ record old { columns = map (column_reset r) old.columns; cells = slice_set old.cells r row } =
      five new.faults old.faults new.keys old.keys new.columns (map (column_reset r) old.columns) new.cells (slice_set old.cells r row) new.epochs old.epochs faults keys columns cells epochs in
      subst (λ (v : WholeView B). new ≡ record v { columns = map (column_reset r) v.columns; cells = slice_set v.cells r row }) is same

-- a base that a replica got by adopting is the epoch's
pub adopted-is : (state : EpochState) (epoch r : ℕ) (after : EpochState) (x : ReplicaState) → GlobalStep state nothing_handed (Adopt epoch r) Done after →
    slice_get after.replicas r ≡ Some x → x.base ≡ base_or_empty (made_for epoch state)
adopted-is state epoch r after x step got =
    let told = told-exactly state (Adopt epoch r) Done step.answered (λ f w. absurd (cc)) in
    let there = subst (λ (s : EpochState). slice_get s.replicas r ≡ Some x) step.after got in
    adopted-base state nothing_handed epoch r x told there

-- so what is kept as it stands for the epoch's
pub adopted-stands : {B : Type 0} (stands : B → BaseState → Type 0) (kept : B) (state : EpochState) (epoch r : ℕ) (after : EpochState) (x : ReplicaState) →
    GlobalStep state nothing_handed (Adopt epoch r) Done after → slice_get after.replicas r ≡ Some x → stands kept x.base → stands kept (base_or_empty (made_for epoch state))
adopted-stands stands kept state epoch r after x step got is = subst (λ (b : BaseState). stands kept b) (adopted-is state epoch r after x step got) is

-- and names no other key than the run has
pub base-names : (run : History) (state : WholeState) (keys epoch : ℕ) → keys ≡ length run.key_names → IsReady run state → NamesBelow keys (base_or_empty (made_for epoch state.epochs))
base-names run state keys epoch is ready =
    subst (λ (k : ℕ). NamesBelow k (base_or_empty (made_for epoch state.epochs))) (sym is) (made-names (length run.key_names) epoch state.epochs ready.names)

-- what holds whatever the answer
pub whatever : {P : Type 0} (r : Result GlobalAnswer NoMemory) → P → IfOk r (λ _. P)
whatever (Ok answer) p = p
whatever (Err error) p = tt
