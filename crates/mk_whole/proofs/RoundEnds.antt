-- What the replay of a round promises, from what its parts do.
use Rattle.std.proofs.Common.{◌≡◌, ◌∙◌, ℕ, true, sym, ap, subst, List, [], Option, None}
use Rattle.std.specs.Prelude.{is_some, Result, IfOk}
use Rattle.std.proofs.lemmas.Result.{IfOk-weaker}
use Rattle.mk_txn.specs.declared.NoMemory.{NoMemory}
use Rattle.mk_words.specs.Cells.{CellState}
use Rattle.mk_words.specs.declared.GlobalEntry.{GlobalEntry}
use Rattle.mk_column.specs.ColumnByCode.{ColumnView}
use Rattle.mk_history.specs.declared.RoundLog.{RoundLog}
use Rattle.mk_history.specs.Histories.{History}
use Rattle.mk_history.specs.Wholes.{WholeState, after_logs, after_round, globals_through}
use Rattle.mk_replay_laws.specs.AtLines.{LinesAreReady}
use Rattle.mk_verdict.specs.declared.PlacedFlaw.{PlacedFlaw}
use Rattle.mk_verdict.specs.Flaws.{flaw_of_globals, flaw_of_round}
use Rattle.mk_whole.specs.Journals.{keys_done}
use Rattle.mk_whole.specs.Logs.{column_done}
use Rattle.mk_whole.specs.Pairs.{each_done}
use Rattle.mk_words.specs.Bases.{BaseState}
use Rattle.mk_state.specs.Standings.{WholeView, IsAt, IsWithin, IsBegun}
use Rattle.mk_whole.specs.Standings.{MayReplay, LinesMayBeDone, IsItself}
use Rattle.mk_whole.specs.Working.{MayWork, flaw_of_work}
use Rattle.mk_whole.proofs.RoundReplay.{state_at, work-may, globals-may, flaw-early, flaw-late, round-over}

-- the round's work has no flaw, and its global lines can be done
pub record IsWorked (run : History) (done : List RoundLog) (round : RoundLog) (whole : WholeView BaseState) : Type 0 where
  pub none : flaw_of_work run (state_at run done) round ≡ None
  pub lines : LinesMayBeDone run (after_logs run round (state_at run done)) whole round.globals

-- so it is for each run of which this is the next round
abbrev pub Works : WholeView BaseState → RoundLog → WholeView BaseState → Type 0
Works start round whole = (run : History) (done : List RoundLog) → MayReplay run done start round → IsWorked run done round whole

-- the columns and cells were handed out behind the round's beginning, and what came of them was taken back
module _ (start begun taken put : WholeView BaseState) (round : RoundLog) (f keys : ℕ) (before columns : List ColumnView) (cells_before cells : List (List CellState)) (flaw : Option PlacedFlaw)
    (begins : (run : History) (state : WholeState) → IsAt IsItself run start state → IsBegun IsItself run begun state)
    (out : taken ≡ record begun { columns = []; cells = [] }) (f_is : f ≡ taken.faults) (keys_are : keys ≡ taken.keys) (before_is : before ≡ begun.columns) (cells_were : cells_before ≡ begun.cells) where
  begun-here : (run : History) (done : List RoundLog) → MayReplay run done start round → IsBegun IsItself run begun (state_at run done)
  begun-here run done may = begins run (state_at run done) may.at

  pub work-here : (run : History) (done : List RoundLog) → MayReplay run done start round → MayWork run (state_at run done) f keys before cells_before round
  work-here run done may =
      let state = state_at run done in
      let work = work-may run done start begun round may (begun-here run done may) in
      let size : begun.faults ≡ f = sym (f_is ∙ ap (λ (v : WholeView BaseState). v.faults) out) in
      let count : begun.keys ≡ keys = sym (keys_are ∙ ap (λ (v : WholeView BaseState). v.keys) out) in
      let first = subst (λ (n : ℕ). MayWork run state n begun.keys begun.columns begun.cells round) size work in
      let second = subst (λ (n : ℕ). MayWork run state f n begun.columns begun.cells round) count first in
      let third = subst (λ (cs : List ColumnView). MayWork run state f keys cs begun.cells round) (sym before_is) second in
      subst (λ (rows : List (List CellState)). MayWork run state f keys before rows round) (sym cells_were) third

  module _ (tells : (run : History) (state : WholeState) → MayWork run state f keys before cells_before round → flaw ≡ flaw_of_work run state round) where
    -- a flaw of the work is the round's first
    pub works-not : true ≡ is_some flaw → (run : History) (done : List RoundLog) → MayReplay run done start round → flaw ≡ flaw_of_round run (state_at run done) round
    works-not some run done may = flaw-early run (state_at run done) round flaw (tells run (state_at run done) (work-here run done may)) some

    pub works : LinesAreReady → put ≡ record taken { columns = columns; cells = cells } → flaw ≡ None →
        columns ≡ each_done column_done before round.logs → cells ≡ each_done keys_done cells_before round.journals → Works start round put
    works law back no_flaw columns_are cells_are run done may =
        let none = sym (tells run (state_at run done) (work-here run done may)) ∙ no_flaw in
        let whole : put ≡ record begun { columns = columns; cells = cells } = back ∙ ap (λ (v : WholeView BaseState). record v { columns = columns; cells = cells }) out in
        let first = columns_are ∙ ap (λ (cs : List ColumnView). each_done column_done cs round.logs) before_is in
        let second = cells_are ∙ ap (λ (rows : List (List CellState)). each_done keys_done rows round.journals) cells_were in
        record {
          none = none;
          lines = subst (λ (v : WholeView BaseState). LinesMayBeDone run (after_logs run round (state_at run done)) v round.globals) (sym whole)
              (globals-may run done start begun round columns cells law may (begun-here run done may) none first second);
        }

-- what the lines tell is the round's first flaw
pub round-told : (r : Result (Option PlacedFlaw) NoMemory) (start whole : WholeView BaseState) (entries : List GlobalEntry) (round : RoundLog) → entries ≡ round.globals → Works start round whole →
    IfOk r (λ flaw. (run : History) (state : WholeState) → LinesMayBeDone run state whole entries → flaw ≡ flaw_of_globals run state 1 entries) →
    IfOk r (λ flaw. (run : History) (done : List RoundLog) → MayReplay run done start round → flaw ≡ flaw_of_round run (state_at run done) round)
round-told r start whole entries round is worked told =
    IfOk-weaker r (λ flaw. (run : History) (state : WholeState) → LinesMayBeDone run state whole entries → flaw ≡ flaw_of_globals run state 1 entries)
    (λ flaw. (run : History) (done : List RoundLog) → MayReplay run done start round → flaw ≡ flaw_of_round run (state_at run done) round)
    (λ flaw tells run done may.
    let w = worked run done may in
    let state = after_logs run round (state_at run done) in
    let lines = subst (λ (es : List GlobalEntry). LinesMayBeDone run state whole es) (sym is) w.lines in
    flaw-late run (state_at run done) round flaw w.none (tells run state lines ∙ ap (flaw_of_globals run state 1) is))
    told

-- and what they leave is the state behind the round
pub round-left : (r : Result (Option PlacedFlaw) NoMemory) (start whole new : WholeView BaseState) (entries : List GlobalEntry) (round : RoundLog) → entries ≡ round.globals → Works start round whole →
    IfOk r (λ flaw. flaw ≡ None → (run : History) (state : WholeState) → LinesMayBeDone run state whole entries → IsWithin IsItself run new (globals_through run state entries)) →
    IfOk r (λ flaw. flaw ≡ None → (run : History) (done : List RoundLog) → MayReplay run done start round → IsAt IsItself run new (after_round run round (state_at run done)))
round-left r start whole new entries round is worked left =
    IfOk-weaker r (λ flaw. flaw ≡ None → (run : History) (state : WholeState) → LinesMayBeDone run state whole entries → IsWithin IsItself run new (globals_through run state entries))
    (λ flaw. flaw ≡ None → (run : History) (done : List RoundLog) → MayReplay run done start round → IsAt IsItself run new (after_round run round (state_at run done)))
    (λ flaw leaves none run done may.
    let w = worked run done may in
    let state = after_logs run round (state_at run done) in
    let lines = subst (λ (es : List GlobalEntry). LinesMayBeDone run state whole es) (sym is) w.lines in
    round-over run (state_at run done) new round (subst (λ (es : List GlobalEntry). IsWithin IsItself run new (globals_through run state es)) is (leaves none run state lines)))
    left
