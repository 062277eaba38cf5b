-- The logs and the journals of a round, replayed from a state.
use Rattle.std.specs.Prelude.{◌≡◌, ◌≤◌, ℕ, List, length, map, Option}
use Rattle.std.specs.Option.{option_or}
use Rattle.mk_lists.specs.Among.{Each}
use Rattle.mk_quorum.specs.Sizes.{members}
use Rattle.mk_words.specs.Cells.{CellState}
use Rattle.mk_column.specs.ColumnByCode.{ColumnView}
use Rattle.mk_history.specs.declared.RoundLog.{RoundLog}
use Rattle.mk_history.specs.Histories.{History}
use Rattle.mk_history.specs.Shape.{IsRoundShape}
use Rattle.mk_history.specs.Wholes.{WholeState, setting_of}
use Rattle.mk_verdict.specs.declared.PlacedFlaw.{PlacedFlaw}
use Rattle.mk_verdict.specs.Flaws.{flaw_of_logs, flaw_of_journals, flaw_of_matches}

-- they can be replayed on these columns and cells: these are the state's, and the round has the run's shape
pub record MayWork (run : History) (state : WholeState) (f keys : ℕ) (columns : List ColumnView) (cells : List (List CellState)) (round : RoundLog) : Type 0 where
  pub faults : f ≡ run.faults
  pub keys_are : keys ≡ length run.key_names
  pub few_keys : length run.key_names ≤ 256
  pub few_columns : run.columns ≤ 8
  pub few_replicas : members run.faults ≤ 7
  pub shape : IsRoundShape run round
  pub count : length columns ≡ run.columns
  pub settings : Each (λ column. column.setting ≡ setting_of run state) columns
  pub states : map (λ column. column.state) columns ≡ state.columns
  pub cells_are : cells ≡ state.cells
  pub replicas : length cells ≡ members run.faults
  pub rows : Each (λ row. length row ≡ length run.key_names) cells

-- the first flaw of the logs, the journals, and the matches of a round
abbrev pub flaw_of_work : History → WholeState → RoundLog → Option PlacedFlaw
flaw_of_work run state round =
    option_or (flaw_of_logs run state round) (option_or (flaw_of_journals run state round) (flaw_of_matches run round))
