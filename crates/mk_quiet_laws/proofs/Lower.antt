-- The laws on which that of this crate rests.
use Rattle.mk_basic_laws.specs.CellMemory.{CellsHaveProvenance, ReadRefusalsName, WriteRefusalsName, StampsRise}
use Rattle.mk_column_laws.specs.ActLaws.{ActsHaveOrigin, ChecksOfStamp, CommitsOfFinal, NoCheckAfterCommit, RefusalOfAbort}
use Rattle.mk_column_laws.specs.Identity.{IdsOnce, StampsName}
use Rattle.mk_column_laws.specs.Laws.{VotedTrue, FinalWasSent, RecordIsPast}
use Rattle.mk_column_laws.specs.Reading.{ReadsWereGot}
use Rattle.mk_record_laws.specs.Attempts.{AttemptsAreFound}
use Rattle.mk_record_laws.specs.Finishing.{CommitsAreDone}
use Rattle.mk_record_laws.specs.Listed.{LearningsAreListed, FirstIsFirstHand}
use Rattle.mk_run_laws.specs.Joins.{EndsJoin, ColumnsAreNumbered}
use Rattle.mk_run_laws.specs.Learnt.{LogsAreLearnt, ColumnsListInOrder}
use Rattle.mk_run_laws.specs.Lifts.{MomentsOfRounds, IdsAreOfColumns, ActsInRange}
use Rattle.mk_run_laws.specs.RunLaws.{TeachingStays, RunsReachMoments}
use Rattle.mk_safety.specs.FirstPaths.{FirstPathIsOwn}
use Rattle.mk_driver_laws.specs.Enabled.{HasComeAtFirst, HasComeAfterStep}

pub record Lower : Type 0 where
  pub provenance : CellsHaveProvenance
  pub reads : ReadRefusalsName
  pub writes : WriteRefusalsName
  pub stamps_rise : StampsRise
  pub origins : ActsHaveOrigin
  pub checks : ChecksOfStamp
  pub commits : CommitsOfFinal
  pub no_check : NoCheckAfterCommit
  pub refusal : RefusalOfAbort
  pub ids : IdsOnce
  pub names : StampsName
  pub got : ReadsWereGot
  pub voted : VotedTrue
  pub final_sent : FinalWasSent
  pub record_past : RecordIsPast
  pub found : AttemptsAreFound
  pub done : CommitsAreDone
  pub listed : LearningsAreListed
  pub first_hand : FirstIsFirstHand
  pub ends : EndsJoin
  pub columns : ColumnsAreNumbered
  pub logs_learnt : LogsAreLearnt
  pub in_order : ColumnsListInOrder
  pub moments : MomentsOfRounds
  pub ids_of : IdsAreOfColumns
  pub ranges : ActsInRange
  pub teaching : TeachingStays
  pub reach : RunsReachMoments
  pub path_own : FirstPathIsOwn
  pub come_first : HasComeAtFirst
  pub come_step : HasComeAfterStep
