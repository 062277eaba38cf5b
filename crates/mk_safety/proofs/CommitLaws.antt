-- The laws on which it rests that what is learned to commit is explained.
use Rattle.std.specs.Prelude.{◌≡◌, ℕ, List}
use Rattle.mk_copy_laws.specs.LatestLaws.{LatestWriteFound, LatestWriteNone}
use Rattle.mk_txn.specs.LatestWrites.{first_version, latest_write}
use Rattle.mk_txn.specs.Transactions.{Transaction}
use Rattle.mk_model.specs.OneCopy.{HaveDistinctStamps, one_copy, version_in}
use Rattle.mk_words.specs.Promises.{PromiseState}
use Rattle.mk_merge_laws.specs.Composition.{StandsInOrder}
use Rattle.mk_record_laws.specs.Attempts.{AttemptsAreDistinct, AttemptsAreFound, UnreadIsNotStamped}
use Rattle.mk_record_laws.specs.Listed.{LearningsAreListed}
use Rattle.mk_run_laws.specs.Dates.{ServedWas, ServersEntered}
use Rattle.mk_run_laws.specs.Joins.{EpochsJoin}
use Rattle.mk_run_laws.specs.Learnt.{LogsAreLearnt, BasesAreLearnt}
use Rattle.mk_run_laws.specs.Lifts.{ItemsInRuns}
use Rattle.mk_run_laws.specs.RunLaws.{ReadsInRuns, IdsInRuns, StampsNameColumns}
use Rattle.mk_base_laws.specs.Marks.{BaseMarks}
use Rattle.mk_fate_laws.specs.Reasons.{EnteredInForce}
use Rattle.mk_fate_laws.specs.Fates.{BackedRests, RestsStand, CommitsFit}
use Rattle.mk_cause_laws.proofs.Lower.{Lower}
use Rattle.mk_safety.specs.Agreeing.{LearningsRest}

-- those of refusals are among them
pub record CommitLaws : Type 0 where
  pub below : Lower
  pub copy : (commits : List Transaction) (key : ℕ) → HaveDistinctStamps commits → version_in (one_copy commits) key ≡ latest_write key first_version commits
  pub write_found : LatestWriteFound
  pub write_none : LatestWriteNone
  pub in_order : (f epoch : ℕ) (promises : List PromiseState) → StandsInOrder f epoch promises
  pub distinct : AttemptsAreDistinct
  pub found : AttemptsAreFound
  pub unread : UnreadIsNotStamped
  pub listed : LearningsAreListed
  pub got : ReadsInRuns
  pub identity : IdsInRuns
  pub items : ItemsInRuns
  pub apart : StampsNameColumns
  pub served : ServedWas
  pub servers : ServersEntered
  pub in_force : EnteredInForce
  pub epochs : EpochsJoin
  pub rest : LearningsRest
  pub logs : LogsAreLearnt
  pub bases : BasesAreLearnt
  pub marks : BaseMarks
  pub backed : BackedRests
  pub stand : RestsStand
  pub fit : CommitsFit
