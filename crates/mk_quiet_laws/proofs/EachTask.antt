-- What each task comes to, where no message is faulty.
use Rattle.std.proofs.Common.{◌≡◌, ℕ, ◌+◌, ◌-◌, Bool, true, false, refl, inl, inr, sym, subst, List, [], ◌∷◌, length, Option, Some, None}
use Rattle.mk_txn.specs.declared.TxnId.{TxnId}
use Rattle.mk_txn.specs.declared.Outcome.{Outcome}
use Rattle.mk_txn.specs.declared.Outcome.TheVariants.{Commit, Abort}
use Rattle.mk_words.specs.declared.Msg.{Msg}
use Rattle.mk_words.specs.Links.{message}
use Rattle.mk_quorum.specs.Slots.{passes}
use Rattle.mk_script.specs.declared.lines.Fate.{Fate}
use Rattle.mk_script.specs.declared.lines.Fate.TheVariants.{Deliver as DeliverFate}
use Rattle.mk_script.specs.declared.lines.Point.{Point}
use Rattle.mk_faults.specs.Fates.{RuleLines, fate_at, stop_of}
use Rattle.mk_client.specs.Wanted.{next_wanted}
use Rattle.mk_words.specs.declared.Step.TheVariants.{Stop, Rule, Takeover as TakeoverStep, Pick}
use Rattle.mk_model.specs.ColumnState.{Setting, ColumnState, AttemptState, attempt_of, numbers_from}
use Rattle.mk_model.specs.Conditions.{blocked}
use Rattle.mk_driver.specs.declared.Task.{Task}
use Rattle.mk_driver.specs.declared.Task.TheVariants.{Deliver, DeliverSince, Take as TakeTask, Notice, Fetch, Reach, Resume, Turns, Takeover, Late, Settle, SettleTakeover}
use Rattle.mk_driver.specs.declared.DriverState.{DriverState}
use Rattle.mk_driver.specs.declared.Request.{Request}
use Rattle.mk_driver.specs.Agenda.{trial_of}
use Rattle.mk_driver.specs.Delivery.{by_fate, delivering, taking, taking_by, taking_late, noticed, own_learned}
use Rattle.mk_driver.specs.Stages.{fetching, fetch_by, reach_by, stopping, same_point}
use Rattle.mk_driver.specs.Settling.{settle_by, settle_takeover_by, takeover_by, resume_by, resume_if, resume_with}
use Rattle.mk_driver.specs.Turns.{work_on}
use Rattle.mk_quiet_laws.proofs.TaskWork.{IsKept, FineWork, kept-itself, turns_fine}

module _ (rules : RuleLines) (delivered : (link : List Msg) (number : ℕ) → fate_at rules link number ≡ DeliverFate) (round : Setting) (column : ColumnState) where
  takes_fine : (number : ℕ) (after : List Task) (driver : DriverState) → FineWork column driver (taking column number after driver)
  takes_fine number after driver = by (message column.link number) refl
    where
      by : (o : Option Msg) → message column.link number ≡ o → FineWork column driver (taking_by column number o after driver)
      by None e = (kept-itself driver, inl e)
      by (Some msg) e = (kept-itself driver, inr (λ other lt. inl lt))

  delivers_fine : (end : ℕ) (numbers : List ℕ) (driver : DriverState) → FineWork column driver (delivering rules column end numbers driver)
  delivers_fine end [] driver = kept-itself driver
  delivers_fine end (number ∷ numbers) driver =
      subst (λ (fate : Fate). FineWork column driver (by_fate column end number fate (delivering rules column end numbers) driver)) (sym (delivered column.link number))
      (takes_fine number (Deliver (number + 1) end ∷ []) driver)

  notices_fine : (id : TxnId) (o : Option Outcome) (driver : DriverState) → IsKept driver (noticed id o driver)
  notices_fine id (Some (Abort cause)) driver = record { agenda = refl; late = refl; held = refl }
  notices_fine id (Some Commit) driver = record { agenda = refl; late = refl; held = refl }
  notices_fine id None driver = kept-itself driver

  fetches_fine : (id : TxnId) (a : Option AttemptState) (r : Option Request) (driver : DriverState) → FineWork column driver (fetching id a r driver)
  fetches_fine id (Some a) (Some request) driver = by (next_wanted request.items a.reads)
    where
      by : (o : Option ℕ) → FineWork column driver (fetch_by id a.reads request o driver)
      by (Some key) = (kept-itself driver, inl tt)
      by None = (kept-itself driver, inl tt)
  fetches_fine id (Some a) None driver = kept-itself driver
  fetches_fine id None r driver = kept-itself driver

  reaches_fine : (id : TxnId) (point : Point) (b : Bool) (driver : DriverState) → FineWork column driver (reach_by round column id point b driver)
  reaches_fine id point true driver = by (blocked round column (Stop id))
    where
      by : (o : Option ℕ) → FineWork column driver (stopping id o driver)
      by None = (kept-itself driver, inl tt)
      by (Some k) = kept-itself driver
  reaches_fine id point false driver = record { agenda = refl; late = refl; held = refl }

  resumes_fine : (id : TxnId) (a : AttemptState) (b : Bool) (driver : DriverState) → FineWork column driver (resume_if column id a b driver)
  resumes_fine id a true driver = by a.coord.proposed
    where
      by : (o : Option Outcome) → FineWork column driver (resume_with column id o driver)
      by (Some o) = (kept-itself driver, inr (λ number lt. inl lt))
      by None = (kept-itself driver, inr (λ number lt. inl lt))
  resumes_fine id a false driver = kept-itself driver

  resume_fine : (id : TxnId) (o : Option AttemptState) (driver : DriverState) → FineWork column driver (resume_by column id o driver)
  resume_fine id (Some a) driver = resumes_fine id a _ driver
  resume_fine id None driver = kept-itself driver

  settles_fine : (id : TxnId) (o : Option ℕ) (driver : DriverState) → FineWork column driver (settle_by column id o driver)
  settles_fine id None driver = (kept-itself driver, inr (λ number lt. inl lt))
  settles_fine id (Some k) driver = kept-itself driver

  picks_fine : (id : TxnId) (view : ℕ) (o : Option ℕ) (driver : DriverState) → FineWork column driver (settle_takeover_by column id view o driver)
  picks_fine id view None driver = (kept-itself driver, inr (λ number lt. inl lt))
  picks_fine id view (Some k) driver = kept-itself driver

  takeovers_fine : (id : TxnId) (view : ℕ) (o : Option ℕ) (driver : DriverState) → FineWork column driver (takeover_by column id view o driver)
  takeovers_fine id view None driver = (kept-itself driver, inr (λ number lt. inl lt))
  takeovers_fine id view (Some k) driver = kept-itself driver

  -- every task, where nothing is late
  pub work_fine : (task : Task) (driver : DriverState) → driver.late ≡ [] → FineWork column driver (work_on rules round column task driver)
  work_fine (Deliver first end) driver none = delivers_fine end (numbers_from first (end - first)) driver
  work_fine (DeliverSince sent) driver none = delivers_fine (length column.link + 1) (numbers_from (sent + 1) (length column.link + 1 - (sent + 1))) driver
  work_fine (TakeTask number) driver none = takes_fine number [] driver
  work_fine (Notice id) driver none = notices_fine id (own_learned column id) driver
  work_fine (Fetch id) driver none = fetches_fine id (attempt_of column id) (trial_of id driver) driver
  work_fine (Reach id point) driver none = reaches_fine id point (passes (same_point point) (stop_of rules id)) driver
  work_fine (Resume id) driver none = resume_fine id (attempt_of column id) driver
  work_fine (Turns place did) driver none = turns_fine round column place did driver
  work_fine (Takeover id view) driver none = takeovers_fine id view (blocked round column (TakeoverStep id view)) driver
  work_fine Late driver none = subst (λ (late : List ℕ). FineWork column driver (taking_late column late driver)) (sym none) (kept-itself driver)
  work_fine (Settle id) driver none = settles_fine id (blocked round column (Rule id)) driver
  work_fine (SettleTakeover id view) driver none = picks_fine id view (blocked round column (Pick id view)) driver
