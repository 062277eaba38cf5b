-- All laws hold at the moments that a legal run has.
use Rattle.std.proofs.Common.{◌≡◌, true}
use Rattle.mk_txn.specs.declared.TxnId.{TxnId}
use Rattle.mk_txn.specs.declared.Outcome.{Outcome}
use Rattle.mk_txn.specs.Outcomes.{agrees}
use Rattle.mk_model.specs.Deciding.{IsDecided}
use Rattle.mk_column_laws.specs.Facts.{Facts}
use Rattle.mk_column_laws.specs.KeyActs.{ActFacts}
use Rattle.mk_column_laws.specs.Reading.{ReadFacts}
use Rattle.mk_column_laws.specs.Identity.{Identity}
use Rattle.mk_column_laws.specs.Items.{ItemFacts}
use Rattle.mk_column_laws.specs.Laws.{BackingOf}
use Rattle.mk_column_laws.specs.Moments.{Taught, Moment}
use Rattle.mk_column_laws.specs.Laws.{AlwaysHolds}
use Rattle.mk_run_laws.specs.RunLaws.{InRuns, TeachingStays, RunsReachMoments}
use Rattle.mk_run_laws.specs.TaughtIn.{taught_in}
use Rattle.mk_run_laws.proofs.StampColumns.{stamps_name_columns}
use Rattle.mk_run_laws.proofs.IdColumns.{ids_are_of_columns}
use Rattle.mk_run_laws.proofs.columns_hold.Goals as goal

in_runs : TeachingStays → RunsReachMoments → (P : Taught → Moment → Type 0) → AlwaysHolds P → InRuns P
in_runs stays reach P always run legal c lt m k = always (taught_in run) (stays run) m (reach run legal c lt m k)

pub returns : goal.returns
returns c =
    let stays = c.runs_reach_moments.ensures.teaching_stays in
    let reach = c.runs_reach_moments.ensures.runs_reach_moments in
    let ids = in_runs stays reach (λ taught m. Identity m.column.clients m.column.attempts) c.stamps_name_attempts.ensures.ids_once in
    record {
      facts = in_runs stays reach (λ taught m. Facts taught m) c.events_are_sorted.ensures.facts_hold;
      acts = in_runs stays reach (λ taught m. ActFacts m) c.key_acts_have_origins.ensures.acts_hold;
      reads = in_runs stays reach (λ taught m. ReadFacts m) c.stamps_name_attempts.ensures.reads_were_got;
      one_decision = in_runs stays reach
          (λ taught m. (id : TxnId) (one other : Outcome) → IsDecided m.round.faults m.column id one → IsDecided m.round.faults m.column id other → agrees one other ≡ true)
          c.views_agree.ensures.one_decision;
      learned = in_runs stays reach (λ taught m. (id : TxnId) → BackingOf taught m id) c.learnings_are_backed.ensures.learned_backed;
      stamps_name_columns = stamps_name_columns ids;
      ids_are_of_columns = ids_are_of_columns ids;
      ids = ids;
      items = in_runs stays reach (λ taught m. ItemFacts m) c.stamps_name_attempts.ensures.items_fit;
    }
