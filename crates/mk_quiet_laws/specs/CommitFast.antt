-- Every attempt of a quiet script commits on the fast path.
use Rattle.std.specs.Prelude.{◌≡◌, Some}
use Rattle.mk_lists.specs.Among.{Among}
use Rattle.mk_txn.specs.declared.Outcome.TheVariants.{Commit}
use Rattle.mk_script.specs.Scripts.{ScriptParts}
use Rattle.mk_script.specs.Whole.{IsWhole}
use Rattle.mk_script.specs.Quiet.{IsQuiet}
use Rattle.mk_model.specs.ColumnState.{ColumnState, AttemptState}
use Rattle.mk_history.specs.declared.Path.TheVariants.{Fast}
use Rattle.mk_history.specs.Histories.{History}
use Rattle.mk_history.specs.Learning.{Learnt, learned, first_learned}
use Rattle.mk_history.specs.Legality.{IsLegal}
use Rattle.mk_history.specs.Shape.{HasShape}
use Rattle.mk_history.specs.Wholes.{last_state}
use Rattle.mk_driver.specs.Driven.{IsDriven}

-- what is learned first of each attempt is its commit, on the fast path
abbrev pub CommitsFast : History → Type 0
CommitsFast run =
    (column : ColumnState) → Among column (last_state run).columns → (a : AttemptState) → Among a column.attempts →
    (l : Learnt) × (first_learned a.id (learned run) ≡ Some l) × (l.outcome ≡ Commit) × (l.path ≡ Fast)

abbrev pub QuietCommitsFast : Type 0
QuietCommitsFast =
    (script : ScriptParts) (run : History) → IsWhole script → IsQuiet script → IsDriven script run → HasShape run → IsLegal run → CommitsFast run
