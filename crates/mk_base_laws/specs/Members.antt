-- Whose attempts a base lists.
use Rattle.std.specs.Prelude.{◌≡◌, ◌<◌, ◌≤◌, ℕ, Some}
use Rattle.mk_lists.specs.Among.{Among}
use Rattle.mk_words.specs.declared.Fated.{Fated}
use Rattle.mk_model.specs.ColumnState.{AttemptState, attempt_of}
use Rattle.mk_model.specs.EpochState.{MadeBase}
use Rattle.mk_model.specs.Force.{source_of}
use Rattle.mk_epoch_laws.specs.PathLaws.{AddsItsSource}
use Rattle.mk_history.specs.Histories.{History}
use Rattle.mk_history.specs.Wholes.{last_state}
use Rattle.mk_history.specs.Legality.{IsLegal}
use Rattle.mk_run_laws.specs.Ends.{last_moment, run_epoch}

-- what a base adds to the one that it was built on are attempts of that one's epoch
abbrev pub BasesAddTheirSource : Type 0
BasesAddTheirSource = (run : History) → IsLegal run → AddsItsSource (last_state run).epochs (run_epoch run)

-- the transaction is an attempt's, of an epoch that is not above the one on whose base this one was built
pub record IsMemberOf (run : History) (made : MadeBase) (f : Fated) : Type 0 where
  pub column : ℕ
  pub in_run : column < run.columns
  pub attempt : AttemptState
  pub found : attempt_of (last_moment run column).column f.txn.id ≡ Some attempt
  pub stamped : attempt.txn ≡ Some f.txn
  pub below : attempt.epoch ≤ source_of (last_state run).epochs made.epoch

-- and a base lists nothing but transactions of such attempts
abbrev pub BaseMembers : Type 0
BaseMembers = (run : History) → IsLegal run → (made : MadeBase) → Among made (last_state run).epochs.made → (f : Fated) → Among f made.base.list → IsMemberOf run made f
