-- Each check that was refused was refused because of another attempt.
use Rattle.std.specs.Prelude.{◌≡◌, ◌<◌, ℕ, Some}
use Rattle.mk_lists.specs.Among.{Among}
use Rattle.mk_txn.specs.declared.Reason.{Reason}
use Rattle.mk_txn.specs.declared.Stamp.{Stamp}
use Rattle.mk_txn.specs.declared.TxnId.{TxnId}
use Rattle.mk_txn.specs.Transactions.{Transaction}
use Rattle.mk_words.specs.declared.Answer.TheVariants.{Refused}
use Rattle.mk_model.specs.ColumnState.{AttemptState, attempt_of}
use Rattle.mk_column_laws.specs.ActLaws.{ChecksFor}
use Rattle.mk_column_laws.specs.Moments.{PastAct}
use Rattle.mk_history.specs.Histories.{History}
use Rattle.mk_history.specs.Shape.{HasShape}
use Rattle.mk_history.specs.Legality.{IsLegal}
use Rattle.mk_history.specs.Naming.{IsRefusalOf}
use Rattle.mk_run_laws.specs.Ends.{last_moment}

-- where a check of an attempt's stamp was refused, the refusal stands in a journal, and the stamp that it names is another
-- attempt's, which touches the key
abbrev pub RefusalsHaveOwners : Type 0
RefusalsHaveOwners =
    (run : History) → HasShape run → IsLegal run → (c : ℕ) → c < run.columns → (id : TxnId) (a : AttemptState) (txn : Transaction) →
    attempt_of (last_moment run c).column id ≡ Some a → a.txn ≡ Some txn → (act : PastAct) → Among act (last_moment run c).past.acts →
    ChecksFor txn.stamp act.act → (reason : Reason) (stamp : Stamp) → act.answer ≡ Refused reason stamp →
    IsRefusalOf run txn (record { key = act.key; reason = reason; stamp = stamp })
