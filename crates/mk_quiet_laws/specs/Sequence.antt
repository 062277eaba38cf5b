-- What the attempts of a quiet script touch: keys of their clients' lines, at which no check is refused.
use Rattle.std.specs.Prelude.{◌≡◌, ◌⊎◌, ◌<◌, ℕ, List, Some}
use Rattle.mk_lists.specs.Among.{Among}
use Rattle.mk_txn.specs.declared.Reason.{Reason}
use Rattle.mk_txn.specs.declared.Stamp.{Stamp}
use Rattle.mk_txn.specs.declared.TxnId.{TxnId}
use Rattle.mk_txn.specs.Transactions.{Transaction, read_keys, write_keys}
use Rattle.mk_words.specs.declared.Answer.TheVariants.{Refused}
use Rattle.mk_script.specs.declared.lines.TxnLine.{TxnLine}
use Rattle.mk_script.specs.Scripts.{ScriptParts}
use Rattle.mk_script.specs.Whole.{IsWhole}
use Rattle.mk_script.specs.Quiet.{IsQuiet, NamesKey}
use Rattle.mk_model.specs.ColumnState.{AttemptState, attempt_of}
use Rattle.mk_column_laws.specs.Moments.{Moment, PastAct}
use Rattle.mk_history.specs.Histories.{History}
use Rattle.mk_history.specs.Shape.{HasShape}
use Rattle.mk_history.specs.Legality.{IsLegal}
use Rattle.mk_driver.specs.Driven.{IsDriven}
use Rattle.mk_run_laws.specs.Ends.{last_moment}

-- no act was refused so far
abbrev pub NoneIsRefused : Moment → Type 0
NoneIsRefused m = (act : PastAct) → Among act m.past.acts → (reason : Reason) (stamp : Stamp) → act.answer ≡ Refused reason stamp → ⊥

-- the transaction reads or writes the key
abbrev pub Touches : Transaction → ℕ → Type 0
Touches txn key = Among key (read_keys txn.reads) ⊎ Among key (write_keys txn.writes)

-- a line of the client names the key
pub record IsClientsKey (lines : List TxnLine) (client key : ℕ) : Type 0 where
  pub line : TxnLine
  pub listed : Among line lines
  pub owner : line.client ≡ client
  pub names : NamesKey line key

-- an attempt touches keys of its client's lines alone
abbrev pub KeysAreClients : Type 0
KeysAreClients =
    (script : ScriptParts) (run : History) → IsWhole script → (quiet : IsQuiet script) → IsDriven script run → HasShape run → IsLegal run →
    (c : ℕ) → c < run.columns → (id : TxnId) (a : AttemptState) (txn : Transaction) → attempt_of (last_moment run c).column id ≡ Some a → a.txn ≡ Some txn →
    (key : ℕ) → Touches txn key → IsClientsKey quiet.txns id.client key

-- so no check is ever refused
abbrev pub QuietChecksAreOkay : Type 0
QuietChecksAreOkay =
    (script : ScriptParts) (run : History) → IsWhole script → IsQuiet script → IsDriven script run → HasShape run → IsLegal run →
    (c : ℕ) → c < run.columns → NoneIsRefused (last_moment run c)
