-- A stamp is of one column, since its client is.
use Rattle.std.proofs.Common.{◌≡◌, ℕ, sym, ◌∙◌, Some, subst}
use Rattle.std.proofs.lemmas.Bool.{eqb-true}
use Rattle.mk_lists.specs.Among.{Among}
use Rattle.mk_lists.proofs.Members.{Among-map}
use Rattle.mk_lists.proofs.Lookups.{find_tells}
use Rattle.mk_txn.specs.declared.TxnId.{TxnId}
use Rattle.mk_txn.specs.declared.Stamp.{Stamp}
use Rattle.mk_txn.specs.Transactions.{Transaction}
use Rattle.mk_model.specs.ColumnState.{AttemptState, ClientState, attempt_of, is_client}
use Rattle.mk_column_laws.specs.Moments.{Moment}
use Rattle.mk_column_laws.specs.Identity.{Identity}
use Rattle.mk_history.specs.Histories.{History, clients_of}
use Rattle.mk_run_laws.specs.RunEvents.{start_of, IsMomentOf}
use Rattle.mk_run_laws.specs.RunLaws.{IdsInRuns, StampsNameColumns}
use Rattle.mk_run_laws.proofs.ClientNumbers.{numbers, numbers_through, numbers_first, one_column}

pub numbers_then : (run : History) (c : ℕ) (m : Moment) → IsMomentOf run c m → numbers m.column.clients ≡ clients_of c 1 run.client_columns
numbers_then run c m k =
    let ns = clients_of c 1 run.client_columns in
    subst (λ (x : Moment). numbers x.column.clients ≡ ns) k.leads (numbers_through ns (start_of run c) k.events (numbers_first ns))

-- the client in a stamp is one of the column's
pub client_there : (run : History) (c : ℕ) (m : Moment) → IsMomentOf run c m → Identity m.column.clients m.column.attempts → (id : TxnId) (a : AttemptState) (txn : Transaction) →
    attempt_of m.column id ≡ Some a → a.txn ≡ Some txn → Among txn.stamp.client (clients_of c 1 run.client_columns)
client_there run c m k h id a txn there stamped =
    let s = h.stamps id a txn there stamped in
    let found = find_tells (is_client id.client) m.column.clients s.client s.found in
    let number = eqb-true (s.client).number id.client found.1 in
    subst (λ (n : ℕ). Among n (clients_of c 1 run.client_columns)) (number ∙ sym s.of_client)
    (subst (Among (s.client).number) (numbers_then run c m k) (Among-map (λ (x : ClientState). x.number) s.client m.column.clients found.0))

pub stamps_name_columns : IdsInRuns → StampsNameColumns
stamps_name_columns ids run legal c d clt dlt m n k l id other a b txn same there_a there_b stamped_a stamped_b is =
    let one = client_there run c m k (ids run legal c clt m k) id a txn there_a stamped_a in
    let two = client_there run d n l (ids run legal d dlt n l) other b same there_b stamped_b in
    one_column c d 1 run.client_columns txn.stamp.client one (subst (λ (s : Stamp). Among s.client (clients_of d 1 run.client_columns)) (sym is) two)
