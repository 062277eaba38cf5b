use Rattle.std.proofs.Common.{◌≡◌, ◌++◌, ◌∷◌, [], None, false, refl, ap, ◌∙◌, rules}
use Rattle.std.specs.Prelude.{List, if◌then◌else◌}
use Rattle.std.specs.List.{list_any}
use Rattle.mk_txn.specs.declared.TxnId.{TxnId}
use Rattle.mk_txn.specs.Transactions.{same_id}
use Rattle.mk_txn.proofs.IdOrder.{same_id-tells, same_id-itself}
use Rattle.mk_words.specs.declared.Entry.{Entry}
use Rattle.mk_words.specs.Entries.{entry_of, opened}
use Rattle.mk_lists.proofs.KeyedLists.{key-is_new, IsIndex-pushed}
use Rattle.mk_record.proofs.record.CoreRecord.open_entry.Goals as goal

pub invariant_of-self-2 : goal.invariant_of-self-2
invariant_of-self-2 c =
    let items = c.self.inside.entries.items in
    let keys = c.self.inside.ids.keys in
    let entry = opened c.args.txn.now in
    let none : entry_of entry.txn.id items ≡ None = ap (entry_of entry.txn.id) c.self.view_is ∙ c.requires in
    let fresh : list_any (same_id entry.txn.id) keys ≡ false = key-is_new same_id (λ (e : Entry). e.txn.id) same_id-tells same_id-itself entry.txn.id items keys c.self.invariant none in
    let named : c.id.result ≡ entry.txn.id = c.id.ensures in
    let after : TxnId → List TxnId = λ id. if list_any (same_id id) keys then keys else keys ++ id ∷ [] in
    let ids : c.insert.new.self.keys ≡ keys ++ entry.txn.id ∷ [] = c.in_ok-insert.ensures.keys ∙ ap after named ∙ rw fresh refl in
    let pushed : c.push_reserved.new.self.items ≡ items ++ entry ∷ [] = search rules in
    rw (ids, pushed) (IsIndex-pushed same_id (λ (e : Entry). e.txn.id) same_id-tells same_id-itself items entry keys none c.self.invariant)
