use Rattle.std.proofs.Common.{ap, ◌∙◌}
use Rattle.mk_txn.specs.Transactions.{same_id}
use Rattle.mk_txn.proofs.IdOrder.{same_id-tells, same_id-itself}
use Rattle.mk_words.specs.declared.Entry.{Entry}
use Rattle.mk_words.specs.Entries.{change_entry, with_accepted}
use Rattle.mk_lists.proofs.KeyedLists.{IsIndex-written, written-changes}
use Rattle.mk_record.proofs.record.CoreRecord.accept.Goals as goal

pub invariant_of-self : goal.invariant_of-self
invariant_of-self c =
    let entry = c.index_mut-entry.result.now in
    IsIndex-written same_id (λ (e : Entry). e.txn.id) same_id-tells same_id-itself c.self.inside.entries.items c.self.inside.ids.keys c.place-place.result (with_accepted c.args.view c.args.outcome entry) entry
    (ap (λ (e : Entry). e.txn.id) c.index_mut-entry.ensures.value) c.self.invariant

pub returns-clause-ok : goal.returns-clause-ok
returns-clause-ok c =
    let items = c.self.inside.entries.items in
    written-changes same_id (λ (e : Entry). e.txn.id) same_id-tells same_id-itself c.args.id (with_accepted c.args.view c.args.outcome) items c.args.self.now c.place-place.result c.index_mut-entry.result.now c.self.view_is
    c.index_mut-entry.ensures.value c.place-place.ensures.changed ∙ ap (change_entry c.args.id (with_accepted c.args.view c.args.outcome)) c.self.view_is
