use Rattle.std.proofs.Common.{◌≡◌, Some, sym, ap, ◌∙◌}
use Rattle.mk_words.specs.Entries.{entry_of, last_in}
use Rattle.mk_model.specs.Replicas.{Held, ignored, with_entry, entry_or_opened}
use Rattle.mk_column.proofs.ReplicaLaws.{decide-final}
use Rattle.mk_column.proofs.replica.Replica.decide.Goals as goal

pub returns-in-Err-clause-ok : goal.returns-in-Err-clause-ok
returns-in-Err-clause-ok c =
    let txn = c.args.txn.now in
    let msg = c.args.msg.now in
    let old = c.args.self.now in
    let opened : Held = c.open.new.self in
    let new : Held = record { entries = c.finish.new.self; marks = c.self-2.inside.marks } in
    let same : new ≡ opened = ap (λ entries. record { entries = entries; marks = c.self-2.inside.marks }) c.in-Err.ensures.err ∙ c.self-2.view_is in
    let is : opened ≡ with_entry txn old (entry_of txn.id old.entries) = c.in_ok-open.ensures.ok in
    let there : entry_of txn.id opened.entries ≡ Some (entry_or_opened txn (entry_of txn.id old.entries)) = c.in_ok-open.ensures.there in
    let final : last_in msg.id opened.entries ≡ Some c.in-Err._kept =
    ap (λ held. last_in msg.id held.entries) (sym c.self-2.view_is) ∙ c.in-Err.ensures.finished in
    c.nothing.ensures new msg ∙ ap ignored same ∙ decide-final c.args.outcome c.in-Err._kept txn old opened msg c.requires is there final
