use Rattle.std.proofs.Common.{◌≡◌, ◌++◌, ◌∷◌, [], Some, None, sym, ap, ◌∙◌, rules}
use Rattle.mk_words.proofs.EntryLaws.{entry_of-opened}
use Rattle.mk_words.specs.Entries.{opened, entry_of}
use Rattle.mk_model.specs.Replicas.{entry_or_opened}
use Rattle.mk_column.proofs.replica.Replica.open.Goals as goal

pub returns-in_ok-open_entry-clause-there : goal.returns-in_ok-open_entry-clause-there
returns-in_ok-open_entry-clause-there c =
    let txn = c.args.txn.now in
    let none : entry_of txn.id c.args.self.now.entries ≡ None = search rules in
    let same : c.self.inside.record ≡ c.args.self.now.entries = ap (λ held. held.entries) c.self.view_is in
    let pushed : c.open_entry.new.self ≡ c.args.self.now.entries ++ opened txn ∷ [] =
    c.in_ok-open_entry.ensures.ok ∙ ap (λ entries. entries ++ opened txn ∷ []) same in
    ap (entry_of txn.id) pushed ∙ entry_of-opened txn c.args.self.now.entries none ∙ ap (λ o. Some (entry_or_opened txn o)) (sym none)
