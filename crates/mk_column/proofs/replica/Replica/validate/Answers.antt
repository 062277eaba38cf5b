use Rattle.std.proofs.Common.{◌≡◌, Some, None, sym, ap, ◌∙◌}
use Rattle.std.specs.Prelude.{option_copied}
use Rattle.mk_words.specs.Entries.{entry_of}
use Rattle.mk_model.specs.Replicas.{Held, answering, marking}
use Rattle.mk_column.proofs.ReplicaLaws.{on_validate-of}
use Rattle.mk_column.proofs.replica.Replica.validate.Goals as goal

pub returns-in_default-known-clause-ok : goal.returns-in_default-known-clause-ok
returns-in_default-known-clause-ok c =
    let msg = c.args.msg.now in
    let old = c.args.self.now in
    let entry = c.in-Some.entry.now in
    let there : entry_of msg.id old.entries ≡ Some entry =
    ap (λ held. entry_of msg.id held.entries) (sym c.self.view_is) ∙ sym c.find.ensures ∙ ap option_copied c.in-Some.is in
    c.nothing.ensures old msg ∙ sym (on_validate-of c.args.txn.now c.args.mark entry old msg None there (sym c.known.ensures ∙ c.in_default-known.is))

pub returns-clause-ok : goal.returns-clause-ok
returns-clause-ok c =
    let msg = c.args.msg.now in
    let old = c.args.self.now in
    let entry = c.in-Some.entry.now in
    let there : entry_of msg.id old.entries ≡ Some entry =
    ap (λ held. entry_of msg.id held.entries) (sym c.self.view_is) ∙ sym c.find.ensures ∙ ap option_copied c.in-Some.is in
    let new : Held = record { entries = c.self.inside.record; marks = c.raise.new.self } in
    let marked : new ≡ marking c.args.mark old msg =
    ap (λ marks. record { entries = c.self.inside.record; marks = marks }) c.in_ok-raise.ensures.ok
    ∙ ap (λ held. marking c.args.mark held msg) c.self.view_is in
    c.answering.ensures new msg
    ∙ ap (λ held. answering held msg c.in-Some-known.body) marked
    ∙ sym (on_validate-of c.args.txn.now c.args.mark entry old msg (Some c.in-Some-known.body) there (sym c.known.ensures ∙ c.in-Some-known.is))
