use Rattle.std.proofs.Common.{◌≡◌, Some, None, sym, ap, ◌∙◌}
use Rattle.mk_words.specs.declared.Body.TheVariants.{Told as ToldBody}
use Rattle.mk_words.specs.Entries.{with_promise}
use Rattle.mk_record.specs.Entries.{refusal_in}
use Rattle.mk_model.specs.Replicas.{Held, answering, changing}
use Rattle.mk_column.specs.HeldByCode.{refused_with}
use Rattle.mk_column.proofs.ReplicaLaws.{ask_known-of}
use Rattle.mk_column.proofs.replica.Replica.ask.Goals as goal

pub returns-in-Err : goal.returns-in-Err
returns-in-Err c = λ entry there.
    let msg = c.args.msg.now in
    let old = c.args.self.now in
    let new : Held = record { entries = c.promise.new.self; marks = c.self.inside.marks } in
    let same : new ≡ old = ap (λ entries. record { entries = entries; marks = c.self.inside.marks }) c.in-Err.ensures.err ∙ c.self.view_is in
    let refusal : refusal_in msg.view msg.id old.entries ≡ Some c.in-Err.error =
    ap (λ held. refusal_in msg.view msg.id held.entries) (sym c.self.view_is) ∙ c.in-Err.ensures.refused in
    c.refused.ensures new msg
    ∙ ap (λ held. refused_with held msg c.told-told.result c.in-Err.error) same
    ∙ ap (λ told. refused_with old msg told c.in-Err.error) (c.told-told.ensures entry there)
    ∙ sym (ask_known-of entry old msg (Some c.in-Err.error) there refusal)

pub returns : goal.returns
returns c = λ entry there.
    let msg = c.args.msg.now in
    let old = c.args.self.now in
    let new : Held = record { entries = c.promise.new.self; marks = c.self.inside.marks } in
    let changed : new ≡ changing (with_promise msg.view) old msg =
    ap (λ entries. record { entries = entries; marks = c.self.inside.marks }) c.in_default.ensures.ok
    ∙ ap (λ held. changing (with_promise msg.view) held msg) c.self.view_is in
    let free : refusal_in msg.view msg.id old.entries ≡ None =
    ap (λ held. refusal_in msg.view msg.id held.entries) (sym c.self.view_is) ∙ c.in_default.ensures.accepted in
    c.answering.ensures new msg
    ∙ ap (λ held. answering held msg (ToldBody c.told-told.result)) changed
    ∙ ap (λ told. answering (changing (with_promise msg.view) old msg) msg (ToldBody told)) (c.told-told.ensures entry there)
    ∙ sym (ask_known-of entry old msg None there free)
