use Rattle.std.proofs.Common.{◌≡◌, Some, None, sym, ap, ◌∙◌}
use Rattle.mk_words.specs.declared.Body.TheVariants.{Accepted as AcceptedBody}
use Rattle.mk_words.specs.Entries.{with_accepted}
use Rattle.mk_record.specs.Entries.{refusal_in}
use Rattle.mk_model.specs.Replicas.{Held, answering, changing}
use Rattle.mk_column.specs.HeldByCode.{refused_with}
use Rattle.mk_column.proofs.ReplicaLaws.{accept_known-of}
use Rattle.mk_column.proofs.replica.Replica.accept.Goals as goal

pub returns-in-Err : goal.returns-in-Err
returns-in-Err c = λ entry there.
    let msg = c.args.msg.now in
    let old = c.args.self.now in
    let new : Held = record { entries = c.accept.new.self; marks = c.self.inside.marks } in
    let same : new ≡ old = ap (λ entries. record { entries = entries; marks = c.self.inside.marks }) c.in-Err.ensures.err ∙ c.self.view_is in
    let refusal : refusal_in msg.view msg.id old.entries ≡ Some c.in-Err.error =
    ap (λ held. refusal_in msg.view msg.id held.entries) (sym c.self.view_is) ∙ c.in-Err.ensures.refused in
    c.refused.ensures new msg
    ∙ ap (λ held. refused_with held msg c.told-told.result c.in-Err.error) same
    ∙ ap (λ told. refused_with old msg told c.in-Err.error) (c.told-told.ensures entry there)
    ∙ sym (accept_known-of c.args.outcome entry old msg (Some c.in-Err.error) there refusal)

pub returns : goal.returns
returns c = λ entry there.
    let msg = c.args.msg.now in
    let old = c.args.self.now in
    let new : Held = record { entries = c.accept.new.self; marks = c.self.inside.marks } in
    let changed : new ≡ changing (with_accepted msg.view c.args.outcome) old msg =
    ap (λ entries. record { entries = entries; marks = c.self.inside.marks }) c.in_default.ensures.ok
    ∙ ap (λ held. changing (with_accepted msg.view c.args.outcome) held msg) c.self.view_is in
    let free : refusal_in msg.view msg.id old.entries ≡ None =
    ap (λ held. refusal_in msg.view msg.id held.entries) (sym c.self.view_is) ∙ c.in_default.ensures.accepted in
    c.answering.ensures new msg
    ∙ ap (λ held. answering held msg AcceptedBody) changed
    ∙ sym (accept_known-of c.args.outcome entry old msg None there free)
