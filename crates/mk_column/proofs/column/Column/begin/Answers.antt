use Rattle.std.proofs.Common.{◌≡◌, ◌==◌, refl, ◌++◌, ◌∷◌, [], Some, None, sym, ap, subst, ◌∙◌}
use Rattle.std.specs.Prelude.{option_copied, IsSome}
use Rattle.mk_lists.proofs.EachMember.{Each-find}
use Rattle.mk_column.specs.contracts.column.Column.{the_view}
use Rattle.mk_column.specs.declared.clients.Client.{Client}
use Rattle.mk_words.specs.declared.Step.TheVariants.{Begin}
use Rattle.mk_column.specs.ClientsByCode.{kept_client, next_of}
use Rattle.mk_column.specs.AttemptsByCode.{BegunView, as_begun, begun_of}
use Rattle.mk_model.specs.Steps.{new_attempt}
use Rattle.mk_model.specs.Conditions.{blocked}
use Rattle.mk_column.specs.ColumnByCode.{ClientFits, kept_of}
use Rattle.mk_model.proofs.Frames.{enabled}
use Rattle.mk_column.proofs.StepLaws.{step-view}
use Rattle.mk_column.proofs.BeginLaws.{some-of-copied, MayBegin, begin-there, begin-facts, next-none, begin-kept, begin-state}
use Rattle.mk_column.proofs.column.Column.begin.Goals as goal

pub unwrap-requires : goal.unwrap-requires
unwrap-requires c =
    let kept = kept_of c.self.inside.parts in
    let passed =
    enabled (the_view c.self.inside).setting (the_view c.self.inside).state (Begin c.args.client c.args.replica)
    (subst (λ column. blocked column.setting column.state (Begin c.args.client c.args.replica) ≡ None) (sym c.self.view_is) c.requires) in
    let there : IsSome (kept_client c.args.client c.self.inside.parts.clients) = begin-there c.args.client kept passed.1.0 in
    some-of-copied c.find.result (subst IsSome (sym c.find.ensures) there)

pub push-requires : goal.push-requires
push-requires c =
    let kept = kept_of c.self.inside.parts in
    let passed =
    enabled (the_view c.self.inside).setting (the_view c.self.inside).state (Begin c.args.client c.args.replica)
    (subst (λ column. blocked column.setting column.state (Begin c.args.client c.args.replica) ≡ None) (sym c.self.view_is) c.requires) in
    let found : kept_client c.args.client c.self.inside.parts.clients ≡ Some c.unwrap.result.now = sym c.find.ensures ∙ ap option_copied c.unwrap.ensures in
    let may : MayBegin kept c.args.client c.unwrap.result.now =
    begin-facts c.self.inside.size kept c.self.inside.settled c.args.client c.unwrap.result.now c.self.invariant passed.1.0 passed.1.1.1.0 found in
    let new : c.reading-begun.result ≡ as_begun c.self.inside.size (new_attempt c.self.inside.size (next_of c.unwrap.result.now) c.args.replica c.index.result.now.epoch) =
    c.reading-begun.ensures
    ∙ ap (λ id. as_begun c.self.inside.size (new_attempt c.self.inside.size id c.args.replica c.index.result.now.epoch)) c.next_id-id.ensures in
    let fits : ClientFits c.self.inside.parts.attempts c.unwrap.result.now =
    Each-find (ClientFits c.self.inside.parts.attempts)
    (λ (client : Client). client.number == c.unwrap.result.now.number) c.self.inside.parts.clients c.unwrap.result.now c.self.invariant.clients may.found in
    ap (λ (b : BegunView). begun_of b.state.id c.self.inside.parts.attempts) new ∙ next-none c.unwrap.result.now c.self.inside.parts.attempts fits.next_seq

pub after_begin-requires : goal.after_begin-requires
after_begin-requires c =
    let kept = kept_of c.self.inside.parts in
    let passed =
    enabled (the_view c.self.inside).setting (the_view c.self.inside).state (Begin c.args.client c.args.replica)
    (subst (λ column. blocked column.setting column.state (Begin c.args.client c.args.replica) ≡ None) (sym c.self.view_is) c.requires) in
    let found : kept_client c.args.client c.self.inside.parts.clients ≡ Some c.unwrap.result.now = sym c.find.ensures ∙ ap option_copied c.unwrap.ensures in
    let may : MayBegin kept c.args.client c.unwrap.result.now =
    begin-facts c.self.inside.size kept c.self.inside.settled c.args.client c.unwrap.result.now c.self.invariant passed.1.0 passed.1.1.1.0 found in
    may.upto

pub put-requires : goal.put-requires
put-requires c =
    let kept = kept_of c.self.inside.parts in
    let passed =
    enabled (the_view c.self.inside).setting (the_view c.self.inside).state (Begin c.args.client c.args.replica)
    (subst (λ column. blocked column.setting column.state (Begin c.args.client c.args.replica) ≡ None) (sym c.self.view_is) c.requires) in
    let found : kept_client c.args.client c.self.inside.parts.clients ≡ Some c.unwrap.result.now = sym c.find.ensures ∙ ap option_copied c.unwrap.ensures in
    let may : MayBegin kept c.args.client c.unwrap.result.now =
    begin-facts c.self.inside.size kept c.self.inside.settled c.args.client c.unwrap.result.now c.self.invariant passed.1.0 passed.1.1.1.0 found in
    subst IsSome (sym (ap (λ (client : Client). kept_client client.number c.self.inside.parts.clients) c.after_begin.ensures ∙ may.found)) refl

pub invariant_of-self-2 : goal.invariant_of-self-2
invariant_of-self-2 c =
    let kept = kept_of c.self.inside.parts in
    let passed =
    enabled (the_view c.self.inside).setting (the_view c.self.inside).state (Begin c.args.client c.args.replica)
    (subst (λ column. blocked column.setting column.state (Begin c.args.client c.args.replica) ≡ None) (sym c.self.view_is) c.requires) in
    let found : kept_client c.args.client c.self.inside.parts.clients ≡ Some c.unwrap.result.now = sym c.find.ensures ∙ ap option_copied c.unwrap.ensures in
    let may : MayBegin kept c.args.client c.unwrap.result.now =
    begin-facts c.self.inside.size kept c.self.inside.settled c.args.client c.unwrap.result.now c.self.invariant passed.1.0 passed.1.1.1.0 found in
    let new : c.reading-begun.result ≡ as_begun c.self.inside.size (new_attempt c.self.inside.size (next_of c.unwrap.result.now) c.args.replica c.index.result.now.epoch) =
    c.reading-begun.ensures
    ∙ ap (λ id. as_begun c.self.inside.size (new_attempt c.self.inside.size id c.args.replica c.index.result.now.epoch)) c.next_id-id.ensures in
    let pushed : c.push.new.self ≡ c.self.inside.parts.attempts ++ c.reading-begun.result ∷ [] = c.in_ok-push.ensures.ok in
    begin-kept c.self.inside.size kept c.self.inside.settled c.args.client c.unwrap.result.now c.args.replica c.index.result.now.epoch c.reading-begun.result c.after_begin.result c.put.new.self c.push.new.self c.self.invariant may new c.after_begin.ensures c.put.ensures pushed

pub returns : goal.returns
returns c =
    let kept = kept_of c.self.inside.parts in
    let passed =
    enabled (the_view c.self.inside).setting (the_view c.self.inside).state (Begin c.args.client c.args.replica)
    (subst (λ column. blocked column.setting column.state (Begin c.args.client c.args.replica) ≡ None) (sym c.self.view_is) c.requires) in
    let found : kept_client c.args.client c.self.inside.parts.clients ≡ Some c.unwrap.result.now = sym c.find.ensures ∙ ap option_copied c.unwrap.ensures in
    let may : MayBegin kept c.args.client c.unwrap.result.now =
    begin-facts c.self.inside.size kept c.self.inside.settled c.args.client c.unwrap.result.now c.self.invariant passed.1.0 passed.1.1.1.0 found in
    let new : c.reading-begun.result ≡ as_begun c.self.inside.size (new_attempt c.self.inside.size (next_of c.unwrap.result.now) c.args.replica c.index.result.now.epoch) =
    c.reading-begun.ensures
    ∙ ap (λ id. as_begun c.self.inside.size (new_attempt c.self.inside.size id c.args.replica c.index.result.now.epoch)) c.next_id-id.ensures in
    let pushed : c.push.new.self ≡ c.self.inside.parts.attempts ++ c.reading-begun.result ∷ [] = c.in_ok-push.ensures.ok in
    record {
      ok =
          step-view (the_view c.self.inside) c.args.self.now (Begin c.args.client c.args.replica) _
          (begin-state (the_view c.self.inside).setting kept c.args.client c.unwrap.result.now c.args.replica c.index.result.now c.reading-begun.result c.after_begin.result c.put.new.self c.push.new.self may passed.1.1.0 c.index.ensures new c.after_begin.ensures c.put.ensures pushed) c.self.view_is;
      err = tt;
    }
