use Rattle.std.proofs.Common.{◌≡◌, None, Some, refl, sym, ap, subst, ◌∙◌}
use Rattle.std.specs.Prelude.{option_copied, option_map, IsSome}
use Rattle.mk_lists.proofs.Changes.{change-none}
use Rattle.mk_column.specs.contracts.column.Column.{the_view}
use Rattle.mk_column.specs.declared.clients.Client.{Client}
use Rattle.mk_column.specs.ClientsByCode.{client_state, client_states, kept_client, change_kept, client_heard}
use Rattle.mk_model.specs.ColumnState.{is_client, client_of, change_client}
use Rattle.mk_column.specs.StepsByCode.{heard_at}
use Rattle.mk_column.specs.ColumnByCode.{ColumnView}
use Rattle.mk_column.proofs.ColumnLaws.{client-number, client-found}
use Rattle.mk_column.proofs.BeginLaws.{puts-turned}
use Rattle.mk_column.proofs.HearLaws.{IsKept-heard, clients-heard}
use Rattle.mk_column.proofs.column.Column.hear.Goals as goal

pub returns-in_default : goal.returns-in_default
returns-in_default c =
    let none : client_of c.args.self.now.state c.args.number ≡ None =
    ap (λ (column : ColumnView). client_of column.state c.args.number) (sym c.self.view_is) ∙ client-found c.args.number c.self.inside.parts.clients
    ∙ ap (option_map client_state) (sym c.find.ensures ∙ ap option_copied c.in_default.is) in
    ap (λ all. record c.args.self.now { state = record c.args.self.now.state { clients = all } })
    (sym (change-none (is_client c.args.number) (heard_at c.args.epoch) c.args.self.now.state.clients none))

pub put-requires : goal.put-requires
put-requires c =
    let found : kept_client c.args.number c.self.inside.parts.clients ≡ Some c.in-Some.client.now = sym c.find.ensures ∙ ap option_copied c.in-Some.is in
    let number =
    ap (λ (client : Client). client.number) c.after_hearing-after.ensures
    ∙ client-number c.args.number c.self.inside.parts.clients c.in-Some.client.now found in
    subst IsSome (sym (ap (λ n. kept_client n c.self.inside.parts.clients) number ∙ found)) refl

pub invariant_of-self : goal.invariant_of-self
invariant_of-self c =
    let found : kept_client c.args.number c.self.inside.parts.clients ≡ Some c.in-Some.client.now = sym c.find.ensures ∙ ap option_copied c.in-Some.is in
    let is : c.in-Some.client.now.number ≡ c.args.number = client-number c.args.number c.self.inside.parts.clients c.in-Some.client.now found in
    let turned : c.put.new.self ≡ change_kept c.args.number (client_heard c.args.epoch) c.self.inside.parts.clients =
    puts-turned c.self.inside.parts.clients c.put.new.self c.in-Some.client.now c.after_hearing-after.result (client_heard c.args.epoch)
    (ap (λ (client : Client). client.number) c.after_hearing-after.ensures)
    (ap (λ n. kept_client n c.self.inside.parts.clients) is ∙ found) (sym c.after_hearing-after.ensures) c.put.ensures
    ∙ ap (λ n. change_kept n (client_heard c.args.epoch) c.self.inside.parts.clients) is in
    IsKept-heard c.self.inside.size _ c.self.inside.settled c.args.number c.args.epoch c.put.new.self turned c.self.invariant

pub returns : goal.returns
returns c =
    let found : kept_client c.args.number c.self.inside.parts.clients ≡ Some c.in-Some.client.now = sym c.find.ensures ∙ ap option_copied c.in-Some.is in
    let is : c.in-Some.client.now.number ≡ c.args.number = client-number c.args.number c.self.inside.parts.clients c.in-Some.client.now found in
    let turned : c.put.new.self ≡ change_kept c.args.number (client_heard c.args.epoch) c.self.inside.parts.clients =
    puts-turned c.self.inside.parts.clients c.put.new.self c.in-Some.client.now c.after_hearing-after.result (client_heard c.args.epoch)
    (ap (λ (client : Client). client.number) c.after_hearing-after.ensures)
    (ap (λ n. kept_client n c.self.inside.parts.clients) is ∙ found) (sym c.after_hearing-after.ensures) c.put.ensures
    ∙ ap (λ n. change_kept n (client_heard c.args.epoch) c.self.inside.parts.clients) is in
    let old = the_view c.self.inside in
    ap (λ all. record old { state = record old.state { clients = all } })
    (ap client_states turned ∙ clients-heard c.args.number c.args.epoch c.self.inside.parts.clients)
    ∙ ap (λ (column : ColumnView). record column { state = change_client c.args.number (heard_at c.args.epoch) column.state }) c.self.view_is
