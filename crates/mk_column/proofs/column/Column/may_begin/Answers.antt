use Rattle.std.proofs.Common.{◌≡◌, Some, None, sym, ap, ◌∙◌}
use Rattle.std.specs.Prelude.{option_copied}
use Rattle.mk_column.specs.AttemptsByCode.{states_of}
use Rattle.mk_column.specs.ClientsByCode.{kept_client, client_states}
use Rattle.mk_column.proofs.ColumnLaws.{may_begin-found, may_begin-none}
use Rattle.mk_column.proofs.column.Column.may_begin.Goals as goal

pub returns-in-Some : goal.returns-in-Some
returns-in-Some c =
    let found : kept_client c.args.client c.self.inside.parts.clients ≡ Some c.in-Some.client.now = sym c.find.ensures ∙ ap option_copied c.in-Some.is in
    let clients : c.args.self.now.state.clients ≡ client_states c.self.inside.parts.clients = ap (λ column. column.state.clients) (sym c.self.view_is) in
    let attempts : c.args.self.now.state.attempts ≡ states_of c.self.inside.parts.attempts = ap (λ column. column.state.attempts) (sym c.self.view_is) in
    sym
    (may_begin-found c.args.client c.args.self.now.state c.self.inside.parts.clients c.self.inside.parts.attempts c.in-Some.client.now clients attempts c.self.invariant.clients found)

pub returns-in-None : goal.returns-in-None
returns-in-None c =
    let none : kept_client c.args.client c.self.inside.parts.clients ≡ None = sym c.find.ensures ∙ ap option_copied c.in-None.is in
    let clients : c.args.self.now.state.clients ≡ client_states c.self.inside.parts.clients = ap (λ column. column.state.clients) (sym c.self.view_is) in
    sym (may_begin-none c.args.client c.args.self.now.state c.self.inside.parts.clients clients none)
