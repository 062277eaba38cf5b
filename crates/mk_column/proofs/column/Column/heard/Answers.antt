use Rattle.std.proofs.Common.{◌≡◌, Some, None, sym, ap, ◌∙◌}
use Rattle.mk_model.specs.ColumnState.{client_of}
use Rattle.mk_column.specs.ClientsByCode.{client_state, seen_client}
use Rattle.mk_column.proofs.ColumnLaws.{heard-found, heard-none}
use Rattle.mk_column.proofs.column.Column.heard.Goals as goal

pub returns-in-Some : goal.returns-in-Some
returns-in-Some c =
    let found : client_of c.args.self.now.state c.args.client ≡ Some (client_state c.in-Some.client.now) =
    sym c.client.ensures.seen ∙ ap seen_client c.in-Some.is in
    sym (heard-found c.args.self.now.state c.args.client (client_state c.in-Some.client.now) found)

pub returns-in-None : goal.returns-in-None
returns-in-None c =
    let none : client_of c.args.self.now.state c.args.client ≡ None = sym c.client.ensures.seen ∙ ap seen_client c.in-None.is in
    sym (heard-none c.args.self.now.state c.args.client none)
