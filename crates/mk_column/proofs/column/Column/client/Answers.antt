use Rattle.std.proofs.Common.{◌≡◌, ◌≤◌, ◌^◌, Some, None, sym, ap, ◌∙◌}
use Rattle.std.specs.Borrow.{Bor}
use Rattle.std.specs.Prelude.{Option, option_map, option_copied, IfSome, ◌==◌}
use Rattle.mk_lists.proofs.EachMember.{Each-find}
use Rattle.mk_column.specs.declared.clients.Client.{Client}
use Rattle.mk_model.specs.ColumnState.{client_of}
use Rattle.mk_column.specs.ClientsByCode.{client_state, kept_client}
use Rattle.mk_column.specs.ColumnByCode.{ClientFits}
use Rattle.mk_column.proofs.ColumnLaws.{client-found}
use Rattle.mk_column.proofs.column.Column.client.Goals as goal

pub returns-clause-seen : goal.returns-clause-seen
returns-clause-seen c =
    ap (option_map client_state) c.find.ensures ∙ sym (client-found c.args.number c.self.inside.parts.clients)
    ∙ ap (λ column. client_of column.state c.args.number) c.self.view_is

pub returns-clause-in_time : goal.returns-clause-in_time
returns-clause-in_time c = by_found c.find.result c.find.ensures
  where
    by_found : (o : Option (Bor Client)) → option_copied o ≡ kept_client c.args.number c.self.inside.parts.clients
        → IfSome o (λ client. client.now.last_time ≤ 2 ^ 62)
    by_found None e = tt
    by_found (Some client) e =
        (Each-find (ClientFits c.self.inside.parts.attempts) (λ (kept : Client). kept.number == c.args.number) c.self.inside.parts.clients client.now c.self.invariant.clients (sym e)).last_time
