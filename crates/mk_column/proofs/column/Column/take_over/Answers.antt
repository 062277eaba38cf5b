use Rattle.std.proofs.Common.{◌≡◌, Some, sym, ap, subst, ◌∙◌}
use Rattle.std.specs.Prelude.{option_map, option_copied, OnOk}
use Rattle.mk_model.specs.ColumnState.{attempt_of}
use Rattle.mk_column.specs.ColumnState.{shown}
use Rattle.mk_column.proofs.TakeoverLaws.{takeover-state}
use Rattle.mk_column.proofs.column.Column.take_over.Goals as goal

pub returns-clause-ok : goal.returns-clause-ok
returns-clause-ok c =
    let old = c.args.self.now in
    let found : option_map shown (attempt_of old.state c.args.id) ≡ Some c.unwrap.result.now = sym c.attempt.ensures ∙ ap option_copied c.unwrap.ensures in
    let is = takeover-state old.setting old.state c.args.id c.args.view c.unwrap.result.now found in
    subst (λ state. OnOk c.begin_takeover.result (c.begin_takeover.new.self ≡ record old { state = state })) is c.begin_takeover.ensures.ok
