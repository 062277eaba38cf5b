use Rattle.std.proofs.Common.{◌≡◌, ◌^◌, true, nat_lt, sym, ap, ◌∙◌}
use Rattle.std.specs.List.{list_any}
use Rattle.mk_txn.specs.declared.ReadItem.{ReadItem}
use Rattle.mk_column.proofs.StampLaws.{late-none}
use Rattle.mk_column.proofs.begun.Begun.next_stamp.Goals as goal

pub returns-then-has_late : goal.returns-then-has_late
returns-then-has_late c =
    let reads : c.as_slice-reads.result.now ≡ c.args.self.now.state.reads = c.as_slice-reads.ensures ∙ ap (λ begun. begun.state.reads) c.self.view_is in
    let late : list_any (λ item. nat_lt (2 ^ 62) item.version.time) c.args.self.now.state.reads ≡ true =
    ap (list_any (λ (item : ReadItem). nat_lt (2 ^ 62) item.version.time)) (sym reads) ∙ sym c.if-has_late.ensures in
    sym (late-none c.args.client c.args.last c.args.clock c.args.self.now.state.reads late)
