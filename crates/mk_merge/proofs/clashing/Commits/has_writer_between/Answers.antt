use Rattle.std.proofs.Common.{List, ap, ◌∙◌, ◌&&◌}
use Rattle.std.specs.List.{list_any}
use Rattle.mk_txn.specs.Transactions.{Transaction}
use Rattle.mk_txn.specs.Clashes.{writes_key, is_between}
use Rattle.mk_merge.proofs.clashing.Commits.has_writer_between.Goals as goal

pub returns : goal.returns
returns c =
    c.has_stamp_between.ensures
    ∙ c.self.invariant.written c.args.key (λ stamp. is_between c.args.low stamp c.args.high)
    ∙ ap (λ (commits : List Transaction). list_any (λ t. writes_key c.args.key t && is_between c.args.low t.stamp c.args.high) commits) c.self.view_is
