use Rattle.std.proofs.Common.{List, ap, ◌∙◌}
use Rattle.std.specs.List.{list_any}
use Rattle.mk_txn.specs.Transactions.{Transaction, same_id}
use Rattle.mk_merge.proofs.clashing.Commits.has.Goals as goal

pub returns : goal.returns
returns c = c.contains.ensures ∙ c.self.invariant.theirs c.args.id ∙ ap (λ (commits : List Transaction). list_any (λ t. same_id t.id c.args.id) commits) c.self.view_is
