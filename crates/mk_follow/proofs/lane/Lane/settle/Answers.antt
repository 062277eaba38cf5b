use Rattle.std.proofs.Common.{rules}
use Rattle.std.proofs.lemmas.Fn.{filter_same}
use Rattle.mk_txn.specs.Stamps.{is_before}
use Rattle.mk_follow.proofs.lane.Lane.settle.Goals as goal

pub returns-clause-waiting : goal.returns-clause-waiting
returns-clause-waiting c = filter_same _ (λ mark. is_before c.reached_of-reached.result mark.upto) _ (λ x b f' h. search rules) _ _ c.retain.ensures.filtered
