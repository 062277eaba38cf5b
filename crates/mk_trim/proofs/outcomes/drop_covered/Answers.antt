use Rattle.std.proofs.Common.{rules, not}
use Rattle.std.proofs.lemmas.Fn.{filter_same}
use Rattle.mk_txn.specs.MarkMaps.{covers}
use Rattle.mk_trim.proofs.outcomes.drop_covered.Goals as goal

pub returns : goal.returns
returns c = filter_same _ (λ outcome. not (covers c.args.marks.now outcome.0)) _ (λ x b f' h. search rules) _ _ c.retain.ensures.filtered
