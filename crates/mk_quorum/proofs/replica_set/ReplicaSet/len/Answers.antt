use Rattle.std.proofs.Common.{◌∙◌, sym, ap}
use Rattle.mk_quorum.specs.ReplicaSets.{number_of}
use Rattle.mk_quorum.proofs.Counting.{number_of-list}
use Rattle.mk_quorum.proofs.replica_set.ReplicaSet.len.Goals as goal

pub returns : goal.returns
returns c = c.count_present.ensures ∙ sym (number_of-list c.self.inside.present c.self.invariant) ∙ ap number_of c.self.view_is
