use Rattle.std.proofs.Common.{ap, sym, ◌∙◌, Some}
use Rattle.std.specs.Prelude.{option_map}
use Rattle.mk_model.specs.EpochState.{ReplicaState}
use Rattle.mk_epoch.proofs.StandingLaws.{all_at}
use Rattle.mk_epoch.proofs.AnswerLaws.{word_of}
use Rattle.mk_epoch.proofs.replicas.Replicas.word.Goals as goal

pub returns-clause-value : goal.returns-clause-value
returns-clause-value g c = sym (word_of c.args.self.now.replicas c.args.replica c.replica.result.now c.replica.ensures)

pub returns-clause-stands : goal.returns-clause-stands
returns-clause-stands g c state h =
    let found = all_at g.B.Keeping.stands c.args.self.now.replicas state.replicas h.replicas c.args.replica c.replica.result.now c.replica.ensures in
    ap (option_map (λ (r : ReplicaState). r.word)) found.1 ∙ ap Some (sym found.2.word)
