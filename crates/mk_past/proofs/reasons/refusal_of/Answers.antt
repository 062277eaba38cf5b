use Rattle.std.proofs.Common.{◌≡◌, ◌∙◌, ◌≤◌, ap, sym, subst, length, List}
use Rattle.mk_quorum.specs.Sizes.{members}
use Rattle.mk_history.specs.declared.RoundLog.{RoundLog}
use Rattle.mk_history.specs.Histories.{History}
use Rattle.mk_past.specs.Refusals.{refusal_in_rounds}
use Rattle.mk_past.specs.Reasons as spec
use Rattle.mk_past.proofs.reasons.refusal_of.Goals as goal

pub first_refusal-requires : goal.first_refusal-requires
first_refusal-requires c = subst (λ (rs : List RoundLog). length rs ≤ 16) (sym c.rounds.ensures) c.head.ensures.shape.few_rounds

pub returns-in-Some : goal.returns-in-Some
returns-in-Some c =
    let count : c.n-replicas.result ≡ members c.args.run.now.faults = c.n-replicas.ensures ∙ ap (λ (r : History). members r.faults) c.head.ensures.parts in
    c.first_refusal.ensures ∙ (λ i. refusal_in_rounds c.in-Some.stamp c.args.conflict (count i) 1 (c.rounds.ensures i)) ∙ sym (ap (spec.refusal_of c.args.run.now c.args.conflict) c.in-Some.is)
