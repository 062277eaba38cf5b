use Rattle.std.proofs.Common.{◌∙◌, sym, ap, length, count_by}
use Rattle.mk_quorum.specs.Sizes.{members}
use Rattle.mk_quorum.specs.Slots.{passes}
use Rattle.mk_quorum.proofs.SlotLists.{slots_counted}
use Rattle.mk_takeover.proofs.takeover.Takeover.accept_count.Goals as goal

pub returns : goal.returns
returns c =
    c.count_accepts.ensures ∙ ap (count_by (passes (λ accepted. accepted))) c.accepts.ensures.slots
    ∙ sym (slots_counted (members c.args.self.now.faults) (λ accepted. accepted) c.args.self.now.state.accepts (ap length (sym c.accepts.ensures.slots) ∙ c.accepts.ensures.count))
