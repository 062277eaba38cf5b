use Rattle.std.proofs.Common.{◌∙◌, sym, ap, length, count_by}
use Rattle.mk_quorum.specs.Sizes.{members}
use Rattle.mk_quorum.specs.Slots.{passes}
use Rattle.mk_quorum.proofs.SlotLists.{slots_counted}
use Rattle.mk_words.specs.Picks.{is_promise}
use Rattle.mk_takeover.proofs.takeover.Takeover.promise_count.Goals as goal

pub returns : goal.returns
returns c =
    c.count_promises.ensures ∙ ap (count_by (passes is_promise)) c.told.ensures.slots
    ∙ sym (slots_counted (members c.args.self.now.faults) is_promise c.args.self.now.state.told (ap length (sym c.told.ensures.slots) ∙ c.told.ensures.count))
