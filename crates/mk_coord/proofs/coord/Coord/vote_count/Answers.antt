use Rattle.std.proofs.Common.{◌∙◌, sym, ap, length, count_by}
use Rattle.mk_quorum.specs.Sizes.{members}
use Rattle.mk_quorum.specs.Slots.{passes}
use Rattle.mk_quorum.proofs.SlotLists.{slots_counted}
use Rattle.mk_words.specs.Rulings.{any_vote}
use Rattle.mk_coord.proofs.coord.Coord.vote_count.Goals as goal

pub returns : goal.returns
returns c =
    c.count_votes.ensures ∙ ap (count_by (passes any_vote)) c.votes.ensures.slots
    ∙ sym (slots_counted (members c.args.self.now.faults) any_vote c.args.self.now.state.votes (ap length (sym c.votes.ensures.slots) ∙ c.votes.ensures.count))
