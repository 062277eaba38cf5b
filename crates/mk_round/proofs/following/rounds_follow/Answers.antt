use Rattle.mk_round.proofs.FollowLaws.{between_behind}
use Rattle.mk_round.proofs.following.rounds_follow.Goals as goal

pub returns : goal.returns
returns c = between_behind c.next_round_is_left.ensures c.stands_after_round.ensures c.has_come_goes_on.ensures.after_round
