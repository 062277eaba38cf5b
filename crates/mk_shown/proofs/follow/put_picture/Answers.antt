use Rattle.std.specs.String.{string_bytes}
use Rattle.mk_past.specs.Pasts.{copy_at}
use Rattle.mk_feed_words.specs.MarkStamps.{last_mark}
use Rattle.mk_shown.proofs.FollowLaws.{line-next}
use Rattle.mk_shown.proofs.follow.put_picture.Goals as goal

pub each-preserved : goal.each-preserved
each-preserved c = λ commits past.
    line-next (copy_at last_mark commits) (string_bytes c.each.out) (string_bytes c.put_followed.new.out) _ c.each.name-iterator c.next.new.self (c.in-Some.name.now, c.in-Some.number.now) c.at-value.result.0 c.at-value.result.1
    c.in-Some.ensures.steps (c.at-value.ensures.version commits past) (c.at-value.ensures.value commits past) c.in_ok-put_followed.ensures (c.each.invariant commits past)
