use Rattle.std.proofs.Common.{refl, sym}
use Rattle.mk_words.specs.Bases.{in_stamp_order}
use Rattle.mk_report.specs.Commits.{commits_in}
use Rattle.mk_past.proofs.TableLaws.{indexed-next, indexed-all}
use Rattle.mk_past.proofs.order.indexed.Goals as goal

pub each-preserved : goal.each-preserved
each-preserved c =
    indexed-next (in_stamp_order (commits_in c.args.lines.now)) c.each.past c.push.new.self c.each.stamp-iterator c.next.new.self (c.in-Some.stamp.now, c.in-Some.line.now) c.in-Some.stamp.now c.as_slice.result.now
    c.in-Some.ensures.steps refl (sym c.as_slice.ensures) c.in_ok-push.ensures c.each.invariant

pub returns : goal.returns
returns c = indexed-all (commits_in c.args.lines.now) c.each.past c.each.stamp-iterator c.requires c.in-None.ensures.steps.0 c.each.invariant
