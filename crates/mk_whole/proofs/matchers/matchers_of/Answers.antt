use Rattle.mk_whole.proofs.MatcherLaws.{step-on}
use Rattle.mk_whole.proofs.matchers.matchers_of.Goals as goal

pub loop-turn-preserved : goal.loop-turn-preserved
loop-turn-preserved c =
    step-on c.args.turns.now c.loop-turn.turn-index c.args.columns _ c.loop-turn.matchers.items c.add_turn.new.matchers.items c.loop-turn-test.true c.loop-turn.invariant c.in_ok-add_turn.ensures
