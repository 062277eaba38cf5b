use Rattle.mk_epoch_tests.proofs.ReachedCalls.{promise_reached}
use Rattle.mk_epoch_tests.proofs.tests.calling.promise.Goals as goal

pub returns-clause-reached : goal.returns-clause-reached
returns-clause-reached g c =
    promise_reached g.B.Keeping.stands c.calls_lead_on.ensures.does c.args.replicas.now c.promise.new.self (record { entries = c.in_ok-handed.handed.now; marks = c.args.marks.now }) c.args.epoch c.args.replica _
    c.requires.reached c.in_ok-handed.ensures.may c.in_ok-handed.ensures.fit c.promise.ensures.does
