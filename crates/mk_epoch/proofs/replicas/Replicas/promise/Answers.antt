use Rattle.mk_epoch.proofs.AnswerLaws.{promised_or_not}
use Rattle.mk_epoch.proofs.replicas.Replicas.promise.Goals as goal

pub returns-clause-does : goal.returns-clause-does
returns-clause-does g c =
    promised_or_not g.B.Keeping.stands c.args.self.now c.args.epoch c.args.replica (record { entries = c.args.entries.now; marks = c.args.marks.now }) c.in_ok-promise.promise c.keep_promise.new.self c.keep_promise.result
    c.in_ok-check_promise.ensures.row c.in_ok-promise.ensures c.in_ok-check_promise.ensures.answer c.keep_promise.ensures.ok c.keep_promise.ensures.err c.keep_promise.ensures.told
