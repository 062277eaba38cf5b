use Rattle.std.proofs.Common.{◌∙◌, ◌||◌, ap, arith}
use Rattle.mk_txn.specs.Transactions.{same_id}
use Rattle.mk_trim.specs.SettledAttempts.{is_settled}
use Rattle.mk_trim.proofs.OneMoreSettled.{holds-inserted, is_settled-above, IsSettled-above, is_settled-run, IsSettled-run}
use Rattle.mk_trim.proofs.settled.Settled.settle.Goals as goal

pub invariant_of-self-then-id-mark-2 : goal.invariant_of-self-then-id-mark-2
invariant_of-self-then-id-mark-2 c =
    IsSettled-above c.self.inside.marks c.self.inside.above.keys c.insert.new.self.keys c.args.id
    (λ other. holds-inserted c.self.inside.above.keys c.insert.new.self.keys c.args.id other (c.in_ok-insert.ensures.updates.0 other))
    (omega (arith, c.get-mark.ensures.value, c.if-id-mark-2.true)) c.self.invariant

pub returns-then-id-mark-2-clause-ok : goal.returns-then-id-mark-2-clause-ok
returns-then-id-mark-2-clause-ok c = λ other.
    is_settled-above c.self.inside.marks c.self.inside.above.keys c.insert.new.self.keys c.args.id other
    (holds-inserted c.self.inside.above.keys c.insert.new.self.keys c.args.id other (c.in_ok-insert.ensures.updates.0 other))
    ∙ ap (λ settled. is_settled settled other || same_id c.args.id other) c.self.view_is

pub invariant_of-self-2 : goal.invariant_of-self-2
invariant_of-self-2 c =
    rw c.in_ok-raise.ensures.ok (IsSettled-run c.self.inside.marks c.self.inside.above.keys c.drop_run.new.ids.keys c.args.id c.run_end-end.result c.get-mark.ensures.fits (omega (arith, c.get-mark.ensures.value, c.if-id-mark.false, c.if-id-mark-2.false)) c.run_end-end.ensures.from c.drop_run.ensures c.run_end-end.ensures.ends c.self.invariant)

pub returns-clause-ok : goal.returns-clause-ok
returns-clause-ok c = λ other.
    ap (λ marks. is_settled (record { marks = marks; above = c.drop_run.new.ids.keys }) other) c.in_ok-raise.ensures.ok
    ∙ is_settled-run c.self.inside.marks c.self.inside.above.keys c.drop_run.new.ids.keys c.args.id other c.run_end-end.result c.get-mark.ensures.fits
    (omega (arith, c.get-mark.ensures.value, c.if-id-mark.false, c.if-id-mark-2.false)) c.run_end-end.ensures.from c.run_end-end.ensures.run
    (c.drop_run.ensures other)
    ∙ ap (λ settled. is_settled settled other || same_id c.args.id other) c.self.view_is
