use Rattle.std.proofs.Common.{[]}
use Rattle.std.proofs.lemmas.Result.{on_ok_weaker}
use Rattle.mk_workers.proofs.Goings.{gone_first}
use Rattle.mk_workers.proofs.Turnings.{on_ok_both, turned_more, turned_to_end}
use Rattle.mk_workers.proofs.worker.run.Goals as goal

pub loop-init : goal.loop-init
loop-init g c =
    let was = c.args.worker.now in
    record { fits = c.requires.fits; gone = ([], gone_first c.args.shared.now.rules.now was.driver was.column); kept = g.met.O.Outlet.kept_itself was.outlet }

pub returns-then-not-branch : goal.returns-then-not-branch
returns-then-not-branch g c =
    let was = c.loop.invariant in
    let first = c.args.worker.now in
    let old = c.loop.worker in
    let new = c.turn.new.worker in
    let turned = c.in_ok-turn.ensures.turned in
    let fits = c.in_ok-turn.ensures.fits in
    let ended = turned_to_end c.args.shared.now.rules.now first.driver old.driver new.driver first.column old.column new.column c.in_ok-turn.field-0 was.gone c.if-not-branch.true turned in
    on_ok_weaker c.round_end.result
    (λ both. record {
      ended = ended;
      seats = fits.seats;
      suited = both.0;
      stays = g.met.O.Outlet.kept_through first.outlet new.outlet c.round_end.new.self (g.met.O.Outlet.kept_through first.outlet old.outlet new.outlet was.kept c.in_ok-turn.ensures.kept) both.1;
    })
    (on_ok_both _ _ c.round_end.result c.round_end.ensures.suits c.round_end.ensures.kept)

pub loop-preserved : goal.loop-preserved
loop-preserved g c =
    let was = c.loop.invariant in
    let first = c.args.worker.now in
    let old = c.loop.worker in
    let new = c.turn.new.worker in
    record {
      fits = c.in_ok-turn.ensures.fits;
      gone = turned_more c.args.shared.now.rules.now first.driver old.driver new.driver first.column old.column new.column c.in_ok-turn.field-0 was.gone c.if-not-branch.false c.in_ok-turn.ensures.turned;
      kept = g.met.O.Outlet.kept_through first.outlet old.outlet new.outlet was.kept c.in_ok-turn.ensures.kept;
    }
