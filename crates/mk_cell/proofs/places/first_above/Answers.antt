use Rattle.std.proofs.Common.{◌+◌, ◌-◌, ◌/◌, ◌∙◌, sym, length, arith}
use Rattle.mk_cell.proofs.PlaceLaws.{place_above-within, place_above-until, place_above-past}
use Rattle.mk_cell.proofs.StepLaws.{AreHalved-first, AreHalved-again}
use Rattle.mk_cell.proofs.places.first_above.Goals as goal

pub loop-low-init : goal.loop-low-init
loop-low-init g c =
    let places = g.P.Places.places c.args.places.now in
    let within = place_above-within c.args.stamp places in
    let count = c.count-high.ensures.count in
    (omega arith, omega (arith, within, count), omega (arith, count), AreHalved-first c.args.steps.now (c.count-high.result - 0) (length places) (omega (arith, count)))

pub loop-low-preserved-then-precedes : goal.loop-low-preserved-then-precedes
loop-low-preserved-then-precedes g c =
    let places = g.P.Places.places c.args.places.now in
    let h = c.loop-low.invariant in
    let middle = c.loop-low.low + (c.loop-low.high - c.loop-low.low) / 2 in
    let until = place_above-until c.args.stamp c.at-found.result places middle c.at-found.ensures.stamp (sym c.precedes.ensures ∙ c.if-precedes.true) in (
      h.0,
      until,
      omega (arith, h.2, c.loop-low-test.true),
      AreHalved-again c.args.steps.now c.loop-low.steps c.at-found.new.steps (c.loop-low.high - c.loop-low.low) (middle - c.loop-low.low) (length places)
          c.at-found.ensures.cost (omega (arith, c.loop-low-test.true)) (omega arith) h.3,
    )

pub loop-low-preserved : goal.loop-low-preserved
loop-low-preserved g c =
    let places = g.P.Places.places c.args.places.now in
    let h = c.loop-low.invariant in
    let middle = c.loop-low.low + (c.loop-low.high - c.loop-low.low) / 2 in
    let past = place_above-past c.args.stamp c.at-found.result places middle c.count-high.ensures.ascending c.at-found.ensures.stamp (sym c.precedes.ensures ∙ c.if-precedes.false) in (
      omega (arith, past),
      h.1,
      h.2,
      AreHalved-again c.args.steps.now c.loop-low.steps c.at-found.new.steps (c.loop-low.high - c.loop-low.low) (c.loop-low.high - (middle + 1)) (length places)
          c.at-found.ensures.cost (omega (arith, c.loop-low-test.true)) (omega arith) h.3,
    )
