use Rattle.std.proofs.Common.{sym, ◌∙◌, ap}
use Rattle.mk_whole.specs.Turns.{after_steps}
use Rattle.mk_whole.specs.Logs.{flaw_in_column, column_done}
use Rattle.mk_whole.proofs.PairLaws.{items-found, items-more}
use Rattle.mk_whole.proofs.LogLaws.{turns-on}
use Rattle.mk_whole.proofs.logs.replay_logs.Goals as goal

pub returns-then-is_some-clause-flaw : goal.returns-then-is_some-clause-flaw
returns-then-is_some-clause-flaw c =
    items-found (λ log. log.items) column_done flaw_in_column c.args.columns.now.items c.args.logs.now c.loop-place.place c.loop-place.columns.items c.loop-place.invariant.0
    c.requires.each c.loop-place-test.true c.index_mut.result.now _ c.index-logs-place.result _ c.index_mut.ensures.value c.index-logs-place.is
    c.in_ok-flaw.flaw (sym c.if-is_some.true ∙ c.is_some.ensures)
    (c.in_ok-flaw.ensures.flaw ∙ ap (flaw_in_column c.loop-place.place c.index_mut.result.now) c.as_slice.ensures.value)

pub loop-place-preserved : goal.loop-place-preserved
loop-place-preserved c = (
  items-more (λ log. log.items) column_done flaw_in_column c.args.columns.now.items c.args.logs.now c.loop-place.place c.loop-place.columns.items c.loop-place.invariant.0
      c.requires.each c.loop-place-test.true c.index_mut.result.now _ c.index-logs-place.result _ c.index_mut.ensures.value c.index-logs-place.is
      c.in_ok-flaw.flaw c.replay_log.new.column (sym c.if-is_some.false ∙ c.is_some.ensures)
      (c.in_ok-flaw.ensures.flaw ∙ ap (flaw_in_column c.loop-place.place c.index_mut.result.now) c.as_slice.ensures.value)
      (λ none. c.in_ok-flaw.ensures.column none ∙ ap (column_done c.index_mut.result.now) c.as_slice.ensures.value),
  turns-on (λ log. log.items) c.args.turns.now c.args.logs.now c.loop-place.place c.loop-place.turns c.replay_log.new.turns c.index-logs-place.result c.index-logs-place.result
      c.in_ok-flaw.flaw (sym c.if-is_some.false ∙ c.is_some.ensures) c.loop-place-test.true c.index-logs-place.is c.loop-place.invariant.1
      (λ none. c.in_ok-flaw.ensures.turns none ∙ ap (after_steps c.loop-place.place c.loop-place.turns) c.as_slice.ensures.value),
)
