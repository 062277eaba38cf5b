use Rattle.std.proofs.Common.{◌≡◌, ◌≤◌, sym, ◌∙◌, ap, arith, map, length}
use Rattle.std.proofs.lemmas.List.{length-map}
use Rattle.mk_state.specs.Cells.{states_of}
use Rattle.mk_whole.specs.Journals.{flaw_at_replica, keys_done}
use Rattle.mk_whole.proofs.PairLaws.{views-found, views-more, views-here, mapped-at}
use Rattle.mk_whole.proofs.RowLaws.{row_few, row_same}
use Rattle.mk_whole.proofs.journals.replay_journals.Goals as goal

pub replay_keys-requires-clause-few : goal.replay_keys-requires-clause-few
replay_keys-requires-clause-few c =
    let few : length (states_of c.index_mut.result.now.items) ≤ 256 =
    row_few (map (λ row. states_of row.items) c.args.cells.now.items) (map (λ row. map (λ journal. journal.items) row.items) c.args.journals.now) c.requires.keys c.loop-replica.replica
    (states_of c.index_mut.result.now.items) (map (λ journal. journal.items) c.index-journals-replica.result.items)
    (omega (arith, length-map c.args.cells.now.items (λ row. states_of row.items), c.requires.each))
    (omega (arith, length-map c.args.journals.now (λ row. map (λ journal. journal.items) row.items)))
    (views-here (λ row. states_of row.items) (λ row. map (λ journal. journal.items) row.items) keys_done flaw_at_replica c.args.cells.now.items c.args.journals.now c.loop-replica.replica
    c.loop-replica.cells.items c.loop-replica.invariant c.requires.each c.loop-replica-test.true c.index_mut.result.now _ c.index-journals-replica.result _ c.index_mut.ensures.value
    c.index-journals-replica.is)
    (sym (mapped-at (λ row. map (λ journal. journal.items) row.items) c.args.journals.now c.loop-replica.replica c.index-journals-replica.result _
    (map (λ journal. journal.items) c.index-journals-replica.result.items) c.loop-replica-test.true c.index-journals-replica.is)) in
    omega (arith, length-map c.index_mut.result.now.items (λ cell. cell.state), few)

pub replay_keys-requires-clause-each : goal.replay_keys-requires-clause-each
replay_keys-requires-clause-each c =
    let same : length (map (λ journal. journal.items) c.index-journals-replica.result.items) ≡ length (states_of c.index_mut.result.now.items) =
    row_same (map (λ row. states_of row.items) c.args.cells.now.items) (map (λ row. map (λ journal. journal.items) row.items) c.args.journals.now) c.requires.keys c.loop-replica.replica
    (states_of c.index_mut.result.now.items) (map (λ journal. journal.items) c.index-journals-replica.result.items)
    (omega (arith, length-map c.args.cells.now.items (λ row. states_of row.items), c.requires.each))
    (omega (arith, length-map c.args.journals.now (λ row. map (λ journal. journal.items) row.items)))
    (views-here (λ row. states_of row.items) (λ row. map (λ journal. journal.items) row.items) keys_done flaw_at_replica c.args.cells.now.items c.args.journals.now c.loop-replica.replica
    c.loop-replica.cells.items c.loop-replica.invariant c.requires.each c.loop-replica-test.true c.index_mut.result.now _ c.index-journals-replica.result _ c.index_mut.ensures.value
    c.index-journals-replica.is)
    (sym (mapped-at (λ row. map (λ journal. journal.items) row.items) c.args.journals.now c.loop-replica.replica c.index-journals-replica.result _
    (map (λ journal. journal.items) c.index-journals-replica.result.items) c.loop-replica-test.true c.index-journals-replica.is)) in
    ap (λ js. length js) c.as_slice.ensures.value
    ∙ sym (length-map c.index-journals-replica.result.items (λ journal. journal.items))
    ∙ same
    ∙ length-map c.index_mut.result.now.items (λ cell. cell.state)

pub returns-then-is_some-clause-flaw : goal.returns-then-is_some-clause-flaw
returns-then-is_some-clause-flaw c =
    views-found (λ row. states_of row.items) (λ row. map (λ journal. journal.items) row.items) keys_done flaw_at_replica c.args.cells.now.items c.args.journals.now c.loop-replica.replica
    c.loop-replica.cells.items c.loop-replica.invariant c.requires.each c.loop-replica-test.true c.index_mut.result.now _ c.index-journals-replica.result _ c.index_mut.ensures.value
    c.index-journals-replica.is c.in_ok-flaw.flaw (sym c.if-is_some.true ∙ c.is_some.ensures)
    (c.in_ok-flaw.ensures.flaw ∙ ap (λ js. flaw_at_replica c.loop-replica.replica (states_of c.index_mut.result.now.items) (map (λ journal. journal.items) js)) c.as_slice.ensures.value)

pub loop-replica-preserved : goal.loop-replica-preserved
loop-replica-preserved c =
    views-more (λ row. states_of row.items) (λ row. map (λ journal. journal.items) row.items) keys_done flaw_at_replica c.args.cells.now.items c.args.journals.now c.loop-replica.replica
    c.loop-replica.cells.items c.loop-replica.invariant c.requires.each c.loop-replica-test.true c.index_mut.result.now _ c.index-journals-replica.result _ c.index_mut.ensures.value
    c.index-journals-replica.is c.in_ok-flaw.flaw c.replay_keys.new.cells (sym c.if-is_some.false ∙ c.is_some.ensures)
    (c.in_ok-flaw.ensures.flaw ∙ ap (λ js. flaw_at_replica c.loop-replica.replica (states_of c.index_mut.result.now.items) (map (λ journal. journal.items) js)) c.as_slice.ensures.value)
    (λ none. c.in_ok-flaw.ensures.cells none ∙ ap (λ js. keys_done (states_of c.index_mut.result.now.items) (map (λ journal. journal.items) js)) c.as_slice.ensures.value)
