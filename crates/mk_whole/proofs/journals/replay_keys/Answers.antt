use Rattle.std.proofs.Common.{sym, ◌∙◌, ap}
use Rattle.mk_words.specs.Journals.{cell_through}
use Rattle.mk_verdict.specs.Flaws.{flaw_of_journal}
use Rattle.mk_whole.specs.Journals.{flaw_at_key}
use Rattle.mk_whole.proofs.PairLaws.{views-found, views-more}
use Rattle.mk_whole.proofs.journals.replay_keys.Goals as goal

pub returns-then-is_some-clause-flaw : goal.returns-then-is_some-clause-flaw
returns-then-is_some-clause-flaw c =
    views-found (λ cell. cell.state) (λ journal. journal.items) cell_through (flaw_at_key c.args.replica) c.args.cells.now.items c.args.journals.now c.loop-key.key c.loop-key.cells.items
    c.loop-key.invariant c.requires.each c.loop-key-test.true c.index_mut.result.now _ c.index-journals-key.result _ c.index_mut.ensures.value c.index-journals-key.is
    c.in_ok-flaw.flaw (sym c.if-is_some.true ∙ c.is_some.ensures)
    (c.in_ok-flaw.ensures.flaw ∙ ap (flaw_of_journal c.index_mut.result.now.state c.args.replica c.loop-key.key 1) c.as_slice.ensures.value)

pub loop-key-preserved : goal.loop-key-preserved
loop-key-preserved c =
    views-more (λ cell. cell.state) (λ journal. journal.items) cell_through (flaw_at_key c.args.replica) c.args.cells.now.items c.args.journals.now c.loop-key.key c.loop-key.cells.items
    c.loop-key.invariant c.requires.each c.loop-key-test.true c.index_mut.result.now _ c.index-journals-key.result _ c.index_mut.ensures.value c.index-journals-key.is
    c.in_ok-flaw.flaw c.replay_journal.new.cell (sym c.if-is_some.false ∙ c.is_some.ensures)
    (c.in_ok-flaw.ensures.flaw ∙ ap (flaw_of_journal c.index_mut.result.now.state c.args.replica c.loop-key.key 1) c.as_slice.ensures.value)
    (λ none. c.in_ok-flaw.ensures.cell none ∙ ap (cell_through c.index_mut.result.now.state) c.as_slice.ensures.value)
