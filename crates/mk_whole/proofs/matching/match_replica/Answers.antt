use Rattle.std.proofs.Common.{sym, ◌∙◌, map, length, []}
use Rattle.mk_whole.specs.Matches.{unmatched_key}
use Rattle.mk_whole.proofs.PairLaws.{mapped-at}
use Rattle.mk_whole.proofs.FromLaws.{from-more, from-found}
use Rattle.mk_whole.proofs.MatchLaws.{key-is}
use Rattle.mk_whole.proofs.matching.match_replica.Goals as goal

pub returns-then-is_some : goal.returns-then-is_some
returns-then-is_some c =
    from-found (unmatched_key c.args.columns (map (λ journal. journal.items) c.args.journals.now) c.args.turns.now c.args.replica) (length c.args.journals.now) c.loop-key.key c.loop-key.invariant
    c.loop-key-test.true c.in_ok-flaw.flaw (sym c.if-is_some.true ∙ c.is_some.ensures)
    (key-is c.args.columns (map (λ journal. journal.items) c.args.journals.now) c.args.turns.now c.args.replica c.loop-key.key c.as_slice.result.now c.at-turns.result.now c.in_ok-flaw.flaw
    (c.as_slice.ensures.value ∙ sym (mapped-at (λ journal. journal.items) c.args.journals.now c.loop-key.key c.index-journals-key.result c.index-journals-key.result [] c.loop-key-test.true c.index-journals-key.is))
    c.at-turns.ensures c.in_ok-flaw.ensures)

pub loop-key-preserved : goal.loop-key-preserved
loop-key-preserved c =
    from-more (unmatched_key c.args.columns (map (λ journal. journal.items) c.args.journals.now) c.args.turns.now c.args.replica) (length c.args.journals.now) c.loop-key.key c.loop-key.invariant
    c.loop-key-test.true c.in_ok-flaw.flaw (sym c.if-is_some.false ∙ c.is_some.ensures)
    (key-is c.args.columns (map (λ journal. journal.items) c.args.journals.now) c.args.turns.now c.args.replica c.loop-key.key c.as_slice.result.now c.at-turns.result.now c.in_ok-flaw.flaw
    (c.as_slice.ensures.value ∙ sym (mapped-at (λ journal. journal.items) c.args.journals.now c.loop-key.key c.index-journals-key.result c.index-journals-key.result [] c.loop-key-test.true c.index-journals-key.is))
    c.at-turns.ensures c.in_ok-flaw.ensures)
