use Rattle.std.proofs.Common.{sym, ◌∙◌, ap, map, length, []}
use Rattle.std.proofs.lemmas.List.{length-map}
use Rattle.mk_whole.specs.Matches.{unmatched_replica}
use Rattle.mk_whole.proofs.PairLaws.{mapped-at}
use Rattle.mk_whole.proofs.FromLaws.{from-more, from-found}
use Rattle.mk_whole.proofs.MatchLaws.{replica-is}
use Rattle.mk_whole.proofs.matching.match_journals.Goals as goal

pub returns-then-is_some : goal.returns-then-is_some
returns-then-is_some c =
    let journals = map (λ row. map (λ journal. journal.items) row.items) c.args.journals.now in
    from-found (unmatched_replica c.args.columns journals c.args.turns.now) (length c.args.journals.now) c.loop-replica.replica c.loop-replica.invariant
    c.loop-replica-test.true c.in_ok-flaw.flaw (sym c.if-is_some.true ∙ c.is_some.ensures)
    (replica-is c.args.columns journals c.args.turns.now c.loop-replica.replica (length c.as_slice.result.now) (map (λ journal. journal.items) c.as_slice.result.now) c.in_ok-flaw.flaw
    (ap (map (λ journal. journal.items)) c.as_slice.ensures.value
    ∙ sym (mapped-at (λ row. map (λ journal. journal.items) row.items) c.args.journals.now c.loop-replica.replica c.index-journals-replica.result c.index-journals-replica.result [] c.loop-replica-test.true c.index-journals-replica.is))
    (sym (length-map c.as_slice.result.now (λ journal. journal.items))) c.in_ok-flaw.ensures)

pub loop-replica-preserved : goal.loop-replica-preserved
loop-replica-preserved c =
    let journals = map (λ row. map (λ journal. journal.items) row.items) c.args.journals.now in
    from-more (unmatched_replica c.args.columns journals c.args.turns.now) (length c.args.journals.now) c.loop-replica.replica c.loop-replica.invariant
    c.loop-replica-test.true c.in_ok-flaw.flaw (sym c.if-is_some.false ∙ c.is_some.ensures)
    (replica-is c.args.columns journals c.args.turns.now c.loop-replica.replica (length c.as_slice.result.now) (map (λ journal. journal.items) c.as_slice.result.now) c.in_ok-flaw.flaw
    (ap (map (λ journal. journal.items)) c.as_slice.ensures.value
    ∙ sym (mapped-at (λ row. map (λ journal. journal.items) row.items) c.args.journals.now c.loop-replica.replica c.index-journals-replica.result c.index-journals-replica.result [] c.loop-replica-test.true c.index-journals-replica.is))
    (sym (length-map c.as_slice.result.now (λ journal. journal.items))) c.in_ok-flaw.ensures)
