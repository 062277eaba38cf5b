use Rattle.std.proofs.Common.{◌∙◌, sym, ap, Some, None}
use Rattle.mk_model.specs.OneCopy.{with_writes}
use Rattle.mk_model.specs.Explained.{first_unlike}
use Rattle.mk_replay.specs.Explained.{first_unexplained}
use Rattle.mk_words.proofs.StampTables.{txns_at}
use Rattle.mk_replay.proofs.ExplainedReads.{unexplained_here, ExplainsDone-next, IsNone-iff_explained}
use Rattle.mk_replay.proofs.explaining.unexplained.Goals as goal

pub returns-in-Some-find_unlike-clause-first : goal.returns-in-Some-find_unlike-clause-first
returns-in-Some-find_unlike-clause-first c =
    ap (λ id. Some (record { id = id; key = c.in-Some-find_unlike.key })) c.id.ensures
    ∙ unexplained_here c.args.commits.now c.loop-txn.copy (txns_at c.loop-txn.txn-iterator) c.in-Some.txn.now.now
    (txns_at c.next.new.self) c.in-Some-find_unlike.key c.requires (ap txns_at c.in-Some.ensures.steps) c.loop-txn.invariant
    (c.in-Some-find_unlike.ensures ∙ ap (first_unlike c.loop-txn.copy) c.reads.ensures.value)

pub returns-in-Some-find_unlike-clause-none_where_explained : goal.returns-in-Some-find_unlike-clause-none_where_explained
returns-in-Some-find_unlike-clause-none_where_explained c = IsNone-iff_explained c.args.commits.now _ (returns-in-Some-find_unlike-clause-first c)

pub loop-txn-preserved : goal.loop-txn-preserved
loop-txn-preserved c =
    ExplainsDone-next c.args.commits.now c.loop-txn.copy c.write.new.self (txns_at c.loop-txn.txn-iterator) c.in-Some.txn.now.now
    (txns_at c.next.new.self) c.requires (ap txns_at c.in-Some.ensures.steps) c.loop-txn.invariant
    (c.in_default.ensures ∙ ap (first_unlike c.loop-txn.copy) c.reads.ensures.value)
    (c.in_ok-write.ensures ∙ ap (λ stamp. with_writes stamp c.writes.result.now c.loop-txn.copy) c.stamp.ensures ∙ ap (λ writes. with_writes c.in-Some.txn.now.now.stamp writes c.loop-txn.copy) c.writes.ensures.value)

pub returns-clause-none_where_explained : goal.returns-clause-none_where_explained
returns-clause-none_where_explained c =
    IsNone-iff_explained c.args.commits.now None
    (ap (λ left. first_unexplained c.args.commits.now (txns_at left)) (sym c.in-None.ensures.steps.0) ∙ c.loop-txn.invariant.3)
