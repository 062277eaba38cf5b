use Rattle.std.proofs.Common.{◌≡◌, [], ap, ◌∙◌, arith}
use Rattle.mk_txn.specs.declared.Stamp.{Stamp}
use Rattle.mk_txn.specs.declared.TxnId.{TxnId}
use Rattle.mk_txn.specs.Transactions.{Transaction}
use Rattle.mk_follow.specs.Following.{Following}
use Rattle.mk_follow_tests.proofs.Fitting.{other-fits}
use Rattle.mk_follow_tests.proofs.follower.one_column.Goals as goal

pub take_commit-requires-2-clause-fits : goal.take_commit-requires-2-clause-fits
take_commit-requires-2-clause-fits g c =
    let late : Transaction = c.in_ok-late.late in
    let early : Transaction = c.in_ok-early.early in
    let old : Following = c.take_mark.new.self in
    let none : old.commits ≡ [] = ap (λ (s : Following). s.commits) c.in_ok-take_mark.ensures.ok ∙ ap (λ (s : Following). s.commits) c.in_ok-follower.ensures in
    let late_seq : late.id.seq ≡ 2 = ap (λ (t : Transaction). t.id.seq) c.in_ok-late.ensures in
    let early_seq : early.id.seq ≡ 1 = ap (λ (t : Transaction). t.id.seq) c.in_ok-early.ensures in
    let late_time : late.stamp.time ≡ 30 = ap (λ (t : Transaction). t.stamp.time) c.in_ok-late.ensures ∙ ap (λ (s : Stamp). s.time) c.at.ensures in
    let early_time : early.stamp.time ≡ 20 = ap (λ (t : Transaction). t.stamp.time) c.in_ok-early.ensures ∙ ap (λ (s : Stamp). s.time) c.at-2.ensures in
    other-fits c.in_ok-take_commit.field-0 old c.take_commit.new.self 0 late early none c.in_ok-take_commit.ensures.ok
    (λ e. let same : late.id.seq ≡ early.id.seq = ap (λ (i : TxnId). i.seq) e in omega (arith, same, late_seq, early_seq))
    (λ e. let same : late.stamp.time ≡ early.stamp.time = ap (λ (s : Stamp). s.time) e in omega (arith, same, late_time, early_time))
