use Rattle.std.proofs.Common.{◌≡◌, [], List, ap, sym, subst, ◌∙◌}
use Rattle.mk_txn.specs.Transactions.{Transaction}
use Rattle.mk_feed_words.specs.declared.Received.{Received}
use Rattle.mk_follow.specs.Following.{Following, CommitFits}
use Rattle.mk_follow_tests.proofs.Fitting.{again-fits}
use Rattle.mk_follow_tests.proofs.follower.two_columns.Goals as goal

pub take_commit-requires-2-clause-fits : goal.take_commit-requires-2-clause-fits
take_commit-requires-2-clause-fits g c =
    let txn : Transaction = c.in_ok-txn.txn in
    let again : Transaction = c.in_ok-again.again in
    let old : Following = c.in_ok-follower.follower in
    let taken : Following = c.take_commit.new.self in
    let none : old.commits ≡ [] = ap (λ (s : Following). s.commits) c.in_ok-follower.ensures in
    let same : c.take_mark-2.new.self.commits ≡ taken.commits =
    ap (λ (s : Following). s.commits) c.in_ok-take_mark-2.ensures.ok ∙ ap (λ (s : Following). s.commits) c.in_ok-take_mark.ensures.ok in
    subst (λ (l : List Received). CommitFits 0 again l) (sym same)
    (again-fits c.in_ok-take_commit.field-0 old taken 0 txn again none c.in_ok-take_commit.ensures.ok c.in_ok-again.ensures.value)
