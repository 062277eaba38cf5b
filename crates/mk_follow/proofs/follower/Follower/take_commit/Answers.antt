use Rattle.std.proofs.Common.{◌≡◌, ◌<◌, List, false, sym, ap, subst, ◌∙◌}
use Rattle.std.specs.Prelude.{slice_set}
use Rattle.mk_lists.specs.Among.{Each}
use Rattle.mk_txn.specs.declared.TxnId.{TxnId}
use Rattle.mk_txn.specs.Stamps.{is_before}
use Rattle.mk_feed_words.specs.declared.Received.{Received as Commit}
use Rattle.mk_feed_words.specs.declared.Mark.{Mark}
use Rattle.mk_follow.specs.declared.lane.Lane.{Lane}
use Rattle.mk_follow.specs.Commits.{CommitsState}
use Rattle.mk_follow.specs.Following.{Following, CommitFits, has_id, watermark_of}
use Rattle.mk_follow.specs.Kept.{Kept}
use Rattle.mk_follow.proofs.Keeps.{waiting-columns, lane-is}
use Rattle.mk_follow.proofs.Taking.{IsRisen, after-commit}
use Rattle.mk_follow.proofs.follower.Follower.take_commit.Goals as goal

pub settle-requires : goal.settle-requires
settle-requires c =
    let s = c.self.inside in
    let h : Kept s.columns s.subscription s.commits.commits s.marks.items s.lanes.items s.rows.items s.watermark = c.self.invariant.1 in
    let lane : Lane = c.index_mut.result.now in
    let lt : c.args.column < s.columns = subst (λ (v : Following). c.args.column < v.columns) (sym c.self.view_is) c.requires.column in
    let all : Each (λ (mark : Mark). mark.column < s.columns) lane.waiting.items =
    waiting-columns s.columns s.commits.commits s.marks.items c.args.column lane.waiting.items lane.reached
    (h.lanes_fit.each c.args.column lane (lane-is s.columns s.commits.commits s.marks.items s.lanes.items c.args.column lane h.lanes_fit lt c.index_mut.ensures.value))
    lt lane.waiting.items (λ mark a. a) in
    let columns : s.columns ≡ c.push.new.self.columns = sym c.self.invariant.0 ∙ sym (ap (λ (v : CommitsState). v.columns) c.in_ok-push.ensures.ok) in
    subst (λ n. Each (λ (mark : Mark). mark.column < n) lane.waiting.items) columns all

pub rise-requires-clause-order : goal.rise-requires-clause-order
rise-requires-clause-order c =
    let s = c.self.inside in
    let h : Kept s.columns s.subscription s.commits.commits s.marks.items s.lanes.items s.rows.items s.watermark = c.self.invariant.1 in
    let lane : Lane = c.index_mut.result.now in
    let lt : c.args.column < s.columns = subst (λ (v : Following). c.args.column < v.columns) (sym c.self.view_is) c.requires.column in
    let commits : List Commit = c.push.new.self.commits in
    let fits : CommitFits c.args.column c.args.txn s.commits.commits =
    subst (λ (v : Following). CommitFits c.args.column c.args.txn v.commits) (sym c.self.view_is) c.requires.fits in
    let none : has_id c.args.txn.id s.commits.commits ≡ false =
    ap (λ (i : TxnId). has_id i s.commits.commits) (sym c.id.ensures) ∙ sym c.has.ensures ∙ c.if-has.false in
    let risen : IsRisen s.columns commits s.marks.items (slice_set s.lanes.items c.args.column c.settle.new.self) s.watermark c.least-high.result =
    after-commit s.columns s.subscription s.commits.commits commits s.marks.items s.lanes.items c.as_slice.result.now s.rows.items s.watermark c.args.column c.args.txn lane c.settle.new.self
    c.least-high.result h lt fits none c.requires.keys (ap (λ (v : CommitsState). v.commits) c.in_ok-push.ensures.ok) c.index_mut.ensures.value c.settle.ensures.reached c.settle.ensures.waiting
    c.as_slice.ensures.value c.least-high.ensures in
    risen.order

pub rise-requires-clause-stand : goal.rise-requires-clause-stand
rise-requires-clause-stand c =
    let s = c.self.inside in
    let h : Kept s.columns s.subscription s.commits.commits s.marks.items s.lanes.items s.rows.items s.watermark = c.self.invariant.1 in
    let lane : Lane = c.index_mut.result.now in
    let lt : c.args.column < s.columns = subst (λ (v : Following). c.args.column < v.columns) (sym c.self.view_is) c.requires.column in
    let commits : List Commit = c.push.new.self.commits in
    let fits : CommitFits c.args.column c.args.txn s.commits.commits =
    subst (λ (v : Following). CommitFits c.args.column c.args.txn v.commits) (sym c.self.view_is) c.requires.fits in
    let none : has_id c.args.txn.id s.commits.commits ≡ false =
    ap (λ (i : TxnId). has_id i s.commits.commits) (sym c.id.ensures) ∙ sym c.has.ensures ∙ c.if-has.false in
    let risen : IsRisen s.columns commits s.marks.items (slice_set s.lanes.items c.args.column c.settle.new.self) s.watermark c.least-high.result =
    after-commit s.columns s.subscription s.commits.commits commits s.marks.items s.lanes.items c.as_slice.result.now s.rows.items s.watermark c.args.column c.args.txn lane c.settle.new.self
    c.least-high.result h lt fits none c.requires.keys (ap (λ (v : CommitsState). v.commits) c.in_ok-push.ensures.ok) c.index_mut.ensures.value c.settle.ensures.reached c.settle.ensures.waiting
    c.as_slice.ensures.value c.least-high.ensures in
    risen.stand

pub invariant_of-self-2 : goal.invariant_of-self-2
invariant_of-self-2 c =
    let s = c.self.inside in
    let h : Kept s.columns s.subscription s.commits.commits s.marks.items s.lanes.items s.rows.items s.watermark = c.self.invariant.1 in
    let lane : Lane = c.index_mut.result.now in
    let lt : c.args.column < s.columns = subst (λ (v : Following). c.args.column < v.columns) (sym c.self.view_is) c.requires.column in
    let commits : List Commit = c.push.new.self.commits in
    let fits : CommitFits c.args.column c.args.txn s.commits.commits =
    subst (λ (v : Following). CommitFits c.args.column c.args.txn v.commits) (sym c.self.view_is) c.requires.fits in
    let none : has_id c.args.txn.id s.commits.commits ≡ false =
    ap (λ (i : TxnId). has_id i s.commits.commits) (sym c.id.ensures) ∙ sym c.has.ensures ∙ c.if-has.false in
    let risen : IsRisen s.columns commits s.marks.items (slice_set s.lanes.items c.args.column c.settle.new.self) s.watermark c.least-high.result =
    after-commit s.columns s.subscription s.commits.commits commits s.marks.items s.lanes.items c.as_slice.result.now s.rows.items s.watermark c.args.column c.args.txn lane c.settle.new.self
    c.least-high.result h lt fits none c.requires.keys (ap (λ (v : CommitsState). v.commits) c.in_ok-push.ensures.ok) c.index_mut.ensures.value c.settle.ensures.reached c.settle.ensures.waiting
    c.as_slice.ensures.value c.least-high.ensures in (
      ap (λ (v : CommitsState). v.columns) c.in_ok-push.ensures.ok ∙ c.self.invariant.0,
      record {
        some_column = h.some_column;
        stand = risen.stand;
        lanes_fit = risen.fit;
        stamp_is = risen.high_is;
        wide = c.rise.ensures.wide;
        shows = c.rise.ensures.shows;
      },
    )

pub returns-clause-rises : goal.returns-clause-rises
returns-clause-rises c =
    let s = c.self.inside in
    let h : Kept s.columns s.subscription s.commits.commits s.marks.items s.lanes.items s.rows.items s.watermark = c.self.invariant.1 in
    let lane : Lane = c.index_mut.result.now in
    let lt : c.args.column < s.columns = subst (λ (v : Following). c.args.column < v.columns) (sym c.self.view_is) c.requires.column in
    let commits : List Commit = c.push.new.self.commits in
    let fits : CommitFits c.args.column c.args.txn s.commits.commits =
    subst (λ (v : Following). CommitFits c.args.column c.args.txn v.commits) (sym c.self.view_is) c.requires.fits in
    let none : has_id c.args.txn.id s.commits.commits ≡ false =
    ap (λ (i : TxnId). has_id i s.commits.commits) (sym c.id.ensures) ∙ sym c.has.ensures ∙ c.if-has.false in
    let risen : IsRisen s.columns commits s.marks.items (slice_set s.lanes.items c.args.column c.settle.new.self) s.watermark c.least-high.result =
    after-commit s.columns s.subscription s.commits.commits commits s.marks.items s.lanes.items c.as_slice.result.now s.rows.items s.watermark c.args.column c.args.txn lane c.settle.new.self
    c.least-high.result h lt fits none c.requires.keys (ap (λ (v : CommitsState). v.commits) c.in_ok-push.ensures.ok) c.index_mut.ensures.value c.settle.ensures.reached c.settle.ensures.waiting
    c.as_slice.ensures.value c.least-high.ensures in
    let old : watermark_of c.args.self.now ≡ s.watermark = sym (h.stamp_is ∙ ap watermark_of c.self.view_is) in
    (λ i. is_before (sym risen.high_is i) (old i)) ∙ risen.order
