use Rattle.std.proofs.Common.{◌≡◌, ◌<◌, ◌++◌, ◌∷◌, [], List, sym, ap, subst, ◌∙◌}
use Rattle.std.specs.Prelude.{slice_set}
use Rattle.mk_txn.specs.Stamps.{is_before}
use Rattle.mk_feed_words.specs.declared.Mark.{Mark}
use Rattle.mk_feed_words.specs.Feed.{watermark}
use Rattle.mk_follow.specs.declared.lane.Lane.{Lane}
use Rattle.mk_follow.specs.Following.{Following, watermark_of}
use Rattle.mk_follow.specs.Kept.{LanesFit, Kept}
use Rattle.mk_follow.proofs.Keeps.{lanes-same}
use Rattle.mk_follow.proofs.Taking.{IsRisen, after-mark}
use Rattle.mk_follow.proofs.follower.Follower.take_mark.Goals as goal

pub invariant_of-self-in_err-add : goal.invariant_of-self-in_err-add
invariant_of-self-in_err-add c =
    let s = c.self.inside in
    let h : Kept s.columns s.subscription s.commits.commits s.marks.items s.lanes.items s.rows.items s.watermark = c.self.invariant.1 in
    let lane : Lane = c.index_mut.result.now in
    let lt : c.args.column < s.columns = subst (λ (v : Following). c.args.column < v.columns) (sym c.self.view_is) c.requires in (
      c.self.invariant.0,
      record {
        some_column = h.some_column;
        stand = h.stand;
        lanes_fit =
            subst (λ (l : List Mark). LanesFit s.columns s.commits.commits l (slice_set s.lanes.items c.args.column c.add.new.self)) (sym c.reserve.ensures.items)
            (lanes-same s.columns s.commits.commits s.marks.items s.lanes.items c.args.column lane c.add.new.self h.lanes_fit lt c.index_mut.ensures.value c.in_err-add.ensures.err.0 c.in_err-add.ensures.err.1);
        stamp_is = h.stamp_is ∙ ap (watermark s.columns s.commits.commits) (sym c.reserve.ensures.items);
        wide = h.wide;
        shows = h.shows;
      },
    )

pub rise-requires-clause-order : goal.rise-requires-clause-order
rise-requires-clause-order c =
    let s = c.self.inside in
    let h : Kept s.columns s.subscription s.commits.commits s.marks.items s.lanes.items s.rows.items s.watermark = c.self.invariant.1 in
    let lane : Lane = c.index_mut.result.now in
    let lt : c.args.column < s.columns = subst (λ (v : Following). c.args.column < v.columns) (sym c.self.view_is) c.requires in
    let mark : Mark = record { column = c.args.column; upto = c.args.upto; count = c.args.count } in
    let marks : c.push_reserved.new.self.items ≡ s.marks.items ++ mark ∷ [] = c.push_reserved.ensures.items ∙ ap (λ (l : List Mark). l ++ mark ∷ []) c.reserve.ensures.items in
    let risen : IsRisen s.columns s.commits.commits c.push_reserved.new.self.items (slice_set s.lanes.items c.args.column c.add.new.self) s.watermark c.least-high.result =
    after-mark s.columns s.subscription s.commits.commits s.marks.items c.push_reserved.new.self.items s.lanes.items c.as_slice.result.now s.rows.items s.watermark mark lane c.add.new.self
    c.least-high.result h lt marks c.index_mut.ensures.value c.in_ok-add.ensures.reached c.in_ok-add.ensures.waiting c.as_slice.ensures.value c.least-high.ensures in
    risen.order

pub invariant_of-self-2 : goal.invariant_of-self-2
invariant_of-self-2 c =
    let s = c.self.inside in
    let h : Kept s.columns s.subscription s.commits.commits s.marks.items s.lanes.items s.rows.items s.watermark = c.self.invariant.1 in
    let lane : Lane = c.index_mut.result.now in
    let lt : c.args.column < s.columns = subst (λ (v : Following). c.args.column < v.columns) (sym c.self.view_is) c.requires in
    let mark : Mark = record { column = c.args.column; upto = c.args.upto; count = c.args.count } in
    let marks : c.push_reserved.new.self.items ≡ s.marks.items ++ mark ∷ [] = c.push_reserved.ensures.items ∙ ap (λ (l : List Mark). l ++ mark ∷ []) c.reserve.ensures.items in
    let risen : IsRisen s.columns s.commits.commits c.push_reserved.new.self.items (slice_set s.lanes.items c.args.column c.add.new.self) s.watermark c.least-high.result =
    after-mark s.columns s.subscription s.commits.commits s.marks.items c.push_reserved.new.self.items s.lanes.items c.as_slice.result.now s.rows.items s.watermark mark lane c.add.new.self
    c.least-high.result h lt marks c.index_mut.ensures.value c.in_ok-add.ensures.reached c.in_ok-add.ensures.waiting c.as_slice.ensures.value c.least-high.ensures in (
      c.self.invariant.0,
      record {
        some_column = h.some_column;
        stand = risen.stand;
        lanes_fit = risen.fit;
        stamp_is = risen.high_is;
        wide = c.rise.ensures.wide;
        shows = c.rise.ensures.shows;
      },
    )

pub returns-clause-rises : goal.returns-clause-rises
returns-clause-rises c =
    let s = c.self.inside in
    let h : Kept s.columns s.subscription s.commits.commits s.marks.items s.lanes.items s.rows.items s.watermark = c.self.invariant.1 in
    let lane : Lane = c.index_mut.result.now in
    let lt : c.args.column < s.columns = subst (λ (v : Following). c.args.column < v.columns) (sym c.self.view_is) c.requires in
    let mark : Mark = record { column = c.args.column; upto = c.args.upto; count = c.args.count } in
    let marks : c.push_reserved.new.self.items ≡ s.marks.items ++ mark ∷ [] = c.push_reserved.ensures.items ∙ ap (λ (l : List Mark). l ++ mark ∷ []) c.reserve.ensures.items in
    let risen : IsRisen s.columns s.commits.commits c.push_reserved.new.self.items (slice_set s.lanes.items c.args.column c.add.new.self) s.watermark c.least-high.result =
    after-mark s.columns s.subscription s.commits.commits s.marks.items c.push_reserved.new.self.items s.lanes.items c.as_slice.result.now s.rows.items s.watermark mark lane c.add.new.self
    c.least-high.result h lt marks c.index_mut.ensures.value c.in_ok-add.ensures.reached c.in_ok-add.ensures.waiting c.as_slice.ensures.value c.least-high.ensures in
    let old : watermark_of c.args.self.now ≡ s.watermark = sym (h.stamp_is ∙ ap watermark_of c.self.view_is) in
    (λ i. is_before (sym risen.high_is i) (old i)) ∙ risen.order
