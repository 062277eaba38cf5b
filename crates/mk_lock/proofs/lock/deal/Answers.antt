use Rattle.std.proofs.Common.{rules, ◌≡◌, [], ◌∷◌, ◌++◌, slice_get, add-one, ap, ◌∙◌}
use Rattle.atomic_table.specs.Table.{Me}
use Rattle.mk_lock.specs.declared.view.View.{View}
use Rattle.mk_lock.specs.Entries.{JournalState}
use Rattle.mk_lock.specs.Seats.{seat_view}
use Rattle.mk_lock.proofs.SeatLaws.{deals_at, dealt_left, dealt_right, fresh_more}
use Rattle.mk_lock.proofs.lock.deal.Goals as goal

pub split_seat-given-requires : goal.split_seat-given-requires
split_seat-given-requires c =
    (search rules, search rules, deals_at _ _ _ _ _ (ap (λ (m : Me JournalState View). m.0) c.loop-number.invariant.left) c.loop-number-test.true)

pub of-requires : goal.of-requires
of-requires c = dealt_right _ _ _ _ c.loop-number.invariant.left c.loop-number-test.true c.split_seat-given.ensures.4

pub loop-number-preserved : goal.loop-number-preserved
loop-number-preserved c = record {
  table = search rules;
  left = rw add-one (dealt_left _ _ _ _ c.loop-number.invariant.left c.loop-number-test.true c.split_seat-given.ensures.2);
  count = search rules;
  fresh_ones = λ k below.
      let seat : c.of.result ≡ seat_view c.args.table.now.shared.table_id c.loop-number.number [] =
      c.of.ensures ∙ ap (λ t. seat_view t c.loop-number.number []) (c.split_seat-given.ensures.3 ∙ c.loop-number.invariant.table) in
      let items : c.push_reserved.new.self.items ≡ c.loop-number.dealt.items ++ seat_view c.args.table.now.shared.table_id c.loop-number.number [] ∷ [] =
      c.push_reserved.ensures.items ∙ (λ i. c.reserve.ensures.items i ++ seat i ∷ []) in
      ap (λ l. slice_get l k) items ∙ fresh_more _ _ _ c.loop-number.invariant.count c.loop-number.invariant.fresh_ones k below;
}
