use Rattle.std.proofs.Common.{◌≡◌, ap, sym, subst, ◌∙◌, true, false, ◌||◌, List}
use Rattle.std.specs.List.{list_any}
use Rattle.std.specs.List.Sorted.{IsPartitionPoint}
use Rattle.mk_txn.specs.declared.Stamp.{Stamp}
use Rattle.mk_txn.specs.Stamps.{is_before}
use Rattle.mk_merge.specs.Ascending.{IsAscending}
use Rattle.mk_merge.proofs.AscendingLaws.{any-inserted}
use Rattle.mk_merge.proofs.SpanningLaws.{ascends-inserted}
use Rattle.mk_merge.proofs.ascending.Stamps.with.Goals as goal

pub invariant_of-result : goal.invariant_of-result
invariant_of-result c =
    let split = subst (λ (xs : List Stamp). IsPartitionPoint (λ s. is_before c.args.stamp s ≡ false) (λ s. is_before c.args.stamp s ≡ true) xs c.end_upto-place.result) c.as_slice.ensures.value c.end_upto-place.ensures.split in
    subst IsAscending (sym c.in_ok-insert.ensures.items) (ascends-inserted c.args.stamp c.self.inside.list.items c.end_upto-place.result split c.self.invariant)

pub returns : goal.returns
returns c test =
    ap (list_any test) c.in_ok-insert.ensures.items
    ∙ any-inserted test c.args.stamp c.self.inside.list.items c.end_upto-place.result
    ∙ ap (λ (xs : List Stamp). list_any test xs || test c.args.stamp) c.self.view_is
