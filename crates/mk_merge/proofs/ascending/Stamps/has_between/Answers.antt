use Rattle.std.proofs.Common.{◌≡◌, ◌<◌, ◌≤◌, ap, sym, subst, ◌∙◌, true, false, List, length, arith, nat_lt}
use Rattle.std.proofs.lemmas.Bool.Decides.{nat_tests}
use Rattle.std.specs.List.Sorted.{IsPartitionPoint}
use Rattle.mk_txn.specs.declared.Stamp.{Stamp}
use Rattle.mk_txn.specs.Stamps.{is_before}
use Rattle.mk_merge.specs.Ascending.{has_between}
use Rattle.mk_merge.proofs.SpanningLaws.{between-there, between-nowhere}
use Rattle.mk_merge.proofs.ascending.Stamps.has_between.Goals as goal

pub returns-then-place-len : goal.returns-then-place-len
returns-then-place-len c =
    let split = subst (λ (xs : List Stamp). IsPartitionPoint (λ s. is_before c.args.low s ≡ false) (λ s. is_before c.args.low s ≡ true) xs c.end_upto-place.result) c.as_slice.ensures.value c.end_upto-place.ensures.split in
    let lt = c.if-place-len.true in
    let len = c.len.ensures in
    let within : c.end_upto-place.result < length c.self.inside.list.items = omega (arith, lt, len) in
    c.precedes.ensures
    ∙ between-there c.args.low c.args.high c.self.inside.list.items c.end_upto-place.result c.index.result.now c.self.invariant split within c.index.ensures
    ∙ ap (has_between c.args.low c.args.high) c.self.view_is

pub returns-else-place-len : goal.returns-else-place-len
returns-else-place-len c =
    let split = subst (λ (xs : List Stamp). IsPartitionPoint (λ s. is_before c.args.low s ≡ false) (λ s. is_before c.args.low s ≡ true) xs c.end_upto-place.result) c.as_slice.ensures.value c.end_upto-place.ensures.split in
    let ge = c.if-place-len.false in
    let len = c.len.ensures in
    let past : length c.self.inside.list.items ≤ c.end_upto-place.result = omega (arith, ge, len) in
    let none : nat_lt c.end_upto-place.result c.len.result ≡ false = grind (arith, nat_tests, ge) in
    none
    ∙ sym (between-nowhere c.args.low c.args.high c.self.inside.list.items c.end_upto-place.result split past)
    ∙ ap (has_between c.args.low c.args.high) c.self.view_is
