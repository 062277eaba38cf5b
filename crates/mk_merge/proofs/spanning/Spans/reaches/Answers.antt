use Rattle.std.proofs.Common.{◌≡◌, ◌≤◌, ap, sym, subst, ◌∙◌, true, false, List, length, arith, nat_lt}
use Rattle.std.proofs.lemmas.Bool.Decides.{nat_tests}
use Rattle.std.specs.List.Sorted.{IsPartitionPoint}
use Rattle.mk_txn.specs.Stamps.{is_before}
use Rattle.mk_merge.specs.declared.spanning.Span.{Span}
use Rattle.mk_merge.specs.Spanning.{is_spanned}
use Rattle.mk_merge.proofs.SpanningLaws.{reached-there, reached-nowhere}
use Rattle.mk_merge.proofs.spanning.Spans.reaches.Goals as goal

pub returns-then-end-gt0 : goal.returns-then-end-gt0
returns-then-end-gt0 c =
    let split = subst (λ (xs : List Span). IsPartitionPoint (λ (span : Span). is_before span.version c.args.stamp ≡ true) (λ (span : Span). is_before span.version c.args.stamp ≡ false) xs c.end_before-end.result) c.as_slice.ensures.value c.end_before-end.ensures.split in
    let bound = c.end_before-end.ensures.bound in
    let fits : c.end_before-end.result ≤ length c.self.inside.list.items = subst (λ (xs : List Span). c.end_before-end.result ≤ length xs) c.as_slice.ensures.value bound in
    c.precedes.ensures
    ∙ reached-there c.args.stamp c.self.inside.list.items c.end_before-end.result c.index.result.now c.self.invariant split fits c.if-end-gt0.true c.index.ensures
    ∙ ap (is_spanned c.args.stamp) c.self.view_is

pub returns-else-end-gt0 : goal.returns-else-end-gt0
returns-else-end-gt0 c =
    let split = subst (λ (xs : List Span). IsPartitionPoint (λ (span : Span). is_before span.version c.args.stamp ≡ true) (λ (span : Span). is_before span.version c.args.stamp ≡ false) xs c.end_before-end.result) c.as_slice.ensures.value c.end_before-end.ensures.split in
    let le = c.if-end-gt0.false in
    let none : nat_lt 0 c.end_before-end.result ≡ false = grind (arith, nat_tests, le) in
    none
    ∙ sym (reached-nowhere c.args.stamp c.self.inside.list.items c.end_before-end.result split le)
    ∙ ap (is_spanned c.args.stamp) c.self.view_is
