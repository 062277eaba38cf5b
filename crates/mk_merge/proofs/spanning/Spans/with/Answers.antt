use Rattle.std.proofs.Common.{◌≡◌, ◌≤◌, ap, sym, subst, ◌∙◌, true, false, ◌||◌, List, length}
use Rattle.std.specs.List.Sorted.{IsPartitionPoint}
use Rattle.mk_txn.specs.Stamps.{is_before}
use Rattle.mk_merge.specs.declared.spanning.Span.{Span}
use Rattle.mk_merge.specs.Spanning.{AreSpans, spans_over, is_spanned}
use Rattle.mk_merge.proofs.SpanningLaws.{spans-replaced, spanned-replaced, spanned-already}
use Rattle.mk_merge.proofs.spanning.Spans.with.Goals as goal
use Rattle.mk_merge.proofs.spanning.Spans.with.Goals.{then-start-end+in_ok-replace, else-start-end}

pub invariant_of-result : goal.invariant_of-result
invariant_of-result c =
    let xs = c.self.inside.list.items in
    let start = subst (λ (xs : List Span). IsPartitionPoint (λ (span : Span). is_before span.version c.args.span.version ≡ true) (λ (span : Span). is_before span.version c.args.span.version ≡ false) xs c.end_before-start.result) c.as_slice.ensures.value c.end_before-start.ensures.split in
    let end = subst (λ (xs : List Span). IsPartitionPoint (λ (span : Span). is_before c.args.span.reader span.reader ≡ false) (λ (span : Span). is_before c.args.span.reader span.reader ≡ true) xs c.end_upto-end.result) c.as_slice-2.ensures.value c.end_upto-end.ensures.split in
    elim c.if-start-end.branch [
      | then-start-end+in_ok-replace w ↦ subst AreSpans (sym (ap (λ list. list.items) w.list-is ∙ w.in_ok-replace.ensures)) (spans-replaced c.args.span xs c.end_before-start.result c.end_upto-end.result start end w.if-start-end.true c.self.invariant)
      | else-start-end w ↦ subst AreSpans (sym (ap (λ list. list.items) w.list-is)) c.self.invariant
    ]

pub returns : goal.returns
returns c stamp =
    let xs = c.self.inside.list.items in
    let start = subst (λ (xs : List Span). IsPartitionPoint (λ (span : Span). is_before span.version c.args.span.version ≡ true) (λ (span : Span). is_before span.version c.args.span.version ≡ false) xs c.end_before-start.result) c.as_slice.ensures.value c.end_before-start.ensures.split in
    let end = subst (λ (xs : List Span). IsPartitionPoint (λ (span : Span). is_before c.args.span.reader span.reader ≡ false) (λ (span : Span). is_before c.args.span.reader span.reader ≡ true) xs c.end_upto-end.result) c.as_slice-2.ensures.value c.end_upto-end.ensures.split in
    let bound = c.end_before-start.ensures.bound in
    let fits : c.end_before-start.result ≤ length xs = subst (λ (xs : List Span). c.end_before-start.result ≤ length xs) c.as_slice.ensures.value bound in
    let known : (is_spanned stamp xs || spans_over stamp c.args.span) ≡ (is_spanned stamp c.args.self || spans_over stamp c.args.span) = ap (λ (xs : List Span). is_spanned stamp xs || spans_over stamp c.args.span) c.self.view_is in
    elim c.if-start-end.branch [
      | then-start-end+in_ok-replace w ↦ ap (λ list. is_spanned stamp list.items) w.list-is ∙ ap (is_spanned stamp) w.in_ok-replace.ensures ∙ spanned-replaced c.args.span xs c.end_before-start.result c.end_upto-end.result start end w.if-start-end.true stamp ∙ known
      | else-start-end w ↦ ap (λ list. is_spanned stamp list.items) w.list-is ∙ spanned-already c.args.span xs c.end_before-start.result c.end_upto-end.result start end fits w.if-start-end.false stamp ∙ known
    ]
