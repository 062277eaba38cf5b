use Rattle.std.proofs.Common.{◌≡◌, ◌∙◌, ap, sym, subst, Some, None, rules}
use Rattle.std.specs.Prelude.{option_copied, slice_get}
use Rattle.mk_lists.proofs.KeyedLists.{got-at}
use Rattle.mk_follow.specs.Commits.{CommitsState}
use Rattle.mk_follow.specs.Orders.{IsNextAbove, count_upto}
use Rattle.mk_follow.proofs.CommitLaws.{next-at, next-past}
use Rattle.mk_follow.proofs.commits.Commits.next_above.Goals as goal

pub returns-in_err-entry : goal.returns-in_err-entry
returns-in_err-entry c =
    let s = c.self.inside in
    let place = c.upto-place.result in
    let is : place ≡ count_upto c.args.stamp s.order.items = c.upto-place.ensures.value ∙ ap (count_upto c.args.stamp) c.as_slice.ensures.value in
    let none : slice_get s.order.items place ≡ None =
    ap (λ all. slice_get all place) (sym c.deref.ensures.value) ∙ sym (got-at c.deref.result.now place c.get.result c.get.ensures.lookup) ∙ ap option_copied c.in_err-entry.was in
    let left : option_copied c.from_residual.result ≡ None = search rules in
    subst (IsNextAbove c.args.stamp c.args.self.now.commits) (sym left)
    (subst (λ (v : CommitsState). IsNextAbove c.args.stamp v.commits None) c.self.view_is (next-past c.args.stamp s.received.items s.order.items place c.self.invariant.all is none))

pub returns : goal.returns
returns c =
    let s = c.self.inside in
    let place = c.upto-place.result in
    let entry = c.in_ok-entry.entry.now in
    let is : place ≡ count_upto c.args.stamp s.order.items = c.upto-place.ensures.value ∙ ap (count_upto c.args.stamp) c.as_slice.ensures.value in
    let at : slice_get s.order.items place ≡ Some entry =
    ap (λ all. slice_get all place) (sym c.deref.ensures.value) ∙ sym (got-at c.deref.result.now place c.get.result c.get.ensures.lookup) ∙ ap option_copied c.in_ok-entry.was in
    let got : option_copied c.get-2.result ≡ slice_get s.received.items entry.1 =
    got-at c.deref-2.result.now entry.1 c.get-2.result c.get-2.ensures.lookup ∙ ap (λ all. slice_get all entry.1) c.deref-2.ensures.value in
    subst (λ (v : CommitsState). IsNextAbove c.args.stamp v.commits (option_copied c.get-2.result)) c.self.view_is
    (next-at c.args.stamp s.received.items s.order.items place entry (option_copied c.get-2.result) c.self.invariant.all is at got)
