use Rattle.std.proofs.Common.{◌≡◌, ℕ, List, map, ap, sym, ◌∙◌, subst}
use Rattle.mk_words.specs.declared.Fated.{Fated}
use Rattle.mk_words.specs.KeptOutcomes.{KeptOutcomes}
use Rattle.mk_words.specs.Bases.{BaseState, IsInIdOrder, kept_of}
use Rattle.mk_words.specs.Promises.{PromiseState, base_of}
use Rattle.mk_words.specs.Merging.{merged_from}
use Rattle.mk_merge_laws.specs.Adding.{additions, with_fated, AreCounted, bare}
use Rattle.mk_merge.specs.Keepings.{listed}
use Rattle.mk_merge.proofs.StandLaws.{handed-listed, first-base, ok-each}
use Rattle.mk_merge_laws.proofs.Bare.{added-bare, marks-bare}
use Rattle.mk_merge_laws.proofs.Adding.{IsAddition, entered-coherent, added-in_order, added-apart, added-whole, order-with}
use Rattle.mk_merge.proofs.joining.merge_counting.Goals as goal

addition : (f epoch : ℕ) (hs ss : List PromiseState) (base : BaseState) (kept : KeptOutcomes) (more : List Fated) → hs ≡ map bare ss → base_of ss ≡ base → IsInIdOrder base.list → AreCounted ss
    → kept ≡ kept_of base → more ≡ additions f epoch kept hs → IsAddition f epoch ss more
addition f epoch hs ss base kept more is at order counted same made = record {
  given = record { in_order = subst (λ (b : BaseState). IsInIdOrder b.list) (sym at) order; counted = counted };
  made = added-bare f epoch hs ss kept more is (same ∙ ap kept_of (sym at)) made;
}

pub added-requires : goal.added-requires
added-requires c = entered-coherent _ _ (handed-listed c.args.promises.now) c.requires

pub joined-requires : goal.joined-requires
joined-requires c =
    let at = first-base c.args.promises.now c.in-Some.first.now c.in-Some.ensures.value in
    let made = c.as_slice.ensures.value ∙ c.in_ok-more.ensures.list in
    added-in_order c.args.size c.args.epoch _ c.as_slice.result.now (addition c.args.size c.args.epoch _ _ _ c.kept.result.now c.as_slice.result.now (handed-listed c.args.promises.now) at c.list.ensures.fits.in_order c.requires c.kept.ensures made)

pub marked-requires-clause-ordered : goal.marked-requires-clause-ordered
marked-requires-clause-ordered c =
    let ss = map (λ p. listed p.now) c.args.promises.now in
    let at = first-base c.args.promises.now c.in-Some.first.now c.in-Some.ensures.value in
    let made = c.as_slice.ensures.value ∙ c.in_ok-more.ensures.list in
    let added = addition c.args.size c.args.epoch _ ss _ c.kept.result.now c.as_slice.result.now (handed-listed c.args.promises.now) at c.list.ensures.fits.in_order c.requires c.kept.ensures made in
    subst IsInIdOrder (sym (c.in_ok-list.ensures ∙ ap (with_fated c.as_slice.result.now) (c.list.ensures.value ∙ ap (λ (b : BaseState). b.list) (sym at))))
    (order-with c.as_slice.result.now (base_of ss).list (added-in_order c.args.size c.args.epoch ss _ added) (added-apart c.args.size c.args.epoch ss _ added) added.given.in_order)

pub returns : goal.returns
returns c =
    let ss = map (λ p. listed p.now) c.args.promises.now in
    let at = first-base c.args.promises.now c.in-Some.first.now c.in-Some.ensures.value in
    let made = c.as_slice.ensures.value ∙ c.in_ok-more.ensures.list in
    let added = addition c.args.size c.args.epoch _ ss _ c.kept.result.now c.as_slice.result.now (handed-listed c.args.promises.now) at c.list.ensures.fits.in_order c.requires c.kept.ensures made in
    let list : c.in_ok-list.list.items ≡ (merged_from c.args.size c.args.epoch ss).list =
    c.in_ok-list.ensures ∙ ap (with_fated c.as_slice.result.now) (c.list.ensures.value ∙ ap (λ (b : BaseState). b.list) (sym at))
    ∙ added-whole c.args.size c.args.epoch ss _ added in
    let marks : c.in_ok-more.more.marks ≡ (merged_from c.args.size c.args.epoch ss).marks =
    marks-bare _ ss c.kept.result.now c.in_ok-more.more.marks (handed-listed c.args.promises.now) (c.kept.ensures ∙ ap kept_of (sym at)) c.in_ok-more.ensures.marks in
    ok-each c.marked.result _ _ (λ base is. is ∙ (λ i. record { list = list i; marks = marks i })) c.marked.ensures
