use Rattle.std.proofs.Common.{◌≡◌, suc, ◌-◌, true, false, ◌∙◌, sym, ap, subst, arith}
use Rattle.std.specs.Prelude.{insert}
use Rattle.mk_words.specs.Pending.{IsAscending, has_stamp}
use Rattle.mk_cell.specs.Searching.{place_above}
use Rattle.mk_cell.proofs.PlaceLaws.{place_above-within, has_stamp-nowhere, has_stamp-here, joined-there, joined-new, without-none, without-there}
use Rattle.mk_cell.proofs.pending.Pending.find.Goals as goal

pub returns-then-place-eq0-clause-nowhere : goal.returns-then-place-eq0-clause-nowhere
returns-then-place-eq0-clause-nowhere g c =
    let stamps = c.args.self.now.stamps in
    let stamp = c.args.stamp in
    let place = c.first_above-place.ensures.place in
    let ascending = subst (λ v. IsAscending v.stamps) c.self.view_is c.self.invariant in
    let none = has_stamp-nowhere stamp stamps ascending (omega (arith, place, c.if-place-eq0.true)) in
    (omega (arith, place, place_above-within stamp stamps), joined-new stamp stamps none ∙ ap (λ k. insert stamps k stamp) (sym place), without-none stamp stamps none)

pub at-last-requires : goal.at-last-requires
at-last-requires g c =
    omega (arith, c.first_above-place.ensures.place, c.if-place-eq0.false, place_above-within c.args.stamp c.args.self.now.stamps)

pub returns-then-same_stamp-clause-here : goal.returns-then-same_stamp-clause-here
returns-then-same_stamp-clause-here g c =
    let stamps = c.args.self.now.stamps in
    let stamp = c.args.stamp in
    let last = c.first_above-place.result - 1 in
    let ascending = subst (λ v. IsAscending v.stamps) c.self.view_is c.self.invariant in
    let after : place_above stamp stamps ≡ suc last = omega (arith, c.first_above-place.ensures.place, c.if-place-eq0.false) in
    let here = has_stamp-here stamp c.at-last.result stamps last ascending after c.at-last.ensures.stamp in
    let has : has_stamp stamp stamps ≡ true = here ∙ (sym c.same_stamp.ensures ∙ c.if-same_stamp.true) in
    (omega (arith, after, place_above-within stamp stamps), joined-there stamp stamps ascending has, without-there stamp stamps last ascending after has)

pub returns-else-same_stamp-clause-nowhere : goal.returns-else-same_stamp-clause-nowhere
returns-else-same_stamp-clause-nowhere g c =
    let stamps = c.args.self.now.stamps in
    let stamp = c.args.stamp in
    let place = c.first_above-place.ensures.place in
    let last = c.first_above-place.result - 1 in
    let ascending = subst (λ v. IsAscending v.stamps) c.self.view_is c.self.invariant in
    let after : place_above stamp stamps ≡ suc last = omega (arith, place, c.if-place-eq0.false) in
    let here = has_stamp-here stamp c.at-last.result stamps last ascending after c.at-last.ensures.stamp in
    let none : has_stamp stamp stamps ≡ false = here ∙ (sym c.same_stamp.ensures ∙ c.if-same_stamp.false) in
    (omega (arith, place, place_above-within stamp stamps), joined-new stamp stamps none ∙ ap (λ k. insert stamps k stamp) (sym place), without-none stamp stamps none)
