use Rattle.std.proofs.Common.{◌≡◌, ℕ, List, ◌∙◌, sym, ap, subst, Some, None, Bor}
use Rattle.std.specs.Prelude.{Option, slice_get}
use Rattle.std.specs.Option.{option_copied}
use Rattle.std.specs.Slice.{IsItemAt}
use Rattle.mk_lists.proofs.KeyedLists.{got-at}
use Rattle.mk_words.specs.Checks.{KeyAct}
use Rattle.mk_words.specs.Validations.{next_act}
use Rattle.mk_valid.proofs.ProgressLaws.{next-release}
use Rattle.mk_valid.proofs.validation.Validation.next_act.Goals as goal

pub returns-in_ok-check-in-Some : goal.returns-in_ok-check-in-Some
returns-in_ok-check-in-Some c =
    let v = c.self.inside in
    let check = c.in_ok-check-in-Some.check in
    let lent = subst (λ xs. IsItemAt xs v.given_up c.get-then-self.result) c.deref-then-self.ensures.value c.get-then-self.ensures.lookup in
    let here : slice_get v.checks.items v.given_up ≡ Some check =
    sym (got-at v.checks.items v.given_up c.get-then-self.result lent) ∙ sym c.copied-then-self.ensures ∙ c.in_ok-check-in-Some.was in
    ap Some c.release.ensures ∙ (sym (next-release v.checks.items v.passed v.given_up v.refusal c.in-Some.field-0 check c.in-Some.is c.if-self.true here) ∙ ap next_act c.self.view_is)
