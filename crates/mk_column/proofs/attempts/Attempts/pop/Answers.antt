use Rattle.std.proofs.Common.{◌≡◌, ◌++◌, ◌∷◌, [], sym, ap, subst, ◌∙◌, ◌+◌, take, length, length-append, arith, rules}
use Rattle.std.specs.Option.{option_to_list}
use Rattle.std.proofs.lemmas.List.{same_from_push}
use Rattle.std.proofs.lemmas.Grind.{common_steps}
use Rattle.mk_lists.specs.Keyed.{IsIndex}
use Rattle.mk_column.specs.AttemptsByCode.{begun_id}
use Rattle.mk_column.proofs.TableLaws.{IsIndex-taken}
use Rattle.mk_column.proofs.attempts.Attempts.pop.Goals as goal

pub invariant_of-self : goal.invariant_of-self
invariant_of-self c =
    let keys = c.self.inside.ids.keys in
    let were : c.self.inside.items.items ≡ c.pop.new.self.items ++ c.in-Some._begun ∷ [] =
    c.pop.ensures.items ∙ ap (λ o. c.pop.new.self.items ++ option_to_list o) c.in-Some.is in
    let left : c.truncate.new.self.keys ≡ take (length c.pop.new.self.items) keys = search rules in
    rw left (IsIndex-taken begun_id c.pop.new.self.items (c.in-Some._begun ∷ []) keys (subst (λ all. IsIndex begun_id all keys) were c.self.invariant))

pub returns-in-Some : goal.returns-in-Some
returns-in-Some c = λ all begun e.
    let were : c.self.inside.items.items ≡ c.pop.new.self.items ++ c.in-Some._begun ∷ [] =
    c.pop.ensures.items ∙ ap (λ o. c.pop.new.self.items ++ option_to_list o) c.in-Some.is in
    (same_from_push c.pop.new.self.items all c.in-Some._begun begun (sym were ∙ c.self.view_is ∙ e)).0

pub returns-in_default : goal.returns-in_default
returns-in_default c = λ all begun e.
    let long : length c.self.inside.items.items ≡ length all + 1 = ap length (c.self.view_is ∙ e) ∙ simp length-append in
    absurd (grind (arith, common_steps))
