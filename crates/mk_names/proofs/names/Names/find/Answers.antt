use Rattle.std.proofs.Common.{refl, ap, ◌∙◌, arith}
use Rattle.std.specs.String.{string_bytes}
use Rattle.std.specs.Str.{bytes_eq}
use Rattle.std.proofs.lemmas.List.{length-map}
use Rattle.mk_spelling.specs.Fields.{place}
use Rattle.mk_names.proofs.Places.{position_is_place}
use Rattle.mk_names.proofs.names.Names.find.Goals as goal

pub returns-in_err-place : goal.returns-in_err-place
returns-in_err-place c =
    record { number = c.from_residual.ensures ∙ c.in_err-place.ensures.index ∙ position_is_place (λ k. bytes_eq c.args.name.now (string_bytes k)) string_bytes c.args.name.now (λ x. refl) c.self.inside.set.keys ∙ ap (λ s. place c.args.name.now s.names) c.self.view_is }

pub overflow_cast-result : goal.overflow_cast-result
overflow_cast-result c =
    omega (arith, c.in_ok-place.ensures.within, c.self.invariant.within, c.self.invariant.counted, length-map c.self.inside.set.keys string_bytes)

pub returns : goal.returns
returns c =
    record { number = c.in_ok-place.ensures.index ∙ position_is_place (λ k. bytes_eq c.args.name.now (string_bytes k)) string_bytes c.args.name.now (λ x. refl) c.self.inside.set.keys ∙ ap (λ s. place c.args.name.now s.names) c.self.view_is }
