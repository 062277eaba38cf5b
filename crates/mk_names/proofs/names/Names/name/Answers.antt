use Rattle.std.proofs.Common.{◌≡◌, Some, map, sym, ap, ◌∙◌}
use Rattle.std.specs.String.{string_bytes}
use Rattle.std.specs.List.{slice_get}
use Rattle.std.specs.Option.{option_map}
use Rattle.std.proofs.lemmas.Option.{slice_get-map}
use Rattle.mk_spelling.specs.Fields.{place}
use Rattle.mk_names.proofs.NameLaws.{some_text, name_at, place_at}
use Rattle.mk_names.proofs.names.Names.name.Goals as goal

got : (c : goal.After-t11-1) → slice_get (map string_bytes c.self.inside.set.keys) c.args.number ≡ Some c.as_str.result.now
got c =
    slice_get-map string_bytes c.self.inside.set.keys c.args.number ∙ ap (option_map string_bytes) (sym c.in_ok-name.ensures.key)
    ∙ ap some_text (sym c.as_str.ensures.value)

pub returns-clause-well_named : goal.returns-clause-well_named
returns-clause-well_named c = name_at (map string_bytes c.self.inside.set.keys) c.args.number c.as_str.result.now c.self.invariant.named (got c)

pub returns-clause-first : goal.returns-clause-first
returns-clause-first c =
    ap (λ s. place c.as_str.result.now s.names) (sym c.self.view_is)
    ∙ place_at (map string_bytes c.self.inside.set.keys) c.args.number c.as_str.result.now c.self.invariant.distinct (got c)
