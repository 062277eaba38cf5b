use Rattle.std.proofs.Common.{◌≡◌, ◌<◌, ℕ, Option, Some, None, sym, ap, ◌∙◌, subst, refl, length}
use Rattle.std.specs.Prelude.{IsSome}
use Rattle.std.specs.List.{position}
use Rattle.mk_column.proofs.ViewIds.{same_view_id-tells, same_view_id-itself}
use Rattle.mk_column.specs.TakeoversByCode.{same_view_id, view_id_of, backup_of}
use Rattle.mk_lists.proofs.KeyedLists.{place_within, place_holds, place_missing, place_changes}
use Rattle.mk_column.proofs.takeovers.Takeovers.place.Goals as goal

pub unwrap-requires : goal.unwrap-requires
unwrap-requires c = by_place c.get_index_of.result refl
  where
    by_place : (place : Option ℕ) → c.get_index_of.result ≡ place → IsSome place
    by_place (Some place) e = refl
    by_place None e =
        let none : position (same_view_id c.args.view_id) c.self.inside.ids.keys ≡ None = sym c.get_index_of.ensures.index ∙ e in
        let away = place_missing same_view_id view_id_of same_view_id-tells same_view_id-itself c.args.view_id c.self.inside.items.items c.self.inside.ids.keys c.self.invariant none in
        subst IsSome (sym (ap (backup_of c.args.view_id) c.self.view_is) ∙ away) c.requires

at : (c : goal.After-unwrap) → position (same_view_id c.args.view_id) c.self.inside.ids.keys ≡ Some c.unwrap.result
at c = sym c.get_index_of.ensures.index ∙ c.unwrap.ensures

pub returns-clause-within : goal.returns-clause-within
returns-clause-within c =
    subst (λ all. c.unwrap.result < length all) c.self.view_is
    (place_within same_view_id view_id_of same_view_id-tells same_view_id-itself c.args.view_id c.self.inside.items.items c.self.inside.ids.keys c.unwrap.result c.self.invariant (at c))

pub returns-clause-found : goal.returns-clause-found
returns-clause-found c =
    λ backup. rw (sym c.self.view_is)
    (place_holds same_view_id view_id_of same_view_id-tells same_view_id-itself c.args.view_id c.self.inside.items.items c.self.inside.ids.keys c.unwrap.result backup c.self.invariant (at c))

pub returns-clause-changed : goal.returns-clause-changed
returns-clause-changed c =
    λ f backup. rw (sym c.self.view_is)
    (place_changes same_view_id view_id_of same_view_id-tells same_view_id-itself c.args.view_id c.self.inside.items.items c.self.inside.ids.keys c.unwrap.result f backup c.self.invariant (at c))
