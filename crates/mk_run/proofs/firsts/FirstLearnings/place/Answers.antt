use Rattle.std.proofs.Common.{◌≡◌, ◌<◌, ℕ, Option, Some, None, sym, ap, ◌∙◌, subst, refl, length}
use Rattle.std.specs.Prelude.{IsSome}
use Rattle.std.specs.List.{position}
use Rattle.mk_txn.specs.Transactions.{same_id}
use Rattle.mk_txn.proofs.IdOrder.{same_id-tells, same_id-itself}
use Rattle.mk_run.specs.Firsts.{first_id, first_in}
use Rattle.mk_lists.proofs.KeyedLists.{place_within, place_holds, place_missing, place_changes}
use Rattle.mk_run.proofs.firsts.FirstLearnings.place.Goals as goal

pub unwrap-requires : goal.unwrap-requires
unwrap-requires c = by_place c.get_index_of.result refl
  where
    by_place : (place : Option ℕ) → c.get_index_of.result ≡ place → IsSome place
    by_place (Some place) e = refl
    by_place None e =
        let none : position (same_id c.args.id) c.self.inside.ids.keys ≡ None = sym c.get_index_of.ensures.index ∙ e in
        let away = place_missing same_id first_id same_id-tells same_id-itself c.args.id c.self.inside.items.items c.self.inside.ids.keys c.self.invariant none in
        subst IsSome (sym (ap (first_in c.args.id) c.self.view_is) ∙ away) c.requires

at : (c : goal.After-unwrap) → position (same_id c.args.id) c.self.inside.ids.keys ≡ Some c.unwrap.result
at c = sym c.get_index_of.ensures.index ∙ c.unwrap.ensures

pub returns-clause-within : goal.returns-clause-within
returns-clause-within c =
    subst (λ all. c.unwrap.result < length all) c.self.view_is
    (place_within same_id first_id same_id-tells same_id-itself c.args.id c.self.inside.items.items c.self.inside.ids.keys c.unwrap.result c.self.invariant (at c))

pub returns-clause-found : goal.returns-clause-found
returns-clause-found c =
    λ first. rw (sym c.self.view_is)
    (place_holds same_id first_id same_id-tells same_id-itself c.args.id c.self.inside.items.items c.self.inside.ids.keys c.unwrap.result first c.self.invariant (at c))

pub returns-clause-changed : goal.returns-clause-changed
returns-clause-changed c =
    λ f first. rw (sym c.self.view_is)
    (place_changes same_id first_id same_id-tells same_id-itself c.args.id c.self.inside.items.items c.self.inside.ids.keys c.unwrap.result f first c.self.invariant (at c))
