use Rattle.std.proofs.Common.{◌≡◌, ◌<◌, ◌++◌, ◌∷◌, [], refl, sym, ap, subst, ◌∙◌, None, map, false, length, List, ℕ}
use Rattle.std.specs.String.{string_bytes, string_eq}
use Rattle.std.specs.List.{list_any}
use Rattle.std.proofs.lemmas.List.{map_push}
use Rattle.mk_spelling.specs.Fields.{place}
use Rattle.mk_names.specs.NameLists.{NameList, IsNameList}
use Rattle.mk_names.proofs.Places.{none_is_new}
use Rattle.mk_names.proofs.NameLaws.{pushed}
use Rattle.mk_names.proofs.names.Names.put.Goals as goal

fresh : (c : goal.In_ok-insert_full) → place c.args.name.now (map string_bytes c.self.inside.set.keys) ≡ None
fresh c = ap (λ s. place c.args.name.now s.names) c.self.view_is ∙ c.requires.fresh

names_are : (c : goal.In_ok-insert_full) → map string_bytes c.insert_full.new.self.keys ≡ map string_bytes c.self.inside.set.keys ++ c.args.name.now ∷ []
names_are c =
    let name = c.in_ok-name.name in
    let keys = c.self.inside.set.keys in
    let text : string_bytes name ≡ c.args.name.now = c.in_ok-name.ensures.ok in
    let absent : place (string_bytes name) (map string_bytes keys) ≡ None = rw text (fresh c) in
    let new : list_any (string_eq name) keys ≡ false = none_is_new (string_eq name) string_bytes (string_bytes name) (λ x. refl) keys absent in
    let keys_are : c.insert_full.new.self.keys ≡ keys ++ name ∷ [] = c.in_ok-insert_full.ensures.keys ∙ rw new refl in
    ap (map string_bytes) keys_are ∙ map_push string_bytes keys name ∙ ap (λ (w : List ℕ). map string_bytes keys ++ w ∷ []) text

pub invariant_of-self-2 : goal.invariant_of-self-2
invariant_of-self-2 c =
    let list : NameList = record { names = map string_bytes c.self.inside.set.keys; limit = c.self.inside.limit } in
    let room = subst (λ (s : NameList). length s.names < s.limit) (sym c.self.view_is) c.requires.room in
    subst (λ (ns : List (List ℕ)). IsNameList (record { names = ns; limit = c.self.inside.limit })) (sym (names_are c)) (pushed list c.args.name.now c.self.invariant c.requires.well_named (fresh c) room)

pub returns-clause-ok : goal.returns-clause-ok
returns-clause-ok c =
    let whole : NameList → NameList = λ s. record s { names = s.names ++ c.args.name.now ∷ [] } in
    ap (λ (ns : List (List ℕ)). whole_of ns c.self.inside.limit) (names_are c) ∙ ap whole c.self.view_is
  where
    whole_of : List (List ℕ) → ℕ → NameList
    whole_of ns limit = record { names = ns; limit = limit }
