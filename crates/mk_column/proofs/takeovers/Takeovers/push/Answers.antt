use Rattle.std.proofs.Common.{◌≡◌, ◌++◌, ◌∷◌, [], None, false, cond, ap, ◌∙◌, rules}
use Rattle.std.specs.List.{list_any}
use Rattle.mk_column.proofs.ViewIds.{same_view_id-tells, same_view_id-itself}
use Rattle.mk_column.specs.TakeoversByCode.{same_view_id, view_id_of, backup_of}
use Rattle.mk_lists.proofs.KeyedLists.{key-is_new, IsIndex-pushed}
use Rattle.mk_column.proofs.takeovers.Takeovers.push.Goals as goal

pub invariant_of-self-2 : goal.invariant_of-self-2
invariant_of-self-2 c =
    let items = c.self.inside.items.items in
    let keys = c.self.inside.ids.keys in
    let id = (view_id_of c.args.backup) in
    let none : backup_of id items ≡ None = ap (backup_of id) c.self.view_is ∙ c.requires in
    let fresh : list_any (same_view_id id) keys ≡ false = key-is_new same_view_id view_id_of same_view_id-tells same_view_id-itself id items keys c.self.invariant none in
    let ids : c.insert.new.self.keys ≡ keys ++ id ∷ [] =
    c.in_ok-insert.ensures.keys
    ∙ ap (λ b. cond b keys (keys ++ c.view_id.result ∷ [])) (ap (λ i. list_any (same_view_id i) keys) c.view_id.ensures ∙ fresh)
    ∙ ap (λ i. keys ++ i ∷ []) c.view_id.ensures in
    let pushed : c.push_reserved.new.self.items ≡ items ++ c.args.backup ∷ [] = search rules in
    rw (ids, pushed) (IsIndex-pushed same_view_id view_id_of same_view_id-tells same_view_id-itself items c.args.backup keys none c.self.invariant)
