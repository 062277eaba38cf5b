use Rattle.std.proofs.Common.{◌≡◌, ◌++◌, ◌∷◌, [], None, false, cond, ap, ◌∙◌, rules}
use Rattle.std.specs.List.{list_any}
use Rattle.mk_txn.specs.Transactions.{same_id}
use Rattle.mk_txn.proofs.IdOrder.{same_id-tells, same_id-itself}
use Rattle.mk_column.specs.AttemptsByCode.{begun_id, begun_of}
use Rattle.mk_lists.proofs.KeyedLists.{key-is_new, IsIndex-pushed}
use Rattle.mk_column.proofs.attempts.Attempts.push.Goals as goal

pub invariant_of-self-2 : goal.invariant_of-self-2
invariant_of-self-2 c =
    let items = c.self.inside.items.items in
    let keys = c.self.inside.ids.keys in
    let id = c.args.begun.state.id in
    let none : begun_of id items ≡ None = ap (begun_of id) c.self.view_is ∙ c.requires in
    let fresh : list_any (same_id id) keys ≡ false = key-is_new same_id begun_id same_id-tells same_id-itself id items keys c.self.invariant none in
    let ids : c.insert.new.self.keys ≡ keys ++ id ∷ [] =
    c.in_ok-insert.ensures.keys
    ∙ ap (λ b. cond b keys (keys ++ c.id.result ∷ [])) (ap (λ i. list_any (same_id i) keys) c.id.ensures ∙ fresh)
    ∙ ap (λ i. keys ++ i ∷ []) c.id.ensures in
    let pushed : c.push_reserved.new.self.items ≡ items ++ c.args.begun ∷ [] = search rules in
    rw (ids, pushed) (IsIndex-pushed same_id begun_id same_id-tells same_id-itself items c.args.begun keys none c.self.invariant)
