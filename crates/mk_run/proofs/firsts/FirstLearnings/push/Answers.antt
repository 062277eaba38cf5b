use Rattle.std.proofs.Common.{◌≡◌, ◌++◌, ◌∷◌, [], None, false, cond, ap, ◌∙◌, rules}
use Rattle.std.specs.List.{list_any}
use Rattle.mk_txn.specs.Transactions.{same_id}
use Rattle.mk_txn.proofs.IdOrder.{same_id-tells, same_id-itself}
use Rattle.mk_run.specs.Firsts.{first_id, first_in}
use Rattle.mk_lists.proofs.KeyedLists.{key-is_new, IsIndex-pushed}
use Rattle.mk_run.proofs.firsts.FirstLearnings.push.Goals as goal

pub invariant_of-self-2 : goal.invariant_of-self-2
invariant_of-self-2 c =
    let items = c.self.inside.items.items in
    let keys = c.self.inside.ids.keys in
    let id = c.args.first.id in
    let none : first_in id items ≡ None = ap (first_in id) c.self.view_is ∙ c.requires in
    let fresh : list_any (same_id id) keys ≡ false = key-is_new same_id first_id same_id-tells same_id-itself id items keys c.self.invariant none in
    let ids : c.insert.new.self.keys ≡ keys ++ id ∷ [] =
    c.in_ok-insert.ensures.keys ∙ ap (λ b. cond b keys (keys ++ id ∷ [])) fresh in
    let pushed : c.push_reserved.new.self.items ≡ items ++ c.args.first ∷ [] = search rules in
    rw (ids, pushed) (IsIndex-pushed same_id first_id same_id-tells same_id-itself items c.args.first keys none c.self.invariant)
