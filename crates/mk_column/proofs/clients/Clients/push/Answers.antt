use Rattle.std.proofs.Common.{◌≡◌, ◌++◌, ◌∷◌, [], None, false, cond, ap, ◌∙◌, rules}
use Rattle.std.specs.List.{list_any}
use Rattle.mk_column.proofs.Numbers.{same_number-tells, same_number-itself}
use Rattle.mk_column.specs.ClientsByCode.{fresh_client, number_of, same_number, kept_client}
use Rattle.mk_lists.proofs.KeyedLists.{key-is_new, IsIndex-pushed}
use Rattle.mk_column.proofs.clients.Clients.push.Goals as goal

pub invariant_of-self-2 : goal.invariant_of-self-2
invariant_of-self-2 c =
    let items = c.self.inside.items.items in
    let keys = c.self.inside.numbers.keys in
    let id = c.args.number in
    let none : kept_client id items ≡ None = ap (kept_client id) c.self.view_is ∙ c.requires in
    let fresh : list_any (same_number id) keys ≡ false = key-is_new same_number number_of same_number-tells same_number-itself id items keys c.self.invariant none in
    let ids : c.insert.new.self.keys ≡ keys ++ id ∷ [] = c.in_ok-insert.ensures.keys ∙ ap (λ b. cond b keys (keys ++ id ∷ [])) fresh in
    let pushed : c.push_reserved.new.self.items ≡ items ++ (fresh_client c.args.number) ∷ [] = search rules in
    rw (ids, pushed) (IsIndex-pushed same_number number_of same_number-tells same_number-itself items (fresh_client c.args.number) keys none c.self.invariant)
