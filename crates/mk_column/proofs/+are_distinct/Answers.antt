use Rattle.std.proofs.Common.{◌≡◌, ◌∷◌, ◌==◌, ◌&&◌, not, sym, ap, ◌∙◌, rules, List}
use Rattle.std.specs.List.{list_any}
use Rattle.mk_lists.proofs.Tests.{list_any-map}
use Rattle.mk_txn.specs.declared.WriteItem.{WriteItem}
use Rattle.mk_txn.specs.Transactions.{are_distinct, write_keys}
use Rattle.mk_column.proofs.+are_distinct.Goals as goal

distinct-front : (items rest : List WriteItem) (first : WriteItem) → items ≡ first ∷ rest
    → are_distinct (write_keys items) ≡ (not (list_any (λ item. item.key == first.key) rest) && are_distinct (write_keys rest))
distinct-front items rest first is =
    ap (λ all. are_distinct (write_keys all)) is
    ∙ ap (λ b. not b && are_distinct (write_keys rest)) (list_any-map (λ key. key == first.key) (λ (item : WriteItem). item.key) rest)

pub returns-then-not-has_key : goal.returns-then-not-has_key
returns-then-not-has_key t c =
    let is : c.args.items.now ≡ c.in-Some.first.now ∷ c.in-Some.rest.now = search rules in
    c.are_distinct.ensures ∙ ap (λ b. not b && are_distinct (write_keys c.in-Some.rest.now)) c.if-not-has_key.ensures
    ∙ sym (distinct-front c.args.items.now c.in-Some.rest.now c.in-Some.first.now is)

pub returns-else-not-has_key : goal.returns-else-not-has_key
returns-else-not-has_key t c =
    let is : c.args.items.now ≡ c.in-Some.first.now ∷ c.in-Some.rest.now = search rules in
    ap not c.if-not-has_key.false ∙ ap (λ b. not b && are_distinct (write_keys c.in-Some.rest.now)) c.if-not-has_key.ensures
    ∙ sym (distinct-front c.args.items.now c.in-Some.rest.now c.in-Some.first.now is)
