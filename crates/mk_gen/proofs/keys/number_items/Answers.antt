use Rattle.std.proofs.Common.{◌≡◌, ◌∙◌, ◌+◌, ◌<◌, ℕ, List, ◌∷◌, length, map, drop, get_or, ap, sym, add-one, drop-cons}
use Rattle.mk_proc.specs.declared.Item.{Item}
use Rattle.mk_proc.specs.declared.Item.TheVariants as items
use Rattle.mk_script.specs.Grammar.{keys_after, item_of}
use Rattle.mk_gen.specs.Generated.{mention}
use Rattle.mk_gen.proofs.KeyNumbers.{numbers_step}
use Rattle.mk_gen.proofs.keys.number_items.Goals as goal

first_mention : (xs : List Item) (i : ℕ) → i < length xs → map mention (drop i xs) ≡ mention (get_or xs i (items.Read 0)) ∷ map mention (drop (i + 1) xs)
first_mention xs i h =
    ap (map mention) (drop-cons xs i (items.Read 0) h) ∙ ap (λ (n : ℕ). mention (get_or xs i (items.Read 0)) ∷ map mention (drop n xs)) (sym (add-one i))

pub each-preserved : goal.each-preserved
each-preserved c =
    let xs = c.args.items.now in
    let i = c.each.item-index in
    let all = keys_after c.args.names.now.names (map mention xs) in
    let step = numbers_step c.each.made.items c.push.new.self.items c.in_ok-number_item.field-0 (mention (get_or xs i (items.Read 0))) (map mention (drop (i + 1) xs)) (map mention (drop i xs)) c.each.names.names c.number_item.new.names.names all (map (item_of all) (map mention xs)) (first_mention xs i c.each-test.true) c.in_ok-number_item.ensures.names c.in_ok-number_item.ensures.item c.in_ok-push.ensures.items c.each.invariant.keys c.each.invariant.items in
    record { limit = c.in_ok-number_item.ensures.limit; named = c.in_ok-number_item.ensures.named; keys = step.0; items = step.1 }
