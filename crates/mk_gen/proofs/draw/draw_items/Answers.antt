use Rattle.std.proofs.Common.{◌≡◌, ◌+◌, ◌-◌, ◌<◌, suc, List, [], ◌∷◌, ◌++◌, sym, subst, arith}
use Rattle.mk_lists.specs.Among.{Each, Each-append}
use Rattle.mk_proc.specs.declared.Item.{Item}
use Rattle.mk_proc.specs.Items.{key_of}
use Rattle.mk_gen.specs.Drawn.{items_drawn, after_items}
use Rattle.mk_gen.proofs.DrawSteps.{items_step, after_step}
use Rattle.mk_gen.proofs.draw.draw_items.Goals as goal

pub each-preserved : goal.each-preserved
each-preserved c =
    let n = c.args.count - c.each.counter in
    let m = c.args.count - (c.each.counter + 1) in
    let more : n ≡ suc m = omega (arith, c.each-test.true) in
    let pushed : c.push.new.self.items ≡ c.each.items.items ++ c.draw_item.result ∷ [] = c.in_ok-push.ensures.items in
    record {
      items = items_step c.args.share c.each.items.items c.push.new.self.items (items_drawn c.args.share c.args.count c.args.words.now) c.draw_item.result n m c.each.words c.draw_item.new.words more c.draw_item.ensures.item c.draw_item.ensures.rest pushed c.each.invariant.items;
      rest = after_step (after_items c.args.count c.args.words.now) n m c.each.words c.draw_item.new.words more c.draw_item.ensures.rest c.each.invariant.rest;
      below = subst (λ (x : List Item). Each (λ item. key_of item < 256) x) (sym pushed) (Each-append (λ item. key_of item < 256) c.each.items.items (c.draw_item.result ∷ []) c.each.invariant.below (c.draw_item.ensures.below, tt));
    }
