use Rattle.std.proofs.Common.{◌≡◌, ◌-◌, ◌<◌, ◌++◌}
use Rattle.mk_lists.specs.Among.{Each}
use Rattle.mk_proc.specs.Items.{key_of}
use Rattle.mk_gen.specs.Drawn.{items_drawn, after_items}
use Rattle.mk_gen.proofs.draw.draw_items.Given as goal

abbrev pub invariant-each : goal.invariant-each
invariant-each l = record {
  items : l.items.items ++ items_drawn l.share (l.count - l.counter) l.words ≡ items_drawn l.share l.count l.fn.words;
  rest : after_items (l.count - l.counter) l.words ≡ after_items l.count l.fn.words;
  below : Each (λ item. key_of item < 256) l.items.items;
}
