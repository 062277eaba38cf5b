use Rattle.std.proofs.Common.{◌≡◌, ◌++◌, map, drop}
use Rattle.mk_script.specs.Grammar.{keys_after, item_of}
use Rattle.mk_gen.specs.Generated.{AreKeyNames, mention}
use Rattle.mk_gen.proofs.keys.number_items.Given as goal

abbrev pub invariant-each : goal.invariant-each
invariant-each l =
    let all = keys_after l.fn.names.names (map mention l.items) in
    record {
      limit : l.names.limit ≡ 256;
      named : AreKeyNames 256 l.names.names;
      keys : keys_after l.names.names (map mention (drop l.item-index l.items)) ≡ all;
      items : l.made.items ++ map (item_of all) (map mention (drop l.item-index l.items)) ≡ map (item_of all) (map mention l.items);
    }
