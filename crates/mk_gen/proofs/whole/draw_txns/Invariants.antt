use Rattle.std.proofs.Common.{◌≡◌, ◌-◌, ◌++◌, map}
use Rattle.std.specs.List.{flat_map}
use Rattle.mk_script.specs.Grammar.{keys_after}
use Rattle.mk_gen.specs.WordStream.{words_of}
use Rattle.mk_gen.specs.Drawn.{txns_drawn}
use Rattle.mk_gen.specs.Generated.{AreKeyNames, mentions, keys_of_txns, numbered}
use Rattle.mk_gen.proofs.whole.draw_txns.Given as goal

abbrev pub invariant-each : goal.invariant-each
invariant-each l =
    let drawn = txns_drawn l.clients l.keys l.txns 0 (words_of l.fn.number) in
    let left = txns_drawn l.clients l.keys (l.txns - l.t) l.t l.words in
    let all = keys_of_txns drawn in
    record {
      limit : l.names.limit ≡ 256;
      named : AreKeyNames 256 l.names.names;
      keys : keys_after l.names.names (flat_map mentions left) ≡ all;
      lines : l.lines.items ++ map (numbered all) left ≡ map (numbered all) drawn;
    }
