use Rattle.std.proofs.Common.{◌≡◌, ◌≤◌, ◌++◌, length, map}
use Rattle.std.specs.Prelude.{IsOk}
use Rattle.mk_spelling.specs.Words as text
use Rattle.mk_script.specs.Grammar.{keys_after, item_of}
use Rattle.mk_script.specs.ItemShapes.{mentions_of}
use Rattle.mk_script.specs.Seen.{mentioned}
use Rattle.mk_script.proofs.keys.number_items.Given as goal

abbrev pub invariant-loop-left : goal.invariant-loop-left
invariant-loop-left l =
    let all = keys_after l.fn.keys.names (mentioned (text.words l.items)) in
    record {
      passed : IsOk (mentions_of (text.words_behind l.left));
      limit : l.keys.limit ≡ 256;
      few : length l.keys.names ≤ 256;
      keys : keys_after l.keys.names (mentioned (text.words_behind l.left)) ≡ all;
      items : l.made.items ++ map (item_of all) (mentioned (text.words_behind l.left)) ≡ map (item_of all) (mentioned (text.words l.items));
    }

abbrev pub decreases-loop-left : goal.decreases-loop-left
decreases-loop-left l = length (text.words_behind l.left)
