use Rattle.std.proofs.Common.{◌≡◌, ◌&&◌, ◌||◌, drop}
use Rattle.std.specs.List.{list_any}
use Rattle.mk_spelling.specs.Words as spec
use Rattle.mk_text.proofs.Looks.{empty_within}
use Rattle.mk_text.proofs.words.look.Given as goal

abbrev pub invariant-bytes : goal.invariant-bytes
invariant-bytes l = record {
  printable : (l.printable && spec.is_printable (drop l.b-index l.line)) ≡ spec.is_printable l.line;
  empty_word : (l.empty_word || empty_within l.at_start (drop l.b-index l.line)) ≡ list_any spec.is_empty (spec.words l.line);
}
