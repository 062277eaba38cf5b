use Rattle.std.proofs.Common.{◌≡◌, length}
use Rattle.mk_spelling.specs.Lines.{read_parts}
use Rattle.mk_spelling.proofs.TextLaws.{parts}
use Rattle.mk_script.specs.Scripts.{nothing}
use Rattle.mk_script.specs.Faults.{line_result, end_result}
use Rattle.mk_script.proofs.parsing.read.Given as goal

abbrev pub invariant-line : goal.invariant-line
invariant-line l = read_parts line_result end_result l.reader l.number (parts l.left) ≡ read_parts line_result end_result nothing 1 (parts l.bytes)

abbrev pub decreases-line : goal.decreases-line
decreases-line l = length l.left
