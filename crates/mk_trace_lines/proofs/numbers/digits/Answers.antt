use Rattle.std.proofs.Common.{ℕ, List, ◌≡◌, ◌+◌, ◌*◌, ◌^◌, ◌≤◌, None, get_or, drop, arith}
use Rattle.std.proofs.lemmas.Bool.Decides.{nat_tests}
use Rattle.std.proofs.lemmas.List.{at_drop_more}
use Rattle.std.proofs.lemmas.Str.{digit_value_digit}
use Rattle.std.specs.Char.{digit_value}
use Rattle.std.specs.Str.Parse.{digits_value, digits_value_after}
use Rattle.mk_spelling.proofs.Numbers.{le-digits_value_after}
use Rattle.mk_trace_lines.specs.ActShapes.{digits_sum}
use Rattle.mk_trace_lines.proofs.numbers.digits.Goals as goal

too_large : (ds : List ℕ) → 2 ^ 64 ≤ digits_value 10 ds → None ≡ digits_sum ds
too_large ds large = grind (arith, nat_tests)

pub returns-then-n-gt-LAST_TENTH : goal.returns-then-n-gt-LAST_TENTH
returns-then-n-gt-LAST_TENTH c =
    let l = c.digits in
    let ds = c.args.word.now in
    let i = l.b-index in
    let next = l.n * 10 + digit_value (get_or ds i 0) in
    let digit = digit_value_digit (get_or ds i 0) (omega (arith, c.if-b-lt48.false), omega (arith, c.if-b-gt57.false)) in
    let turn = at_drop_more (digits_value_after 10 l.n) ds i 0 c.digits-test.true in
    let grown = le-digits_value_after 10 next (drop (i + 1) ds) (omega arith) in
    let large : 2 ^ 64 ≤ digits_value 10 ds = omega (arith, turn, grown, digit, l.invariant.1) in
    too_large ds large
