use Rattle.std.proofs.Common.{◌+◌, ◌*◌, ◌^◌, ◌≤◌, get_or, drop, arith}
use Rattle.std.proofs.lemmas.Bool.Decides.{nat_tests}
use Rattle.std.proofs.lemmas.List.{at_drop_more}
use Rattle.std.specs.Char.{digit_value}
use Rattle.std.specs.Str.Parse.{digits_value, digits_value_after}
use Rattle.mk_spelling.proofs.Numbers.{le-digits_value_after, digit_value_at}
use Rattle.mk_text.proofs.fields.value.Goals as goal

pub returns-then-n-gt-LAST_TENTH : goal.returns-then-n-gt-LAST_TENTH
returns-then-n-gt-LAST_TENTH c =
    let l = c.digits in
    let ds = c.args.digits.now in
    let i = l.b-index in
    let next = l.n * 10 + digit_value (get_or ds i 0) in
    let digit = digit_value_at ds i c.requires c.digits-test.true in
    let turn = at_drop_more (digits_value_after 10 l.n) ds i 0 c.digits-test.true in
    let grown = le-digits_value_after 10 next (drop (i + 1) ds) (omega arith) in
    let large : 2 ^ 64 ≤ digits_value 10 ds = omega (arith, turn, grown, digit, l.invariant.1) in
    grind (arith, nat_tests)
