use Rattle.std.proofs.Common.{◌≡◌, ◌^◌, ◌<◌, drop}
use Rattle.std.specs.Str.Parse.{digits_value, digits_value_after}
use Rattle.mk_spelling.specs.Words.{are_digits}
use Rattle.mk_trace_lines.proofs.numbers.digits.Given as goal

abbrev pub invariant-digits : goal.invariant-digits
invariant-digits l =
    (l.n < 2 ^ 64)
    × (digits_value_after 10 l.n (drop l.b-index l.word) ≡ digits_value 10 l.word)
    × (are_digits (drop l.b-index l.word) ≡ are_digits l.word)
