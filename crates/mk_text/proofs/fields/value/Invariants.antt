use Rattle.std.proofs.Common.{◌≡◌, ◌^◌, ◌<◌, drop}
use Rattle.std.specs.Str.Parse.{digits_value, digits_value_after}
use Rattle.mk_text.proofs.fields.value.Given as goal

abbrev pub invariant-digits : goal.invariant-digits
invariant-digits l =
    (l.n < 2 ^ 64) × (digits_value_after 10 l.n (drop l.b-index l.digits) ≡ digits_value 10 l.digits)
