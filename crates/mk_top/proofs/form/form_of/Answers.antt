use Rattle.std.proofs.Common.{arith}
use Rattle.std.specs.String.{string_bytes}
use Rattle.mk_top.proofs.FormLaws.{few_are_none, many_are_none}
use Rattle.mk_top.proofs.form.form_of.Goals as goal

pub returns-in_default-2-clause-is : goal.returns-in_default-2-clause-is
returns-in_default-2-clause-is c = few_are_none string_bytes c.args.words.now (omega (arith, c.in_default.len_at_least)) (omega (arith, c.in_default.len_below))

pub returns-in_default-3-clause-is : goal.returns-in_default-3-clause-is
returns-in_default-3-clause-is c = many_are_none string_bytes c.args.words.now (omega (arith, c.in_default.len_at_least))
