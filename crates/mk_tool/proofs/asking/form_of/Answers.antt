use Rattle.std.proofs.Common.{arith}
use Rattle.std.specs.String.{string_bytes}
use Rattle.mk_tool.proofs.FormLaws.{many_are_none}
use Rattle.mk_tool.proofs.asking.form_of.Goals as goal

pub returns-in-len3-up : goal.returns-in-len3-up
returns-in-len3-up c = many_are_none string_bytes c.args.words.now (omega (arith, c.in-len3-up.len_at_least))
