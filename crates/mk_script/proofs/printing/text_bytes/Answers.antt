use Rattle.std.proofs.Common.{subst}
use Rattle.mk_script.specs.Scripts.{ScriptParts}
use Rattle.mk_script.specs.Whole.{IsWhole}
use Rattle.mk_script.proofs.printing.text_bytes.Goals as goal

pub returns-clause-whole : goal.returns-clause-whole
returns-clause-whole c = subst (λ (s : ScriptParts). IsWhole s) c.script.view_is c.script.invariant
