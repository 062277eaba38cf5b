use Rattle.mk_script.proofs.WholeLaws.{found_law, only_law}
use Rattle.mk_script.proofs.KeepLaws.{whole_law}
use Rattle.mk_script.proofs.parsing.parse.Goals as goal

pub returns-clause-found : goal.returns-clause-found
returns-clause-found c = found_law c.read_script.result c.args.bytes.now c.read_script.ensures

pub returns-clause-whole : goal.returns-clause-whole
returns-clause-whole c = whole_law c.read_script.result c.args.bytes.now c.read_script.ensures

pub returns-clause-only : goal.returns-clause-only
returns-clause-only c = λ s h. only_law c.read_script.result c.args.bytes.now s h c.read_script.ensures
