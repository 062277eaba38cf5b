use Rattle.mk_script.proofs.RoundTrip.{stands, parsed}
use Rattle.mk_script.proofs.printing.print.Goals as goal

pub returns-clause-stands : goal.returns-clause-stands
returns-clause-stands c = stands c.text_bytes.result c.args.script.now c.text_bytes.ensures.text c.text_bytes.ensures.whole

pub returns-clause-parsed : goal.returns-clause-parsed
returns-clause-parsed c = parsed c.text_bytes.result c.args.script.now (returns-clause-stands c)
