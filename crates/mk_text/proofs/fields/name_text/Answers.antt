use Rattle.mk_spelling.proofs.Names.{IsUtf8-name}
use Rattle.mk_text.proofs.fields.name_text.Goals as goal

pub returns-in-Err : goal.returns-in-Err
returns-in-Err c = absurd (c.in-Err.ensures.cases.0 (IsUtf8-name c.args.word.now c.requires))
