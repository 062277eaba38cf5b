use Rattle.std.proofs.Common.{sym}
use Rattle.mk_spelling.proofs.Cuts.{words-none, words-some}
use Rattle.mk_text.proofs.words.next_word.Goals as goal

pub returns-in-None : goal.returns-in-None
returns-in-None c = words-none c.args.line.now (sym c.in-None.ensures)

pub returns-in-Some : goal.returns-in-Some
returns-in-Some c = words-some c.args.line.now (c.in-Some.word.now, c.in-Some.rest.now) (sym c.in-Some.ensures)
