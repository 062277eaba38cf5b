use Rattle.mk_state.proofs.WordLaws.{line-faults, line-reads, line-keeps}
use Rattle.mk_state.proofs.whole.Whole.do_line.Goals as goal

pub returns-clause-faults : goal.returns-clause-faults
returns-clause-faults g c =
    line-faults g.K.Keeping.stands g.W.EpochWord.kept g.W.EpochWord.sets g.W.EpochWord.faults c.args.self.now c.answer.new.self c.args.word.now c.answer.new.word c.args.line c.answer.result c.requires.may c.answer.ensures.done c.answer.ensures.word

pub returns-clause-reads : goal.returns-clause-reads
returns-clause-reads g c =
    line-reads g.K.Keeping.stands g.W.EpochWord.kept g.W.EpochWord.sets g.W.EpochWord.faults c.args.self.now c.answer.new.self c.args.word.now c.answer.new.word c.args.line c.answer.result c.requires.may c.requires.word c.answer.ensures.done c.answer.ensures.word

pub returns-clause-others : goal.returns-clause-others
returns-clause-others g c =
    line-keeps g.K.Keeping.stands g.W.EpochWord.kept g.W.EpochWord.sets g.W.EpochWord.faults c.args.self.now c.answer.new.self c.args.word.now c.answer.new.word c.args.line c.answer.result c.requires.may c.answer.ensures.done
