use Rattle.mk_gen.specs.WordStream.{words_of}
use Rattle.mk_gen.proofs.draw.words.Goals as goal

pub returns : goal.returns
unfolding words_of
returns c = c.new.ensures
