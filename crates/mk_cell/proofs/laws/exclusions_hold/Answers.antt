use Rattle.mk_words.proofs.CellLaws.{CellFits-after}
use Rattle.mk_words.proofs.Exclusion.{write_awaits_reader, read_awaits_writer}
use Rattle.mk_cell.proofs.laws.exclusions_hold.Goals as goal

pub returns-clause-fits : goal.returns-clause-fits
returns-clause-fits c = CellFits-after

pub returns-clause-write : goal.returns-clause-write
returns-clause-write c = write_awaits_reader

pub returns-clause-read : goal.returns-clause-read
returns-clause-read c = read_awaits_writer
