use Rattle.std.proofs.Common.{refl}
use Rattle.mk_text.proofs.Looks.{within_words}
use Rattle.mk_text.proofs.words.look.Goals as goal

pub bytes-init : goal.bytes-init
bytes-init c = record { printable = refl; empty_word = within_words c.args.line.now }
