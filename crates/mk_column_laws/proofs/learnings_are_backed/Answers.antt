use Rattle.mk_column_laws.proofs.TheLaws as laws
use Rattle.mk_column_laws.proofs.learnings_are_backed.Goals as goal

pub returns : goal.returns
returns c = record { learned_backed = laws.learned_backed; backing_stays = laws.backing_stays }
