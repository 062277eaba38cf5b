-- The journals so far are done.
use Rattle.std.proofs.Common.{map}
use Rattle.mk_words.specs.Journals.{cell_through}
use Rattle.mk_state.specs.Cells.{states_of}
use Rattle.mk_whole.specs.Journals.{flaw_at_key}
use Rattle.mk_whole.proofs.PairLaws.{PairsSoFar}
use Rattle.mk_whole.proofs.journals.replay_keys.Given as goal

abbrev pub invariant-loop-key : goal.invariant-loop-key
invariant-loop-key l = PairsSoFar cell_through (flaw_at_key l.replica) (states_of l.fn.cells.items) (map (λ journal. journal.items) l.journals) l.key (states_of l.cells.items)
