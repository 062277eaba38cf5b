-- The journal so far is done.
use Rattle.std.proofs.Common.{◌≡◌, ◌+◌, drop}
use Rattle.mk_words.specs.Journals.{cell_through}
use Rattle.mk_verdict.specs.Flaws.{flaw_of_journal}
use Rattle.mk_whole.proofs.journals.replay_journal.Given as goal

abbrev pub invariant-loop-place : goal.invariant-loop-place
invariant-loop-place l =
    (flaw_of_journal l.fn.cell.state l.replica l.key 1 l.journal ≡ flaw_of_journal l.cell.state l.replica l.key (l.place + 1) (drop l.place l.journal))
    × (cell_through l.fn.cell.state l.journal ≡ cell_through l.cell.state (drop l.place l.journal))
