-- The entries so far are taken.
use Rattle.std.proofs.Common.{◌≡◌, drop}
use Rattle.mk_whole.specs.Matchers.{after_entries}
use Rattle.mk_whole.proofs.matchers.take_entries.Given as goal

abbrev pub invariant-loop-entry : goal.invariant-loop-entry
invariant-loop-entry l = after_entries l.fn.matchers.items l.journal ≡ after_entries l.matchers.items (drop l.entry-index l.journal)
