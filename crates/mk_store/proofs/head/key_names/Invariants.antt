-- The names so far.
use Rattle.std.proofs.Common.{◌≡◌, take}
use Rattle.mk_store.proofs.head.key_names.Given as goal

abbrev pub invariant-loop-number : goal.invariant-loop-number
invariant-loop-number l = l.names ≡ record { names = take l.number l.keys.names; limit = 256 }
