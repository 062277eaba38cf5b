-- All keys are those so far, and those of the items to come.
use Rattle.std.proofs.Common.{◌≡◌, ◌++◌, take, drop}
use Rattle.mk_client.specs.Wanted.{wanted_keys, keys_after}
use Rattle.mk_client.proofs.attempt.wanted_by.Given as goal

abbrev pub invariant-loop-place : goal.invariant-loop-place
invariant-loop-place l = wanted_keys l.items ≡ l.keys.items ++ keys_after (take l.place l.items) (drop l.place l.items)
