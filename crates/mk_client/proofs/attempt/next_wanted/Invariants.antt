-- The key is that of the items to come, behind as many as are left.
use Rattle.std.proofs.Common.{◌≡◌, take, drop}
use Rattle.std.specs.List.{slice_get}
use Rattle.mk_client.specs.Wanted.{wanted_keys, keys_after}
use Rattle.mk_client.proofs.attempt.next_wanted.Given as goal

abbrev pub invariant-loop-place : goal.invariant-loop-place
invariant-loop-place l =
    slice_get (wanted_keys l.items) l.fetched ≡ slice_get (keys_after (take l.place l.items) (drop l.place l.items)) l.left
