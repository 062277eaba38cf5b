-- The copies so far, and the requests to come, are all.
use Rattle.std.proofs.Common.{◌≡◌, ◌++◌, drop}
use Rattle.mk_driver.proofs.Requests.copy.Given as goal

abbrev pub invariant-loop-place : goal.invariant-loop-place
invariant-loop-place l = l.list.items ++ drop l.place l.self ≡ l.self
