use Rattle.std.proofs.Common.{◌≡◌, [], length, map}
use Rattle.mk_lists.specs.Among.{Each}
use Rattle.mk_follow.proofs.commits.Commits.new.Given as goal

-- a column for each number so far, with no entries
abbrev pub invariant-loop : goal.invariant-loop
invariant-loop l = (length l.orders.items ≡ l.counter) × Each (λ column. column ≡ []) (map (λ column. column.items) l.orders.items)
