use Rattle.std.proofs.Common.{◌≡◌, ◌++◌, take, map}
use Rattle.mk_valid.specs.Kinds.{write_act_of}
use Rattle.mk_valid.proofs.acts.push_writes.Given as goal

-- one act for each write so far
abbrev pub invariant-loop-item : goal.invariant-loop-item
invariant-loop-item l = l.acts.items ≡ l.fn.acts.items ++ map (λ item. (item.key, write_act_of l.kind l.ts item)) (take l.item-index l.writes)
