use Rattle.std.proofs.Common.{◌≡◌, ◌++◌, take, map}
use Rattle.mk_valid.specs.Kinds.{read_act_of}
use Rattle.mk_valid.proofs.acts.push_reads.Given as goal

-- one act for each read so far
abbrev pub invariant-loop-item : goal.invariant-loop-item
invariant-loop-item l = l.acts.items ≡ l.fn.acts.items ++ map (λ item. (item.key, read_act_of l.kind l.ts item)) (take l.item-index l.reads)
