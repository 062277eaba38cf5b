use Rattle.std.proofs.Common.{◌≡◌, ◌++◌, [], drop}
use Rattle.mk_faults.proofs.rules.Rules.new.Given as goal

-- with the lines that are left these are the script's
abbrev pub invariant-loop-line : goal.invariant-loop-line
invariant-loop-line l = (l.rules.faults ++ drop l.line-index l.line-items ≡ l.fn.script.faults) × (l.rules.stops ≡ [])

abbrev pub invariant-loop-line-2 : goal.invariant-loop-line-2
invariant-loop-line-2 l = (l.rules.faults ≡ l.fn.script.faults) × (l.rules.stops ++ drop l.line-index l.line-items ≡ l.fn.script.stops)
