use Rattle.std.proofs.Common.{◌≡◌, take}
use Rattle.mk_names.proofs.names.Names.copy.Given as goal

abbrev pub invariant-loop-number : goal.invariant-loop-number
invariant-loop-number l = record {
  names : l.names.names ≡ take l.number l.self.names;
  limit : l.names.limit ≡ l.self.limit;
}
