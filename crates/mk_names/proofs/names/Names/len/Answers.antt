use Rattle.std.proofs.Common.{arith}
use Rattle.std.specs.String.{string_bytes}
use Rattle.std.proofs.lemmas.List.{length-map}
use Rattle.mk_names.proofs.names.Names.len.Goals as goal

pub overflow_cast-result : goal.overflow_cast-result
overflow_cast-result c = omega (arith, c.len.ensures.len, c.self.invariant.within, c.self.invariant.counted, length-map c.self.inside.set.keys string_bytes)
