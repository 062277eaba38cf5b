use Rattle.std.proofs.Common.{rules}
use Rattle.bench.proofs.round.work.Goals as goal

pub first_round-requires-after_bounds : goal.first_round-requires-after_bounds
first_round-requires-after_bounds c d lives within =
    record { rules_are = search rules; whole = d.keeps_limits.ensures; between = search rules; left = search rules }
