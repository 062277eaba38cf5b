use Rattle.std.proofs.Common.{[]}
use Rattle.mk_history.specs.Wholes.{first_state}
use Rattle.mk_kept.specs.Heads.{history}
use Rattle.bench.proofs.columns.columns_of.Goals as goal

-- the run with no round
pub begin_round-requires : goal.begin_round-requires
begin_round-requires c =
    let run = history c.args.head.now [] in
    (run, first_state run, c.in_ok-whole.ensures [])
