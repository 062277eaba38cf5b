use Rattle.mk_run_laws.proofs.Tenured as tenured
use Rattle.mk_run_laws.proofs.Matched as matched
use Rattle.mk_run_laws.proofs.Following as following
use Rattle.mk_run_laws.proofs.Clashing as clashing
use Rattle.mk_run_laws.proofs.tenures_hold.Goals as goal

pub returns : goal.returns
returns c =
    record {
      tenures_replay = tenured.tenures_replay;
      tenures_ascend = tenured.tenures_ascend;
      tenures_match = matched.tenures_match;
      tenures_follow = following.tenures_follow;
      clashes_give_up = clashing.clashes_give_up c.cells_remember.ensures.read_then_write c.cells_remember.ensures.write_then_read;
    }
