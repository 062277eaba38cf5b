use Rattle.mk_copy_laws.proofs.Latest.{version_in-one_copy}
use Rattle.mk_copy_laws.proofs.LatestFound as laws
use Rattle.mk_copy_laws.proofs.latest_commits_stand.Goals as goal

pub returns : goal.returns
returns c =
    record {
      write_is = laws.latest_write_is;
      read_is = laws.latest_read_is;
      write_found = laws.latest_write_found;
      write_none = laws.latest_write_none;
      copy_holds = version_in-one_copy;
    }
