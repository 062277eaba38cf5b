-- A run of a head and rounds.
use Rattle.std.specs.Prelude.{◌≡◌, ℕ, List}
use Rattle.mk_history.specs.declared.RoundLog.{RoundLog}
use Rattle.mk_history.specs.Histories.{History}
use Rattle.mk_kept.specs.declared.head.Head.{Head}

-- the run of this head and these rounds
abbrev pub history : Head → List RoundLog → History
history head rounds =
    record {
      version = head.version;
      faults = head.size;
      columns = head.columns;
      client_columns = head.client_columns;
      client_names = head.client_names.names;
      key_names = head.key_names.names;
      rounds = rounds;
    }

-- how many names the tables may have
pub record HasLimits (head : Head) : Type 0 where
  pub clients : head.client_names.limit ≡ 64
  pub keys : head.key_names.limit ≡ 256
