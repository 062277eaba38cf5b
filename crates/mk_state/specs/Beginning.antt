-- How a round begins in a column.
use Rattle.std.specs.Prelude.{List, []}
use Rattle.mk_trim.specs.declared.ReplicaView.{ReplicaView}
use Rattle.mk_model.specs.Logs.{reading_ended}
use Rattle.mk_column.specs.ColumnByCode.{ColumnView}

-- it sees the replicas so, what still read is over, and its log is empty
abbrev pub column_begun : List ReplicaView → ColumnView → ColumnView
column_begun views column = record column { setting = record column.setting { views = views }; state = reading_ended column.state; log = [] }
