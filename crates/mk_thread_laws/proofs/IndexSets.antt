-- Sets in order of insertion may go to other threads, at the heap.
use denote.RattleType.{RattleType}
use denote.Struct.Field.{unit-field}
use denote.Param.Send.{IsSend, sendable}
use Rattle.std.specs.declared.cmp.PartialEq as eq
use Rattle.std.specs.declared.hash.Hash as hash
use Rattle.std.specs.declared.hash.Hasher as hasher
use Rattle.std.specs.declared.hash.BuildHasher as builder
use Rattle.std.specs.contracts.alloc.Global.{the_row as heap_row}
use Rattle.std.specs.contracts.impls.GlobalAllocator.TheImpl.{ghosts as heap}
use Rattle.std.proofs.Crossing.{crosses}
use Rattle.indexmap.specs.contracts.index_table.IndexTable as IndexTable
use Rattle.indexmap.specs.contracts.columns.Columns as Columns
use Rattle.indexmap.specs.contracts.map.IndexMap as IndexMap
use Rattle.indexmap.specs.contracts.set.IndexSet as IndexSet

table_send : IsSend (IndexTable.the_field heap_row heap).row
table_send = search (sendable, crosses) depth 20

columns_send : (K V : RattleType) → IsSend K → IsSend V → IsSend (Columns.the_field K V heap_row heap).row
columns_send K V sk sv = search (sendable, crosses) depth 20

-- whole, since a search that goes down through them runs out of steps
module _ (K V S T : RattleType) (e : eq.Ghosts K.Denot) (h : hash.Ghosts K.Denot) (b : builder.Ghosts S.Denot T.Denot) (w : hasher.Ghosts T.Denot) where
  map_send : IsSend K → IsSend V → IsSend S → IsSend (IndexMap.the_field K V S heap_row T e h b w heap).row
  map_send sk sv ss = let c = columns_send K V sk sv in let t = table_send in search sendable depth 20

module _ (K S T : RattleType) (e : eq.Ghosts K.Denot) (h : hash.Ghosts K.Denot) (b : builder.Ghosts S.Denot T.Denot) (w : hasher.Ghosts T.Denot) where
  pub IndexSet-send : IsSend K → IsSend S → IsSend (IndexSet.the_field K S heap_row T e h b w heap).row
  IndexSet-send sk ss = let m = map_send K unit-field.row S T e h b w sk (search sendable) ss in search sendable depth 20
