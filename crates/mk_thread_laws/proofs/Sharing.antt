-- Rules may be shared.
use denote.Struct.Struct.{Struct}
use denote.Struct.Declared as structs
use denote.Enum.Enum.{Enum}
use denote.Enum.Declared as enums
use denote.Param.Send.{IsSync, sendable, recorded_sync, struct_sync, enum_sync, view_sync}
use denote.Param.SendFields.{declared_sync}
use Rattle.std.proofs.Crossing.{crosses}
use Rattle.std.proofs.MapsCrossing.{crosses as maps_cross}
use Rattle.mk_words.specs.contracts.MsgKind.{the_row as kind_row, the_type as kind_type}
use Rattle.mk_script.specs.contracts.lines.Fate.{the_row as fate_row, the_type as fate_type}
use Rattle.mk_txn.specs.contracts.TxnId.{the_row as id_row, the_type as id_type}
use Rattle.mk_script.specs.contracts.lines.Point.{the_row as point_row, the_type as point_type}
use Rattle.mk_script.specs.contracts.lines.FaultLine.{the_row as fault_row, the_type as fault_type}
use Rattle.mk_script.specs.contracts.lines.StopLine.{the_row as stop_row, the_type as stop_type}
use Rattle.mk_faults.specs.contracts.rules.Target.{the_row as target_row, the_type as target_type}
use Rattle.mk_faults.specs.contracts.rules.Coordinator.{the_row as coordinator_row, the_type as coordinator_type}
use Rattle.mk_faults.specs.contracts.rules.Rules.{the_row as rules_row}
use mathlib.Core.List.{List}
use denote.RattleType.{RattleType}
use denote.Bor.{Bor}
use denote.Param.Members.{Mut}
use denote.Struct.Field.{u64-field}
use Rattle.mk_proc.specs.contracts.ProcKind.{the_type as proc_kind_type}
use Rattle.mk_proc.specs.contracts.procs.Proc.{the_row as proc_row, the_type as proc_type}
use Rattle.mk_proc.specs.contracts.procs.Procs.{the_row as procs_row}
use Rattle.mk_faults.specs.contracts.rules.Rules.TheInside.{the_row as rules_inside, the_type as rules_type}

kind_raw : IsSync (Enum (enums.shape kind_type))
kind_raw = enum_sync (enums.shape kind_type) (search (sendable, crosses) depth 14)

kind_sync : IsSync kind_row
kind_sync = recorded_sync (Enum (enums.shape kind_type)) kind_type.D kind_type.to kind_type.to_one kind_raw

fate_raw : IsSync (Enum (enums.shape fate_type))
fate_raw = enum_sync (enums.shape fate_type) (search (sendable, crosses) depth 14)

fate_sync : IsSync fate_row
fate_sync = recorded_sync (Enum (enums.shape fate_type)) fate_type.D fate_type.to fate_type.to_one fate_raw

id_raw : IsSync (Struct (structs.shape id_type))
id_raw = struct_sync (structs.shape id_type) (search (sendable, crosses) depth 14)

id_sync : IsSync id_row
id_sync = recorded_sync (Struct (structs.shape id_type)) id_type.D id_type.to id_type.to_one id_raw

point_raw : IsSync (Enum (enums.shape point_type))
point_raw = enum_sync (enums.shape point_type) (search (sendable, crosses) depth 14)

point_sync : IsSync point_row
point_sync = recorded_sync (Enum (enums.shape point_type)) point_type.D point_type.to point_type.to_one point_raw

fault_raw : IsSync (Struct (structs.shape fault_type))
fault_raw = struct_sync (structs.shape fault_type) (search (sendable, crosses, kind_raw, id_raw, fate_raw) depth 14)

fault_sync : IsSync fault_row
fault_sync = recorded_sync (Struct (structs.shape fault_type)) fault_type.D fault_type.to fault_type.to_one fault_raw

stop_raw : IsSync (Struct (structs.shape stop_type))
stop_raw = struct_sync (structs.shape stop_type) (search (sendable, crosses, id_raw, point_raw) depth 14)

stop_sync : IsSync stop_row
stop_sync = recorded_sync (Struct (structs.shape stop_type)) stop_type.D stop_type.to stop_type.to_one stop_raw

target_raw : IsSync (Struct (structs.shape target_type))
target_raw = struct_sync (structs.shape target_type) (search (sendable, crosses) depth 14)

target_sync : IsSync target_row
target_sync = recorded_sync (Struct (structs.shape target_type)) target_type.D target_type.to target_type.to_one target_raw

coordinator_raw : IsSync (Struct (structs.shape coordinator_type))
coordinator_raw = struct_sync (structs.shape coordinator_type) (search (sendable, crosses) depth 14)

coordinator_sync : IsSync coordinator_row
coordinator_sync = recorded_sync (Struct (structs.shape coordinator_type)) coordinator_type.D coordinator_type.to coordinator_type.to_one coordinator_raw

rules_inside_sync : IsSync rules_inside
rules_inside_sync = declared_sync rules_type (search (sendable, crosses, fault_sync, stop_sync, fate_sync, point_sync, target_sync, coordinator_sync, maps_cross) depth 14)

pub rules_sync : IsSync rules_row
rules_sync = view_sync rules_inside _ _ _ _ rules_inside_sync

proc_kind_raw : IsSync (Enum (enums.shape proc_kind_type))
proc_kind_raw = enum_sync (enums.shape proc_kind_type) (search (sendable, crosses) depth 14)

module _ (T : RattleType) (m : Mut T.Denot (Bor (List u64-field.Value) × (u64-field.Value × Unit {0})) u64-field.Value) where
  proc_raw : IsSync T → IsSync (Struct (structs.shape (proc_type T m)))
  proc_raw s = struct_sync (structs.shape (proc_type T m)) (search (sendable, crosses, proc_kind_raw) depth 14)

  proc_sync : IsSync T → IsSync (proc_row T m)
  proc_sync s = recorded_sync (Struct (structs.shape (proc_type T m))) (proc_type T m).D (proc_type T m).to (proc_type T m).to_one (proc_raw s)

  pub procs_sync : IsSync T → IsSync (procs_row T m)
  procs_sync s = let raw = proc_raw s in let one = proc_sync s in search (sendable, crosses) depth 14
