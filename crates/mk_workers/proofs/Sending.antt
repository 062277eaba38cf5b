-- What a worker ends with may go to other threads, and locks that stand apart may be shared.
use mathlib.Core.List.{List}
use denote.RattleType.{RattleType}
use denote.Ref.{NamedLft}
use denote.Bor.{Bor}
use denote.Param.Members.{Mut}
use Rattle.std.proofs.Crossing.{crosses}
use Rattle.mk_thread_laws.proofs.Sharing.{procs_sync, rules_sync}
use denote.Hole.{as_row}
use denote.Builtin.{unit}
use denote.Param.SendFields.{as_row_send, declared_send, declared_sync}
use Rattle.std.proofs.Crossing.{Vec-send}
use Rattle.std.specs.contracts.result.Result.{the_field as ended_field}
use Rattle.mk_lock.specs.contracts.seat.Seat.{the_row as seat_row}
use Rattle.mk_workers.specs.contracts.worker.Shared.{the_row as shared_row, the_type as shared_type}
use Rattle.mk_thread_laws.proofs.Sending.{column_send, driver_send}
use denote.Struct.Field.{row_field, u64-field}
use denote.Struct.Struct.{Struct}
use denote.Struct.Declared as structs
use denote.Param.Send.{IsSend, IsSync, sendable, recorded_send, struct_send}
use Rattle.crossbeam_utils.proofs.cache_padded.CachePadded.TheSendSync.{the_sync as padded_sync}
use Rattle.crossbeam_utils.specs.contracts.cache_padded.CachePadded.{the_row as padded_row}
use Rattle.mk_lock.specs.contracts.lock.KeyLock.{the_row as lock_row}
use Rattle.mk_lock_laws.proofs.Sending.{lock_sync, seat_send}
use Rattle.mk_workers.specs.contracts.worker.Worker.{the_row as worker_row, the_type as worker_type}
use Rattle.mk_txn.specs.contracts.NoMemory.{the_row as no_memory_row, the_type as no_memory_type}

pub no_memory_raw : IsSend (Struct (structs.shape no_memory_type))
no_memory_raw = struct_send (structs.shape no_memory_type) tt

pub no_memory_send : IsSend no_memory_row
no_memory_send = recorded_send (Struct (structs.shape no_memory_type)) no_memory_type.D no_memory_type.to no_memory_type.to_one no_memory_raw

pub padded_lock_sync : IsSync (padded_row lock_row)
padded_lock_sync = padded_sync lock_row lock_sync

pub ruleset workers_cross = (no_memory_send, no_memory_raw, padded_lock_sync)

ended_send : IsSend (as_row (ended_field unit no_memory_row))
ended_send = search (sendable, no_memory_send) depth 14

pub worker_send : (O : RattleType) → IsSend O → IsSend (worker_row O)
worker_send O s = declared_send (worker_type O) (column_send, (driver_send, (Vec-send seat_row seat_send, (as_row_send (row_field O) s, (ended_send, tt)))))

module _ (ℓ : NamedLft) (G T : RattleType) (m : Mut T.Denot (Bor (List u64-field.Value) × (u64-field.Value × Unit {0})) u64-field.Value) where
  pub shared_sync : IsSync G → IsSync T → IsSync (shared_row ℓ G T m)
  shared_sync sg st = let procs = procs_sync T m st in declared_sync (shared_type ℓ G T m) (search (sendable, crosses, padded_lock_sync, rules_sync) depth 14)
