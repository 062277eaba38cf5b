-- Seats may go to other threads, and locks may be shared.
use mir.Syntax.{w32}
use denote.Plain.{UInt}
use denote.Struct.Struct.{Struct}
use denote.Struct.Declared as structs
use denote.Enum.Enum.{Enum}
use denote.Enum.Declared as enums
use denote.Param.Send.{IsSend, IsSync, sendable, recorded_send, struct_send, enum_send, view_send, view_sync}
use denote.Param.SendFields.{declared_send, declared_sync}
use Rattle.std.proofs.Crossing.{crosses, frees}
use Rattle.std.specs.contracts.alloc.Global.{the_row as global_row}
use Rattle.std.specs.contracts.impls.GlobalAllocator.TheImpl.{ghosts as heap}
use Rattle.mk_lock.specs.contracts.view.View.{the_row as view_row}
use Rattle.mk_lock.specs.contracts.view.Origin.{the_row as origin_row}
use Rattle.mk_lock.specs.contracts.plays.Turns.{the_row as turns_row}
use Rattle.mk_lock.specs.contracts.plays.TurnsTableRuleJournalViewOrigin.TheImpl.{ghosts as turns_rule}
use Rattle.atomic_table.proofs.shared.Seat.TheSendSync.{the_send as token_send}
use Rattle.atomic_table.proofs.owned.Table.TheSendSync.{the_send as table_send, the_sync as table_sync}
use Rattle.mk_lock.specs.contracts.seat.Seat.{the_row as seat_row}
use Rattle.mk_lock.specs.contracts.journal.Journal.{the_row as journal_row}
use Rattle.mk_lock.specs.contracts.lock.KeyLock.{the_row as lock_row}
use Rattle.mk_lock.specs.contracts.lock.KeyLock.TheInside.{the_row as inside_row, the_type as inside_type}
use Rattle.mk_cell.specs.contracts.pending.Pending.{the_row as pending_row}
use Rattle.mk_cell.specs.contracts.cell.Cell.{the_row as cell_row}
use Rattle.mk_words.specs.contracts.JournalEntry.{the_row as entry_row, the_type as entry_type}
use Rattle.mk_words.specs.contracts.Act.{the_type as act_type}
use Rattle.mk_words.specs.contracts.Answer.{the_type as answer_type}
use Rattle.mk_txn.specs.contracts.Stamp.{the_row as stamp_row, the_type as stamp_type}
use Rattle.mk_txn.specs.contracts.Value.{the_field as value_field}

stamp_fields : IsSend (Struct (structs.shape stamp_type))
stamp_fields = search sendable depth 12

stamp_send : IsSend stamp_row
stamp_send = search sendable depth 12

value_fields : IsSend value_field.row
value_fields = search sendable depth 12

pub act_send : IsSend (Enum (enums.shape act_type))
act_send = let s = stamp_fields in enum_send (enums.shape act_type) (tt, ((s, (s, tt)), ((s, tt), ((s, tt), ((s, (value_fields, tt)), ((s, tt), ((s, tt), tt)))))))

pub answer_send : IsSend (Enum (enums.shape answer_type))
answer_send = let s = stamp_fields in enum_send (enums.shape answer_type) ((s, (value_fields, tt)), (tt, ((search sendable depth 12, (s, tt)), (tt, tt))))

entry_send : IsSend entry_row
entry_send = recorded_send (Struct (structs.shape entry_type)) entry_type.D entry_type.to entry_type.to_one (struct_send (structs.shape entry_type) (search sendable, (act_send, (answer_send, tt))))

pending_send : IsSend pending_row
pending_send = search (sendable, crosses, stamp_send) depth 12

cell_send : IsSend cell_row
cell_send = search (sendable, crosses, value_fields, stamp_fields, pending_send) depth 12

journal_send : IsSend journal_row
journal_send = search (sendable, crosses, cell_send, entry_send) depth 12

pub seat_send : IsSend seat_row
seat_send = search (sendable, token_send, journal_send) depth 12

narrow_sync : IsSync (UInt w32)
narrow_sync = search sendable

pub narrow_send : IsSend (UInt w32)
narrow_send = search sendable

pub global_send : IsSend global_row
global_send = search (sendable, crosses)

global_sync : IsSync global_row
global_sync = search (sendable, crosses) depth 12

inside_sync : IsSync inside_row
inside_sync = declared_sync inside_type (table_sync journal_row view_row origin_row turns_row global_row turns_rule heap journal_send global_send global_sync frees, (narrow_sync, (narrow_sync, (narrow_sync, tt))))

inside_send : IsSend inside_row
inside_send = declared_send inside_type (table_send journal_row view_row origin_row turns_row global_row turns_rule heap journal_send global_send frees, (narrow_send, (narrow_send, (narrow_send, tt))))

pub lock_sync : IsSync lock_row
lock_sync = view_sync inside_row _ _ _ _ inside_sync

pub lock_send : IsSend lock_row
lock_send = view_send inside_row _ _ _ _ inside_send

-- for the goals of a `join` that passes seats and shares locks, with `sendable` and std's `crosses`
pub ruleset lock_crosses = (seat_send, lock_sync, lock_send)
