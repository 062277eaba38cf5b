-- Columns and drivers may go to other threads.
use denote.Struct.Struct.{Struct}
use denote.Struct.Declared as structs
use denote.Enum.Enum.{Enum}
use denote.Enum.Declared as enums
use denote.Param.Send.{IsSend, sendable, recorded_send, struct_send, enum_send, view_send}
use denote.Param.SendFields.{declared_send}
use Rattle.std.proofs.Crossing.{crosses, frees, send as global_send}
use Rattle.std.proofs.MapsCrossing.{crosses as maps_cross}
use Rattle.std.proofs.MapsCrossingOver.{crosses as sets_cross}
use Rattle.mk_thread_laws.proofs.IndexSets.{IndexSet-send}
use Rattle.mk_txn.specs.contracts.Stamp.{the_row as stamp_row, the_type as stamp_type}
use Rattle.mk_txn.specs.contracts.Value.{the_row as value_row, the_type as value_type}
use Rattle.mk_txn.specs.contracts.TxnId.{the_row as id_row, the_type as id_type}
use Rattle.mk_txn.specs.contracts.ReadItem.{the_row as read_row, the_type as read_type}
use Rattle.mk_txn.specs.contracts.WriteItem.{the_row as write_row, the_type as write_type}
use Rattle.mk_txn.specs.contracts.Reason.{the_row as reason_row, the_type as reason_type}
use Rattle.mk_txn.specs.contracts.Conflict.{the_row as conflict_row, the_type as conflict_type}
use Rattle.mk_txn.specs.contracts.Vote.{the_row as vote_row, the_type as vote_type}
use Rattle.mk_txn.specs.contracts.Cause.{the_row as cause_row, the_type as cause_type}
use Rattle.mk_txn.specs.contracts.Outcome.{the_row as outcome_row, the_type as outcome_type}
use Rattle.mk_txn.specs.contracts.Accepted.{the_row as accepted_row, the_type as accepted_type}
use Rattle.mk_txn.specs.contracts.Known.{the_row as known_row, the_type as known_type}
use Rattle.mk_txn.specs.contracts.transaction.Txn.{the_row as txn_row}
use Rattle.mk_txn.specs.contracts.transaction.Txn.TheInside.{the_row as txn_inside, the_type as txn_type}
use Rattle.mk_txn.specs.contracts.marking.Marks.{the_row as marks_row}
use Rattle.mk_txn.specs.contracts.marking.Marks.TheInside.{the_row as marks_inside, the_type as marks_type}
use Rattle.mk_words.specs.contracts.Act.{the_row as act_row, the_type as act_type}
use Rattle.mk_words.specs.contracts.Answer.{the_row as answer_row, the_type as answer_type}
use Rattle.mk_words.specs.contracts.Entry.{the_row as entry_row, the_type as entry_type}
use Rattle.mk_words.specs.contracts.Told.{the_row as told_row, the_type as told_type}
use Rattle.mk_words.specs.contracts.Moved.{the_row as moved_row, the_type as moved_type}
use Rattle.mk_words.specs.contracts.Body.{the_row as body_row, the_type as body_type}
use Rattle.mk_words.specs.contracts.Msg.{the_row as msg_row, the_type as msg_type}
use Rattle.mk_words.specs.contracts.KeyCall.{the_row as call_row, the_type as call_type}
use Rattle.mk_words.specs.contracts.Writes.{the_row as writes_row}
use Rattle.mk_words.specs.contracts.Writes.TheInside.{the_row as writes_inside, the_type as writes_type}
use Rattle.mk_words.specs.contracts.Step.{the_row as step_row, the_type as step_type}
use Rattle.mk_words.specs.contracts.Phase.{the_row as phase_row, the_type as phase_type}
use Rattle.mk_trim.specs.contracts.kept.Kept.{the_row as kept_row}
use Rattle.mk_trim.specs.contracts.kept.Kept.TheInside.{the_row as kept_inside, the_type as kept_type}
use Rattle.mk_trim.specs.contracts.ReplicaView.{the_row as replica_view_row, the_type as replica_view_type}
use Rattle.mk_trim.specs.contracts.settled.Settled.{the_row as settled_row}
use Rattle.mk_trim.specs.contracts.settled.Settled.TheInside.{the_row as settled_inside, the_type as settled_type}
use Rattle.mk_quorum.specs.contracts.size.Size.{the_row as size_row}
use Rattle.mk_quorum.specs.contracts.size.Size.TheInside.{the_row as size_inside, the_type as size_type}
use Rattle.mk_msg.specs.contracts.link.Stream.{the_row as stream_row, the_type as stream_type}
use Rattle.mk_msg.specs.contracts.link.Link.{the_row as link_row}
use Rattle.mk_msg.specs.contracts.link.Link.TheInside.{the_row as link_inside, the_type as link_type}
use Rattle.mk_record.specs.contracts.record.CoreRecord.{the_row as record_row}
use Rattle.mk_record.specs.contracts.record.CoreRecord.TheInside.{the_row as record_inside, the_type as record_type}
use Rattle.mk_coord.specs.contracts.coord.Coord.{the_row as coord_row}
use Rattle.mk_coord.specs.contracts.coord.Coord.TheInside.{the_row as coord_inside, the_type as coord_type}
use Rattle.mk_takeover.specs.contracts.takeover.Takeover.{the_row as takeover_row}
use Rattle.mk_takeover.specs.contracts.takeover.Takeover.TheInside.{the_row as takeover_inside, the_type as takeover_type}
use Rattle.mk_valid.specs.contracts.finishing.Finishing.{the_row as finishing_row}
use Rattle.mk_valid.specs.contracts.finishing.Finishing.TheInside.{the_row as finishing_inside, the_type as finishing_type}
use Rattle.mk_valid.specs.contracts.validation.Validation.{the_row as validation_row}
use Rattle.mk_valid.specs.contracts.validation.Validation.TheInside.{the_row as validation_inside, the_type as validation_type}
use Rattle.mk_column.specs.contracts.clients.Client.{the_row as client_row, the_type as client_type}
use Rattle.mk_column.specs.contracts.clients.Clients.{the_row as clients_row}
use Rattle.mk_column.specs.contracts.clients.Clients.TheInside.{the_row as clients_inside, the_type as clients_type}
use Rattle.mk_column.specs.contracts.Reads.{the_row as reads_row}
use Rattle.mk_column.specs.contracts.Reads.TheInside.{the_row as reads_inside, the_type as reads_type}
use Rattle.mk_column.specs.contracts.Attempt.{the_row as attempt_row, the_type as attempt_type}
use Rattle.mk_column.specs.contracts.begun.Begun.{the_row as begun_row}
use Rattle.mk_column.specs.contracts.begun.Begun.TheInside.{the_row as begun_inside, the_type as begun_type}
use Rattle.mk_column.specs.contracts.attempts.Attempts.{the_row as attempts_row}
use Rattle.mk_column.specs.contracts.attempts.Attempts.TheInside.{the_row as attempts_inside, the_type as attempts_type}
use Rattle.mk_column.specs.contracts.backup.ViewId.{the_row as view_id_row, the_type as view_id_type}
use Rattle.mk_column.specs.contracts.backup.Backup.{the_row as backup_row}
use Rattle.mk_column.specs.contracts.backup.Backup.TheInside.{the_row as backup_inside, the_type as backup_type}
use Rattle.mk_column.specs.contracts.takeovers.Takeovers.{the_row as takeovers_row}
use Rattle.mk_column.specs.contracts.takeovers.Takeovers.TheInside.{the_row as takeovers_inside, the_type as takeovers_type}
use Rattle.mk_column.specs.contracts.replica.Replica.{the_row as replica_row}
use Rattle.mk_column.specs.contracts.replica.Replica.TheInside.{the_row as replica_inside, the_type as replica_type}
use Rattle.mk_column.specs.contracts.work.Work.{the_row as work_row, the_type as work_type}
use Rattle.mk_column.specs.contracts.learned.Way.{the_row as way_row, the_type as way_type}
use Rattle.mk_column.specs.contracts.learned.Learned.{the_row as learned_row, the_type as learned_type}
use Rattle.mk_column.specs.contracts.parts.Parts.{the_row as parts_row, the_type as parts_type}
use Rattle.mk_column.specs.contracts.column.Column.{the_row as column_row}
use Rattle.mk_column.specs.contracts.column.Column.TheInside.{the_row as column_inside, the_type as column_type}
use Rattle.mk_script.specs.contracts.lines.Point.{the_row as point_row, the_type as point_type}
use Rattle.mk_script.specs.contracts.lines.TakeoverLine.{the_row as takeover_line_row, the_type as takeover_line_type}
use Rattle.mk_proc.specs.contracts.ProcKind.{the_row as proc_kind_row, the_type as proc_kind_type}
use Rattle.mk_proc.specs.contracts.Item.{the_row as item_row, the_type as item_type}
use Rattle.mk_driver.specs.contracts.Task.{the_row as task_row, the_type as task_type}
use Rattle.mk_driver.specs.contracts.Part.{the_row as part_row, the_type as part_type}
use Rattle.mk_driver.specs.contracts.Agenda.{the_row as agenda_row}
use Rattle.mk_driver.specs.contracts.Agenda.TheInside.{the_row as agenda_inside, the_type as agenda_type}
use Rattle.mk_driver.specs.contracts.Parts.{the_row as driver_parts_row}
use Rattle.mk_driver.specs.contracts.Parts.TheInside.{the_row as driver_parts_inside, the_type as driver_parts_type}
use Rattle.mk_driver.specs.contracts.Numbers.{the_row as numbers_row}
use Rattle.mk_driver.specs.contracts.Numbers.TheInside.{the_row as numbers_inside, the_type as numbers_type}
use Rattle.mk_driver.specs.contracts.TakeoverList.{the_row as takeover_list_row}
use Rattle.mk_driver.specs.contracts.TakeoverList.TheInside.{the_row as takeover_list_inside, the_type as takeover_list_type}
use Rattle.mk_driver.specs.contracts.Items.{the_row as items_row}
use Rattle.mk_driver.specs.contracts.Items.TheInside.{the_row as items_inside, the_type as items_type}
use Rattle.mk_driver.specs.contracts.Request.{the_row as request_row, the_type as request_type}
use Rattle.mk_driver.specs.contracts.Requests.{the_row as requests_row}
use Rattle.mk_driver.specs.contracts.Requests.TheInside.{the_row as requests_inside, the_type as requests_type}
use Rattle.mk_driver.specs.contracts.Trials.{the_row as trials_row}
use Rattle.mk_driver.specs.contracts.Trials.TheInside.{the_row as trials_inside, the_type as trials_type}
use Rattle.mk_driver.specs.contracts.Stage.{the_row as stage_row, the_type as stage_type}
use Rattle.mk_driver.specs.contracts.Caller.{the_row as caller_row, the_type as caller_type}
use Rattle.mk_driver.specs.contracts.Callers.{the_row as callers_row}
use Rattle.mk_driver.specs.contracts.Callers.TheInside.{the_row as callers_inside, the_type as callers_type}
use Rattle.mk_driver.specs.contracts.DriverState.{the_row as state_row, the_type as state_type}
use Rattle.mk_driver.specs.contracts.Submission.{the_row as submission_row, the_type as submission_type}
use Rattle.mk_driver.specs.contracts.Submissions.{the_row as submissions_row}
use Rattle.mk_driver.specs.contracts.Submissions.TheInside.{the_row as submissions_inside, the_type as submissions_type}
use Rattle.mk_driver.specs.contracts.RoundLines.{the_row as round_lines_row, the_type as round_lines_type}
use Rattle.mk_driver.specs.contracts.Driver.{the_row as driver_row}
use Rattle.mk_driver.specs.contracts.Driver.TheInside.{the_row as driver_inside, the_type as driver_type}

stamp_raw : IsSend (Struct (structs.shape stamp_type))
stamp_raw = struct_send (structs.shape stamp_type) (search (sendable, crosses) depth 14)

stamp_send : IsSend stamp_row
stamp_send = recorded_send (Struct (structs.shape stamp_type)) stamp_type.D stamp_type.to stamp_type.to_one stamp_raw

value_raw : IsSend (Enum (enums.shape value_type))
value_raw = enum_send (enums.shape value_type) (search (sendable, crosses) depth 14)

value_send : IsSend value_row
value_send = recorded_send (Enum (enums.shape value_type)) value_type.D value_type.to value_type.to_one value_raw

id_raw : IsSend (Struct (structs.shape id_type))
id_raw = struct_send (structs.shape id_type) (search (sendable, crosses) depth 14)

id_send : IsSend id_row
id_send = recorded_send (Struct (structs.shape id_type)) id_type.D id_type.to id_type.to_one id_raw

read_raw : IsSend (Struct (structs.shape read_type))
read_raw = struct_send (structs.shape read_type) (search (sendable, crosses, stamp_raw, value_raw) depth 14)

read_send : IsSend read_row
read_send = recorded_send (Struct (structs.shape read_type)) read_type.D read_type.to read_type.to_one read_raw

write_raw : IsSend (Struct (structs.shape write_type))
write_raw = struct_send (structs.shape write_type) (search (sendable, crosses, value_raw) depth 14)

write_send : IsSend write_row
write_send = recorded_send (Struct (structs.shape write_type)) write_type.D write_type.to write_type.to_one write_raw

reason_raw : IsSend (Enum (enums.shape reason_type))
reason_raw = enum_send (enums.shape reason_type) (search (sendable, crosses) depth 14)

reason_send : IsSend reason_row
reason_send = recorded_send (Enum (enums.shape reason_type)) reason_type.D reason_type.to reason_type.to_one reason_raw

conflict_raw : IsSend (Struct (structs.shape conflict_type))
conflict_raw = struct_send (structs.shape conflict_type) (search (sendable, crosses, reason_raw, stamp_raw) depth 14)

conflict_send : IsSend conflict_row
conflict_send = recorded_send (Struct (structs.shape conflict_type)) conflict_type.D conflict_type.to conflict_type.to_one conflict_raw

vote_raw : IsSend (Enum (enums.shape vote_type))
vote_raw = enum_send (enums.shape vote_type) (search (sendable, crosses, conflict_raw) depth 14)

vote_send : IsSend vote_row
vote_send = recorded_send (Enum (enums.shape vote_type)) vote_type.D vote_type.to vote_type.to_one vote_raw

cause_raw : IsSend (Enum (enums.shape cause_type))
cause_raw = enum_send (enums.shape cause_type) (search (sendable, crosses, conflict_raw) depth 14)

cause_send : IsSend cause_row
cause_send = recorded_send (Enum (enums.shape cause_type)) cause_type.D cause_type.to cause_type.to_one cause_raw

outcome_raw : IsSend (Enum (enums.shape outcome_type))
outcome_raw = enum_send (enums.shape outcome_type) (search (sendable, crosses, cause_raw) depth 14)

outcome_send : IsSend outcome_row
outcome_send = recorded_send (Enum (enums.shape outcome_type)) outcome_type.D outcome_type.to outcome_type.to_one outcome_raw

accepted_raw : IsSend (Struct (structs.shape accepted_type))
accepted_raw = struct_send (structs.shape accepted_type) (search (sendable, crosses, outcome_raw) depth 14)

accepted_send : IsSend accepted_row
accepted_send = recorded_send (Struct (structs.shape accepted_type)) accepted_type.D accepted_type.to accepted_type.to_one accepted_raw

known_raw : IsSend (Enum (enums.shape known_type))
known_raw = enum_send (enums.shape known_type) (search (sendable, crosses, outcome_raw) depth 14)

known_send : IsSend known_row
known_send = recorded_send (Enum (enums.shape known_type)) known_type.D known_type.to known_type.to_one known_raw

txn_inside_send : IsSend txn_inside
txn_inside_send = declared_send txn_type (search (sendable, crosses, id_send, stamp_send, read_send, write_send) depth 14)

txn_send : IsSend txn_row
txn_send = view_send txn_inside _ _ _ _ txn_inside_send

marks_inside_send : IsSend marks_inside
marks_inside_send = declared_send marks_type (search (sendable, crosses, maps_cross) depth 14)

marks_send : IsSend marks_row
marks_send = view_send marks_inside _ _ _ _ marks_inside_send

act_raw : IsSend (Enum (enums.shape act_type))
act_raw = enum_send (enums.shape act_type) (search (sendable, crosses, stamp_raw, value_raw) depth 14)

act_send : IsSend act_row
act_send = recorded_send (Enum (enums.shape act_type)) act_type.D act_type.to act_type.to_one act_raw

answer_raw : IsSend (Enum (enums.shape answer_type))
answer_raw = enum_send (enums.shape answer_type) (search (sendable, crosses, stamp_raw, value_raw, reason_raw) depth 14)

answer_send : IsSend answer_row
answer_send = recorded_send (Enum (enums.shape answer_type)) answer_type.D answer_type.to answer_type.to_one answer_raw

entry_raw : IsSend (Struct (structs.shape entry_type))
entry_raw = struct_send (structs.shape entry_type) (search (sendable, crosses, txn_send, vote_send, accepted_send, outcome_send) depth 14)

entry_send : IsSend entry_row
entry_send = recorded_send (Struct (structs.shape entry_type)) entry_type.D entry_type.to entry_type.to_one entry_raw

told_raw : IsSend (Struct (structs.shape told_type))
told_raw = struct_send (structs.shape told_type) (search (sendable, crosses, vote_send, accepted_send, outcome_send) depth 14)

told_send : IsSend told_row
told_send = recorded_send (Struct (structs.shape told_type)) told_type.D told_type.to told_type.to_one told_raw

moved_raw : IsSend (Struct (structs.shape moved_type))
moved_raw = struct_send (structs.shape moved_type) (search (sendable, crosses, known_raw) depth 14)

moved_send : IsSend moved_row
moved_send = recorded_send (Struct (structs.shape moved_type)) moved_type.D moved_type.to moved_type.to_one moved_raw

body_raw : IsSend (Enum (enums.shape body_type))
body_raw = enum_send (enums.shape body_type) (search (sendable, crosses, vote_raw, outcome_raw, told_raw, moved_raw) depth 14)

body_send : IsSend body_row
body_send = recorded_send (Enum (enums.shape body_type)) body_type.D body_type.to body_type.to_one body_raw

msg_raw : IsSend (Struct (structs.shape msg_type))
msg_raw = struct_send (structs.shape msg_type) (search (sendable, crosses, id_raw, body_raw) depth 14)

msg_send : IsSend msg_row
msg_send = recorded_send (Struct (structs.shape msg_type)) msg_type.D msg_type.to msg_type.to_one msg_raw

call_raw : IsSend (Struct (structs.shape call_type))
call_raw = struct_send (structs.shape call_type) (search (sendable, crosses, act_raw) depth 14)

call_send : IsSend call_row
call_send = recorded_send (Struct (structs.shape call_type)) call_type.D call_type.to call_type.to_one call_raw

writes_inside_send : IsSend writes_inside
writes_inside_send = declared_send writes_type (search (sendable, crosses, write_send) depth 14)

writes_send : IsSend writes_row
writes_send = view_send writes_inside _ _ _ _ writes_inside_send

step_raw : IsSend (Enum (enums.shape step_type))
step_raw = enum_send (enums.shape step_type) (search (sendable, crosses, id_raw, writes_send, call_raw, answer_raw) depth 14)

step_send : IsSend step_row
step_send = recorded_send (Enum (enums.shape step_type)) step_type.D step_type.to step_type.to_one step_raw

phase_raw : IsSend (Enum (enums.shape phase_type))
phase_raw = enum_send (enums.shape phase_type) (search (sendable, crosses) depth 14)

phase_send : IsSend phase_row
phase_send = recorded_send (Enum (enums.shape phase_type)) phase_type.D phase_type.to phase_type.to_one phase_raw

kept_inside_send : IsSend kept_inside
kept_inside_send = declared_send kept_type (search (sendable, crosses, id_send, outcome_send, marks_send) depth 14)

kept_send : IsSend kept_row
kept_send = view_send kept_inside _ _ _ _ kept_inside_send

replica_view_raw : IsSend (Struct (structs.shape replica_view_type))
replica_view_raw = struct_send (structs.shape replica_view_type) (search (sendable, crosses, phase_raw, kept_send) depth 14)

replica_view_send : IsSend replica_view_row
replica_view_send = recorded_send (Struct (structs.shape replica_view_type)) replica_view_type.D replica_view_type.to replica_view_type.to_one replica_view_raw

settled_inside_send : IsSend settled_inside
settled_inside_send = declared_send settled_type (search (sendable, crosses, marks_send, id_send, sets_cross, global_send, frees) depth 14)

settled_send : IsSend settled_row
settled_send = view_send settled_inside _ _ _ _ settled_inside_send

size_inside_send : IsSend size_inside
size_inside_send = declared_send size_type (search (sendable, crosses) depth 14)

size_send : IsSend size_row
size_send = search (sendable, size_inside_send)

stream_raw : IsSend (Struct (structs.shape stream_type))
stream_raw = struct_send (structs.shape stream_type) (search (sendable, crosses) depth 14)

stream_send : IsSend stream_row
stream_send = recorded_send (Struct (structs.shape stream_type)) stream_type.D stream_type.to stream_type.to_one stream_raw

link_inside_send : IsSend link_inside
link_inside_send = declared_send link_type (search (sendable, crosses, msg_send, stream_send, maps_cross) depth 14)

link_send : IsSend link_row
link_send = view_send link_inside _ _ _ _ link_inside_send

record_inside_send : IsSend record_inside
record_inside_send = declared_send record_type (search (sendable, crosses, entry_send, id_send, IndexSet-send) depth 14)

record_send : IsSend record_row
record_send = view_send record_inside _ _ _ _ record_inside_send

coord_inside_send : IsSend coord_inside
coord_inside_send = declared_send coord_type (search (sendable, crosses, size_send, vote_send, outcome_send) depth 14)

coord_send : IsSend coord_row
coord_send = view_send coord_inside _ _ _ _ coord_inside_send

takeover_inside_send : IsSend takeover_inside
takeover_inside_send = declared_send takeover_type (search (sendable, crosses, size_send, told_send, outcome_send) depth 14)

takeover_send : IsSend takeover_row
takeover_send = view_send takeover_inside _ _ _ _ takeover_inside_send

finishing_inside_send : IsSend finishing_inside
finishing_inside_send = declared_send finishing_type (search (sendable, crosses, act_send) depth 14)

finishing_send : IsSend finishing_row
finishing_send = view_send finishing_inside _ _ _ _ finishing_inside_send

validation_inside_send : IsSend validation_inside
validation_inside_send = declared_send validation_type (search (sendable, crosses, act_send, conflict_send) depth 14)

validation_send : IsSend validation_row
validation_send = view_send validation_inside _ _ _ _ validation_inside_send

client_raw : IsSend (Struct (structs.shape client_type))
client_raw = struct_send (structs.shape client_type) (search (sendable, crosses) depth 14)

client_send : IsSend client_row
client_send = recorded_send (Struct (structs.shape client_type)) client_type.D client_type.to client_type.to_one client_raw

clients_inside_send : IsSend clients_inside
clients_inside_send = declared_send clients_type (search (sendable, crosses, client_send, IndexSet-send) depth 14)

clients_send : IsSend clients_row
clients_send = view_send clients_inside _ _ _ _ clients_inside_send

reads_inside_send : IsSend reads_inside
reads_inside_send = declared_send reads_type (search (sendable, crosses, read_send) depth 14)

reads_send : IsSend reads_row
reads_send = view_send reads_inside _ _ _ _ reads_inside_send

attempt_raw : IsSend (Struct (structs.shape attempt_type))
attempt_raw = struct_send (structs.shape attempt_type) (search (sendable, crosses, id_raw, txn_send, outcome_send, reads_send) depth 14)

attempt_send : IsSend attempt_row
attempt_send = recorded_send (Struct (structs.shape attempt_type)) attempt_type.D attempt_type.to attempt_type.to_one attempt_raw

begun_inside_send : IsSend begun_inside
begun_inside_send = declared_send begun_type (search (sendable, crosses, attempt_send, coord_send, outcome_send) depth 14)

begun_send : IsSend begun_row
begun_send = view_send begun_inside _ _ _ _ begun_inside_send

attempts_inside_send : IsSend attempts_inside
attempts_inside_send = declared_send attempts_type (search (sendable, crosses, begun_send, id_send, IndexSet-send) depth 14)

attempts_send : IsSend attempts_row
attempts_send = view_send attempts_inside _ _ _ _ attempts_inside_send

view_id_raw : IsSend (Struct (structs.shape view_id_type))
view_id_raw = struct_send (structs.shape view_id_type) (search (sendable, crosses, id_raw) depth 14)

view_id_send : IsSend view_id_row
view_id_send = recorded_send (Struct (structs.shape view_id_type)) view_id_type.D view_id_type.to view_id_type.to_one view_id_raw

backup_inside_send : IsSend backup_inside
backup_inside_send = declared_send backup_type (search (sendable, crosses, view_id_send, takeover_send) depth 14)

backup_send : IsSend backup_row
backup_send = view_send backup_inside _ _ _ _ backup_inside_send

takeovers_inside_send : IsSend takeovers_inside
takeovers_inside_send = declared_send takeovers_type (search (sendable, crosses, backup_send, view_id_send, IndexSet-send) depth 14)

takeovers_send : IsSend takeovers_row
takeovers_send = view_send takeovers_inside _ _ _ _ takeovers_inside_send

replica_inside_send : IsSend replica_inside
replica_inside_send = declared_send replica_type (search (sendable, crosses, record_send, marks_send) depth 14)

replica_send : IsSend replica_row
replica_send = view_send replica_inside _ _ _ _ replica_inside_send

work_raw : IsSend (Enum (enums.shape work_type))
work_raw = enum_send (enums.shape work_type) (search (sendable, crosses, id_raw, txn_send, validation_send, finishing_send) depth 14)

work_send : IsSend work_row
work_send = recorded_send (Enum (enums.shape work_type)) work_type.D work_type.to work_type.to_one work_raw

way_raw : IsSend (Enum (enums.shape way_type))
way_raw = enum_send (enums.shape way_type) (search (sendable, crosses) depth 14)

way_send : IsSend way_row
way_send = recorded_send (Enum (enums.shape way_type)) way_type.D way_type.to way_type.to_one way_raw

learned_raw : IsSend (Struct (structs.shape learned_type))
learned_raw = struct_send (structs.shape learned_type) (search (sendable, crosses, id_raw, outcome_raw, way_raw) depth 14)

learned_send : IsSend learned_row
learned_send = recorded_send (Struct (structs.shape learned_type)) learned_type.D learned_type.to learned_type.to_one learned_raw

parts_raw : IsSend (Struct (structs.shape parts_type))
parts_raw = struct_send (structs.shape parts_type) (search (sendable, crosses, clients_send, attempts_send, takeovers_send, replica_send, link_send, work_raw, learned_send) depth 14)

parts_send : IsSend parts_row
parts_send = recorded_send (Struct (structs.shape parts_type)) parts_type.D parts_type.to parts_type.to_one parts_raw

column_inside_send : IsSend column_inside
column_inside_send = declared_send column_type (search (sendable, crosses, size_send, replica_view_send, parts_send, settled_send, step_send) depth 14)

pub column_send : IsSend column_row
column_send = view_send column_inside _ _ _ _ column_inside_send

point_raw : IsSend (Enum (enums.shape point_type))
point_raw = enum_send (enums.shape point_type) (search (sendable, crosses) depth 14)

point_send : IsSend point_row
point_send = recorded_send (Enum (enums.shape point_type)) point_type.D point_type.to point_type.to_one point_raw

takeover_line_raw : IsSend (Struct (structs.shape takeover_line_type))
takeover_line_raw = struct_send (structs.shape takeover_line_type) (search (sendable, crosses, id_raw) depth 14)

takeover_line_send : IsSend takeover_line_row
takeover_line_send = recorded_send (Struct (structs.shape takeover_line_type)) takeover_line_type.D takeover_line_type.to takeover_line_type.to_one takeover_line_raw

proc_kind_raw : IsSend (Enum (enums.shape proc_kind_type))
proc_kind_raw = enum_send (enums.shape proc_kind_type) (search (sendable, crosses) depth 14)

proc_kind_send : IsSend proc_kind_row
proc_kind_send = recorded_send (Enum (enums.shape proc_kind_type)) proc_kind_type.D proc_kind_type.to proc_kind_type.to_one proc_kind_raw

item_raw : IsSend (Enum (enums.shape item_type))
item_raw = enum_send (enums.shape item_type) (search (sendable, crosses, proc_kind_raw) depth 14)

item_send : IsSend item_row
item_send = recorded_send (Enum (enums.shape item_type)) item_type.D item_type.to item_type.to_one item_raw

task_raw : IsSend (Enum (enums.shape task_type))
task_raw = enum_send (enums.shape task_type) (search (sendable, crosses, id_raw, point_raw) depth 14)

task_send : IsSend task_row
task_send = recorded_send (Enum (enums.shape task_type)) task_type.D task_type.to task_type.to_one task_raw

part_raw : IsSend (Enum (enums.shape part_type))
part_raw = enum_send (enums.shape part_type) (search (sendable, crosses) depth 14)

part_send : IsSend part_row
part_send = recorded_send (Enum (enums.shape part_type)) part_type.D part_type.to part_type.to_one part_raw

agenda_inside_send : IsSend agenda_inside
agenda_inside_send = declared_send agenda_type (search (sendable, crosses, task_send) depth 14)

agenda_send : IsSend agenda_row
agenda_send = view_send agenda_inside _ _ _ _ agenda_inside_send

driver_parts_inside_send : IsSend driver_parts_inside
driver_parts_inside_send = declared_send driver_parts_type (search (sendable, crosses, part_send) depth 14)

driver_parts_send : IsSend driver_parts_row
driver_parts_send = view_send driver_parts_inside _ _ _ _ driver_parts_inside_send

numbers_inside_send : IsSend numbers_inside
numbers_inside_send = declared_send numbers_type (search (sendable, crosses) depth 14)

numbers_send : IsSend numbers_row
numbers_send = view_send numbers_inside _ _ _ _ numbers_inside_send

takeover_list_inside_send : IsSend takeover_list_inside
takeover_list_inside_send = declared_send takeover_list_type (search (sendable, crosses, takeover_line_send) depth 14)

takeover_list_send : IsSend takeover_list_row
takeover_list_send = view_send takeover_list_inside _ _ _ _ takeover_list_inside_send

items_inside_send : IsSend items_inside
items_inside_send = declared_send items_type (search (sendable, crosses, item_send) depth 14)

items_send : IsSend items_row
items_send = view_send items_inside _ _ _ _ items_inside_send

request_raw : IsSend (Struct (structs.shape request_type))
request_raw = struct_send (structs.shape request_type) (search (sendable, crosses, items_send) depth 14)

request_send : IsSend request_row
request_send = recorded_send (Struct (structs.shape request_type)) request_type.D request_type.to request_type.to_one request_raw

requests_inside_send : IsSend requests_inside
requests_inside_send = declared_send requests_type (search (sendable, crosses, request_send) depth 14)

requests_send : IsSend requests_row
requests_send = view_send requests_inside _ _ _ _ requests_inside_send

trials_inside_send : IsSend trials_inside
trials_inside_send = declared_send trials_type (search (sendable, crosses, request_send) depth 14)

trials_send : IsSend trials_row
trials_send = view_send trials_inside _ _ _ _ trials_inside_send

stage_raw : IsSend (Struct (structs.shape stage_type))
stage_raw = struct_send (structs.shape stage_type) (search (sendable, crosses, id_raw, point_raw) depth 14)

stage_send : IsSend stage_row
stage_send = recorded_send (Struct (structs.shape stage_type)) stage_type.D stage_type.to stage_type.to_one stage_raw

caller_raw : IsSend (Struct (structs.shape caller_type))
caller_raw = struct_send (structs.shape caller_type) (search (sendable, crosses, stage_send, requests_send, trials_send) depth 14)

caller_send : IsSend caller_row
caller_send = recorded_send (Struct (structs.shape caller_type)) caller_type.D caller_type.to caller_type.to_one caller_raw

callers_inside_send : IsSend callers_inside
callers_inside_send = declared_send callers_type (search (sendable, crosses, caller_send) depth 14)

callers_send : IsSend callers_row
callers_send = view_send callers_inside _ _ _ _ callers_inside_send

state_raw : IsSend (Struct (structs.shape state_type))
state_raw = struct_send (structs.shape state_type) (search (sendable, crosses, agenda_send, driver_parts_send, numbers_send, takeover_list_send, callers_send) depth 14)

state_send : IsSend state_row
state_send = recorded_send (Struct (structs.shape state_type)) state_type.D state_type.to state_type.to_one state_raw

submission_raw : IsSend (Struct (structs.shape submission_type))
submission_raw = struct_send (structs.shape submission_type) (search (sendable, crosses, request_raw) depth 14)

submission_send : IsSend submission_row
submission_send = recorded_send (Struct (structs.shape submission_type)) submission_type.D submission_type.to submission_type.to_one submission_raw

submissions_inside_send : IsSend submissions_inside
submissions_inside_send = declared_send submissions_type (search (sendable, crosses, submission_send) depth 14)

submissions_send : IsSend submissions_row
submissions_send = view_send submissions_inside _ _ _ _ submissions_inside_send

round_lines_raw : IsSend (Struct (structs.shape round_lines_type))
round_lines_raw = struct_send (structs.shape round_lines_type) (search (sendable, crosses, submissions_send, takeover_list_send) depth 14)

round_lines_send : IsSend round_lines_row
round_lines_send = recorded_send (Struct (structs.shape round_lines_type)) round_lines_type.D round_lines_type.to round_lines_type.to_one round_lines_raw

driver_inside_send : IsSend driver_inside
driver_inside_send = declared_send driver_type (search (sendable, crosses, size_send, round_lines_send, state_send) depth 14)

pub driver_send : IsSend driver_row
driver_send = view_send driver_inside _ _ _ _ driver_inside_send
