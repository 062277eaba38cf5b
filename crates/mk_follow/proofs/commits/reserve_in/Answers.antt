use Rattle.std.proofs.Common.{arith}
use Rattle.mk_follow.proofs.Entries.{entries-same, room-made}
use Rattle.mk_follow.proofs.commits.reserve_in.Goals as goal

pub returns-in_err-reserve-clause-same : goal.returns-in_err-reserve-clause-same
returns-in_err-reserve-clause-same c =
    entries-same c.args.columns.now.items c.args.column c.index_mut.result.now c.reserve.new.self c.requires c.index_mut.ensures.value c.reserve.ensures.items

pub returns-clause-same : goal.returns-clause-same
returns-clause-same c =
    entries-same c.args.columns.now.items c.args.column c.index_mut.result.now c.reserve.new.self c.requires c.index_mut.ensures.value c.reserve.ensures.items

pub returns-clause-room : goal.returns-clause-room
returns-clause-room c = room-made c.args.columns.now.items c.args.column c.reserve.new.self c.requires (omega (arith, c.in_ok-reserve.ensures.ok))
