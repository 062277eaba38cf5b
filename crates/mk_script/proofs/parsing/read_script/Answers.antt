use Rattle.mk_script.specs.Scripts.{script_of}
use Rattle.mk_script.proofs.WholeLaws.{IsScript-from_state, size_of_text}
use Rattle.mk_script.proofs.KeepLaws.{IsWhole-from_text}
use Rattle.mk_script.proofs.parsing.read_script.Goals as goal

pub script-requires-clause-sized : goal.script-requires-clause-sized
script-requires-clause-sized c = size_of_text c.args.bytes.now c.in_ok-reader.reader c.in_ok-reader.ensures

pub script-requires-clause-whole : goal.script-requires-clause-whole
script-requires-clause-whole c =
    let reader = c.in_ok-reader.reader in
    IsWhole-from_text c.args.bytes.now (script_of reader) (IsScript-from_state c.args.bytes.now reader c.in_ok-reader.ensures)
