use Rattle.std.proofs.Common.{◌≡◌, ◌-◌, ◌++◌, min, length, take, drop, drop-drop}
use Rattle.std.proofs.lemmas.List.{take_rest}
use Rattle.mk_io.proofs.WholeLaws.{ReadConsumes-from_front}
use Rattle.mk_io.proofs.memory.MemSourceSource.read.Goals as goal

pub returns-clause-bytes : goal.returns-clause-bytes
returns-clause-bytes c =
    let same = c.deref.ensures.value in
    let bytes = c.deref.result.now in
    let at = c.self.inside.at in
    let left = drop at c.self.inside.bytes.items in
    let n = c.min-count.result in
    let whole : take (length bytes - at) (drop at bytes) ≡ left = rw take_rest (rw same) in
    let count : n ≡ min (min c.self.inside.piece (length c.args.buf.now)) (length left) = rw (whole, c.min.ensures) at c.min-count.ensures in
    let buffer : c.copy_front.new.to ≡ take n left ++ drop n c.args.buf.now = rw whole at c.copy_front.ensures in
    let fact = ReadConsumes-from_front left c.args.buf.now c.self.inside.piece n c.self.invariant.1 count in
    rw (← c.self.view_is, buffer) (rw drop-drop at fact)
