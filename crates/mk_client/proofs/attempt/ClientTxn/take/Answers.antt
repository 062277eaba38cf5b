use Rattle.std.proofs.Common.{◌≡◌, Some, length, sym, ◌∙◌, arith}
use Rattle.std.specs.List.{slice_get}
use Rattle.std.specs.Vec.{vec_len}
use Rattle.mk_txn.specs.declared.ReadItem.{ReadItem}
use Rattle.mk_client.specs.Wanted.{next_wanted}
use Rattle.mk_client.proofs.ReadOrder.{read_keys-next}
use Rattle.mk_client.proofs.attempt.ClientTxn.take.Goals as goal

pub invariant_of-self-2 : goal.invariant_of-self-2
invariant_of-self-2 c =
    let reads = c.self.inside.reads in
    let read : ReadItem = record { key = c.unwrap-key.result; version = c.args.version; value = c.args.value } in
    let wanted : next_wanted c.args.self.now.items c.args.self.now.reads ≡ Some read.key = sym c.wanted.ensures ∙ c.unwrap-key.ensures in
    let next : slice_get c.self.inside.wanted.items (length reads.items) ≡ Some read.key = rw c.self.invariant.0 (rw (← c.self.view_is) at wanted) in
    let len : length reads.items ≡ vec_len reads = omega (arith, reads.ok) in
    (c.self.invariant.0, c.self.invariant.1, rw c.in_ok-push.ensures.items (read_keys-next c.self.inside.wanted.items reads.items read (vec_len reads) (vec_len c.push.new.self) c.self.invariant.2 (rw len at next) (omega (arith, c.in_ok-push.ensures.len))))

pub returns-clause-ok : goal.returns-clause-ok
returns-clause-ok c = rw (sym c.wanted.ensures ∙ c.unwrap-key.ensures) (rw (← c.self.view_is, c.in_ok-push.ensures.items))
