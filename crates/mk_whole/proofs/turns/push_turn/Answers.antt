use Rattle.std.proofs.Common.{◌∷◌, [], arith}
use Rattle.mk_whole.proofs.RowLaws.{push-at}
use Rattle.mk_whole.proofs.turns.push_turn.Goals as goal

pub returns-in_ok-push : goal.returns-in_ok-push
returns-in_ok-push c =
    push-at (λ key. key.items) c.args.row.now.items c.args.key c.index_mut.result.now _ c.push.new.self (c.args.turn ∷ []) (omega arith) c.index_mut.ensures.value c.in_ok-push.ensures.items
