-- What is still to be sent, while a message goes to one replica after the other.
use Rattle.std.proofs.Common.{◌≡◌, ℕ, suc, ◌+◌, ◌-◌, ◌<◌, ap, arith, List, ◌∷◌}
use Rattle.std.specs.Prelude.{map}
use Rattle.mk_txn.specs.declared.TxnId.{TxnId}
use Rattle.mk_words.specs.declared.Msg.{Msg}
use Rattle.mk_words.specs.declared.Body.{Body}
use Rattle.mk_model.specs.ColumnState.{numbers_from}

-- the messages to the replicas from r on, n of them
abbrev pub still_sent : ℕ → ℕ → ℕ → TxnId → ℕ → Body → List Msg
still_sent r n epoch id view body = map (λ k. record { epoch = epoch; id = id; replica = k; view = view; body = body }) (numbers_from r n)

pub still_sent-next : (r end : ℕ) (epoch : ℕ) (id : TxnId) (view : ℕ) (body : Body) → r < end
    → still_sent r (end - r) epoch id view body ≡ record { epoch = epoch; id = id; replica = r; view = view; body = body } ∷ still_sent (r + 1) (end - (r + 1)) epoch id view body
still_sent-next r end epoch id view body lt =
    let left : end - r ≡ suc (end - (r + 1)) = omega (arith, lt) in
    ap (λ n. still_sent r n epoch id view body) left
