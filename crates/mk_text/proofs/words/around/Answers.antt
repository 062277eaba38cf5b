use Rattle.std.proofs.Common.{◌≡◌, ℕ, suc, ◌+◌, drop, drop-drop, arith, ap, ◌∙◌}
use Rattle.mk_text.proofs.words.around.Goals as goal

pub returns-clause-rest : goal.returns-clause-rest
returns-clause-rest c =
    let place = c.args.place in
    let bytes = c.args.bytes.now in
    let next : place + 1 ≡ suc place = omega arith in
    let behind : drop 1 (drop place bytes) ≡ drop (suc place) bytes = drop-drop 1 place bytes ∙ ap (λ (k : ℕ). drop k bytes) next in
    rw (c.split_at-2.ensures.back, c.split_at.ensures.back) behind
