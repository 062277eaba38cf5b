use Rattle.std.proofs.Common.{rules, ◌≡◌, ◌≤◌, ◌++◌, ◌+◌, ◌-◌, ◌<◌, [], ◌∷◌, sym, ap, ◌∙◌, arith}
use Rattle.std.proofs.lemmas.List.{append_assoc}
use Rattle.mk_column.proofs.SendLaws.{still_sent, still_sent-next}
use Rattle.mk_column.proofs.sending.send_to_all.Goals as goal

pub loop-replica-preserved : goal.loop-replica-preserved
loop-replica-preserved c =
    let r = c.loop-replica.replica in
    let end = c.n-replica-end.result in
    let link = c.loop-replica.link in
    let test : r < end = c.loop-replica-test.true in
    let pushed : c.send.new.self.messages ≡ link.messages ++ record { epoch = c.args.epoch; id = c.args.id; replica = r; view = c.args.view; body = c.args.body } ∷ [] =
    search rules in
    let room : end - r ≤ link.spare = c.loop-replica.invariant.1 in
    let less : link.spare ≤ c.send.new.self.spare + 1 = c.send.ensures.spare in (
      omega (arith, test),
      omega (arith, test, room, less),
      ap (λ all. all ++ still_sent (r + 1) (end - (r + 1)) c.args.epoch c.args.id c.args.view c.args.body) pushed
          ∙ append_assoc link.messages _ _
          ∙ ap (λ more. link.messages ++ more) (sym (still_sent-next r end c.args.epoch c.args.id c.args.view c.args.body test))
          ∙ c.loop-replica.invariant.2,
    )
