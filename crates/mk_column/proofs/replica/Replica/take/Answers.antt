use Rattle.std.proofs.Common.{◌≡◌, true, false, sym, ap, ◌∙◌, arith, nat_lt}
use Rattle.std.proofs.lemmas.Bool.Decides.{nat_tests}
use Rattle.mk_words.specs.Entries.{entry_of}
use Rattle.mk_model.specs.Replicas.{reaction}
use Rattle.mk_column.proofs.ReplicaLaws.{reaction-paused, reaction-earlier, reaction-now}
use Rattle.mk_column.proofs.replica.Replica.take.Goals as goal

pub returns-then-not-is_serving-clause-ok : goal.returns-then-not-is_serving-clause-ok
returns-then-not-is_serving-clause-ok c =
    c.nothing.ensures c.args.self.now c.args.msg.now
    ∙ sym (reaction-paused c.args.txn.now c.args.self.now c.args.msg.now c.args.view.now (sym c.if-not-is_serving.ensures))

pub returns-then-view-msg-clause-ok : goal.returns-then-view-msg-clause-ok
returns-then-view-msg-clause-ok c =
    let earlier : nat_lt c.args.view.now.epoch c.args.msg.now.epoch ≡ true = grind (arith, nat_tests, c.if-view-msg.true) in
    c.nothing-then-view-msg.ensures c.args.self.now c.args.msg.now
    ∙ sym (reaction-earlier c.args.txn.now c.args.self.now c.args.msg.now c.args.view.now (sym c.if-not-is_serving.ensures) earlier)

pub returns-in-Voted-clause-ok : goal.returns-in-Voted-clause-ok
returns-in-Voted-clause-ok c =
    let txn = c.args.txn.now in
    let held = c.args.self.now in
    let msg = c.args.msg.now in
    let earlier : nat_lt c.args.view.now.epoch msg.epoch ≡ false = grind (arith, nat_tests, c.if-view-msg.false) in
    let later : nat_lt msg.epoch c.args.view.now.epoch ≡ false = grind (arith, nat_tests, c.if-msg-view.false) in
    c.nothing-in-Voted.ensures held msg
    ∙ sym (reaction-now txn held msg c.args.view.now (sym c.if-not-is_serving.ensures) earlier later ∙ ap (reaction txn held msg (entry_of msg.id held.entries)) c.in-Voted.is)

pub returns-in-Accepted-clause-ok : goal.returns-in-Accepted-clause-ok
returns-in-Accepted-clause-ok c =
    let txn = c.args.txn.now in
    let held = c.args.self.now in
    let msg = c.args.msg.now in
    let earlier : nat_lt c.args.view.now.epoch msg.epoch ≡ false = grind (arith, nat_tests, c.if-view-msg.false) in
    let later : nat_lt msg.epoch c.args.view.now.epoch ≡ false = grind (arith, nat_tests, c.if-msg-view.false) in
    c.nothing-in-Accepted.ensures held msg
    ∙ sym (reaction-now txn held msg c.args.view.now (sym c.if-not-is_serving.ensures) earlier later ∙ ap (reaction txn held msg (entry_of msg.id held.entries)) c.in-Accepted.is)

pub returns-in-Told-clause-ok : goal.returns-in-Told-clause-ok
returns-in-Told-clause-ok c =
    let txn = c.args.txn.now in
    let held = c.args.self.now in
    let msg = c.args.msg.now in
    let earlier : nat_lt c.args.view.now.epoch msg.epoch ≡ false = grind (arith, nat_tests, c.if-view-msg.false) in
    let later : nat_lt msg.epoch c.args.view.now.epoch ≡ false = grind (arith, nat_tests, c.if-msg-view.false) in
    c.nothing-in-Told.ensures held msg
    ∙ sym (reaction-now txn held msg c.args.view.now (sym c.if-not-is_serving.ensures) earlier later ∙ ap (reaction txn held msg (entry_of msg.id held.entries)) c.in-Told.is)

pub returns-in-Moved-clause-ok : goal.returns-in-Moved-clause-ok
returns-in-Moved-clause-ok c =
    let txn = c.args.txn.now in
    let held = c.args.self.now in
    let msg = c.args.msg.now in
    let earlier : nat_lt c.args.view.now.epoch msg.epoch ≡ false = grind (arith, nat_tests, c.if-view-msg.false) in
    let later : nat_lt msg.epoch c.args.view.now.epoch ≡ false = grind (arith, nat_tests, c.if-msg-view.false) in
    c.nothing-in-Moved.ensures held msg
    ∙ sym (reaction-now txn held msg c.args.view.now (sym c.if-not-is_serving.ensures) earlier later ∙ ap (reaction txn held msg (entry_of msg.id held.entries)) c.in-Moved.is)
