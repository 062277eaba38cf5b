use Rattle.std.proofs.Common.{◌≡◌, ◌<◌, ◌++◌, None, Some, sym, ap, subst, ◌∙◌, List, length}
use Rattle.std.specs.Prelude.{map, option_copied, option_and_then, slice_get}
use Rattle.mk_quorum.specs.Sizes.{members}
use Rattle.mk_trim.specs.declared.ReplicaView.{ReplicaView}
use Rattle.mk_column.specs.contracts.column.Column.{the_view}
use Rattle.mk_column.specs.AttemptsByCode.{BegunView, begun_of}
use Rattle.mk_column.specs.HeldByCode.{sent_of}
use Rattle.mk_model.specs.Learnings.{txn_of}
use Rattle.mk_column.specs.StepsByCode.{delivered, finished_by}
use Rattle.mk_column.specs.ColumnByCode.{ColumnView, learning_of_kept, finish_kept, kept_of}
use Rattle.mk_lists.proofs.KeyedLists.{got-at}
use Rattle.mk_column.proofs.TakeLaws.{IsReaction, IsKept-delivered, delivered-state, unseen-state, unstamped-state, txn-found, txn-named, txn-acts}
use Rattle.mk_column.proofs.column.Column.deliver.Goals as goal

pub returns-in_default-clause-ok : goal.returns-in_default-clause-ok
returns-in_default-clause-ok c =
    let looked : option_copied c.get.result ≡ slice_get c.self.inside.views.items c.args.msg.now.replica =
    got-at c.deref.result.now c.args.msg.now.replica c.get.result c.get.ensures.lookup
    ∙ ap (λ (all : List ReplicaView). slice_get all c.args.msg.now.replica) c.deref.ensures.value in
    let none : slice_get c.args.self.now.setting.views c.args.msg.now.replica ≡ None =
    ap (λ (column : ColumnView). slice_get column.setting.views c.args.msg.now.replica) (sym c.self.view_is) ∙ sym looked ∙ ap option_copied c.in_default.is in
    ap (λ state. record c.args.self.now { state = state })
    (unseen-state c.args.self.now.setting c.args.self.now.state c.args.msg.now c.requires.idle none c.requires.goes)

pub returns-in_default-txn-clause-ok : goal.returns-in_default-txn-clause-ok
returns-in_default-txn-clause-ok c =
    let none : option_and_then (λ (b : BegunView). b.state.txn) (begun_of c.args.msg.now.id c.self.inside.parts.attempts) ≡ None =
    sym c.txn.ensures ∙ ap option_copied c.in_default-txn.is in
    let away =
    ap (λ (column : ColumnView). txn_of column.state c.args.msg.now.id) (sym c.self.view_is) ∙ txn-found c.args.msg.now.id c.self.inside.parts.attempts
    ∙ none in
    ap (λ state. record c.args.self.now { state = state }) (unstamped-state c.args.self.now.setting c.args.self.now.state c.args.msg.now away c.requires.goes)

pub take-requires : goal.take-requires
take-requires c =
    let stamped : option_and_then (λ (b : BegunView). b.state.txn) (begun_of c.args.msg.now.id c.self.inside.parts.attempts) ≡ Some c.in-Some-txn.txn.now =
    sym c.txn.ensures ∙ ap option_copied c.in-Some-txn.is in
    let named : c.in-Some-txn.txn.now.id ≡ c.args.msg.now.id =
    txn-named c.self.inside.size c.self.inside.parts.link.messages
    (map learning_of_kept c.self.inside.parts.learned.items) c.args.msg.now.id c.self.inside.parts.attempts c.in-Some-txn.txn.now c.self.invariant.attempts stamped in
    named

pub invariant_of-self-2 : goal.invariant_of-self-2
invariant_of-self-2 c =
    let kept = kept_of c.self.inside.parts in
    let stamped : option_and_then (λ (b : BegunView). b.state.txn) (begun_of c.args.msg.now.id c.self.inside.parts.attempts) ≡ Some c.in-Some-txn.txn.now =
    sym c.txn.ensures ∙ ap option_copied c.in-Some-txn.is in
    let named : c.in-Some-txn.txn.now.id ≡ c.args.msg.now.id =
    txn-named c.self.inside.size c.self.inside.parts.link.messages
    (map learning_of_kept c.self.inside.parts.learned.items) c.args.msg.now.id c.self.inside.parts.attempts c.in-Some-txn.txn.now c.self.invariant.attempts stamped in
    let acts =
    txn-acts c.self.inside.size c.self.inside.parts.link.messages
    (map learning_of_kept c.self.inside.parts.learned.items) c.args.msg.now.id c.self.inside.parts.attempts c.in-Some-txn.txn.now c.self.invariant.attempts stamped in
    let within : c.args.msg.now.replica < length c.self.inside.parts.replicas.items =
    subst (λ n. c.args.msg.now.replica < n) (sym c.self.invariant.replicas)
    (subst (λ column. c.args.msg.now.replica < members column.setting.faults) (sym c.self.view_is) c.requires.replica) in
    let reacts : IsReaction kept c.args.msg.now c.in-Some-txn.txn.now c.in-Some.view.now c.index_mut.result.now c.take.new.self c.in_ok-reaction.reaction.answer c.in_ok-reaction.reaction.work =
    record { within = within; there = c.index_mut.ensures.value; named = named; acts = acts; reacts = c.in_ok-reaction.ensures.ok } in
    let sent : c.send_answer.new.link.messages ≡ c.self.inside.parts.link.messages ++ sent_of c.args.msg.now c.in_ok-reaction.reaction.answer =
    c.send_answer.ensures ∙ ap (λ all. all ++ sent_of c.args.msg.now c.in_ok-reaction.reaction.answer) c.in_ok-reserve.ensures.same in
    let taught : c.learn_finish.new.learned.items ≡ c.self.inside.parts.learned.items ++ finish_kept c.args.msg.now.id c.finishes-finished.result =
    c.learn_finish.ensures ∙ ap (λ all. all ++ finish_kept c.args.msg.now.id c.finishes-finished.result) c.in_ok-reserve-2.ensures.items in
    IsKept-delivered c.self.inside.size kept c.self.inside.settled c.args.msg.now c.in-Some-txn.txn.now c.in-Some.view.now c.index_mut.result.now c.take.new.self c.in_ok-reaction.reaction.answer c.in_ok-reaction.reaction.work c.finishes-finished.result
    c.send_answer.new.link.messages c.learn_finish.new.learned.items c.self.invariant reacts sent taught

pub returns-clause-ok : goal.returns-clause-ok
returns-clause-ok c =
    let kept = kept_of c.self.inside.parts in
    let looked : option_copied c.get.result ≡ slice_get c.self.inside.views.items c.args.msg.now.replica =
    got-at c.deref.result.now c.args.msg.now.replica c.get.result c.get.ensures.lookup
    ∙ ap (λ (all : List ReplicaView). slice_get all c.args.msg.now.replica) c.deref.ensures.value in
    let stamped : option_and_then (λ (b : BegunView). b.state.txn) (begun_of c.args.msg.now.id c.self.inside.parts.attempts) ≡ Some c.in-Some-txn.txn.now =
    sym c.txn.ensures ∙ ap option_copied c.in-Some-txn.is in
    let named : c.in-Some-txn.txn.now.id ≡ c.args.msg.now.id =
    txn-named c.self.inside.size c.self.inside.parts.link.messages
    (map learning_of_kept c.self.inside.parts.learned.items) c.args.msg.now.id c.self.inside.parts.attempts c.in-Some-txn.txn.now c.self.invariant.attempts stamped in
    let acts =
    txn-acts c.self.inside.size c.self.inside.parts.link.messages
    (map learning_of_kept c.self.inside.parts.learned.items) c.args.msg.now.id c.self.inside.parts.attempts c.in-Some-txn.txn.now c.self.invariant.attempts stamped in
    let within : c.args.msg.now.replica < length c.self.inside.parts.replicas.items =
    subst (λ n. c.args.msg.now.replica < n) (sym c.self.invariant.replicas)
    (subst (λ column. c.args.msg.now.replica < members column.setting.faults) (sym c.self.view_is) c.requires.replica) in
    let reacts : IsReaction kept c.args.msg.now c.in-Some-txn.txn.now c.in-Some.view.now c.index_mut.result.now c.take.new.self c.in_ok-reaction.reaction.answer c.in_ok-reaction.reaction.work =
    record { within = within; there = c.index_mut.ensures.value; named = named; acts = acts; reacts = c.in_ok-reaction.ensures.ok } in
    let sent : c.send_answer.new.link.messages ≡ c.self.inside.parts.link.messages ++ sent_of c.args.msg.now c.in_ok-reaction.reaction.answer =
    c.send_answer.ensures ∙ ap (λ all. all ++ sent_of c.args.msg.now c.in_ok-reaction.reaction.answer) c.in_ok-reserve.ensures.same in
    let taught : c.learn_finish.new.learned.items ≡ c.self.inside.parts.learned.items ++ finish_kept c.args.msg.now.id c.finishes-finished.result =
    c.learn_finish.ensures ∙ ap (λ all. all ++ finish_kept c.args.msg.now.id c.finishes-finished.result) c.in_ok-reserve-2.ensures.items in
    let finishes : c.finishes-finished.result ≡ finished_by (the_view c.self.inside).setting (the_view c.self.inside).state c.args.msg.now c.args.msg.now.body =
    c.finishes-finished.ensures
    ∙ ap (λ (column : ColumnView). finished_by column.setting column.state c.args.msg.now c.args.msg.now.body) (sym c.self.view_is) in
    ap (λ state. record (the_view c.self.inside) { state = state })
    (delivered-state (the_view c.self.inside).setting kept c.args.msg.now c.in-Some-txn.txn.now c.in-Some.view.now c.index_mut.result.now c.take.new.self c.in_ok-reaction.reaction.answer c.in_ok-reaction.reaction.work
    c.send_answer.new.link.messages c.learn_finish.new.learned.items c.finishes-finished.result reacts
    (txn-found c.args.msg.now.id c.self.inside.parts.attempts ∙ stamped) (sym looked ∙ ap option_copied c.in-Some.is) c.requires.goes sent taught finishes)
    ∙ ap (λ (column : ColumnView). record column { state = delivered column.setting c.args.msg.now column.state }) c.self.view_is
