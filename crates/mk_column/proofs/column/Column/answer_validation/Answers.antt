use Rattle.std.proofs.Common.{◌≡◌, ◌<◌, ◌++◌, ◌∷◌, [], Some, sym, ap, subst, ◌∙◌, refl, length, length-set}
use Rattle.mk_txn.specs.declared.TxnId.{TxnId}
use Rattle.mk_quorum.specs.Sizes.{members}
use Rattle.mk_words.specs.Entries.{change_entry, with_vote}
use Rattle.mk_words.specs.Validations.{ValidationState, vote_unless_left, next_act, after_answer}
use Rattle.mk_column.specs.contracts.column.Column.{the_view}
use Rattle.mk_column.specs.declared.work.Work.TheVariants.{Idle as KeptIdle, Validating as KeptValidating}
use Rattle.mk_model.specs.Steps.{answered, voted_msg}
use Rattle.mk_column.specs.ColumnByCode.{ColumnView, WorkFits, kept_of}
use Rattle.mk_column.proofs.BeginLaws.{ensured-ok}
use Rattle.mk_column.proofs.AnswerLaws.{IsKept-replied, vote-state}
use Rattle.mk_column.proofs.column.Column.answer_validation.Goals as goal

pub invariant_of-self-2 : goal.invariant_of-self-2
invariant_of-self-2 c =
    let kept = kept_of c.self.inside.parts in
    let working : c.self.inside.parts.work ≡ KeptValidating c.in-Validating.txn c.in-Validating.replica c.in-Validating.epoch c.in-Validating.state =
    sym c.replace-work.ensures.value ∙ c.in-Validating.is in
    let fits : WorkFits (members c.self.inside.size) c.self.inside.parts.attempts c.self.inside.parts.replicas.items
    (KeptValidating c.in-Validating.txn c.in-Validating.replica c.in-Validating.epoch c.in-Validating.state) =
    subst (WorkFits (members c.self.inside.size) c.self.inside.parts.attempts c.self.inside.parts.replicas.items) working c.self.invariant.work in
    let msg = voted_msg c.in-Validating.txn c.in-Validating.replica c.in-Validating.epoch c.in-Some.vote in
    let sent : c.send.new.self.messages ≡ c.self.inside.parts.link.messages ++ msg ∷ [] =
    ensured-ok c.send.result (c.send.new.self.messages ≡ c.reserve.new.self.messages ++ record msg { id = c.id-id.result } ∷ [])
    (sym c.if-is_err.ensures.value) c.send.ensures.ok
    ∙ ap (λ all. all ++ record msg { id = c.id-id.result } ∷ []) c.in_ok-reserve.ensures.same
    ∙ ap (λ (id : TxnId). c.self.inside.parts.link.messages ++ record msg { id = id } ∷ []) c.id-id.ensures in
    rw (sent, c.replace-work.ensures.after)
    (IsKept-replied c.self.inside.size kept c.self.inside.settled _ (msg ∷ []) KeptIdle c.self.invariant (length-set _ _ _ ∙ c.self.invariant.replicas) (fits.0, tt) (λ id. refl) tt)

pub returns-clause-ok : goal.returns-clause-ok
returns-clause-ok c =
    let kept = kept_of c.self.inside.parts in
    let working : c.self.inside.parts.work ≡ KeptValidating c.in-Validating.txn c.in-Validating.replica c.in-Validating.epoch c.in-Validating.state =
    sym c.replace-work.ensures.value ∙ c.in-Validating.is in
    let fits : WorkFits (members c.self.inside.size) c.self.inside.parts.attempts c.self.inside.parts.replicas.items
    (KeptValidating c.in-Validating.txn c.in-Validating.replica c.in-Validating.epoch c.in-Validating.state) =
    subst (WorkFits (members c.self.inside.size) c.self.inside.parts.attempts c.self.inside.parts.replicas.items) working c.self.invariant.work in
    let within : c.in-Validating.replica < length c.self.inside.parts.replicas.items =
    subst (λ n. c.in-Validating.replica < n) (sym c.self.invariant.replicas) fits.0 in
    let msg = voted_msg c.in-Validating.txn c.in-Validating.replica c.in-Validating.epoch c.in-Some.vote in
    let sent : c.send.new.self.messages ≡ c.self.inside.parts.link.messages ++ msg ∷ [] =
    ensured-ok c.send.result (c.send.new.self.messages ≡ c.reserve.new.self.messages ++ record msg { id = c.id-id.result } ∷ [])
    (sym c.if-is_err.ensures.value) c.send.ensures.ok
    ∙ ap (λ all. all ++ record msg { id = c.id-id.result } ∷ []) c.in_ok-reserve.ensures.same
    ∙ ap (λ (id : TxnId). c.self.inside.parts.link.messages ++ record msg { id = id } ∷ []) c.id-id.ensures in
    let voted : vote_unless_left (after_answer c.in-Validating.state c.args.answer)
    (next_act (after_answer c.in-Validating.state c.args.answer)) ≡ Some c.in-Some.vote =
    ap (λ (state : ValidationState). vote_unless_left state (next_act state)) (sym c.take.ensures) ∙ sym c.vote.ensures ∙ c.in-Some.is in
    let is_new =
    c.vote-2.ensures
    ∙ ap (λ id. record c.index_mut.result.now { entries = change_entry id (with_vote c.in-Some.vote) c.index_mut.result.now.entries }) c.id-id.ensures in
    let seen_by = the_view c.self.inside in
    ap (λ state. record seen_by { state = state })
    (vote-state kept c.in-Validating.txn c.in-Validating.replica c.in-Validating.epoch c.in-Validating.state c.args.answer c.in-Some.vote c.index_mut.result.now c.vote-2.new.self c.send.new.self.messages c.replace-work.new.dest working voted within c.index_mut.ensures.value is_new sent c.replace-work.ensures.after)
    ∙ ap (λ (column : ColumnView). record column { state = answered c.args.answer column.state.work column.state }) c.self.view_is
