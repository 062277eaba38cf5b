use Rattle.std.proofs.Common.{◌≡◌, ◌∙◌, ap, sym, arith, length, count_by}
use Rattle.mk_txn.specs.declared.Cause.TheVariants.{Takeover as ByTakeover}
use Rattle.mk_txn.specs.declared.Outcome.TheVariants.{Abort}
use Rattle.mk_quorum.specs.Slots.{passes}
use Rattle.mk_words.specs.declared.Pick.TheVariants.{Propose, Unclear}
use Rattle.mk_words.specs.Picks.{is_ok_promise, is_other_promise}
use Rattle.mk_takeover.proofs.PickCases.{propose_commit, propose_abort, unclear}
use Rattle.mk_takeover.proofs.takeover.Takeover.by_counts.Goals as goal

pub returns-then-majority-oks : goal.returns-then-majority-oks
returns-then-majority-oks c =
    let same : c.self.inside.size ≡ c.args.self.now.faults = ap (λ v. v.faults) c.self.view_is in
    let oks : c.count_oks-oks.result ≡ count_by (passes is_ok_promise) c.args.self.now.state.told =
    c.count_oks-oks.ensures ∙ ap (count_by (passes is_ok_promise)) c.told-told.ensures.slots in
    sym (propose_commit c.args.self.now.faults c.args.self.now.state (ap length (sym c.told-told.ensures.slots) ∙ c.told-told.ensures.count)
    (omega (arith, same, oks, c.majority.ensures, c.if-majority-oks.true)))

pub returns-then-block-others : goal.returns-then-block-others
returns-then-block-others c =
    let same : c.self.inside.size ≡ c.args.self.now.faults = ap (λ v. v.faults) c.self.view_is in
    let oks : c.count_oks-oks.result ≡ count_by (passes is_ok_promise) c.args.self.now.state.told =
    c.count_oks-oks.ensures ∙ ap (count_by (passes is_ok_promise)) c.told-told.ensures.slots in
    let others : c.count_others-others.result ≡ count_by (passes is_other_promise) c.args.self.now.state.told =
    c.count_others-others.ensures ∙ ap (count_by (passes is_other_promise)) c.told-told.ensures.slots in
    ap (λ view. Propose (Abort (ByTakeover view))) (ap (λ v. v.state.view) c.self.view_is)
    ∙ sym (propose_abort c.args.self.now.faults c.args.self.now.state (ap length (sym c.told-told.ensures.slots) ∙ c.told-told.ensures.count)
    (omega (arith, same, oks, c.majority.ensures, c.if-majority-oks.false))
    (omega (arith, same, others, c.block.ensures, c.if-block-others.true)))

pub returns-else-block-others : goal.returns-else-block-others
returns-else-block-others c =
    let same : c.self.inside.size ≡ c.args.self.now.faults = ap (λ v. v.faults) c.self.view_is in
    let oks : c.count_oks-oks.result ≡ count_by (passes is_ok_promise) c.args.self.now.state.told =
    c.count_oks-oks.ensures ∙ ap (count_by (passes is_ok_promise)) c.told-told.ensures.slots in
    let others : c.count_others-others.result ≡ count_by (passes is_other_promise) c.args.self.now.state.told =
    c.count_others-others.ensures ∙ ap (count_by (passes is_other_promise)) c.told-told.ensures.slots in
    ap (λ n. Unclear n c.count_others-others.result) oks ∙ ap (Unclear (count_by (passes is_ok_promise) c.args.self.now.state.told)) others
    ∙ sym (unclear c.args.self.now.faults c.args.self.now.state (ap length (sym c.told-told.ensures.slots) ∙ c.told-told.ensures.count)
    (omega (arith, same, oks, c.majority.ensures, c.if-majority-oks.false))
    (omega (arith, same, others, c.block.ensures, c.if-block-others.false)))
