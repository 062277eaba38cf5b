use Rattle.std.proofs.Common.{◌≡◌, ◌∙◌, ap, sym, arith, length, count_by, map}
use Rattle.mk_txn.specs.Outcomes.{highest}
use Rattle.mk_quorum.specs.Slots.{passes}
use Rattle.mk_words.specs.declared.Pick.TheVariants.{Short}
use Rattle.mk_words.specs.Picks.{is_promise, accepted_in}
use Rattle.mk_takeover.proofs.PickCases.{short, propose_again, none_accepted}
use Rattle.mk_takeover.proofs.takeover.Takeover.by_promises.Goals as goal

pub returns-then-promises-majority : goal.returns-then-promises-majority
returns-then-promises-majority c =
    let same : c.self.inside.size ≡ c.args.self.now.faults = ap (λ v. v.faults) c.self.view_is in
    let promises : c.count_promises-promises.result ≡ count_by (passes is_promise) c.args.self.now.state.told =
    c.count_promises-promises.ensures ∙ ap (count_by (passes is_promise)) c.told-told.ensures.slots in
    ap Short promises ∙ sym (short c.args.self.now.faults c.args.self.now.state (ap length (sym c.told-told.ensures.slots) ∙ c.told-told.ensures.count)
    (omega (arith, same, promises, c.majority.ensures, c.if-promises-majority.true)))

pub returns-in-Some : goal.returns-in-Some
returns-in-Some c =
    let same : c.self.inside.size ≡ c.args.self.now.faults = ap (λ v. v.faults) c.self.view_is in
    let promises : c.count_promises-promises.result ≡ count_by (passes is_promise) c.args.self.now.state.told =
    c.count_promises-promises.ensures ∙ ap (count_by (passes is_promise)) c.told-told.ensures.slots in
    propose_again c.args.self.now.faults c.args.self.now.state c.in-Some.accepted (ap length (sym c.told-told.ensures.slots) ∙ c.told-told.ensures.count)
    (omega (arith, same, promises, c.majority.ensures, c.if-promises-majority.false))
    (c.in-Some.ensures ∙ ap (λ told. highest (map accepted_in told)) c.told-told.ensures.slots)

pub returns-in-None : goal.returns-in-None
returns-in-None c =
    let same : c.self.inside.size ≡ c.args.self.now.faults = ap (λ v. v.faults) c.self.view_is in
    let promises : c.count_promises-promises.result ≡ count_by (passes is_promise) c.args.self.now.state.told =
    c.count_promises-promises.ensures ∙ ap (count_by (passes is_promise)) c.told-told.ensures.slots in
    c.by_counts.ensures ∙ none_accepted c.args.self.now.faults c.args.self.now.state (ap length (sym c.told-told.ensures.slots) ∙ c.told-told.ensures.count)
    (omega (arith, same, promises, c.majority.ensures, c.if-promises-majority.false))
    (c.in-None.ensures ∙ ap (λ told. highest (map accepted_in told)) c.told-told.ensures.slots)
