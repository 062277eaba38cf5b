use Rattle.std.proofs.Common.{◌≡◌, Some, sym, ap, subst, ◌∙◌}
use Rattle.std.specs.Prelude.{option_map, option_copied, OnOk}
use Rattle.mk_words.specs.declared.Pick.TheVariants.{Known, Learned, Propose}
use Rattle.mk_model.specs.ColumnState.{attempt_of, change_takeover}
use Rattle.mk_column.specs.ColumnState.{shown}
use Rattle.mk_model.specs.Steps.{takeover_proposing}
use Rattle.mk_column.specs.ColumnByCode.{ColumnView}
use Rattle.mk_column.proofs.TakeoverLaws.{pick-state}
use Rattle.mk_column.proofs.column.Column.pick.Goals as goal

pub returns-in-Known-clause-ok : goal.returns-in-Known-clause-ok
returns-in-Known-clause-ok c =
    let old = c.args.self.now in
    let found : option_map shown (attempt_of old.state c.args.id) ≡ Some c.unwrap.result.now = sym c.attempt.ensures ∙ ap option_copied c.unwrap.ensures in
    let is =
    pick-state old.setting old.state c.args.id c.args.view c.unwrap.result.now (Known c.in-Known.outcome) found (c.picked.ensures ∙ ap Some c.in-Known.is) in
    subst (λ state. OnOk c.learn_at.result (c.learn_at.new.self ≡ record old { state = state })) is c.learn_at.ensures.ok

pub returns-in-Learned-clause-ok : goal.returns-in-Learned-clause-ok
returns-in-Learned-clause-ok c =
    let old = c.args.self.now in
    let found : option_map shown (attempt_of old.state c.args.id) ≡ Some c.unwrap.result.now = sym c.attempt.ensures ∙ ap option_copied c.unwrap.ensures in
    let is =
    pick-state old.setting old.state c.args.id c.args.view c.unwrap.result.now (Learned c.in-Learned.outcome) found
    (c.picked.ensures ∙ ap Some c.in-Learned.is) in
    subst (λ state. OnOk c.learn_at-in-Learned.result (c.learn_at-in-Learned.new.self ≡ record old { state = state })) is c.learn_at-in-Learned.ensures.ok

pub returns-in_ok-send-in-Propose-clause-ok : goal.returns-in_ok-send-in-Propose-clause-ok
returns-in_ok-send-in-Propose-clause-ok c =
    let old = c.args.self.now in
    let found : option_map shown (attempt_of old.state c.args.id) ≡ Some c.unwrap.result.now = sym c.attempt.ensures ∙ ap option_copied c.unwrap.ensures in
    let is =
    pick-state old.setting old.state c.args.id c.args.view c.unwrap.result.now (Propose c.in-Propose.outcome) found
    (c.picked.ensures ∙ ap Some c.in-Propose.is) in
    c.propose_at.ensures
    ∙ ap (λ (column : ColumnView). record column { state = change_takeover c.args.id c.args.view (takeover_proposing c.in-Propose.outcome) column.state }) c.in_ok-send-in-Propose.ensures.ok
    ∙ ap (λ state. record old { state = state }) is
