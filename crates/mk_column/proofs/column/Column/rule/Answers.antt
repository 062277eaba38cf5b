use Rattle.std.proofs.Common.{◌≡◌, Some, sym, ap, subst, ◌∙◌}
use Rattle.std.specs.Prelude.{option_map, option_copied, OnOk}
use Rattle.mk_words.specs.declared.Ruling.TheVariants.{Fast, Learned, Propose}
use Rattle.mk_model.specs.ColumnState.{attempt_of, change_attempt}
use Rattle.mk_column.specs.ColumnState.{shown}
use Rattle.mk_model.specs.Steps.{proposing}
use Rattle.mk_column.specs.ColumnByCode.{ColumnView}
use Rattle.mk_column.proofs.StepLaws.{rule-state}
use Rattle.mk_column.proofs.column.Column.rule.Goals as goal

pub returns-in-Fast-clause-ok : goal.returns-in-Fast-clause-ok
returns-in-Fast-clause-ok c =
    let old = c.args.self.now in
    let found : option_map shown (attempt_of old.state c.args.id) ≡ Some c.unwrap.result.now = sym c.attempt.ensures ∙ ap option_copied c.unwrap.ensures in
    let is = rule-state old.setting old.state c.args.id c.unwrap.result.now (Fast c.in-Fast.outcome) found (c.ruling.ensures ∙ ap Some c.in-Fast.is) in
    subst (λ state. OnOk c.learn.result (c.learn.new.self ≡ record old { state = state })) is c.learn.ensures.ok

pub returns-in-Learned-clause-ok : goal.returns-in-Learned-clause-ok
returns-in-Learned-clause-ok c =
    let old = c.args.self.now in
    let found : option_map shown (attempt_of old.state c.args.id) ≡ Some c.unwrap.result.now = sym c.attempt.ensures ∙ ap option_copied c.unwrap.ensures in
    let is = rule-state old.setting old.state c.args.id c.unwrap.result.now (Learned c.in-Learned.outcome) found (c.ruling.ensures ∙ ap Some c.in-Learned.is) in
    subst (λ state. OnOk c.learn-in-Learned.result (c.learn-in-Learned.new.self ≡ record old { state = state })) is c.learn-in-Learned.ensures.ok

pub returns-in_ok-send-in-Propose-clause-ok : goal.returns-in_ok-send-in-Propose-clause-ok
returns-in_ok-send-in-Propose-clause-ok c =
    let old = c.args.self.now in
    let found : option_map shown (attempt_of old.state c.args.id) ≡ Some c.unwrap.result.now = sym c.attempt.ensures ∙ ap option_copied c.unwrap.ensures in
    let is = rule-state old.setting old.state c.args.id c.unwrap.result.now (Propose c.in-Propose.outcome) found (c.ruling.ensures ∙ ap Some c.in-Propose.is) in
    c.propose.ensures
    ∙ ap (λ (column : ColumnView). record column { state = change_attempt c.args.id (proposing c.in-Propose.outcome) column.state }) c.in_ok-send-in-Propose.ensures.ok
    ∙ ap (λ state. record old { state = state }) is
