use Rattle.std.proofs.Common.{◌≡◌, ◌<◌, sym, ap, subst, ◌∙◌}
use Rattle.std.specs.Prelude.{map}
use Rattle.mk_quorum.specs.Sizes.{members}
use Rattle.mk_column.specs.contracts.column.Column.{the_view}
use Rattle.mk_model.specs.ColumnState.{change_attempt}
use Rattle.mk_model.specs.Answers.{attempt_answered}
use Rattle.mk_column.specs.AttemptsByCode.{states_of}
use Rattle.mk_column.specs.ColumnByCode.{ColumnView, learning_of_kept}
use Rattle.mk_column.proofs.KeptLaws.{IsKept-gentle}
use Rattle.mk_column.proofs.StepLaws.{begun-there, states-changed}
use Rattle.mk_column.proofs.HearLaws.{count-gentle, count-reads, count-settled, count-there}
use Rattle.mk_column.proofs.column.Column.count.Goals as goal

pub answer-requires : goal.answer-requires
answer-requires c =
    let within : c.args.replica < members c.self.inside.size =
    subst (λ column. c.args.replica < members column.setting.faults) (sym c.self.view_is) c.requires.replica in
    count-there c.self.inside.size c.self.inside.parts.link.messages
    (map learning_of_kept c.self.inside.parts.learned.items) c.args.id c.args.replica c.self.inside.parts.attempts c.self.invariant.attempts
    (begun-there c.args.id c.self.inside.parts.attempts c.args.self.now.state (ap (λ column. column.state.attempts) (sym c.self.view_is)) c.requires.there) within

pub invariant_of-self : goal.invariant_of-self
invariant_of-self c =
    IsKept-gentle c.self.inside.size c.args.id _ _ c.self.inside.settled c.answer.new.self (count-gentle c.args.replica c.args.body.now c.requires.counts)
    (count-reads c.args.replica c.args.body.now c.requires.counts)
    (count-settled c.args.replica c.args.body.now c.requires.counts) c.answer.ensures c.self.invariant

pub returns : goal.returns
returns c =
    let old = the_view c.self.inside in
    let states : states_of c.answer.new.self ≡ (change_attempt c.args.id (attempt_answered c.args.replica c.args.body.now) old.state).attempts =
    ap states_of c.answer.ensures ∙ states-changed c.args.id (attempt_answered c.args.replica c.args.body.now) c.self.inside.parts.attempts in
    ap (λ all. record old { state = record old.state { attempts = all } }) states
    ∙ ap (λ (column : ColumnView). record column { state = change_attempt c.args.id (attempt_answered c.args.replica c.args.body.now) column.state }) c.self.view_is
