use Rattle.std.proofs.Common.{◌≡◌, sym, ap, ◌∙◌}
use Rattle.mk_lists.specs.Changed.{change}
use Rattle.mk_words.specs.declared.Answer.{Answer}
use Rattle.mk_words.specs.declared.Answer.TheVariants.{Version}
use Rattle.mk_column.specs.contracts.column.Column.{the_view}
use Rattle.mk_model.specs.ColumnState.{is_attempt}
use Rattle.mk_model.specs.ColumnState.Work.{Idle}
use Rattle.mk_column.specs.AttemptsByCode.{states_of}
use Rattle.mk_model.specs.Steps.{fetched, with_read}
use Rattle.mk_column.specs.ColumnByCode.{ColumnView}
use Rattle.mk_column.proofs.StepLaws.{states-changed}
use Rattle.mk_column.proofs.AnswerLaws.{IsKept-read, room-kept}
use Rattle.mk_column.proofs.column.Column.answer_read.Goals as goal

pub read-requires : goal.read-requires
read-requires c =
    room-kept c.args.key c.args.id c.self.inside.parts.attempts c.args.self.now.state
    (ap (λ column. column.state.attempts) (sym c.self.view_is)) c.requires.room

pub invariant_of-self-2 : goal.invariant_of-self-2
invariant_of-self-2 c =
    IsKept-read c.self.inside.size c.args.id
    (record { key = c.args.key; version = c.in-Version.version; value = c.in-Version.value }) _ c.self.inside.settled c.read.new.self c.in_ok-read.ensures.ok c.self.invariant

pub returns-clause-ok : goal.returns-clause-ok
returns-clause-ok c =
    let seen_by = the_view c.self.inside in
    let seen : states_of c.read.new.self ≡ change (is_attempt c.args.id) (with_read c.args.key (Version c.in-Version.version c.in-Version.value))
    (states_of c.self.inside.parts.attempts) =
    ap states_of c.in_ok-read.ensures.ok
    ∙ states-changed c.args.id (with_read c.args.key (Version c.in-Version.version c.in-Version.value)) c.self.inside.parts.attempts in
    (λ i. record seen_by { state = record seen_by.state { attempts = seen i; work = Idle } })
    ∙ ap (λ (answer : Answer). record seen_by { state = fetched c.args.id c.args.key answer seen_by.state }) (sym c.in-Version.is)
    ∙ ap (λ (column : ColumnView). record column { state = fetched c.args.id c.args.key c.args.answer column.state }) c.self.view_is
