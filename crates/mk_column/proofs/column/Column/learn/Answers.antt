use Rattle.std.proofs.Common.{◌≡◌, ◌++◌, ◌∷◌, [], IsSome, sym, ap, ◌∙◌}
use Rattle.std.specs.Prelude.{map}
use Rattle.std.proofs.lemmas.List.{map-append}
use Rattle.mk_words.specs.declared.Body.TheVariants.{Decide}
use Rattle.mk_column.specs.contracts.column.Column.{the_view}
use Rattle.mk_model.specs.ColumnState.{to_all, send, change_attempt}
use Rattle.mk_model.specs.Learnings.{learning}
use Rattle.mk_model.specs.Steps.{taught, with_learning}
use Rattle.mk_column.specs.AttemptsByCode.{begun_of, states_of}
use Rattle.mk_column.specs.ColumnByCode.{ColumnView, learning_of_kept, way_of}
use Rattle.mk_column.proofs.KeptSteps.{IsKept-learns, IsKept-tells}
use Rattle.mk_column.proofs.StepLaws.{begun-there, states-learned}
use Rattle.mk_column.proofs.column.Column.learn.Goals as goal

pub learn_own-requires : goal.learn_own-requires
learn_own-requires c =
    begun-there c.args.id c.self.inside.parts.attempts c.args.self.now.state (ap (λ column. column.state.attempts) (sym c.self.view_is)) c.requires.there

pub invariant_of-self-2 : goal.invariant_of-self-2
invariant_of-self-2 c =
    let there : IsSome (begun_of c.args.id c.self.inside.parts.attempts) =
    begun-there c.args.id c.self.inside.parts.attempts c.args.self.now.state (ap (λ column. column.state.attempts) (sym c.self.view_is)) c.requires.there in
    let msgs = to_all c.self.inside.size c.args.epoch c.args.id 0 (Decide c.args.outcome) in
    let more : map learning_of_kept c.learn_own.new.learned.items ≡ map learning_of_kept c.self.inside.parts.learned.items ++ learning c.args.id (way_of c.args.way) c.args.outcome ∷ [] =
    ap (map learning_of_kept) c.in_ok-learn_own.ensures.learned ∙ map-append learning_of_kept c.self.inside.parts.learned.items _ in
    let learns =
    IsKept-learns _ c.args.id
    (way_of c.args.way) c.args.outcome _ c.self.inside.settled c.learn_own.new.settled c.learn_own.new.attempts c.learn_own.new.learned.items c.in_ok-learn_own.ensures.attempts c.in_ok-learn_own.ensures.settled more c.requires.way there c.self.invariant in
    IsKept-tells c.self.inside.size c.args.epoch c.args.id 0 (Decide c.args.outcome) _ _ _
    (c.send_to_all.ensures ∙ ap (λ all. all ++ msgs) c.reserve.ensures.same) (λ e. cc e) learns

pub returns-clause-ok : goal.returns-clause-ok
returns-clause-ok c =
    let old = the_view c.self.inside in
    let msgs = to_all c.self.inside.size c.args.epoch c.args.id 0 (Decide c.args.outcome) in
    let more : map learning_of_kept c.learn_own.new.learned.items ≡ map learning_of_kept c.self.inside.parts.learned.items ++ learning c.args.id (way_of c.args.way) c.args.outcome ∷ [] =
    ap (map learning_of_kept) c.in_ok-learn_own.ensures.learned ∙ map-append learning_of_kept c.self.inside.parts.learned.items _ in
    let states : states_of c.learn_own.new.attempts ≡ (change_attempt c.args.id (taught c.args.outcome) old.state).attempts =
    ap states_of c.in_ok-learn_own.ensures.attempts ∙ states-learned c.args.id c.args.outcome c.self.inside.parts.attempts in
    ap
    (λ all. record old { state = record old.state { attempts = all; link = c.send_to_all.new.link.messages; learned = map learning_of_kept c.learn_own.new.learned.items } }) states
    ∙ ap (λ all. record old { state = record (change_attempt c.args.id (taught c.args.outcome) old.state) { link = all; learned = map learning_of_kept c.learn_own.new.learned.items } }) (c.send_to_all.ensures ∙ ap (λ all. all ++ msgs) c.reserve.ensures.same)
    ∙ ap (λ all. record old { state = record (send msgs (change_attempt c.args.id (taught c.args.outcome) old.state)) { learned = all } }) more
    ∙ ap (λ (column : ColumnView). record column { state = send (to_all column.setting.faults c.args.epoch c.args.id 0 (Decide c.args.outcome)) (with_learning (learning c.args.id (way_of c.args.way) c.args.outcome) (change_attempt c.args.id (taught c.args.outcome) column.state)) }) c.self.view_is
