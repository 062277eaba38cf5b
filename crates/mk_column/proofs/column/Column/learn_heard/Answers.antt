use Rattle.std.proofs.Common.{rules, ◌≡◌, ◌++◌, ◌∷◌, [], Some, IsSome, refl, sym, ap, ◌∙◌}
use Rattle.std.specs.Prelude.{map}
use Rattle.std.specs.Option.{option_or}
use Rattle.std.proofs.lemmas.List.{map-append}
use Rattle.mk_column.specs.contracts.column.Column.{the_view}
use Rattle.mk_model.specs.Learnings.{learning}
use Rattle.mk_model.specs.Steps.{with_learning}
use Rattle.mk_column.specs.AttemptsByCode.{begun_of, states_of}
use Rattle.mk_column.specs.ColumnByCode.{ColumnView, learning_of_kept, way_of}
use Rattle.mk_column.proofs.KeptSteps.{IsKept-decides}
use Rattle.mk_column.proofs.StepLaws.{states-kept}
use Rattle.mk_column.proofs.TakeoverLaws.{backup-there, taker-known}
use Rattle.mk_column.proofs.column.Column.learn_heard.Goals as goal

pub decide-requires : goal.decide-requires
decide-requires c =
    taker-known c.args.view_id c.self.inside.parts.takeovers c.self.inside.parts.attempts c.self.invariant.takers
    (backup-there c.args.view_id c.self.inside.parts.takeovers c.args.self.now.state (ap (λ column. column.state.takeovers) (sym c.self.view_is)) c.requires.there)

pub invariant_of-self-2 : goal.invariant_of-self-2
invariant_of-self-2 c =
    let there : IsSome (begun_of c.args.view_id.id c.self.inside.parts.attempts) =
    taker-known c.args.view_id c.self.inside.parts.takeovers c.self.inside.parts.attempts c.self.invariant.takers
    (backup-there c.args.view_id c.self.inside.parts.takeovers c.args.self.now.state (ap (λ column. column.state.takeovers) (sym c.self.view_is)) c.requires.there) in
    let pushed : c.push.new.self.items ≡ c.self.inside.parts.learned.items ++ record { id = c.args.view_id.id; outcome = c.args.outcome; way = c.args.way } ∷ [] =
    search rules in
    let more : map learning_of_kept c.push.new.self.items ≡ map learning_of_kept c.self.inside.parts.learned.items ++ learning c.args.view_id.id (way_of c.args.way) c.args.outcome ∷ [] =
    ap (map learning_of_kept) pushed ∙ map-append learning_of_kept c.self.inside.parts.learned.items _ in
    IsKept-decides _ c.args.view_id.id
    (way_of c.args.way) c.args.outcome _ _ c.decide.new.self c.push.new.self.items c.decide.ensures more c.requires.way there c.self.invariant

pub returns-clause-ok : goal.returns-clause-ok
returns-clause-ok c =
    let old = the_view c.self.inside in
    let pushed : c.push.new.self.items ≡ c.self.inside.parts.learned.items ++ record { id = c.args.view_id.id; outcome = c.args.outcome; way = c.args.way } ∷ [] =
    search rules in
    let more : map learning_of_kept c.push.new.self.items ≡ map learning_of_kept c.self.inside.parts.learned.items ++ learning c.args.view_id.id (way_of c.args.way) c.args.outcome ∷ [] =
    ap (map learning_of_kept) pushed ∙ map-append learning_of_kept c.self.inside.parts.learned.items _ in
    let states : states_of c.decide.new.self ≡ old.state.attempts =
    ap states_of c.decide.ensures
    ∙ states-kept c.args.view_id.id (λ b. record b { decided = option_or b.decided (Some c.args.outcome) }) c.self.inside.parts.attempts (λ b. refl) in
    ap (λ all. record old { state = record old.state { attempts = all; learned = map learning_of_kept c.push.new.self.items } }) states
    ∙ ap (λ all. record old { state = record old.state { learned = all } }) more
    ∙ ap (λ (column : ColumnView). record column { state = with_learning (learning c.args.view_id.id (way_of c.args.way) c.args.outcome) column.state }) c.self.view_is
