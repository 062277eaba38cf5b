use Rattle.std.proofs.Common.{rules, ◌≡◌, ◌++◌, ◌∷◌, [], Some, IsSome, refl, sym, ap, ◌∙◌}
use Rattle.std.specs.Prelude.{map}
use Rattle.std.specs.Option.{option_or}
use Rattle.std.proofs.lemmas.List.{map-append}
use Rattle.mk_words.specs.declared.Body.TheVariants.{Decide}
use Rattle.mk_column.specs.contracts.column.Column.{the_view}
use Rattle.mk_model.specs.ColumnState.{to_all, send, change_takeover}
use Rattle.mk_model.specs.Learnings.{learning}
use Rattle.mk_model.specs.Steps.{closing, with_learning}
use Rattle.mk_column.specs.AttemptsByCode.{begun_of, states_of}
use Rattle.mk_column.specs.TakeoversByCode.{takeovers_of}
use Rattle.mk_column.specs.ColumnByCode.{ColumnView, learning_of_kept, way_of}
use Rattle.mk_column.proofs.KeptSteps.{IsKept-takeover_changed, IsKept-decides, IsKept-tells}
use Rattle.mk_column.proofs.StepLaws.{begun-there, states-kept}
use Rattle.mk_column.proofs.TakeoverLaws.{backup-there, takeovers-changed}
use Rattle.mk_column.proofs.column.Column.learn_at.Goals as goal

pub close-requires : goal.close-requires
close-requires c =
    backup-there c.args.view_id c.self.inside.parts.takeovers c.args.self.now.state
    (ap (λ column. column.state.takeovers) (sym c.self.view_is)) c.requires.there

pub decide-requires : goal.decide-requires
decide-requires c =
    begun-there c.args.view_id.id c.self.inside.parts.attempts c.args.self.now.state
    (ap (λ column. column.state.attempts) (sym c.self.view_is)) c.requires.known

pub invariant_of-self-2 : goal.invariant_of-self-2
invariant_of-self-2 c =
    let id = c.args.view_id.id in
    let there : IsSome (begun_of id c.self.inside.parts.attempts) =
    begun-there id c.self.inside.parts.attempts c.args.self.now.state (ap (λ column. column.state.attempts) (sym c.self.view_is)) c.requires.known in
    let msgs = to_all c.self.inside.size c.args.epoch id c.args.view_id.view (Decide c.args.outcome) in
    let pushed : c.push.new.self.items ≡ c.self.inside.parts.learned.items ++ record { id = id; outcome = c.args.outcome; way = c.args.way } ∷ [] =
    search rules in
    let more : map learning_of_kept c.push.new.self.items ≡ map learning_of_kept c.self.inside.parts.learned.items ++ learning id (way_of c.args.way) c.args.outcome ∷ [] =
    ap (map learning_of_kept) pushed ∙ map-append learning_of_kept c.self.inside.parts.learned.items _ in
    let closed = IsKept-takeover_changed _ c.args.view_id closing _ _ _ (λ t. refl) c.close.ensures c.self.invariant in
    let decided =
    IsKept-decides _ id (way_of c.args.way) c.args.outcome _ _ c.decide.new.self c.push.new.self.items c.decide.ensures more c.requires.way there closed in
    IsKept-tells c.self.inside.size c.args.epoch id c.args.view_id.view (Decide c.args.outcome) _ _ _
    (c.send_to_all.ensures ∙ ap (λ all. all ++ msgs) c.reserve.ensures.same) (λ e. cc e) decided

pub returns-clause-ok : goal.returns-clause-ok
returns-clause-ok c =
    let old = the_view c.self.inside in
    let id = c.args.view_id.id in
    let view = c.args.view_id.view in
    let msgs = to_all c.self.inside.size c.args.epoch id view (Decide c.args.outcome) in
    let pushed : c.push.new.self.items ≡ c.self.inside.parts.learned.items ++ record { id = id; outcome = c.args.outcome; way = c.args.way } ∷ [] =
    search rules in
    let more : map learning_of_kept c.push.new.self.items ≡ map learning_of_kept c.self.inside.parts.learned.items ++ learning id (way_of c.args.way) c.args.outcome ∷ [] =
    ap (map learning_of_kept) pushed ∙ map-append learning_of_kept c.self.inside.parts.learned.items _ in
    let states : states_of c.decide.new.self ≡ old.state.attempts =
    ap states_of c.decide.ensures
    ∙ states-kept id (λ b. record b { decided = option_or b.decided (Some c.args.outcome) }) c.self.inside.parts.attempts (λ b. refl) in
    let takeovers : takeovers_of c.close.new.self ≡ (change_takeover id view closing old.state).takeovers =
    ap takeovers_of c.close.ensures ∙ takeovers-changed c.args.view_id closing c.self.inside.parts.takeovers in
    ap
    (λ all. record old { state = record old.state { attempts = all; takeovers = takeovers_of c.close.new.self; link = c.send_to_all.new.link.messages; learned = map learning_of_kept c.push.new.self.items } }) states
    ∙ ap (λ all. record old { state = record old.state { takeovers = all; link = c.send_to_all.new.link.messages; learned = map learning_of_kept c.push.new.self.items } }) takeovers
    ∙ ap (λ all. record old { state = record (change_takeover id view closing old.state) { link = all; learned = map learning_of_kept c.push.new.self.items } }) (c.send_to_all.ensures ∙ ap (λ all. all ++ msgs) c.reserve.ensures.same)
    ∙ ap (λ all. record old { state = record (send msgs (change_takeover id view closing old.state)) { learned = all } }) more
    ∙ ap (λ (column : ColumnView). record column { state = send (to_all column.setting.faults c.args.epoch id view (Decide c.args.outcome)) (with_learning (learning id (way_of c.args.way) c.args.outcome) (change_takeover id view closing column.state)) }) c.self.view_is
