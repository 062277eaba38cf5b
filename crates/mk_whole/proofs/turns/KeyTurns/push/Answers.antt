use Rattle.std.proofs.Common.{[], sym, ◌∙◌, ap, arith, map, List}
use Rattle.std.specs.Prelude.{slice_set}
use Rattle.std.proofs.lemmas.List.{map-set}
use Rattle.mk_words.specs.declared.JournalEntry.{JournalEntry}
use Rattle.mk_whole.specs.Turns.{with_turn, with_turn_at}
use Rattle.mk_whole.proofs.PairLaws.{mapped-at}
use Rattle.mk_whole.proofs.turns.KeyTurns.push.Goals as goal

pub returns-in_ok-push_turn : goal.returns-in_ok-push_turn
returns-in_ok-push_turn c =
    map-set (λ replica. map (λ key. key.items) replica.items) c.self.inside.replicas.items c.args.call.now.replica c.push_turn.new.row
    ∙ ap (slice_set (map (λ replica. map (λ key. key.items) replica.items) c.self.inside.replicas.items) c.args.call.now.replica)
    (c.in_ok-push_turn.ensures
    ∙ ap (with_turn c.args.call.now.key c.args.turn)
    (sym (mapped-at (λ replica. map (λ key. key.items) replica.items) c.self.inside.replicas.items c.args.call.now.replica c.index_mut.result.now _ [] (omega arith) c.index_mut.ensures.value)))
    ∙ ap (λ (table : List (List (List JournalEntry))). with_turn_at c.args.call.now.replica c.args.call.now.key c.args.turn table) c.self.view_is
