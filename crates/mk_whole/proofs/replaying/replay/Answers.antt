use Rattle.std.proofs.Common.{◌≡◌, ◌∙◌, List, [], None, map, sym, subst}
use Rattle.mk_words.specs.declared.GlobalEntry.{GlobalEntry}
use Rattle.mk_history.specs.Wholes.{after_logs}
use Rattle.mk_whole.specs.Standings.{LinesMayBeDone}
use Rattle.mk_state.specs.Cells.{states_of}
use Rattle.mk_whole.proofs.PairLaws.{none-not_some}
use Rattle.mk_whole.proofs.RoundEnds.{Works, work-here, works-not, works, round-told, round-left}
use Rattle.mk_whole.proofs.RoundReplay.{state_at}
use Rattle.mk_whole.proofs.replaying.replay.Goals as goal

pub replay_work-requires : goal.replay_work-requires
replay_work-requires c =
    let run = c.requires.0 in
    let done = c.requires.1 in (
      run,
      state_at run done,
      work-here c.args.whole.now c.begin_round.new.self c.take_work-columns.new.self c.take_work-columns.new.self c.args.round.now c.size.result c.keys.result c.take_work-columns.result.0.items []
          (map (λ row. states_of row.items) c.take_work-columns.result.1.items) [] None c.in_ok-begin_round.ensures.begun c.take_work-columns.ensures.rest c.size.ensures c.keys.ensures
          c.take_work-columns.ensures.columns c.take_work-columns.ensures.cells run done c.requires.2,
    )

pub returns-then-is_some-clause-flaw : goal.returns-then-is_some-clause-flaw
returns-then-is_some-clause-flaw c =
    works-not c.args.whole.now c.begin_round.new.self c.take_work-columns.new.self c.take_work-columns.new.self c.args.round.now c.size.result c.keys.result c.take_work-columns.result.0.items []
    (map (λ row. states_of row.items) c.take_work-columns.result.1.items) [] c.in_ok-flaw.flaw c.in_ok-begin_round.ensures.begun c.take_work-columns.ensures.rest c.size.ensures c.keys.ensures
    c.take_work-columns.ensures.columns c.take_work-columns.ensures.cells c.in_ok-flaw.ensures.flaw (sym c.if-is_some.true ∙ c.is_some.ensures)

pub replay_globals-requires : goal.replay_globals-requires
replay_globals-requires c =
    let run = c.requires.0 in
    let done = c.requires.1 in
    let none : c.in_ok-flaw.flaw ≡ None = none-not_some c.in_ok-flaw.flaw (sym c.if-is_some.false ∙ c.is_some.ensures) in
    let worked : Works c.args.whole.now c.args.round.now c.put_work.new.self =
    works c.args.whole.now c.begin_round.new.self c.take_work-columns.new.self c.put_work.new.self c.args.round.now c.size.result c.keys.result c.take_work-columns.result.0.items
    c.replay_work.new.columns.items (map (λ row. states_of row.items) c.take_work-columns.result.1.items) (map (λ row. states_of row.items) c.replay_work.new.cells.items) c.in_ok-flaw.flaw
    c.in_ok-begin_round.ensures.begun c.take_work-columns.ensures.rest c.size.ensures c.keys.ensures c.take_work-columns.ensures.columns c.take_work-columns.ensures.cells c.in_ok-flaw.ensures.flaw
    c.lines_are_ready.ensures c.put_work.ensures none (c.in_ok-flaw.ensures.columns none) (c.in_ok-flaw.ensures.cells none) in (
      run,
      after_logs run c.args.round.now (state_at run done),
      subst (λ (entries : List GlobalEntry). LinesMayBeDone run (after_logs run c.args.round.now (state_at run done)) c.put_work.new.self entries) (sym c.as_slice.ensures)
          (worked run done c.requires.2).lines,
    )

pub returns-clause-flaw : goal.returns-clause-flaw
returns-clause-flaw c =
    let none : c.in_ok-flaw.flaw ≡ None = none-not_some c.in_ok-flaw.flaw (sym c.if-is_some.false ∙ c.is_some.ensures) in
    let worked : Works c.args.whole.now c.args.round.now c.put_work.new.self =
    works c.args.whole.now c.begin_round.new.self c.take_work-columns.new.self c.put_work.new.self c.args.round.now c.size.result c.keys.result c.take_work-columns.result.0.items
    c.replay_work.new.columns.items (map (λ row. states_of row.items) c.take_work-columns.result.1.items) (map (λ row. states_of row.items) c.replay_work.new.cells.items) c.in_ok-flaw.flaw
    c.in_ok-begin_round.ensures.begun c.take_work-columns.ensures.rest c.size.ensures c.keys.ensures c.take_work-columns.ensures.columns c.take_work-columns.ensures.cells c.in_ok-flaw.ensures.flaw
    c.lines_are_ready.ensures c.put_work.ensures none (c.in_ok-flaw.ensures.columns none) (c.in_ok-flaw.ensures.cells none) in
    round-told c.replay_globals.result c.args.whole.now c.put_work.new.self c.as_slice.result.now c.args.round.now c.as_slice.ensures worked c.replay_globals.ensures.flaw

pub returns-clause-after : goal.returns-clause-after
returns-clause-after c =
    let none : c.in_ok-flaw.flaw ≡ None = none-not_some c.in_ok-flaw.flaw (sym c.if-is_some.false ∙ c.is_some.ensures) in
    let worked : Works c.args.whole.now c.args.round.now c.put_work.new.self =
    works c.args.whole.now c.begin_round.new.self c.take_work-columns.new.self c.put_work.new.self c.args.round.now c.size.result c.keys.result c.take_work-columns.result.0.items
    c.replay_work.new.columns.items (map (λ row. states_of row.items) c.take_work-columns.result.1.items) (map (λ row. states_of row.items) c.replay_work.new.cells.items) c.in_ok-flaw.flaw
    c.in_ok-begin_round.ensures.begun c.take_work-columns.ensures.rest c.size.ensures c.keys.ensures c.take_work-columns.ensures.columns c.take_work-columns.ensures.cells c.in_ok-flaw.ensures.flaw
    c.lines_are_ready.ensures c.put_work.ensures none (c.in_ok-flaw.ensures.columns none) (c.in_ok-flaw.ensures.cells none) in
    round-left c.replay_globals.result c.args.whole.now c.put_work.new.self c.replay_globals.new.whole c.as_slice.result.now c.args.round.now c.as_slice.ensures worked c.replay_globals.ensures.after
