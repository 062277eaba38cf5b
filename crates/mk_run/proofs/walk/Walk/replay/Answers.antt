use Rattle.std.proofs.Common.{sym, subst}
use Rattle.mk_words.specs.Bases.{BaseState}
use Rattle.mk_epoch.specs.Standing.{ReplicasView, StandsFor}
use Rattle.mk_whole.specs.Standings.{IsItself}
use Rattle.mk_history.specs.Wholes.{first_state, state_through, after_round}
use Rattle.mk_run.specs.Walking.{WalkView, MayWalk}
use Rattle.mk_run.proofs.WalkLaws.{on_both, may-replay, no-flaw, walked-next}
use Rattle.mk_run.proofs.walk.Walk.replay.Goals as goal

pub replay-requires : goal.replay-requires
replay-requires c =
    let round = c.args.round.now in
    let old : WalkView = record { whole = c.self.inside.whole; entered = c.self.inside.entered.items; settled = c.self.inside.settled } in
    let run = c.requires.0 in
    let done = c.requires.1 in
    (run, done, may-replay run done old round (subst (λ (w : WalkView). MayWalk run done w round) (sym c.self.view_is) c.requires.2))

pub returns : goal.returns
returns c =
    let round = c.args.round.now in
    let old : WalkView = record { whole = c.self.inside.whole; entered = c.self.inside.entered.items; settled = c.self.inside.settled } in
    let new : WalkView = record { whole = c.replay.new.whole; entered = c.note_lines.new.entered.items; settled = c.note_lines.new.firsts } in
    on_both c.note_lines.result
    (λ noted entered run done may.
    let may' = subst (λ (w : WalkView). MayWalk run done w round) (sym c.self.view_is) may in
    let can = may-replay run done old round may' in
    let none = no-flaw run done old round c.in_ok-_flaw._flaw may' (c.in_ok-_flaw.ensures.flaw run done can) in
    let at = c.in_ok-_flaw.ensures.after none run done can in
    let ended = after_round run round (state_through run (first_state run) done) in
    walked-next run done old new round c.as_slice.result.now may' at c.as_slice.ensures
    (noted ended.epochs (subst (λ (epochs : ReplicasView BaseState). StandsFor IsItself epochs ended.epochs) (sym c.replicas.ensures) at.epochs)) entered)
    c.note_lines.ensures.noted c.note_lines.ensures.entered
