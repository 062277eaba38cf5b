use Rattle.std.proofs.Common.{◌∙◌, ap, subst, sym, map}
use Rattle.mk_history.specs.Wholes.{first_state, state_through, after_round}
use Rattle.mk_run.specs.Judging.{WatchView, HasReplayed, IsReplayed}
use Rattle.mk_run.specs.News.{known_of}
use Rattle.mk_run.proofs.WatchLaws.{replayed-next, not-none}
use Rattle.mk_run.proofs.watch.Watch.replay.Goals.{then-is_none+in_ok-learn, else-is_none}
use Rattle.mk_run.proofs.watch.Watch.replay.Goals as goal

pub returns : goal.returns
returns c =
    let round = c.args.round.now in
    let old : WatchView = record { whole = c.self.inside.whole; firsts = c.self.inside.firsts; entered = c.self.inside.entered.items; client_columns = c.self.inside.client_columns } in
    let flaw = c.in_ok-flaw.flaw in
    subst (λ (w : WatchView). IsReplayed w round flaw c.if-is_none.self) c.self.view_is (record {
      flaw = c.in_ok-flaw.ensures.flaw;
      after = λ none run done may was.
          elim c.if-is_none.branch [
            | then-is_none+in_ok-learn w ↦
                let ended = after_round run round (state_through run (first_state run) done) in
                let at = c.in_ok-flaw.ensures.after none run done may in
                subst (λ (v : WatchView). HasReplayed run v _) (sym w.self-is)
                (replayed-next run done round old w.learn.new.self c.replay.new.whole w.as_slice.result.now w.as_slice-then-is_none.result.now may was
                (sym (c.in_ok-flaw.ensures.flaw run done may) ∙ none) at w.learn.ensures.whole
                (w.as_slice.ensures.value ∙ c.in_ok-known.ensures ∙ ap (map known_of) c.columns.ensures) w.as_slice-then-is_none.ensures
                (w.in_ok-learn.ensures.firsts ended.epochs at.epochs) w.in_ok-learn.ensures.entered w.learn.ensures.columns)
            | else-is_none w ↦ absurd (not-none flaw c.is_none.result c.is_none.ensures w.if-is_none.false none)
          ];
    })
