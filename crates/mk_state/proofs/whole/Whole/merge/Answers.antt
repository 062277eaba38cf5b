use Rattle.std.proofs.Common.{◌≡◌, refl, sym, subst}
use Rattle.std.specs.Prelude.{Ok}
use Rattle.mk_words.specs.declared.GlobalLine.TheVariants.{Merge}
use Rattle.mk_words.specs.declared.GlobalAnswer.TheVariants.{Counts}
use Rattle.mk_epoch.specs.Standing.{refusal_of}
use Rattle.mk_state.specs.Standings.{WholeView, MayDo}
use Rattle.mk_state.proofs.LineLaws.{merges-leads, done-by, refused-by}
use Rattle.mk_state.proofs.whole.Whole.merge.Goals as goal
use Rattle.mk_state.proofs.whole.Whole.merge.Goals.{in-Ok, in-Err}

pub merge-requires-clause-fit : goal.merge-requires-clause-fit
merge-requires-clause-fit g c =
    let run = c.requires.may.0 in
    let state = c.requires.may.1 in
    let m = subst (λ (v : WholeView g.row.K.Denot). MayDo g.K.Keeping.stands run state v (Merge c.args.epoch)) (sym c.self.view_is) c.requires.may.2 in
    (state.epochs, m.within.epochs, c.promises_fit.ensures.fit state.epochs m.ready.reached c.args.epoch)

pub returns : goal.returns
returns g c =
    elim c.match-merge.branch [
      | in-Ok w ↦
          let e : c.match-merge.result ≡ Ok (Counts w.in-Ok.commits w.in-Ok.aborts) = cc in
          rw e (done-by g.K.Keeping.stands _ _ (Merge c.args.epoch) c.merge.new.self c.self.view_is w.in-Ok.ensures.size (Counts w.in-Ok.commits w.in-Ok.aborts) (λ run state. refl)
          (λ run state may. merges-leads g.K.Keeping.stands _ c.merge.new.self state c.args.epoch _ (Counts w.in-Ok.commits w.in-Ok.aborts) refl may.within.epochs
          (c.promises_fit.ensures.fit state.epochs may.ready.reached c.args.epoch) w.in-Ok.ensures.does))
      | in-Err w ↦
          let e : c.match-merge.result ≡ w.refusal.result = cc in
          rw e (refused-by g.K.Keeping.stands _ _ (Merge c.args.epoch) c.merge.new.self c.self.view_is w.in-Err.ensures.size w.in-Err.error w.refusal.result w.refusal.ensures.ok
          (λ run state may answer e. merges-leads g.K.Keeping.stands _ c.merge.new.self state c.args.epoch (refusal_of w.in-Err.error) answer e may.within.epochs
          (c.promises_fit.ensures.fit state.epochs may.ready.reached c.args.epoch) w.in-Err.ensures.does))
    ]
