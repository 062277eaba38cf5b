use Rattle.std.proofs.Common.{◌≡◌, refl}
use Rattle.std.specs.Prelude.{Ok}
use Rattle.mk_words.specs.declared.GlobalLine.TheVariants.{Enter}
use Rattle.mk_words.specs.declared.GlobalAnswer.TheVariants.{Entered}
use Rattle.mk_epoch.specs.Standing.{refusal_of}
use Rattle.mk_model.specs.GlobalSteps.{nothing_handed}
use Rattle.mk_state.proofs.LineLaws.{does-leads, done-by, refused-by}
use Rattle.mk_state.proofs.whole.Whole.enter.Goals as goal
use Rattle.mk_state.proofs.whole.Whole.enter.Goals.{in-Ok, in-Err}

pub returns : goal.returns
returns g c =
    elim c.match-enter.branch [
      | in-Ok w ↦
          let e : c.match-enter.result ≡ Ok (Entered w.in-Ok.count) = cc in
          rw e (done-by g.K.Keeping.stands _ _ (Enter c.args.epoch) c.enter.new.self c.self.view_is w.in-Ok.ensures.size (Entered w.in-Ok.count) (λ run state. refl)
          (λ run state may. does-leads g.K.Keeping.stands _ c.enter.new.self state nothing_handed (Enter c.args.epoch) _ (Entered w.in-Ok.count) refl refl may.within.epochs w.in-Ok.ensures.does))
      | in-Err w ↦
          let e : c.match-enter.result ≡ w.refusal.result = cc in
          rw e (refused-by g.K.Keeping.stands _ _ (Enter c.args.epoch) c.enter.new.self c.self.view_is w.in-Err.ensures.size w.in-Err.error w.refusal.result w.refusal.ensures.ok
          (λ run state may answer e. does-leads g.K.Keeping.stands _ c.enter.new.self state nothing_handed (Enter c.args.epoch) (refusal_of w.in-Err.error) answer refl e may.within.epochs w.in-Err.ensures.does))
    ]
