use Rattle.std.proofs.Common.{◌≡◌, ◌∙◌, ℕ, refl, sym, ap, subst}
use Rattle.std.specs.Prelude.{Some}
use Rattle.std.proofs.lemmas.Result.{IfOk-weaker}
use Rattle.mk_words.specs.declared.GlobalLine.TheVariants.{Adopt}
use Rattle.mk_words.specs.declared.GlobalAnswer.TheVariants.{Ok as Done}
use Rattle.mk_quorum.specs.Sizes.{members}
use Rattle.mk_epoch.specs.Standing.{refusal_of}
use Rattle.mk_model.specs.EpochState.{made_for}
use Rattle.mk_model.specs.GlobalSteps.{nothing_handed, base_or_empty}
use Rattle.mk_history.specs.Wholes.{rebuilt_cells}
use Rattle.mk_state.specs.Cells.{states_of}
use Rattle.mk_state.specs.Standings.{WholeView, MayDo, WasDone}
use Rattle.mk_state.specs.Words.{IsWrittenBy}
use Rattle.mk_state.proofs.LineFacts.{both-within, written-refused}
use Rattle.mk_state.proofs.LineLaws.{begins_anew, refused-by, does-leads, adopted-stands, base-names, columns-there}
use Rattle.mk_state.proofs.BeginLaws.{columns-idle}
use Rattle.mk_state.proofs.Restarting.{cells-rebuilt}
use Rattle.mk_state.proofs.whole.Whole.adopt.Goals as goal

pub cells-requires : goal.cells-requires
cells-requires g c =
    let run = c.requires.may.0 in
    let state = c.requires.may.1 in
    let m = subst (λ (v : WholeView g.row.K.Denot). MayDo g.K.Keeping.stands run state v (Adopt c.args.epoch c.args.replica)) (sym c.self.view_is) c.requires.may.2 in
    let next = c.in-Ok.ensures.does state.epochs m.within.epochs in
    let has = c.base.ensures next.0 next.2 in (
      base_or_empty (made_for c.args.epoch state.epochs),
      adopted-stands g.K.Keeping.stands c.base.result.now state.epochs c.args.epoch c.args.replica next.0 has.0 next.1 has.1 has.2,
      base-names run state c.self.inside.keys c.args.epoch m.within.sizes.keys m.ready,
    )

pub restart-requires-clause-columns : goal.restart-requires-clause-columns
restart-requires-clause-columns g c =
    let run = c.requires.may.0 in
    let state = c.requires.may.1 in
    let m = subst (λ (v : WholeView g.row.K.Denot). MayDo g.K.Keeping.stands run state v (Adopt c.args.epoch c.args.replica)) (sym c.self.view_is) c.requires.may.2 in
    columns-there run c.args.replica c.self.inside.columns.items (both-within (members run.faults) c.args.epoch c.args.replica m.range).1 m.within.sizes.each

pub restart-requires-clause-idle : goal.restart-requires-clause-idle
restart-requires-clause-idle g c =
    let run = c.requires.may.0 in
    let state = c.requires.may.1 in
    let m = subst (λ (v : WholeView g.row.K.Denot). MayDo g.K.Keeping.stands run state v (Adopt c.args.epoch c.args.replica)) (sym c.self.view_is) c.requires.may.2 in
    columns-idle run c.self.inside.columns.items m.within.sizes.each

pub returns-in_ok-cells-in-Ok-clause-done : goal.returns-in_ok-cells-in-Ok-clause-done
returns-in_ok-cells-in-Ok-clause-done g c run state may =
    let line = Adopt c.args.epoch c.args.replica in
    let m = subst (λ (v : WholeView g.row.K.Denot). MayDo g.K.Keeping.stands run state v line) (sym c.self.view_is) may in
    let next = c.in-Ok.ensures.does state.epochs m.within.epochs in
    let has = c.base.ensures next.0 next.2 in
    let base = base_or_empty (made_for c.args.epoch state.epochs) in
    let is = adopted-stands g.K.Keeping.stands c.base.result.now state.epochs c.args.epoch c.args.replica next.0 has.0 next.1 has.1 has.2 in
    subst (λ (v : WholeView g.row.K.Denot). WasDone g.K.Keeping.stands run state line Done v) (sym c.restart.ensures)
    (begins_anew g.K.Keeping.stands run state _ line Done m.within c.adopt.new.self c.in-Ok.ensures.size next.0 next.1 next.2 c.args.replica base
    (states_of c.in_ok-cells-in-Ok.cells.items)
    (cells-rebuilt base c.self.inside.keys c.in_ok-cells-in-Ok.cells.items (c.in_ok-cells-in-Ok.ensures base is) ∙ ap (λ (k : ℕ). rebuilt_cells k base) m.within.sizes.keys) refl)

pub returns-in-Err-clause-done : goal.returns-in-Err-clause-done
returns-in-Err-clause-done g c =
    let line = Adopt c.args.epoch c.args.replica in
    refused-by g.K.Keeping.stands _ _ line c.adopt.new.self c.self.view_is c.in-Err.ensures.size c.in-Err.error c.refusal.result c.refusal.ensures.ok
    (λ run state may answer e. does-leads g.K.Keeping.stands _ c.adopt.new.self state nothing_handed line (refusal_of c.in-Err.error) answer refl e may.within.epochs c.in-Err.ensures.does)

pub returns-in-Err-clause-word : goal.returns-in-Err-clause-word
returns-in-Err-clause-word g c =
    IfOk-weaker c.refusal.result (λ answer. refusal_of c.in-Err.error ≡ Some answer) (λ answer. IsWrittenBy g.W.EpochWord.kept g.W.EpochWord.sets g.W.EpochWord.faults c.args.epoch answer c.args.word.now c.adopt.new.word)
    (λ answer e. written-refused g.W.EpochWord.kept g.W.EpochWord.sets g.W.EpochWord.faults c.args.epoch c.args.word.now c.adopt.new.word (Unit {0}) c.in-Err.error answer e c.in-Err.ensures.word)
    c.refusal.ensures.ok
