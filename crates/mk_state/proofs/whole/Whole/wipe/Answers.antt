use Rattle.std.proofs.Common.{◌∙◌, ℕ, refl, sym, ap, subst, length, replicate}
use Rattle.mk_words.specs.declared.GlobalLine.TheVariants.{Wipe}
use Rattle.mk_words.specs.declared.GlobalAnswer.TheVariants.{Ok as Done}
use Rattle.mk_words.specs.Bases.{empty_base}
use Rattle.mk_words.specs.Cells.{first_cell}
use Rattle.mk_state.specs.Cells.{states_of}
use Rattle.mk_state.specs.Standings.{WholeView, MayDo, WasDone}
use Rattle.mk_state.proofs.LineLaws.{begins_anew}
use Rattle.mk_state.proofs.Restarting.{new-rebuilt}
use Rattle.mk_state.proofs.whole.Whole.wipe.Goals as goal

pub returns : goal.returns
returns g c run state may =
    let m = subst (λ (v : WholeView g.row.K.Denot). MayDo g.K.Keeping.stands run state v (Wipe c.args.replica)) (sym c.self.view_is) may in
    let next = c.wipe.ensures.does state.epochs m.within.epochs in
    subst (λ (v : WholeView g.row.K.Denot). WasDone g.K.Keeping.stands run state (Wipe c.args.replica) Done v) (sym c.restart.ensures)
    (begins_anew g.K.Keeping.stands run state _ (Wipe c.args.replica) Done m.within c.wipe.new.self c.wipe.ensures.size next.0 next.1 next.2 c.args.replica empty_base
    (states_of c.in_ok-cells.cells.items)
    (c.in_ok-cells.ensures ∙ ap (λ (k : ℕ). replicate k first_cell) m.within.sizes.keys ∙ new-rebuilt (length run.key_names)) refl)
