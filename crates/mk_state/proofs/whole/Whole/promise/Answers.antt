use Rattle.std.proofs.Common.{◌≡◌, ◌<◌, ◌∙◌, List, refl, sym, ap, subst}
use Rattle.std.specs.Prelude.{Some}
use Rattle.std.proofs.lemmas.Result.{IfOk-weaker}
use Rattle.mk_words.specs.declared.GlobalLine.TheVariants.{Promise}
use Rattle.mk_words.specs.declared.GlobalAnswer.TheVariants.{Ok as Done}
use Rattle.mk_lists.specs.Among.{Each}
use Rattle.mk_quorum.specs.Sizes.{members}
use Rattle.mk_column.specs.ColumnByCode.{ColumnView}
use Rattle.mk_epoch.specs.Standing.{refusal_of}
use Rattle.mk_history.specs.Wholes.{entries_of, marks_of}
use Rattle.mk_state.specs.Handing.{states_in}
use Rattle.mk_state.specs.Standings.{WholeView, MayDo}
use Rattle.mk_state.specs.Words.{IsWrittenBy}
use Rattle.mk_state.proofs.LineFacts.{both-within, written-refused, written-early}
use Rattle.mk_state.proofs.LineLaws.{done-by, refused-by, refused-before, does-leads, handed-in, columns-there}
use Rattle.mk_state.proofs.whole.Whole.promise.Goals as goal

pub returns-in-Err-clause-done : goal.returns-in-Err-clause-done
returns-in-Err-clause-done g c =
    refused-before g.K.Keeping.stands _ _ (Promise c.args.epoch c.args.replica) c.in-Err.error c.refusal.result c.self.view_is c.refusal.ensures.ok
    (λ run state may. c.in-Err.ensures.answer state.epochs may.within.epochs)

pub entries_at-requires : goal.entries_at-requires
entries_at-requires g c =
    let run = c.requires.may.0 in
    let state = c.requires.may.1 in
    let m = subst (λ (v : WholeView g.row.K.Denot). MayDo g.K.Keeping.stands run state v (Promise c.args.epoch c.args.replica)) (sym c.self.view_is) c.requires.may.2 in
    subst (λ (cs : List ColumnView). Each (λ column. c.args.replica < members column.setting.faults) cs) (sym c.as_slice.ensures.value)
    (columns-there run c.args.replica c.self.inside.columns.items (both-within (members run.faults) c.args.epoch c.args.replica m.range).1 m.within.sizes.each)

pub marks_at-requires : goal.marks_at-requires
marks_at-requires g c =
    let run = c.requires.may.0 in
    let state = c.requires.may.1 in
    let m = subst (λ (v : WholeView g.row.K.Denot). MayDo g.K.Keeping.stands run state v (Promise c.args.epoch c.args.replica)) (sym c.self.view_is) c.requires.may.2 in
    subst (λ (cs : List ColumnView). Each (λ column. c.args.replica < members column.setting.faults) cs) (sym c.as_slice-2.ensures.value)
    (columns-there run c.args.replica c.self.inside.columns.items (both-within (members run.faults) c.args.epoch c.args.replica m.range).1 m.within.sizes.each)

pub returns-in-Ok-clause-done : goal.returns-in-Ok-clause-done
returns-in-Ok-clause-done g c =
    let line = Promise c.args.epoch c.args.replica in
    let entries = c.as_slice-3.ensures.value ∙ c.in_ok-entries.ensures ∙ ap (λ (cs : List ColumnView). entries_of (states_in cs) c.args.replica) c.as_slice.ensures.value in
    let marks = c.in_ok-marks.ensures ∙ ap (λ (cs : List ColumnView). marks_of (states_in cs) c.args.replica) c.as_slice-2.ensures.value in
    done-by g.K.Keeping.stands _ _ line c.promise.new.self c.self.view_is c.in-Ok.ensures.size Done (λ run state. refl)
    (λ run state may. does-leads g.K.Keeping.stands _ c.promise.new.self state _ line _ Done
    (handed-in g.K.Keeping.stands run state _ c.args.epoch c.args.replica c.as_slice-3.result.now c.in_ok-marks.marks may.within entries marks) refl may.within.epochs c.in-Ok.ensures.does)

pub returns-clause-done : goal.returns-clause-done
returns-clause-done g c =
    let line = Promise c.args.epoch c.args.replica in
    let entries = c.as_slice-3.ensures.value ∙ c.in_ok-entries.ensures ∙ ap (λ (cs : List ColumnView). entries_of (states_in cs) c.args.replica) c.as_slice.ensures.value in
    let marks = c.in_ok-marks.ensures ∙ ap (λ (cs : List ColumnView). marks_of (states_in cs) c.args.replica) c.as_slice-2.ensures.value in
    refused-by g.K.Keeping.stands _ _ line c.promise.new.self c.self.view_is c.in-Err-promise.ensures.size c.in-Err-promise.error c.refusal-in-Err-promise.result c.refusal-in-Err-promise.ensures.ok
    (λ run state may answer e. does-leads g.K.Keeping.stands _ c.promise.new.self state _ line (refusal_of c.in-Err-promise.error) answer
    (handed-in g.K.Keeping.stands run state _ c.args.epoch c.args.replica c.as_slice-3.result.now c.in_ok-marks.marks may.within entries marks) e may.within.epochs c.in-Err-promise.ensures.does)

pub returns-in-Err-clause-word : goal.returns-in-Err-clause-word
returns-in-Err-clause-word g c =
    IfOk-weaker c.refusal.result (λ answer. refusal_of c.in-Err.error ≡ Some answer) (λ answer. IsWrittenBy g.W.EpochWord.kept g.W.EpochWord.sets g.W.EpochWord.faults c.args.epoch answer c.args.word.now c.args.word.now)
    (λ answer e. written-early g.W.EpochWord.kept g.W.EpochWord.sets g.W.EpochWord.faults c.args.epoch c.args.word.now c.args.word.now c.in-Err.error answer e c.in-Err.ensures.early refl)
    c.refusal.ensures.ok

pub returns-clause-word : goal.returns-clause-word
returns-clause-word g c =
    IfOk-weaker c.refusal-in-Err-promise.result (λ answer. refusal_of c.in-Err-promise.error ≡ Some answer) (λ answer. IsWrittenBy g.W.EpochWord.kept g.W.EpochWord.sets g.W.EpochWord.faults c.args.epoch answer c.args.word.now c.promise.new.word)
    (λ answer e. written-refused g.W.EpochWord.kept g.W.EpochWord.sets g.W.EpochWord.faults c.args.epoch c.args.word.now c.promise.new.word (Unit {0}) c.in-Err-promise.error answer e c.in-Err-promise.ensures.word)
    c.refusal-in-Err-promise.ensures.ok
