use Rattle.std.proofs.Common.{◌≡◌, refl, sym, subst}
use Rattle.std.specs.Prelude.{IfOk}
use Rattle.mk_words.specs.declared.GlobalLine.{GlobalLine}
use Rattle.mk_state.specs.Words.{IsWordAfter}
use Rattle.mk_state.proofs.LineLaws.{Answers, whatever}
use Rattle.mk_state.proofs.whole.Whole.answer.Goals as goal

pub returns-in-Wipe-clause-done : goal.returns-in-Wipe-clause-done
returns-in-Wipe-clause-done g c =
    subst (λ (l : GlobalLine). IfOk c.wipe.result (Answers g.K.Keeping.stands c.args.self.now c.wipe.new.self l)) (sym c.in-Wipe.is) c.wipe.ensures

pub returns-in-Wipe-clause-word : goal.returns-in-Wipe-clause-word
returns-in-Wipe-clause-word g c =
    subst (λ (l : GlobalLine). IfOk c.wipe.result (λ answer. IsWordAfter g.W.EpochWord.kept g.W.EpochWord.sets g.W.EpochWord.faults l answer c.args.word.now c.args.word.now)) (sym c.in-Wipe.is) (whatever {P = c.args.word.now ≡ c.args.word.now} c.wipe.result refl)

pub returns-in-Ask-clause-done : goal.returns-in-Ask-clause-done
returns-in-Ask-clause-done g c =
    subst (λ (l : GlobalLine). IfOk c.ask.result (Answers g.K.Keeping.stands c.args.self.now c.ask.new.self l)) (sym c.in-Ask.is) c.ask.ensures

pub returns-in-Ask-clause-word : goal.returns-in-Ask-clause-word
returns-in-Ask-clause-word g c =
    subst (λ (l : GlobalLine). IfOk c.ask.result (λ answer. IsWordAfter g.W.EpochWord.kept g.W.EpochWord.sets g.W.EpochWord.faults l answer c.args.word.now c.args.word.now)) (sym c.in-Ask.is) (whatever {P = c.args.word.now ≡ c.args.word.now} c.ask.result refl)

pub returns-in-Promise-clause-done : goal.returns-in-Promise-clause-done
returns-in-Promise-clause-done g c =
    subst (λ (l : GlobalLine). IfOk c.promise.result (Answers g.K.Keeping.stands c.args.self.now c.promise.new.self l)) (sym c.in-Promise.is) c.promise.ensures.done

pub returns-in-Promise-clause-word : goal.returns-in-Promise-clause-word
returns-in-Promise-clause-word g c =
    subst (λ (l : GlobalLine). IfOk c.promise.result (λ answer. IsWordAfter g.W.EpochWord.kept g.W.EpochWord.sets g.W.EpochWord.faults l answer c.args.word.now c.promise.new.word)) (sym c.in-Promise.is) c.promise.ensures.word

pub returns-in-Merge-clause-done : goal.returns-in-Merge-clause-done
returns-in-Merge-clause-done g c =
    subst (λ (l : GlobalLine). IfOk c.merge.result (Answers g.K.Keeping.stands c.args.self.now c.merge.new.self l)) (sym c.in-Merge.is) c.merge.ensures

pub returns-in-Merge-clause-word : goal.returns-in-Merge-clause-word
returns-in-Merge-clause-word g c =
    subst (λ (l : GlobalLine). IfOk c.merge.result (λ answer. IsWordAfter g.W.EpochWord.kept g.W.EpochWord.sets g.W.EpochWord.faults l answer c.args.word.now c.args.word.now)) (sym c.in-Merge.is) (whatever {P = c.args.word.now ≡ c.args.word.now} c.merge.result refl)

pub returns-in-Adopt-clause-done : goal.returns-in-Adopt-clause-done
returns-in-Adopt-clause-done g c =
    subst (λ (l : GlobalLine). IfOk c.adopt.result (Answers g.K.Keeping.stands c.args.self.now c.adopt.new.self l)) (sym c.in-Adopt.is) c.adopt.ensures.done

pub returns-in-Adopt-clause-word : goal.returns-in-Adopt-clause-word
returns-in-Adopt-clause-word g c =
    subst (λ (l : GlobalLine). IfOk c.adopt.result (λ answer. IsWordAfter g.W.EpochWord.kept g.W.EpochWord.sets g.W.EpochWord.faults l answer c.args.word.now c.adopt.new.word)) (sym c.in-Adopt.is) c.adopt.ensures.word

pub returns-in-Enter-clause-done : goal.returns-in-Enter-clause-done
returns-in-Enter-clause-done g c =
    subst (λ (l : GlobalLine). IfOk c.enter.result (Answers g.K.Keeping.stands c.args.self.now c.enter.new.self l)) (sym c.in-Enter.is) c.enter.ensures

pub returns-in-Enter-clause-word : goal.returns-in-Enter-clause-word
returns-in-Enter-clause-word g c =
    subst (λ (l : GlobalLine). IfOk c.enter.result (λ answer. IsWordAfter g.W.EpochWord.kept g.W.EpochWord.sets g.W.EpochWord.faults l answer c.args.word.now c.args.word.now)) (sym c.in-Enter.is) (whatever {P = c.args.word.now ≡ c.args.word.now} c.enter.result refl)
