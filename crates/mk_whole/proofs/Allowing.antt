-- Whether a global line can have its answer.
use Rattle.std.proofs.Common.{inl, inr, ◌≡◌, ◌∙◌, arith, Bool, true, false, ◌&&◌, refl, sym, ap, subst, if◌then◌else◌}
use Rattle.std.specs.Prelude.{◌||◌}
use Rattle.mk_words.specs.declared.GlobalEntry.{GlobalEntry}
use Rattle.mk_words.specs.declared.GlobalLine.{GlobalLine}
use Rattle.mk_words.specs.declared.GlobalAnswer.{GlobalAnswer}
use Rattle.mk_words.specs.declared.GlobalAnswer.TheVariants.{Ok as Done, WordFault}
use Rattle.mk_model.specs.EpochState.{EpochState}
use Rattle.mk_model.specs.GlobalAnswers.{global_answer, is_accepted, writes_word}
use Rattle.mk_model.specs.GlobalSteps.{IsAnswer, global_after}
use Rattle.mk_io.specs.Faults.{HasRisen}
use Rattle.mk_history.specs.Histories.{History}
use Rattle.mk_history.specs.Wholes.{WholeState, after_line, after_global, handed_in}
use Rattle.mk_verdict.specs.Sameness.{same_global, may_answer}
use Rattle.mk_verdict.proofs.SameFacts.{same_global-tells}
use Rattle.mk_words.specs.Bases.{BaseState}
use Rattle.mk_state.specs.Standings.{WholeView, IsWithin, WasDone}
use Rattle.mk_whole.specs.Standings.{IsItself}
use Rattle.mk_state.specs.Words.{HasFaulted}

-- a line that was refused changes nothing
outcome-refused : (run : History) (state : WholeState) (line : GlobalLine) (answer : GlobalAnswer) → is_accepted answer ≡ false →
    after_global run state (record { line = line; answer = answer }) ≡ state
outcome-refused run state line answer e =
    ap (λ (b : Bool). record (if b then after_line run line state else state) { epochs = if b then global_after state.epochs (handed_in state line) line else state.epochs }) e

-- where the word has no fault, the answer is the one that the state gives
pub sure-answer : (state : EpochState) (line : GlobalLine) (answer : GlobalAnswer) → IsAnswer state line answer → HasFaulted answer 0 0 → answer ≡ global_answer state line
sure-answer state line answer (inl same) told = same
sure-answer state line answer (inr fault) told =
    let risen : HasRisen 0 0 = subst (λ (a : GlobalAnswer). HasFaulted a 0 0) fault.0 told in
    absurd (omega (arith, risen))

or-nothing : (x w y : Bool) → x ≡ (x || (false && w && y))
or-nothing true w y = refl
or-nothing false w y = refl

-- where the state gives this answer, another one is allowed exactly if it is the same, but for a failing word
pub allowed-exactly : (state : EpochState) (line : GlobalLine) (given answer : GlobalAnswer) (r : Bool) → answer ≡ global_answer state line → r ≡ same_global given answer →
    false ≡ same_global given WordFault → r ≡ may_answer state line given
allowed-exactly state line given answer r told is sure =
    is ∙ ap (same_global given) told ∙ or-nothing (same_global given (global_answer state line)) (writes_word line) (same_global (global_answer state line) Done)
    ∙ ap (λ (b : Bool). same_global given (global_answer state line) || (b && writes_word line && same_global (global_answer state line) Done)) sure

-- a line that failed at its word changes nothing
pub fault-within : (run : History) (state : WholeState) (whole : WholeView BaseState) (entry : GlobalEntry) → entry.answer ≡ WordFault → IsWithin IsItself run whole state → IsWithin IsItself run whole (after_global run state entry)
fault-within run state whole entry e within =
    subst (λ (s : WholeState). IsWithin IsItself run whole s) (sym (outcome-refused run state entry.line entry.answer (ap is_accepted e))) within

-- a line that got its answer was done
pub answered-within : (run : History) (state : WholeState) (whole : WholeView BaseState) (entry : GlobalEntry) (answer : GlobalAnswer) → answer ≡ entry.answer → WasDone IsItself run state entry.line answer whole →
    IsWithin IsItself run whole (after_global run state entry)
answered-within run state whole entry answer e was =
    subst (λ (a : GlobalAnswer). IsWithin IsItself run whole (after_global run state (record { line = entry.line; answer = a }))) e was.within

-- the same by the test of answers
pub same-within : (run : History) (state : WholeState) (whole : WholeView BaseState) (entry : GlobalEntry) (answer : GlobalAnswer) (r : Bool) → r ≡ same_global entry.answer answer → r ≡ true →
    WasDone IsItself run state entry.line answer whole → IsWithin IsItself run whole (after_global run state entry)
same-within run state whole entry answer r is ok was = answered-within run state whole entry answer (sym (same_global-tells entry.answer answer (sym is ∙ ok))) was
