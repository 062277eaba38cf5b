-- Where a line that writes a word can fail at it.
use Rattle.std.proofs.Common.{◌≡◌, Bool, true, false, ◌&&◌, refl, sym, subst, Some}
use Rattle.std.specs.Prelude.{◌||◌, Result, Ok, Err, is_ok, IfErr}
use Rattle.mk_words.specs.declared.GlobalLine.{GlobalLine}
use Rattle.mk_words.specs.declared.GlobalAnswer.{GlobalAnswer}
use Rattle.mk_words.specs.declared.GlobalAnswer.TheVariants.{Ok as Done, Unasked as NobodyAsked, Unmade as NoneMade, Lacking as LacksState, Old as TooOld, WordFault as WordFailed, Short as TooFew}
use Rattle.mk_model.specs.EpochState.{EpochState}
use Rattle.mk_model.specs.GlobalAnswers.{global_answer, writes_word}
use Rattle.mk_epoch.specs.declared.EpochError.{EpochError}
use Rattle.mk_epoch.specs.declared.EpochError.TheVariants.{Unasked, Unmade, Lacking, Old, WordFault, Short, NoMemory}
use Rattle.mk_epoch.specs.Standing.{refusal_of, IsEarly, told, done}
use Rattle.mk_verdict.specs.Sameness.{same_global, may_answer}

-- an early refusal is neither a fault nor done
refusal-is : (one answer : GlobalAnswer) → Some one ≡ Some answer → same_global WordFailed one ≡ false → same_global one Done ≡ false →
    (same_global WordFailed answer ≡ false) × (same_global answer Done ≡ false)
refusal-is one answer e first second =
    let same : one ≡ answer = cc in
    (subst (λ (a : GlobalAnswer). same_global WordFailed a ≡ false) same first, subst (λ (a : GlobalAnswer). same_global a Done ≡ false) same second)

refusal-shape : (error : EpochError) (answer : GlobalAnswer) → refusal_of error ≡ Some answer → IsEarly error → (same_global WordFailed answer ≡ false) × (same_global answer Done ≡ false)
refusal-shape Unasked answer e early = refusal-is NobodyAsked answer e refl refl
refusal-shape Unmade answer e early = refusal-is NoneMade answer e refl refl
refusal-shape Lacking answer e early = refusal-is LacksState answer e refl refl
refusal-shape (Old word) answer e early = refusal-is (TooOld word) answer e refl refl
refusal-shape WordFault answer e early = absurd early
refusal-shape (Short count) answer e early = refusal-is (TooFew count) answer e refl refl
refusal-shape NoMemory answer e early = absurd early

neither : (x y w : Bool) → x ≡ false → y ≡ false → false ≡ (x || (true && w && y))
neither true y w e f = absurd (cc)
neither false true w e f = absurd (cc)
neither false false true e f = refl
neither false false false e f = refl

written-if : (answer : GlobalAnswer) (w : Bool) → w ≡ true → (r : Result (Unit {0}) EpochError) → told done r ≡ Some answer → IfErr r IsEarly →
    is_ok r ≡ (same_global WordFailed answer || (true && w && same_global answer Done))
written-if answer w writes (Ok x) e early =
    let same : Done ≡ answer = cc in
    let first : true ≡ (same_global WordFailed Done || (true && true && same_global Done Done)) = refl in
    subst (λ (a : GlobalAnswer). true ≡ (same_global WordFailed a || (true && w && same_global a Done))) same
    (subst (λ (b : Bool). true ≡ (same_global WordFailed Done || (true && b && same_global Done Done))) (sym writes) first)
written-if answer w writes (Err error) e early =
    let shape = refusal-shape error answer e early in
    neither (same_global WordFailed answer) (same_global answer Done) w shape.0 shape.1

-- a line that writes a word can fail at it exactly where it would be done
pub may-write : (state : EpochState) (line : GlobalLine) → writes_word line ≡ true → (r : Result (Unit {0}) EpochError) → told done r ≡ Some (global_answer state line) →
    IfErr r IsEarly → is_ok r ≡ may_answer state line WordFailed
may-write state line writes r e early = written-if (global_answer state line) (writes_word line) writes r e early
