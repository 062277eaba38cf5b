-- Numbers of global lines in range, and answers that are refusals.
use Rattle.std.proofs.Common.{inl, inr, ◌≡◌, ◌<◌, ◌≤◌, ℕ, true, false, ◌&&◌, refl, subst, arith, Some}
use Rattle.std.specs.Prelude.{nat_lt, nat_le, Option, Err}
use Rattle.std.proofs.lemmas.Bool.{and_parts}
use Rattle.std.proofs.lemmas.Bool.Decides.{nat_tests}
use Rattle.mk_words.specs.Lines.{is_epoch}
use Rattle.mk_words.specs.declared.GlobalLine.{GlobalLine}
use Rattle.mk_words.specs.declared.GlobalAnswer.{GlobalAnswer}
use Rattle.mk_words.specs.declared.GlobalAnswer.TheVariants.{Unasked as NobodyAsked, Unmade as NoneMade, Lacking as LacksState, Old as TooOld, WordFault as WordFailed, Short as TooFew}
use Rattle.mk_model.specs.EpochState.{EpochState}
use Rattle.mk_model.specs.GlobalAnswers.{global_answer, is_accepted, writes_word}
use Rattle.mk_model.specs.GlobalSteps.{IsAnswer}
use Rattle.mk_epoch.specs.declared.EpochError.{EpochError}
use Rattle.mk_epoch.specs.declared.EpochError.TheVariants.{Unasked, Unmade, Lacking, Old, WordFault, Short, NoMemory}
use Rattle.mk_epoch.specs.Standing.{refusal_of, IsEarly}
use Rattle.mk_epoch.specs.Words.{IsWritten}
use Rattle.mk_state.specs.Words.{IsWrittenBy}

pub replica-below : (n r : ℕ) → nat_lt r n ≡ true → r < n
replica-below n r e = grind (arith, nat_tests)

pub epoch-within : (epoch : ℕ) → is_epoch epoch ≡ true → (1 ≤ epoch) × (epoch ≤ 1000)
epoch-within epoch e =
    let both = and_parts (nat_le 1 epoch) (nat_le epoch 1000) e in
    let low : nat_le 1 epoch ≡ true = both.0 in
    let high : nat_le epoch 1000 ≡ true = both.1 in
    (grind (arith, nat_tests, low), grind (arith, nat_tests, high))

pub both-within : (n epoch r : ℕ) → (is_epoch epoch && nat_lt r n) ≡ true → ((1 ≤ epoch) × (epoch ≤ 1000)) × (r < n)
both-within n epoch r e =
    let both = and_parts (is_epoch epoch) (nat_lt r n) e in
    (epoch-within epoch both.0, replica-below n r both.1)

refused_as : (one answer : GlobalAnswer) → Some one ≡ Some answer → is_accepted one ≡ false → is_accepted answer ≡ false
refused_as one answer e out = let same : one ≡ answer = cc in subst (λ (a : GlobalAnswer). is_accepted a ≡ false) same out

-- a refusal is not accepted
pub refused : (error : EpochError) (answer : GlobalAnswer) → refusal_of error ≡ Some answer → is_accepted answer ≡ false
refused Unasked answer e = refused_as NobodyAsked answer e refl
refused Unmade answer e = refused_as NoneMade answer e refl
refused Lacking answer e = refused_as LacksState answer e refl
refused (Old word) answer e = refused_as (TooOld word) answer e refl
refused WordFault answer e = refused_as WordFailed answer e refl
refused (Short count) answer e = refused_as (TooFew count) answer e refl
refused NoMemory answer e = absurd (cc)

-- an answer that is no fault is the one that the state gives
pub told-exactly : (state : EpochState) (line : GlobalLine) (answer : GlobalAnswer) → IsAnswer state line answer → (answer ≡ WordFailed → writes_word line ≡ true → ⊥) →
    answer ≡ global_answer state line
told-exactly state line answer (inl same) sure = same
told-exactly state line answer (inr fault) sure = absurd (sure fault.0 fault.1)

-- what a call leaves of the word is what its line does
module _ {W : Type 0} (kept : W → ℕ) (sets : W → Option ℕ) (faults : W → ℕ) (epoch : ℕ) (old new : W) where
  as_told : (one answer : GlobalAnswer) → Some one ≡ Some answer → IsWrittenBy kept sets faults epoch one old new → IsWrittenBy kept sets faults epoch answer old new
  as_told one answer e written = let same : one ≡ answer = cc in subst (λ (a : GlobalAnswer). IsWrittenBy kept sets faults epoch a old new) same written

  -- of one that was refused
  pub written-refused : (X : Type 0) (error : EpochError) (answer : GlobalAnswer) → refusal_of error ≡ Some answer → IsWritten {X = X} kept sets faults epoch old new (Err error) →
      IsWrittenBy kept sets faults epoch answer old new
  written-refused X Unasked answer e written = as_told NobodyAsked answer e written
  written-refused X Unmade answer e written = as_told NoneMade answer e written
  written-refused X Lacking answer e written = as_told LacksState answer e written
  written-refused X (Old word) answer e written = as_told (TooOld word) answer e written
  written-refused X WordFault answer e written = as_told WordFailed answer e written
  written-refused X (Short count) answer e written = as_told (TooFew count) answer e written
  written-refused X NoMemory answer e written = absurd (cc)

  -- of one that was refused before the word was reached
  pub written-early : (error : EpochError) (answer : GlobalAnswer) → refusal_of error ≡ Some answer → IsEarly error → new ≡ old → IsWrittenBy kept sets faults epoch answer old new
  written-early Unasked answer e early same = as_told NobodyAsked answer e same
  written-early Unmade answer e early same = as_told NoneMade answer e same
  written-early Lacking answer e early same = as_told LacksState answer e same
  written-early (Old word) answer e early same = as_told (TooOld word) answer e same
  written-early WordFault answer e early same = absurd early
  written-early (Short count) answer e early same = as_told (TooFew count) answer e same
  written-early NoMemory answer e early same = absurd early
