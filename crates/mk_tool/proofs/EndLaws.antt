-- How a call ends that reads the trace of a legal run.
use Rattle.std.proofs.Common.{◌≡◌, ◌∙◌, ◌+◌, ◌≤◌, ℕ, refl, sym, ap, subst, arith, List, length, Option, Some, Result, Ok, Err, inl, inr}
use Rattle.std.proofs.lemmas.Option.{same_Some, none-some}
use Rattle.mk_spelling.specs.declared.fault.TextFault.{TextFault}
use Rattle.mk_io.specs.Wholes.{TakesCount}
use Rattle.mk_history.specs.Histories.{History}
use Rattle.mk_history.specs.Shape.{HasShape}
use Rattle.mk_verdict.specs.declared.Verdict.{Verdict}
use Rattle.mk_verdict.specs.declared.Verdict.TheVariants.{Legal}
use Rattle.mk_trace_text.specs.Traces.{trace_text}
use Rattle.mk_trace.specs.Answers.{run_text}
use Rattle.mk_ending.specs.declared.why.Why.{Why}
use Rattle.mk_ending.specs.declared.why.Why.TheVariants.{Usage, Refused, SourceFault, TooLong, SinkFault, NoMemory, NoAttempt}
use Rattle.mk_tool.specs.Asking.{Asked, HasAsked}
use Rattle.mk_tool.specs.Checked.{trace_limit, IsTrace, Tells, TellsFault, IsLacking, verdict_with, Completes}

-- the trace of a run gives that run
abbrev pub TracesGiveRuns : Type 0
TracesGiveRuns = (run : History) → HasShape run → run_text (trace_text run) ≡ Ok run

-- a source held the trace of this run
module _ (law : TracesGiveRuns) (run : History) (shape : HasShape run) (left : Option (List ℕ)) (held : left ≡ Some (trace_text run)) (within : length (trace_text run) ≤ trace_limit) where
  -- the run that it told is this one
  told-run : (other : History) → Tells left other → other ≡ run
  told-run other tells =
      let trace = subst (λ (o : Option (List ℕ)). IsTrace o other) held tells.1 in
      ap run_in (sym trace.1 ∙ law run shape)
    where
      run_in : Result History (ℕ × TextFault) → History
      run_in (Ok r) = r
      run_in (Err e) = other

  not-refused : (line : ℕ) (fault : TextFault) → TellsFault left line fault → ⊥
  not-refused line fault tells =
      let trace = subst (λ (o : Option (List ℕ)). TellsFault o line fault) held tells in
      let both = sym (law run shape) ∙ trace.1 in
      absurd cc

  not-longer : (new : Option (List ℕ)) → TakesCount left new (trace_limit + 1) → ⊥
  not-longer new takes =
      let count = subst (λ (o : Option (List ℕ)). TakesCount o new (trace_limit + 1)) held takes in
      omega (arith, count.0, within)

  -- a call that was refused so
  pub refused-completes : (asked : Asked) (new : Option (List ℕ)) (status : ℕ) (why : Why) → (why ≡ Usage → ⊥) → ((line : ℕ) (fault : TextFault) → why ≡ Refused line fault → TellsFault left line fault) →
      (why ≡ TooLong → TakesCount left new (trace_limit + 1)) → (why ≡ NoAttempt → IsLacking asked left) → Completes asked run status (Some why)
  refused-completes asked new status Usage usage faulty long lacks = absurd (usage refl)
  refused-completes asked new status (Refused line fault) usage faulty long lacks = absurd (not-refused line fault (faulty line fault refl))
  refused-completes asked new status SourceFault usage faulty long lacks = inr (inr tt)
  refused-completes asked new status TooLong usage faulty long lacks = absurd (not-longer new (long refl))
  refused-completes asked new status SinkFault usage faulty long lacks = inr (inr tt)
  refused-completes asked new status NoMemory usage faulty long lacks = inr (inr tt)
  refused-completes asked new status NoAttempt usage faulty long lacks =
      let l = lacks refl in
      inr (inl (refl, λ has. l.lacks (subst (HasAsked asked) (sym (told-run l.run l.tells)) has)))

-- a refusal with a verdict is that of a run that lacks an attempt
pub verdict-told : (why : Why) (verdict : Verdict) → verdict_with why ≡ Some verdict → (why ≡ NoAttempt) × (verdict ≡ Legal)
verdict-told NoAttempt verdict e = (refl, sym (same_Some Legal verdict e))
verdict-told Usage verdict e = absurd (none-some verdict e)
verdict-told (Refused line fault) verdict e = absurd (none-some verdict e)
verdict-told SourceFault verdict e = absurd (none-some verdict e)
verdict-told TooLong verdict e = absurd (none-some verdict e)
verdict-told SinkFault verdict e = absurd (none-some verdict e)
verdict-told NoMemory verdict e = absurd (none-some verdict e)
