-- The bytes that a source held, and the run that they are the trace of.
use Rattle.std.proofs.Common.{Result, IfOk, IfErr, ◌≡◌, ℕ, ◌≤◌, List, Option, None, Some, Ok, Err, length, refl, subst, sym, ap, ◌∙◌, arith}
use Rattle.std.proofs.Math.Seq.{drop-length}
use Rattle.mk_spelling.specs.declared.fault.TextFault.{TextFault}
use Rattle.mk_io.specs.Wholes.{TakesAll, TakesAtMost}
use Rattle.mk_history.specs.Histories.{History}
use Rattle.mk_history.specs.Shape.{HasShape}
use Rattle.mk_trace.specs.Answers.{run_text}
use Rattle.mk_verdict.specs.declared.Verdict.{Verdict}
use Rattle.mk_verdict.specs.declared.Verdict.TheVariants.{Legal, Broken}
use Rattle.mk_verdict.specs.Flaws.{verdict_of}
use Rattle.mk_ending.specs.declared.why.Why.{Why}
use Rattle.mk_tool.specs.Asking.{Asked}
use Rattle.mk_tool.specs.Asking.Asked.{ForVerdict}
use Rattle.mk_tool.specs.VerdictTexts.{check_text}
use Rattle.mk_tool.specs.PastTexts.{answer_with}
use Rattle.mk_tool.specs.Checked.{trace_limit, IsTrace, TellsFault, IsTold, IsAnswer}

-- all that was taken is no more than the limit
pub taken : (old new : Option (List ℕ)) (bytes : List ℕ) (limit : ℕ) → TakesAll old new bytes → length bytes ≤ limit → TakesAtMost old new limit
taken None new bytes limit h within = (0, omega arith, tt)
taken (Some left) new bytes limit h within =
    let count : length bytes ≡ length left = ap length h.0 in
    (length left, omega (arith, count, within), (omega arith, h.1 ∙ ap Some (sym (drop-length left))))

is_trace : (old new : Option (List ℕ)) (bytes : List ℕ) (run : History) → TakesAll old new bytes → length bytes ≤ trace_limit → run_text bytes ≡ Ok run → IsTrace old run
is_trace None new bytes run h within is = tt
is_trace (Some left) new bytes run h within is =
    (subst (λ (b : List ℕ). length b ≤ trace_limit) h.0 within, subst (λ (b : List ℕ). run_text b ≡ Ok run) h.0 is)

-- what was taken is the trace of the run of which this is told
pub answered : (asked : Asked) (old new : Option (List ℕ)) (bytes : List ℕ) (run : History) (verdict : Verdict) (text : List ℕ) → TakesAll old new bytes → length bytes ≤ trace_limit → run_text bytes ≡ Ok run →
    HasShape run → IsTold asked run verdict text → IsAnswer asked old verdict text
answered asked old new bytes run verdict text h within is shape told = record {
  run = run;
  tells = (shape, is_trace old new bytes run h within is);
  told = told;
}

-- the verdict is what is told
pub told-verdict : (run : History) (verdict : Verdict) (text : List ℕ) → verdict ≡ verdict_of run → text ≡ check_text run → IsTold ForVerdict run verdict text
told-verdict run verdict text verdict_is text_is = record {
  verdict_is = verdict_is;
  text_is = by (verdict_of run) ∙ ap some_text (sym text_is);
  has = λ legal. tt;
}
  where
    some_text : List ℕ → Option (List ℕ)
    some_text t = Some t

    by : (v : Verdict) → answer_with ForVerdict run v ≡ Some (check_text run)
    by Legal = refl
    by (Broken round place why) = refl

-- and what was taken is no trace
pub faulty : (old new : Option (List ℕ)) (bytes : List ℕ) (line : ℕ) (why : TextFault) → TakesAll old new bytes → length bytes ≤ trace_limit → run_text bytes ≡ Err (line, why) → TellsFault old line why
faulty None new bytes line why h within is = tt
faulty (Some left) new bytes line why h within is =
    (subst (λ (b : List ℕ). length b ≤ trace_limit) h.0 within, subst (λ (b : List ℕ). run_text b ≡ Err (line, why)) h.0 is)

pub if_ok_map : {A E : Type 0} (result : Result A E) (P Q : A → Type 0) → IfOk result P → ((a : A) → P a → Q a) → IfOk result Q
if_ok_map (Ok a) P Q h f = f a h
if_ok_map (Err e) P Q h f = tt

pub if_err_at : {A E : Type 0} (result : Result A E) (e : E) (P : E → Type 0) → IfErr result P → result ≡ Err e → P e
if_err_at result e P h is = subst (λ r. IfErr r P) is h

-- why nothing was read
abbrev unread : (A : Type 0) → Why → Result A Why
unread A why = Err why

pub same_why : (A : Type 0) (a b : Why) → unread A a ≡ unread A b → a ≡ b
same_why A a b e = cc
