-- The run of a whole text.
use Rattle.std.proofs.Common.{◌≡◌, ℕ, List, ◌++◌, Option, Some, None, Result, Ok, Err, sym, ap, subst, ◌∙◌}
use Rattle.std.specs.Prelude.{IfOk, Vec}
use Rattle.std.specs.Global.{Global}
use Rattle.std.proofs.lemmas.Option.{same_Some}
use Rattle.mk_spelling.specs.Lines.{Refusal}
use Rattle.mk_history.specs.Histories.{History}
use Rattle.mk_history.specs.Shape.{HasShape}
use Rattle.mk_kept.specs.Heads.{history}
use Rattle.mk_trace.specs.declared.error.TraceError.{TraceError}
use Rattle.mk_trace.specs.declared.error.TraceError.TheVariants as errors
use Rattle.mk_trace.specs.declared.tracing.Standing.{Standing}
use Rattle.mk_trace.specs.declared.tracing.Standing.TheVariants as standings
use Rattle.mk_history.specs.declared.RoundLog.{RoundLog}
use Rattle.mk_trace_text.specs.Traces.{trace_text}
use Rattle.mk_trace_text.specs.States.{State}
use Rattle.mk_trace_text.specs.Grammar.{state_text}
use Rattle.mk_trace.specs.Pieces.{Reading, started, fed, finished}
use Rattle.mk_trace.specs.Answers.{reading_of, fed_behind, Finishes, Answers, run_of, run_text, with_rounds}
use Rattle.mk_trace.proofs.BothWays.{read_back}
use Rattle.mk_trace.proofs.OneSpelling.{one_spelling}
use Rattle.mk_trace.proofs.PieceLaws.{finished_text}
use Rattle.mk_trace.proofs.KeepLaws.{IsKept, nothing_kept, kept_fed, ended_shape, finished_ended, shapes_read}

-- a reading of the whole text
finished_whole : (r : Reading) (bytes : List ℕ) → r ≡ fed started bytes → finished r ≡ state_text bytes
finished_whole r bytes e = ap finished e ∙ finished_text bytes

-- a text that is refused
pub read_refused : (e : TraceError) (o : Option Reading) (bytes : List ℕ) → o ≡ fed_behind (Some started) bytes → Finishes (Err e) o
    → Answers (Err e) (run_text bytes)
read_refused e None bytes is h = absurd cc
read_refused (errors.BadLine line why) (Some r) bytes is h =
    ap run_of (sym (finished_whole r bytes (same_Some r (fed started bytes) is)) ∙ h)
read_refused errors.NoMemory (Some r) bytes is h = tt

-- a text that is read: its shape, and its run
pub read_whole : (o : Option Reading) (standing : Standing) (number : ℕ) (held : List ℕ) (s : State) (bytes : List ℕ)
    → o ≡ fed_behind (Some started) bytes → Finishes (Ok tt) o → o ≡ reading_of standing number held s
    → HasShape (history s.head s.rounds) × (run_text bytes ≡ Ok (history s.head s.rounds))
read_whole None standing number held s bytes is h view = absurd cc
read_whole (Some r) standing number held s bytes is h view =
    let same = same_Some r (fed started bytes) is in
    let state = at standing view in (
      subst (λ (x : State). HasShape (history x.head x.rounds)) state
          (subst (λ (x : Reading). HasShape (history x.state.head x.state.rounds)) (sym same)
          (shapes_read bytes r.state (ap finished (sym same) ∙ h))),
      ap run_of (sym (finished_whole r bytes same) ∙ h) ∙ ap (λ (x : State). run_of (Ok x)) state,
    )
  where
    at : (standing : Standing) → Some r ≡ reading_of standing number held s → r.state ≡ s
    at standings.Reading v = ap (λ (x : Reading). x.state) (same_Some r (record { state = s; fault = None; number = number; held = held }) v)
    at (standings.Refused line why) v =
        ap (λ (x : Reading). x.state) (same_Some r (record { state = s; fault = Some (line, why); number = number; held = held }) v)
    at standings.NoMemory v = absurd cc

-- a text that ends, of which rounds were handed out
pub handed_shape : (text : List ℕ) (taken : List RoundLog) (r : Reading) → fed started text ≡ with_rounds taken r → finished r ≡ Ok r.state
    → HasShape (history r.state.head (taken ++ r.state.rounds))
handed_shape text taken r e f =
    ended_shape (with_rounds taken r).state (finished_ended r.state r.fault r.number r.held r.state f)
    (subst (λ (x : Reading). IsKept x.state) e (kept_fed started text nothing_kept))

-- what a call that answers a text's run answers
pub found_law : (result : Result History TraceError) (bytes : List ℕ) → Answers result (run_text bytes) → IfOk result (λ run. bytes ≡ trace_text run)
found_law (Ok run) bytes h = one_spelling bytes run h
found_law (Err e) bytes h = tt

pub only_law : (result : Result History TraceError) (bytes : List ℕ) (run : History) → HasShape run → bytes ≡ trace_text run → Answers result (run_text bytes)
    → Answers result (Ok run)
only_law result bytes run shape same h = subst (λ (r : Result History Refusal). Answers result r) (ap run_text same ∙ read_back run shape) h

-- a text that was written is read back
pub written_law : {E : Type 0} (result : Result (Vec ℕ Global) E) (run : History) → HasShape run → IfOk result (λ bytes. bytes.items ≡ trace_text run)
    → IfOk result (λ bytes. run_text bytes.items ≡ Ok run)
written_law (Ok bytes) run shape h = ap run_text h ∙ read_back run shape
written_law (Err e) run shape h = tt
