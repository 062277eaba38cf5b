-- The answer at the end of a text, of which rounds were handed out.
use Rattle.std.proofs.Common.{◌≡◌, ℕ, Bool, true, false, cond, eqb, List, ◌++◌, length, Option, Some, None, Ok, Err, refl, sym, ap, ◌∙◌}
use Rattle.mk_spelling.specs.Fields.{◌>>◌, need}
use Rattle.mk_spelling.specs.declared.fault.TextFault.TheVariants as faults
use Rattle.mk_spelling.specs.Lines.{Refusal, go_on}
use Rattle.mk_history.specs.declared.RoundLog.{RoundLog}
use Rattle.mk_trace_text.specs.States.{State}
use Rattle.mk_trace_text.specs.Grammar.{ended}
use Rattle.mk_trace.specs.Pieces.{Reading, started, fed, finished}
use Rattle.mk_trace.specs.Answers.{with_rounds, run_of, run_text, answer_with}
use Rattle.mk_trace.proofs.PieceLaws.{finished_text}

finished_of : (taken : List RoundLog) (s : State) (fault : Option Refusal) (n : ℕ) (held : List ℕ)
    → finished (with_rounds taken (record { state = s; fault = fault; number = n; held = held }))
    ≡ answer_with taken (finished (record { state = s; fault = fault; number = n; held = held }))
finished_of taken s (Some refusal) n held = refl
finished_of taken s None n held = here (eqb (length held) 0) (ended s.section)
  where
    with : State
    with = record s { rounds = taken ++ s.rounds }

    here : (a b : Bool) → cond a (go_on n (need b faults.Order >> Ok with) (λ x. Ok x)) (Err (n, faults.Cut))
        ≡ answer_with taken (cond a (go_on n (need b faults.Order >> Ok s) (λ x. Ok x)) (Err (n, faults.Cut)))
    here true true = refl
    here true false = refl
    here false b = refl

pub answered : (text : List ℕ) (taken : List RoundLog) (r : Reading) → fed started text ≡ with_rounds taken r → run_text text ≡ run_of (answer_with taken (finished r))
answered text taken r e = ap run_of (sym (finished_text text) ∙ ap finished e ∙ finished_of taken r.state r.fault r.number r.held)
