-- The trace of a run is read, and gives that run.
use Rattle.std.proofs.Common.{◌≡◌, ℕ, true, List, [], ◌∷◌, ◌++◌, Result, Ok, refl, sym, ap, subst, ◌∙◌, append_assoc}
use Rattle.mk_spelling.specs.declared.fault.TextFault.{TextFault}
use Rattle.mk_spelling.specs.Lines.{Refusal, next_number, go_on, read_parts}
use Rattle.mk_spelling.proofs.Cuts.{Lacks, cut-parts}
use Rattle.mk_spelling.proofs.TextLaws.{parts, read_first}
use Rattle.mk_history.specs.declared.RoundLog.{RoundLog}
use Rattle.mk_history.specs.Histories.{History}
use Rattle.mk_history.specs.Shape.{HasShape}
use Rattle.mk_trace_lines.specs.TraceLines.{TraceLine, spelling, text_of}
use Rattle.mk_trace_text.specs.Traces.{trace_lines, trace_text}
use Rattle.mk_trace_text.specs.States.{State, nothing, after}
use Rattle.mk_trace_text.specs.Grammar.{taken, line_result, ended, end_result}
use Rattle.mk_trace.specs.Answers.{run_of, run_text}
use Rattle.mk_trace.proofs.LinesAgain.{line_again, line_lacks}
use Rattle.mk_trace.proofs.InTurn.{IsNext, EachNext, after_all}
use Rattle.mk_trace.proofs.RunInTurn.{run_leads}

-- a line that may come next is read
line_read : (clients keys : List (List ℕ)) (all : List RoundLog) (s : State) (line : TraceLine) → IsNext clients keys all s line
    → line_result s (spelling clients keys line) ≡ Ok (after s line)
line_read clients keys all s line h =
    ap (line_result s) (sym h.spelled) ∙ ap (taken s) (line_again s all line h.sound h.suits)

line_ends : (clients keys : List (List ℕ)) (all : List RoundLog) (s : State) (line : TraceLine) → IsNext clients keys all s line
    → Lacks 10 (spelling clients keys line)
line_ends clients keys all s line h = subst (λ (w : List ℕ). Lacks 10 w) h.spelled (line_lacks s all line h.sound h.suits)

end_read : (s : State) → ended s.section ≡ true → end_result s ≡ Ok s
end_read s e = rw e refl

-- so are lines, one behind the other
lines_read : (clients keys : List (List ℕ)) (all : List RoundLog) (lines : List TraceLine) (s : State) (n : ℕ) → EachNext clients keys all s lines
    → ended (after_all s lines).section ≡ true
    → read_parts line_result end_result s n (parts (text_of clients keys lines)) ≡ Ok (after_all s lines)
lines_read clients keys all [] s n h e = ap (λ (r : Result State TextFault). go_on n r (λ t. Ok t)) (end_read s e)
lines_read clients keys all (line ∷ lines) s n h e =
    let front = spelling clients keys line in
    let rest = text_of clients keys lines in
    let whole : text_of clients keys (line ∷ lines) ≡ front ++ 10 ∷ rest = append_assoc front (10 ∷ []) rest in
    ap (λ (x : List ℕ). read_parts line_result end_result s n (parts x)) whole
    ∙ read_first line_result end_result s n (front ++ 10 ∷ rest) (front, rest) (cut-parts 10 front rest (line_ends clients keys all s line h.0))
    ∙ ap (λ (r : Result State TextFault). go_on n r (λ t. read_parts line_result end_result t (next_number n) (parts rest))) (line_read clients keys all s line h.0)
    ∙ lines_read clients keys all lines (after s line) (next_number n) h.1 e

-- the trace of a run gives that run
pub read_back : (run : History) → HasShape run → run_text (trace_text run) ≡ Ok run
read_back run h =
    let led = run_leads run h in
    let ends : ended (after_all nothing (trace_lines run)).section ≡ true = subst (λ (t : State). ended t.section ≡ true) (sym led.leads.leaves) led.ends in
    ap run_of (lines_read run.client_names run.key_names run.rounds (trace_lines run) nothing 1 led.leads.fits ends
    ∙ ap (λ (t : State). ok_state t) led.leads.leaves)
    ∙ ap (λ (r : History). ok_run r) led.run_is
  where
    ok_state : State → Result State Refusal
    ok_state t = Ok t

    ok_run : History → Result History Refusal
    ok_run r = Ok r
