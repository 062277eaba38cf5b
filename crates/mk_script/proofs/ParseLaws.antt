-- Parsing goes line by line.
use Rattle.std.proofs.Common.{◌≡◌, ℕ, ◌+◌, ◌≤◌, true, false, eqb, List, length, Some, None, Result, Ok, Err, refl, sym, ◌∙◌}
use Rattle.mk_spelling.specs.declared.fault.TextFault.TheVariants.{Cut}
use Rattle.mk_spelling.specs.Words.{cut}
use Rattle.mk_spelling.specs.Lines.{Refusal, go_on, next_number, read_parts}
use Rattle.mk_spelling.proofs.TextLaws.{parts, read_first, read_last, cut_shorter}
use Rattle.mk_script.specs.declared.error.LineError.{LineError}
use Rattle.mk_script.specs.declared.error.LineError.TheVariants as errors
use Rattle.mk_script.specs.Scripts.{State}
use Rattle.mk_script.specs.Seen.{Fails}
use Rattle.mk_script.specs.Faults.{line_result, end_result}
use Rattle.mk_script.specs.Parsed.{error_at, Refuses}

abbrev pub reading : State → ℕ → List ℕ → Result State Refusal
reading s n left = read_parts line_result end_result s n (parts left)

pub fault_here : (e : LineError) (s : State) (n : ℕ) (left line rest : List ℕ) (total : Result State Refusal) → Some (line, rest) ≡ cut 10 left
    → Fails e (line_result s line) → reading s n left ≡ total → Refuses (error_at n e) total
fault_here errors.Memory s n left line rest total c f h = tt
fault_here (errors.Fault why) s n left line rest total c f h = sym h ∙ read_first line_result end_result s n left (line, rest) (sym c) ∙ rw f refl

pub goes_on : (s t : State) (n : ℕ) (left line rest : List ℕ) (total : Result State Refusal) → Some (line, rest) ≡ cut 10 left → line_result s line ≡ Ok t
    → reading s n left ≡ total → (reading t (next_number n) rest ≡ total) × (length rest + 1 ≤ length left)
goes_on s t n left line rest total c f h =
    let first : reading s n left ≡ reading t (next_number n) rest = read_first line_result end_result s n left (line, rest) (sym c) ∙ rw f refl in
    (sym first ∙ h, cut_shorter left (line, rest) (sym c))

pub cut_here : (s : State) (n : ℕ) (left : List ℕ) (total : Result State Refusal) → None ≡ cut 10 left → eqb (length left) 0 ≡ false
    → reading s n left ≡ total → total ≡ Err (n, Cut)
cut_here s n left total c some h = sym h ∙ read_last line_result end_result s n left (sym c) ∙ rw some refl

pub ends_at : (s : State) (n : ℕ) (left : List ℕ) (total : Result State Refusal) → None ≡ cut 10 left → eqb (length left) 0 ≡ true → reading s n left ≡ total
    → total ≡ go_on n (end_result s) (λ t. Ok t)
ends_at s n left total c none h = sym h ∙ read_last line_result end_result s n left (sym c) ∙ rw none refl

pub end_fault : (e : LineError) (s : State) (n : ℕ) (left : List ℕ) (total : Result State Refusal) → None ≡ cut 10 left → eqb (length left) 0 ≡ true
    → Fails e (end_result s) → reading s n left ≡ total → Refuses (error_at n e) total
end_fault errors.Memory s n left total c none f h = tt
end_fault (errors.Fault why) s n left total c none f h = ends_at s n left total c none h ∙ rw f refl
