-- A text is read where it is in the grammar, and only there.
use Rattle.std.proofs.Common.{◌≡◌, ℕ, ◌<◌, ◌≤◌, Bool, true, false, cond, eqb, leb, ◌&&◌, List, [], ◌∷◌, ◌++◌, length, Result, Ok, Err, refl, sym, ap, subst, ◌∙◌, arith, append_assoc, inl, inr}
use Rattle.std.specs.Prelude.{IfOk}
use Rattle.std.specs.List.{flat_map, join_with_byte}
use Rattle.std.proofs.lemmas.List.Concat.{flat_map-cons}
use Rattle.std.proofs.lemmas.List.Splits.{join_with_byte-slice_split}
use Rattle.std.proofs.lemmas.Bool.{eqb-true}
use Rattle.mk_spelling.specs.declared.fault.TextFault.{TextFault}
use Rattle.mk_spelling.specs.declared.fault.TextFault.TheVariants as faults
use Rattle.mk_spelling.specs.Lines.{Refusal, next_number, go_on, read_parts, read_text}
use Rattle.mk_spelling.proofs.Cuts.{Lacks, Lacks-from_test}
use Rattle.mk_spelling.proofs.FieldLaws.{need_ok, ok_is}
use Rattle.mk_spelling.proofs.TextLaws.{parts, parts-front, parts_cons}
use Rattle.mk_script.specs.Scripts.{ScriptParts, State, nothing, script_of}
use Rattle.mk_script.specs.Grammar.{Line, IsBehindPrelude, Fits, after, Says, Say}
use Rattle.mk_script.specs.Grammar.Line.{Opens, Sizes, Declares, Retries, Injects, Halts, Tries, TakesOver, Changes, NextRound}
use Rattle.mk_script.specs.Faults.{behind_prelude, line_result, end_result}
use Rattle.mk_script.specs.Texts.{ended, IsScript}
use Rattle.mk_script.specs.Parsed.{Answers, state_text, script_text, scripted}
use Rattle.mk_script.specs.declared.parsing.ScriptError.{ScriptError}
use Rattle.mk_script.specs.declared.parsing.ScriptError.TheVariants as refusals
use Rattle.mk_script.proofs.Passed.{behind_from, to_behind}
use Rattle.mk_script.proofs.LineLaws.{Says-from_result}
use Rattle.mk_script.proofs.Again.{result-from_Says}
use Rattle.mk_script.proofs.Printable.{printed_line}
use Rattle.mk_spelling.specs.Words.{is_printable}

abbrev pub IsSmall : State → Type 0
IsSmall s = s.size ≤ 3

pub small_after : (s : State) (line : Line) → IsSmall s → Fits s line → IsSmall (after s line)
small_after s (Opens v) h k = h
small_after s (Sizes f) h k = k.2
small_after s (Declares name column home) h k = h
small_after s (Retries n) h k = h
small_after s (Injects name fault) h k = h
small_after s (Halts name stop) h k = h
small_after s (Tries name client clock ms) h k = h
small_after s (TakesOver name id view) h k = h
small_after s (Changes line) h k = h
small_after s NextRound h k = h

small_says : (s : State) (bytes : List ℕ) (t : State) → IsSmall s → Says s bytes t → IsSmall t
small_says s bytes t h (inl k) = subst (λ (x : State). IsSmall x) (sym k.2) h
small_says s bytes t h (inr k) = subst (λ (x : State). IsSmall x) (sym k.leaves) (small_after s k.line h k.fits)

taken : (n : ℕ) (r : Result State TextFault) (next : State → Result State Refusal) (t : State) → go_on n r next ≡ Ok t
    → (mid : State) × (r ≡ Ok mid) × (next mid ≡ Ok t)
taken n (Ok mid) next t e = (mid, refl, e)
taken n (Err f) next t e = absurd cc

abbrev answered : State → Result State Refusal
answered s = Ok s

state_is : (s t : State) → answered s ≡ answered t → s ≡ t
state_is s t e = cc

-- what was read to its end
record IsRead (s : State) (bytes : List ℕ) (t : State) : Type 0 where
  lines : List (List ℕ)
  text : bytes ≡ flat_map ended lines
  last : State
  says : Say s lines last
  ends : end_result last ≡ Ok t

empty_from : (part : List ℕ) → eqb (length part) 0 ≡ true → part ≡ []
empty_from [] e = refl
empty_from (b ∷ bs) e = let h = eqb-true (length (b ∷ bs)) 0 e in absurd (omega arith)

read-back : (xs : List (List ℕ)) (s : State) (n : ℕ) (t : State) → IsSmall s → 0 < length xs → read_parts line_result end_result s n xs ≡ Ok t
    → IsRead s (join_with_byte 10 xs) t
read-back [] s n t small some e = absurd (omega arith)
read-back (part ∷ []) s n t small some e = here (eqb (length part) 0) refl e
  where
    here : (b : Bool) → eqb (length part) 0 ≡ b → cond b (go_on n (end_result s) (λ x. Ok x)) (Err (n, faults.Cut)) ≡ Ok t → IsRead s part t
    here true b h =
        let m = taken n (end_result s) (λ x. Ok x) t h in
        record { lines = []; text = empty_from part b; last = s; says = refl; ends = m.1 ∙ ap (λ (x : State). Ok x) (state_is m.0 t m.2) }
    here false b h = absurd cc
read-back (part ∷ next ∷ more) s n t small some e =
    let m = taken n (line_result s part) (λ x. read_parts line_result end_result x (next_number n) (next ∷ more)) t e in
    let says = Says-from_result s part m.0 small m.1 in
    let rest = read-back (next ∷ more) m.0 (next_number n) t (small_says s part m.0 small says) (omega arith) m.2 in
    record {
      lines = part ∷ rest.lines;
      text =
          ap (λ (x : List ℕ). part ++ 10 ∷ x) rest.text ∙ sym (append_assoc part (10 ∷ []) (flat_map ended rest.lines))
          ∙ sym (flat_map-cons ended part rest.lines);
      last = rest.last;
      says = (m.0, says, rest.says);
      ends = rest.ends;
    }

-- a line that says something is printable
says_printable : (s : State) (bytes : List ℕ) (t : State) → IsSmall s → Says s bytes t → is_printable bytes ≡ true
says_printable s bytes t small (inl h) = h.0
says_printable s bytes t small (inr h) = ap is_printable h.text ∙ printed_line s h.line small h.fits

read-again : (lines : List (List ℕ)) (s : State) (n : ℕ) (last t : State) → IsSmall s → Say s lines last → end_result last ≡ Ok t
    → read_parts line_result end_result s n (parts (flat_map ended lines)) ≡ Ok t
read-again [] s n last t small says e = ap (λ (r : Result State TextFault). go_on n r (λ x. Ok x)) (ap end_result (sym says) ∙ e)
read-again (line ∷ lines) s n last t small says e =
    let small' = small_says s line says.0 small says.1 in
    let rest = read-again lines says.0 (next_number n) last t small' says.2 e in
    let lacks : Lacks 10 line = Lacks-from_test (λ b. leb 32 b && leb b 126) line 10 (says_printable s line says.0 small says.1) refl in
    let cut_again : parts (flat_map ended (line ∷ lines)) ≡ line ∷ parts (flat_map ended lines) =
    ap parts (flat_map-cons ended line lines ∙ append_assoc line (10 ∷ []) (flat_map ended lines)) ∙ parts-front line (flat_map ended lines) lacks in
    let c = parts_cons (flat_map ended lines) in
    let r = result-from_Says s line says.0 small says.1 in
    let next = λ (x : State). read_parts line_result end_result x (next_number n) (parts (flat_map ended lines)) in
    let step : read_parts line_result end_result s n (line ∷ parts (flat_map ended lines)) ≡ go_on n (line_result s line) next = rw c.2 refl in
    ap (read_parts line_result end_result s n) cut_again ∙ step ∙ ap (λ (x : Result State TextFault). go_on n x next) r ∙ rest

-- ---- behind the size

-- the size is known where the prelude has begun
abbrev IsSized : State → Type 0
IsSized s = IsBehindPrelude s.section → (1 ≤ s.size) × (s.size ≤ 3)

sized_after : (s : State) (line : Line) → IsSized s → Fits s line → IsSized (after s line)
sized_after s (Opens v) h k (inl (inl e)) = absurd cc
sized_after s (Opens v) h k (inl (inr e)) = absurd cc
sized_after s (Opens v) h k (inr e) = absurd cc
sized_after s (Sizes f) h k p = (k.1, k.2)
sized_after s (Declares name column home) h k p = h p
sized_after s (Retries n) h k p = h p
sized_after s (Injects name fault) h k p = h p
sized_after s (Halts name stop) h k p = h p
sized_after s (Tries name client clock ms) h k p = h (inl k.section)
sized_after s (TakesOver name id view) h k p = h (inl k.section)
sized_after s (Changes line) h k p = h k.section
sized_after s NextRound h k p = h k.0

sized_says : (s : State) (bytes : List ℕ) (t : State) → IsSized s → Says s bytes t → IsSized t
sized_says s bytes t h (inl k) = subst (λ (x : State). IsSized x) (sym k.2) h
sized_says s bytes t h (inr k) = subst (λ (x : State). IsSized x) (sym k.leaves) (sized_after s k.line h k.fits)

sized_say : (lines : List (List ℕ)) (s t : State) → IsSized s → Say s lines t → IsSized t
sized_say [] s t h k = subst (λ (x : State). IsSized x) (sym k) h
sized_say (line ∷ lines) s t h k = sized_say lines k.0 t (sized_says s line k.0 h k.1) k.2

nothing_sized : IsSized nothing
nothing_sized (inl (inl e)) = absurd cc
nothing_sized (inl (inr e)) = absurd cc
nothing_sized (inr e) = absurd cc

-- ---- the laws of parsing

some_parts : (bytes : List ℕ) → 0 < length (parts bytes)
some_parts bytes = let c = parts_cons bytes in rw c.2 (omega arith)

-- what was read stands in the grammar
pub IsScript-from_state : (bytes : List ℕ) (t : State) → state_text bytes ≡ Ok t → IsScript bytes (script_of t)
IsScript-from_state bytes t e =
    let r = read-back (parts bytes) nothing 1 t (omega arith) (some_parts bytes) e in
    let k = need_ok (behind_prelude r.last.section) faults.Order (Ok r.last) t r.ends in
    record { lines = r.lines; text = sym (join_with_byte-slice_split 10 bytes) ∙ r.text; last = r.last; says = r.says; sized = behind_from r.last.section k.0; whole = ap script_of (sym (ok_is r.last t k.1)) }

pub state_from_IsScript : (bytes : List ℕ) (s : ScriptParts) (h : IsScript bytes s) → state_text bytes ≡ Ok h.last
state_from_IsScript bytes s h =
    let e : end_result h.last ≡ Ok h.last = rw (to_behind h.last.section h.sized) refl in
    ap (λ (x : List ℕ). read_text line_result end_result nothing x) h.text ∙ read-again h.lines nothing 1 h.last h.last (omega arith) h.says e

-- and what stands in the grammar is read
pub text_from_IsScript : (bytes : List ℕ) (s : ScriptParts) → IsScript bytes s → script_text bytes ≡ Ok s
text_from_IsScript bytes s h = ap scripted (state_from_IsScript bytes s h) ∙ ap (λ (x : ScriptParts). Ok x) (sym h.whole)

abbrev script_answered : ScriptParts → Result ScriptParts Refusal
script_answered s = Ok s

script_is : (s t : ScriptParts) → script_answered s ≡ script_answered t → s ≡ t
script_is s t e = cc

pub IsScript-from_text : (bytes : List ℕ) (s : ScriptParts) → script_text bytes ≡ Ok s → IsScript bytes s
IsScript-from_text bytes s e = here (state_text bytes) refl e
  where
    here : (r : Result State Refusal) → state_text bytes ≡ r → scripted r ≡ Ok s → IsScript bytes s
    here (Ok t) k h = subst (λ (x : ScriptParts). IsScript bytes x) (script_is (script_of t) s h) (IsScript-from_state bytes t k)
    here (Err refusal) k h = absurd cc

pub found_law : (r : Result ScriptParts ScriptError) (bytes : List ℕ) → Answers r (script_text bytes) → IfOk r (λ s. IsScript bytes s)
found_law (Ok s) bytes h = IsScript-from_text bytes s h
found_law (Err e) bytes h = tt

pub only_law : (r : Result ScriptParts ScriptError) (bytes : List ℕ) (s : ScriptParts) → IsScript bytes s → Answers r (script_text bytes) → Answers r (Ok s)
only_law r bytes s h k = subst (λ (answer : Result ScriptParts Refusal). Answers r answer) (text_from_IsScript bytes s h) k

pub size_of_text : (bytes : List ℕ) (t : State) → state_text bytes ≡ Ok t → (1 ≤ t.size) × (t.size ≤ 3)
size_of_text bytes t e =
    let r = read-back (parts bytes) nothing 1 t (omega arith) (some_parts bytes) e in
    let k = need_ok (behind_prelude r.last.section) faults.Order (Ok r.last) t r.ends in
    let h = sized_say r.lines nothing r.last nothing_sized r.says (behind_from r.last.section k.0) in
    subst (λ (x : State). (1 ≤ x.size) × (x.size ≤ 3)) (ok_is r.last t k.1) h
