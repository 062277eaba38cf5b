-- A text that is read is the trace of the run that it gives.
use Rattle.std.proofs.Common.{◌≡◌, ◌⊎◌, ℕ, ◌≤◌, Bool, true, false, cond, eqb, List, [], ◌∷◌, ◌++◌, length, Result, Ok, Err, refl, sym, ap, subst, ◌∙◌, append_assoc, arith, inl, inr}
use Rattle.std.specs.List.{join_with_byte}
use Rattle.std.proofs.lemmas.Bool.{eqb-true}
use Rattle.std.proofs.lemmas.List.{append-nil}
use Rattle.std.proofs.lemmas.List.Splits.{join_with_byte-slice_split}
use Rattle.mk_spelling.specs.declared.fault.TextFault.{TextFault}
use Rattle.mk_spelling.specs.declared.fault.TextFault.TheVariants as faults
use Rattle.mk_spelling.specs.Fields.{◌>>◌, need}
use Rattle.mk_spelling.specs.Lines.{Refusal, next_number, go_on, read_parts}
use Rattle.mk_spelling.proofs.FieldLaws.{ok_is}
use Rattle.mk_spelling.proofs.TextLaws.{parts_cons}
use Rattle.mk_history.specs.Histories.{History}
use Rattle.mk_kept.specs.declared.head.Head.{Head}
use Rattle.mk_kept.specs.Heads.{history}
use Rattle.mk_trace_lines.specs.TraceLines.{TraceLine, spelling, text_of}
use Rattle.mk_trace_lines.specs.TraceLines.TraceLine.{Opens, Sizes, Declares, Names, Begins, Heads, Logged, Marks, Kept, Changes, Changed, Ends}
use Rattle.mk_trace_text.specs.declared.section.Section.{Section}
use Rattle.mk_trace_text.specs.declared.section.Section.TheVariants as sections
use Rattle.mk_trace_text.specs.Traces.{trace_lines, trace_text}
use Rattle.mk_trace_text.specs.States.{State, nothing, after}
use Rattle.mk_trace_text.specs.Grammar.{line_of, taken, line_result, ended, end_result, state_text}
use Rattle.mk_trace.specs.Answers.{run_of, run_text}
use Rattle.mk_trace.proofs.FitLaws.{Gives}
use Rattle.mk_trace.proofs.LineFits.{Fits, line_law}
use Rattle.mk_trace.proofs.KeepLaws.{IsKept, KeptIn, IsHead, nothing_kept, kept_line}
use Rattle.mk_trace.proofs.LinesBack.{Stands, line_is}
use Rattle.mk_trace.proofs.HeadStays.{in_rounds, head_at}
use Rattle.mk_trace.proofs.SoFar.{IsOrdered, nothing_ordered, so_far, lines_in, adds}

-- ---- a line that is read

-- the line, what it fits, and how it is spelled
record Took (s : State) (bytes : List ℕ) (t : State) : Type 0 where
  line : TraceLine
  fits : Fits s line
  stands : Stands s line
  spelled : bytes ≡ spelling s.head.client_names.names s.head.key_names.names line
  leaves : after s line ≡ t

took : (s : State) (bytes : List ℕ) (t : State) → s.head.size ≤ 3 → s.head.columns ≤ 8 → line_result s bytes ≡ Ok t → Took s bytes t
took s bytes t small few e = here (line_of s bytes) (line_law s bytes) (line_is s bytes small few) e
  where
    here : (r : Result TraceLine TextFault) → Gives (Fits s) r
        → Gives (λ line. (bytes ≡ spelling s.head.client_names.names s.head.key_names.names line) × Stands s line) r → taken s r ≡ Ok t → Took s bytes t
    here (Ok line) f h k = record { line = line; fits = f.is; stands = h.is.1; spelled = h.is.0; leaves = ok_is (after s line) t k }
    here (Err fault) f h k = absurd cc

-- the size and the columns of what was read
record IsSmall (head : Head) : Type 0 where
  size : head.size ≤ 3
  columns : head.columns ≤ 8

small_head : (head : Head) → IsHead head → IsSmall head
small_head head h = record { size = h.size.1; columns = h.few_columns }

small_kept : (s : State) → IsKept s → IsSmall s.head
small_kept s k = at s.section k
  where
    at : (x : Section) → KeptIn x s → IsSmall s.head
    at sections.Start h = small_head s.head h.head
    at sections.Opened h = small_head s.head h.0.head
    at sections.Clients h = small_head s.head h.0.head
    at sections.Keys h = small_head s.head h.0.head
    at sections.Round h = small_head s.head h.head
    at sections.Column h = small_head s.head h.head
    at sections.Log h = small_head s.head h.head
    at sections.Cell h = small_head s.head h.head
    at sections.Journal h = small_head s.head h.head
    at sections.Globals h = small_head s.head h.head
    at sections.Changes h = small_head s.head h.head
    at sections.Ended h = record { size = h.0.faults.1; columns = h.0.few_columns }

-- ---- the head stays once a round has begun

-- what comes behind a state in rounds has its head
abbrev KeepsHead : State → State → Type 0
KeepsHead s t = in_rounds s.section ≡ true → t.head ≡ s.head

head_before : (s t : State) (line : TraceLine) → Fits s line → KeepsHead (after s line) t → KeepsHead s t
head_before s t line f k h =
    let one = head_at s line f h in
    k one.1 ∙ one.0

abbrev spelled_by : Head → TraceLine → List ℕ
spelled_by head line = spelling head.client_names.names head.key_names.names line

-- a line is spelled as with the names that are there at the end
spelled_later : (s t : State) (line : TraceLine) → KeepsHead (after s line) t → spelled_by s.head line ≡ spelled_by t.head line
spelled_later s t (Opens v) k = refl
spelled_later s t (Sizes n) k = refl
spelled_later s t (Declares name c) k = refl
spelled_later s t (Names name) k = refl
spelled_later s t (Begins n) k = refl
spelled_later s t (Heads c) k = refl
spelled_later s t (Logged seq step) k = ap (λ (h : Head). spelled_by h (Logged seq step)) (sym (k refl))
spelled_later s t (Marks r c) k = ap (λ (h : Head). spelled_by h (Marks r c)) (sym (k refl))
spelled_later s t (Kept entry) k = refl
spelled_later s t Changes k = refl
spelled_later s t (Changed entry) k = refl
spelled_later s t Ends k = refl

-- ---- lines, one behind the other

-- the parts of a text behind s that left t: the lines that they are
record Came (s : State) (ps : List (List ℕ)) (t : State) : Type 0 where
  lines : List TraceLine
  text : join_with_byte 10 ps ≡ text_of t.head.client_names.names t.head.key_names.names lines
  far : so_far t ≡ so_far s ++ lines
  ends : ended t.section ≡ true
  keeps : KeepsHead s t

end_is : (s t : State) (n : ℕ) → go_on n (end_result s) (λ x. Ok x) ≡ Ok t → (ended s.section ≡ true) × (s ≡ t)
end_is s t n e = here (ended s.section) refl e
  where
    here : (b : Bool) → ended s.section ≡ b → go_on n (need b faults.Order >> Ok s) (λ x. Ok x) ≡ Ok t → (ended s.section ≡ true) × (s ≡ t)
    here true b h = (b, ok_state s t h)
      where
        state_ok : State → Result State Refusal
        state_ok x = Ok x

        ok_state : (x y : State) → state_ok x ≡ state_ok y → x ≡ y
        ok_state x y h = cc
    here false b h = absurd cc

none_long : (part : List ℕ) → length part ≡ 0 → part ≡ []
none_long [] e = refl
none_long (b ∷ bs) e = absurd (omega (arith, e))

last_part : (s t : State) (n : ℕ) (part : List ℕ) → cond (eqb (length part) 0) (go_on n (end_result s) (λ x. Ok x)) (Err (n, faults.Cut)) ≡ Ok t → Came s (part ∷ []) t
last_part s t n part e = here (eqb (length part) 0) refl e
  where
    here : (b : Bool) → eqb (length part) 0 ≡ b → cond b (go_on n (end_result s) (λ x. Ok x)) (Err (n, faults.Cut)) ≡ Ok t → Came s (part ∷ []) t
    here true z h =
        let q = end_is s t n h in
        subst (λ (x : State). Came s (part ∷ []) x) q.1 (record {
          lines = [];
          text = none_long part (eqb-true (length part) 0 z);
          far = sym (append-nil (so_far s));
          ends = q.0;
          keeps = λ x. refl;
        })
    here false z h = absurd cc

-- a line, and those behind it
came_first : (s m t : State) (part next : List ℕ) (more : List (List ℕ)) (line : TraceLine) → Fits s line → part ≡ spelled_by s.head line → after s line ≡ m
    → so_far m ≡ so_far s ++ line ∷ [] → Came m (next ∷ more) t → Came s (part ∷ next ∷ more) t
came_first s m t part next more line f spelled leaves far h =
    let keeps : KeepsHead (after s line) t = subst (λ (x : State). KeepsHead x t) (sym leaves) h.keeps in
    let clients = t.head.client_names.names in
    let keys = t.head.key_names.names in
    record {
      lines = line ∷ h.lines;
      text =
          ap (λ (w : List ℕ). w ++ 10 ∷ join_with_byte 10 (next ∷ more)) (spelled ∙ spelled_later s t line keeps)
          ∙ ap (λ (w : List ℕ). spelled_by t.head line ++ 10 ∷ w) h.text
          ∙ sym (append_assoc (spelled_by t.head line) (10 ∷ []) (text_of clients keys h.lines));
      far = h.far ∙ ap (λ (l : List TraceLine). l ++ h.lines) far ∙ append_assoc (so_far s) (line ∷ []) h.lines;
      ends = h.ends;
      keeps = head_before s t line f keeps;
    }

came : (part : List ℕ) (ps : List (List ℕ)) (s t : State) (n : ℕ) → IsKept s → IsOrdered s → read_parts line_result end_result s n (part ∷ ps) ≡ Ok t → Came s (part ∷ ps) t
came part [] s t n k o e = last_part s t n part e
came part (next ∷ more) s t n k o e = here (λ m later order h. came next more m t (next_number n) later order h) (line_result s part) refl e
  where
    here : ((m : State) → IsKept m → IsOrdered m → read_parts line_result end_result m (next_number n) (next ∷ more) ≡ Ok t → Came m (next ∷ more) t)
        → (r : Result State TextFault) → line_result s part ≡ r → go_on n r (λ x. read_parts line_result end_result x (next_number n) (next ∷ more)) ≡ Ok t
        → Came s (part ∷ next ∷ more) t
    here rest (Ok m) is h =
        let small = small_kept s k in
        let w = took s part m small.size small.columns is in
        let a = adds s w.line k o w.fits w.stands in
        let ordered : IsOrdered m = subst (λ (x : State). IsOrdered x) w.leaves a.0 in
        let far : so_far m ≡ so_far s ++ w.line ∷ [] = subst (λ (x : State). so_far x ≡ so_far s ++ w.line ∷ []) w.leaves a.1 in
        came_first s m t part next more w.line w.fits w.spelled w.leaves far
        (rest m (kept_line s part m is k) ordered h)
    here rest (Err fault) is h = absurd cc

-- ---- the whole text

ended_is : (x : Section) → ended x ≡ true → x ≡ sections.Ended
ended_is sections.Start e = absurd cc
ended_is sections.Opened e = absurd cc
ended_is sections.Clients e = absurd cc
ended_is sections.Keys e = absurd cc
ended_is sections.Round e = absurd cc
ended_is sections.Column e = absurd cc
ended_is sections.Log e = absurd cc
ended_is sections.Cell e = absurd cc
ended_is sections.Journal e = absurd cc
ended_is sections.Globals e = absurd cc
ended_is sections.Changes e = absurd cc
ended_is sections.Ended e = refl

text_came : (bytes : List ℕ) (t : State) → state_text bytes ≡ Ok t → bytes ≡ trace_text (history t.head t.rounds)
text_came bytes t e =
    let c = parts_cons bytes in
    let run = history t.head t.rounds in
    let h = came c.0 c.1 nothing t 1 nothing_kept nothing_ordered (ap (read_parts line_result end_result nothing 1) (sym c.2) ∙ e) in
    let lines : h.lines ≡ trace_lines run = sym h.far ∙ ap (λ (x : Section). lines_in x t) (ended_is t.section h.ends) in
    sym (join_with_byte-slice_split 10 bytes) ∙ ap (join_with_byte 10) c.2 ∙ h.text ∙ ap (text_of run.client_names run.key_names) lines

-- a text that gives a run is that run's trace
pub one_spelling : (bytes : List ℕ) (run : History) → run_text bytes ≡ Ok run → bytes ≡ trace_text run
one_spelling bytes run e = here (state_text bytes) refl e
  where
    run_ok : History → Result History Refusal
    run_ok r = Ok r

    ok_run : (x y : History) → run_ok x ≡ run_ok y → x ≡ y
    ok_run x y h = cc

    here : (r : Result State Refusal) → state_text bytes ≡ r → run_of r ≡ Ok run → bytes ≡ trace_text run
    here (Ok t) is h = text_came bytes t is ∙ ap trace_text (ok_run (history t.head t.rounds) run h)
    here (Err refusal) is h = absurd cc
