-- The lines of tables, of which those behind a place are empty, with one member more.
use Rattle.std.proofs.Common.{◌≡◌, ◌⊎◌, ℕ, zero, suc, ◌+◌, ◌≤◌, ◌<◌, List, [], ◌∷◌, ◌++◌, length, get_or, replicate, refl, sym, ap, ◌∙◌, arith, append_assoc, inl, inr}
use Rattle.std.proofs.lemmas.List.{append-nil, map-append}
use Rattle.mk_lists.specs.Among.{Each}
use Rattle.mk_words.specs.declared.Step.{Step}
use Rattle.mk_words.specs.declared.JournalEntry.{JournalEntry}
use Rattle.mk_words.specs.declared.GlobalEntry.{GlobalEntry}
use Rattle.mk_trace_lines.specs.TraceLines.{TraceLine}
use Rattle.mk_trace_lines.specs.TraceLines.TraceLine.{Heads, Marks, Kept, Changes, Changed}
use Rattle.mk_trace_text.specs.Begun.{begun_after, begun_through, begun_in}
use Rattle.mk_trace_text.specs.Traces.{step_line, log_lines, logs_lines, entry_line, journal_lines, replica_lines, journals_lines, change_line, change_lines}
use Rattle.mk_trace_text.specs.States.{extended, journaled}
use Rattle.mk_trace_text.proofs.LinesMore.{step_lines-more, begun_through-more}

-- it has a member
abbrev pub IsSome : {A : Type 0} → List A → Type 0
IsSome [] = ⊥
IsSome (x ∷ xs) = Unit {0}

some_push : {A : Type 0} (xs : List A) (x : A) → IsSome (xs ++ x ∷ [])
some_push [] x = tt
some_push (y ∷ xs) x = tt

-- from this place on each list is empty
abbrev pub Bare : {A : Type 0} → ℕ → List (List A) → Type 0
Bare n [] = Unit {0}
Bare zero (x ∷ xs) = (x ≡ []) × Bare zero xs
Bare (suc n) (x ∷ xs) = Bare n xs

pub bare_up : {A : Type 0} (n m : ℕ) (xs : List (List A)) → n ≤ m → Bare n xs → Bare m xs
bare_up n m [] le h = tt
bare_up zero zero (x ∷ xs) le h = h
bare_up zero (suc m) (x ∷ xs) le h = bare_up zero m xs (omega arith) h.1
bare_up (suc n) zero (x ∷ xs) le h = absurd (omega (arith, le))
bare_up (suc n) (suc m) (x ∷ xs) le h = bare_up n m xs (omega (arith, le)) h

pub bare_at : {A : Type 0} (n : ℕ) (xs : List (List A)) → Bare n xs → get_or xs n [] ≡ []
bare_at n [] h = refl
bare_at zero (x ∷ xs) h = h.0
bare_at (suc n) (x ∷ xs) h = bare_at n xs h

pub bare_push : {A : Type 0} (i : ℕ) (ls : List (List A)) (x : A) → Bare (suc i) ls → Bare (suc i) (extended ls i x)
bare_push i [] x h = tt
bare_push zero (l ∷ ls) x h = h
bare_push (suc i) (l ∷ ls) x h = bare_push i ls x h

pub bare_none : {A : Type 0} (n : ℕ) (x : List A) → x ≡ [] → Bare zero (replicate n x)
bare_none zero x e = tt
bare_none (suc n) x e = (e, bare_none n x e)

pub some_there : {A : Type 0} (i : ℕ) (ls : List (List A)) (x : A) → i < length ls → IsSome (get_or (extended ls i x) i [])
some_there i [] x lt = absurd (omega (arith, lt))
some_there zero (l ∷ ls) x lt = some_push l x
some_there (suc i) (l ∷ ls) x lt = some_there i ls x (omega (arith, lt))

-- ---- logs

no_logs : (begun : List ℕ) (n : ℕ) (logs : List (List Step)) → Bare zero logs → logs_lines begun n logs ≡ []
no_logs begun n [] h = refl
no_logs begun n (log ∷ logs) h =
    ap (λ (l : List Step). log_lines begun n l ++ logs_lines (begun_through begun l) (n + 1) logs) h.0 ∙ no_logs begun (n + 1) logs h.1

pub none_begun : (begun : List ℕ) (logs : List (List Step)) → Bare zero logs → begun_in begun logs ≡ begun
none_begun begun [] h = refl
none_begun begun (log ∷ logs) h = ap (λ (l : List Step). begun_in (begun_through begun l) logs) h.0 ∙ none_begun begun logs h.1

pub no_log_lines : (begun : List ℕ) (logs : List (List Step)) → Bare zero logs → logs_lines begun 0 logs ≡ []
no_log_lines begun logs h = no_logs begun 0 logs h

-- the heading of a log that has no step yet
abbrev pub heading_if : List Step → ℕ → List TraceLine
heading_if [] column = Heads column ∷ []
heading_if (step ∷ steps) column = []

log_push : (begun : List ℕ) (column : ℕ) (log : List Step) (step : Step)
    → log_lines begun column (log ++ step ∷ []) ≡ log_lines begun column log ++ (heading_if log column ++ step_line (begun_through begun log) step ∷ [])
log_push begun column [] step = refl
log_push begun column (x ∷ xs) step = ap (λ (l : List TraceLine). Heads column ∷ l) (step_lines-more begun (x ∷ xs) step)

plus_none : (n : ℕ) → n + 0 ≡ n
plus_none n = omega arith

shifted : (n m : ℕ) → (n + 1) + m ≡ n + suc m
shifted n m = omega arith

pub logs_push : (begun : List ℕ) (n : ℕ) (logs : List (List Step)) (i : ℕ) (step : Step) → i < length logs → Bare (suc i) logs
    → logs_lines begun n (extended logs i step)
    ≡ logs_lines begun n logs ++ (heading_if (get_or logs i []) (n + i) ++ step_line (begun_in begun logs) step ∷ [])
logs_push begun n [] i step lt h = absurd (omega (arith, lt))
logs_push begun n (log ∷ logs) zero step lt h =
    let own = log_lines begun n log in
    let now = begun_through begun log in
    ap (λ (l : List TraceLine). log_lines begun n (log ++ step ∷ []) ++ l) (no_logs (begun_through begun (log ++ step ∷ [])) (n + 1) logs h)
    ∙ append-nil (log_lines begun n (log ++ step ∷ [])) ∙ log_push begun n log step
    ∙ sym (ap (λ (l : List TraceLine). (own ++ l) ++ (heading_if log (n + 0) ++ step_line (begun_in now logs) step ∷ [])) (no_logs now (n + 1) logs h)
    ∙ ap (λ (l : List TraceLine). l ++ (heading_if log (n + 0) ++ step_line (begun_in now logs) step ∷ [])) (append-nil own)
    ∙ ap (λ (k : ℕ). own ++ (heading_if log k ++ step_line (begun_in now logs) step ∷ [])) (plus_none n)
    ∙ ap (λ (b : List ℕ). own ++ (heading_if log n ++ step_line b step ∷ [])) (none_begun now logs h))
logs_push begun n (log ∷ logs) (suc i) step lt h =
    let own = log_lines begun n log in
    let now = begun_through begun log in
    ap (λ (l : List TraceLine). own ++ l) (logs_push now (n + 1) logs i step (omega (arith, lt)) h)
    ∙ sym (append_assoc own (logs_lines now (n + 1) logs) (heading_if (get_or logs i []) ((n + 1) + i) ++ step_line (begun_in now logs) step ∷ []))
    ∙ ap (λ (k : ℕ). (own ++ logs_lines now (n + 1) logs) ++ (heading_if (get_or logs i []) k ++ step_line (begun_in now logs) step ∷ [])) (shifted n i)

pub begun_push : (begun : List ℕ) (logs : List (List Step)) (i : ℕ) (step : Step) → i < length logs → Bare (suc i) logs
    → begun_in begun (extended logs i step) ≡ begun_after (begun_in begun logs) step
begun_push begun [] i step lt h = absurd (omega (arith, lt))
begun_push begun (log ∷ logs) zero step lt h =
    none_begun (begun_through begun (log ++ step ∷ [])) logs h ∙ begun_through-more begun log step
    ∙ ap (λ (b : List ℕ). begun_after b step) (sym (none_begun (begun_through begun log) logs h))
begun_push begun (log ∷ logs) (suc i) step lt h = begun_push (begun_through begun log) logs i step (omega (arith, lt)) h

-- ---- journals

abbrev pub NoneKept : List (List (List JournalEntry)) → Type 0
NoneKept journals = Each (λ keys. Bare zero keys) journals

no_cells : (replica n : ℕ) (keys : List (List JournalEntry)) → Bare zero keys → replica_lines replica n keys ≡ []
no_cells replica n [] h = refl
no_cells replica n (journal ∷ keys) h =
    ap (λ (l : List JournalEntry). journal_lines replica n l ++ replica_lines replica (n + 1) keys) h.0 ∙ no_cells replica (n + 1) keys h.1

pub no_journals : (n : ℕ) (journals : List (List (List JournalEntry))) → NoneKept journals → journals_lines n journals ≡ []
no_journals n [] h = refl
no_journals n (keys ∷ journals) h =
    ap (λ (l : List TraceLine). l ++ journals_lines (n + 1) journals) (no_cells n 0 keys h.0) ∙ no_journals (n + 1) journals h.1

-- the journals from that of this replica and key on are empty
abbrev pub BareCells : ℕ → ℕ → List (List (List JournalEntry)) → Type 0
BareCells replica key [] = Unit {0}
BareCells zero key (keys ∷ journals) = Bare key keys × NoneKept journals
BareCells (suc replica) key (keys ∷ journals) = BareCells replica key journals

-- there is a journal of this replica and key
abbrev pub HasCell : ℕ → ℕ → List (List (List JournalEntry)) → Type 0
HasCell replica key [] = ⊥
HasCell zero key (keys ∷ journals) = key < length keys
HasCell (suc replica) key (keys ∷ journals) = HasCell replica key journals

-- that journal
abbrev pub cell_of : ℕ → ℕ → List (List (List JournalEntry)) → List JournalEntry
cell_of replica key [] = []
cell_of zero key (keys ∷ journals) = get_or keys key []
cell_of (suc replica) key (keys ∷ journals) = cell_of replica key journals

pub none_kept_from : (replica key : ℕ) (journals : List (List (List JournalEntry))) → NoneKept journals → BareCells replica key journals
none_kept_from replica key [] h = tt
none_kept_from zero key (keys ∷ journals) h = (bare_up zero key keys (omega arith) h.0, h.1)
none_kept_from (suc replica) key (keys ∷ journals) h = none_kept_from replica key journals h.1

pub cells_up : (r k replica key : ℕ) (journals : List (List (List JournalEntry))) → (r < replica) ⊎ ((replica ≡ r) × (k < key))
    → BareCells r (suc k) journals → BareCells replica key journals
cells_up r k replica key [] up h = tt
cells_up zero k zero key (keys ∷ journals) (inl lt) h = absurd (omega (arith, lt))
cells_up zero k zero key (keys ∷ journals) (inr up) h = (bare_up (suc k) key keys (let lt = up.1 in omega (arith, lt)) h.0, h.1)
cells_up zero k (suc replica) key (keys ∷ journals) up h = none_kept_from replica key journals h.1
cells_up (suc r) k zero key (keys ∷ journals) (inl lt) h = absurd (omega (arith, lt))
cells_up (suc r) k zero key (keys ∷ journals) (inr up) h = absurd (let e = up.0 in omega (arith, e))
cells_up (suc r) k (suc replica) key (keys ∷ journals) (inl lt) h = cells_up r k replica key journals (inl (omega (arith, lt))) h
cells_up (suc r) k (suc replica) key (keys ∷ journals) (inr up) h = cells_up r k replica key journals (inr ((let e = up.0 in omega (arith, e)), up.1)) h

pub has_cell : (replica key n : ℕ) (journals : List (List (List JournalEntry))) → replica < length journals → Each (λ keys. length keys ≡ n) journals → key < n
    → HasCell replica key journals
has_cell replica key n [] lt each low = absurd (omega (arith, lt))
has_cell zero key n (keys ∷ journals) lt each low = (let e = each.0 in omega (arith, e, low))
has_cell (suc replica) key n (keys ∷ journals) lt each low = has_cell replica key n journals (omega (arith, lt)) each.1 low

pub cell_bare : (replica key : ℕ) (journals : List (List (List JournalEntry))) → BareCells replica key journals → cell_of replica key journals ≡ []
cell_bare replica key [] h = refl
cell_bare zero key (keys ∷ journals) h = bare_at key keys h.0
cell_bare (suc replica) key (keys ∷ journals) h = cell_bare replica key journals h

pub cells_next : (replica key : ℕ) (journals : List (List (List JournalEntry))) → BareCells replica key journals → BareCells replica (suc key) journals
cells_next replica key [] h = tt
cells_next zero key (keys ∷ journals) h = (bare_up key (suc key) keys (omega arith) h.0, h.1)
cells_next (suc replica) key (keys ∷ journals) h = cells_next replica key journals h

pub cells_push : (replica key : ℕ) (journals : List (List (List JournalEntry))) (entry : JournalEntry) → BareCells replica (suc key) journals
    → BareCells replica (suc key) (journaled journals replica key entry)
cells_push replica key [] entry h = tt
cells_push zero key (keys ∷ journals) entry h = (bare_push key keys entry h.0, h.1)
cells_push (suc replica) key (keys ∷ journals) entry h = cells_push replica key journals entry h

same_length : {A : Type 0} (ls : List (List A)) (i : ℕ) (x : A) → length (extended ls i x) ≡ length ls
same_length [] i x = refl
same_length (l ∷ ls) zero x = refl
same_length (l ∷ ls) (suc i) x = ap suc (same_length ls i x)

pub has_push : (replica key : ℕ) (journals : List (List (List JournalEntry))) (entry : JournalEntry) → HasCell replica key journals
    → HasCell replica key (journaled journals replica key entry)
has_push replica key [] entry h = h
has_push zero key (keys ∷ journals) entry h = (let e = same_length keys key entry in omega (arith, e, h))
has_push (suc replica) key (keys ∷ journals) entry h = has_push replica key journals entry h

pub cell_some : (replica key : ℕ) (journals : List (List (List JournalEntry))) (entry : JournalEntry) → HasCell replica key journals
    → IsSome (cell_of replica key (journaled journals replica key entry))
cell_some replica key [] entry h = absurd h
cell_some zero key (keys ∷ journals) entry h = some_there key keys entry h
cell_some (suc replica) key (keys ∷ journals) entry h = cell_some replica key journals entry h

-- the heading of a journal that has no entry yet
abbrev pub marks_if : List JournalEntry → ℕ → ℕ → List TraceLine
marks_if [] replica key = Marks replica key ∷ []
marks_if (entry ∷ entries) replica key = []

journal_push : (replica key : ℕ) (journal : List JournalEntry) (entry : JournalEntry)
    → journal_lines replica key (journal ++ entry ∷ []) ≡ journal_lines replica key journal ++ (marks_if journal replica key ++ Kept entry ∷ [])
journal_push replica key [] entry = refl
journal_push replica key (x ∷ xs) entry = ap (λ (l : List TraceLine). Marks replica key ∷ l) (map-append entry_line (x ∷ xs) (entry ∷ []))

replica_push : (replica n : ℕ) (keys : List (List JournalEntry)) (i : ℕ) (entry : JournalEntry) → i < length keys → Bare (suc i) keys
    → replica_lines replica n (extended keys i entry) ≡ replica_lines replica n keys ++ (marks_if (get_or keys i []) replica (n + i) ++ Kept entry ∷ [])
replica_push replica n [] i entry lt h = absurd (omega (arith, lt))
replica_push replica n (journal ∷ keys) zero entry lt h =
    let own = journal_lines replica n journal in
    ap (λ (l : List TraceLine). journal_lines replica n (journal ++ entry ∷ []) ++ l) (no_cells replica (n + 1) keys h)
    ∙ append-nil (journal_lines replica n (journal ++ entry ∷ [])) ∙ journal_push replica n journal entry
    ∙ sym (ap (λ (l : List TraceLine). (own ++ l) ++ (marks_if journal replica (n + 0) ++ Kept entry ∷ [])) (no_cells replica (n + 1) keys h)
    ∙ ap (λ (l : List TraceLine). l ++ (marks_if journal replica (n + 0) ++ Kept entry ∷ [])) (append-nil own)
    ∙ ap (λ (k : ℕ). own ++ (marks_if journal replica k ++ Kept entry ∷ [])) (plus_none n))
replica_push replica n (journal ∷ keys) (suc i) entry lt h =
    let own = journal_lines replica n journal in
    ap (λ (l : List TraceLine). own ++ l) (replica_push replica (n + 1) keys i entry (omega (arith, lt)) h)
    ∙ sym (append_assoc own (replica_lines replica (n + 1) keys) (marks_if (get_or keys i []) replica ((n + 1) + i) ++ Kept entry ∷ []))
    ∙ ap (λ (k : ℕ). (own ++ replica_lines replica (n + 1) keys) ++ (marks_if (get_or keys i []) replica k ++ Kept entry ∷ [])) (shifted n i)

pub journals_push : (n : ℕ) (journals : List (List (List JournalEntry))) (replica key : ℕ) (entry : JournalEntry) → HasCell replica key journals
    → BareCells replica (suc key) journals
    → journals_lines n (journaled journals replica key entry)
    ≡ journals_lines n journals ++ (marks_if (cell_of replica key journals) (n + replica) key ++ Kept entry ∷ [])
journals_push n [] replica key entry has h = absurd has
journals_push n (keys ∷ journals) zero key entry has h =
    let own = replica_lines n 0 keys in
    let lead = get_or keys key [] in
    ap (λ (l : List TraceLine). replica_lines n 0 (extended keys key entry) ++ l) (no_journals (n + 1) journals h.1)
    ∙ append-nil (replica_lines n 0 (extended keys key entry)) ∙ replica_push n 0 keys key entry has h.0
    ∙ ap (λ (k : ℕ). own ++ (marks_if lead n k ++ Kept entry ∷ [])) (none_plus key)
    ∙ sym (ap (λ (l : List TraceLine). (own ++ l) ++ (marks_if lead (n + 0) key ++ Kept entry ∷ [])) (no_journals (n + 1) journals h.1)
    ∙ ap (λ (l : List TraceLine). l ++ (marks_if lead (n + 0) key ++ Kept entry ∷ [])) (append-nil own)
    ∙ ap (λ (k : ℕ). own ++ (marks_if lead k key ++ Kept entry ∷ [])) (plus_none n))
  where
    none_plus : (k : ℕ) → 0 + k ≡ k
    none_plus k = omega arith
journals_push n (keys ∷ journals) (suc replica) key entry has h =
    let own = replica_lines n 0 keys in
    let lead = cell_of replica key journals in
    ap (λ (l : List TraceLine). own ++ l) (journals_push (n + 1) journals replica key entry has h)
    ∙ sym (append_assoc own (journals_lines (n + 1) journals) (marks_if lead ((n + 1) + replica) key ++ Kept entry ∷ []))
    ∙ ap (λ (k : ℕ). (own ++ journals_lines (n + 1) journals) ++ (marks_if lead k key ++ Kept entry ∷ [])) (shifted n replica)

-- ---- global lines

-- the heading of global lines, where there is none yet
abbrev pub changes_if : List GlobalEntry → List TraceLine
changes_if [] = Changes ∷ []
changes_if (entry ∷ entries) = []

pub changes_push : (globals : List GlobalEntry) (entry : GlobalEntry)
    → change_lines (globals ++ entry ∷ []) ≡ change_lines globals ++ (changes_if globals ++ Changed entry ∷ [])
changes_push [] entry = refl
changes_push (x ∷ xs) entry = ap (λ (l : List TraceLine). Changes ∷ l) (map-append change_line (x ∷ xs) (entry ∷ []))
