-- The lines of the journals and of the global lines of a round may come one behind the other.
use Rattle.std.proofs.Common.{◌≡◌, ◌⊎◌, ℕ, suc, ◌+◌, ◌≤◌, ◌<◌, true, List, [], ◌∷◌, ◌++◌, length, map, replicate, Option, Some, None, refl, sym, ap, subst, ◌∙◌, arith, append_assoc, inl, inr}
use Rattle.std.specs.List.{list_all}
use Rattle.std.proofs.lemmas.Bool.{and_parts}
use Rattle.std.proofs.lemmas.List.{append-nil, length-append}
use Rattle.mk_lists.specs.Among.{Each}
use Rattle.mk_quorum.specs.Sizes.{members}
use Rattle.mk_words.specs.declared.JournalEntry.{JournalEntry}
use Rattle.mk_words.specs.declared.GlobalEntry.{GlobalEntry}
use Rattle.mk_history.specs.declared.RoundLog.{RoundLog}
use Rattle.mk_history.specs.Shape.{entry_fits, global_fits}
use Rattle.mk_kept.specs.Heads.{history}
use Rattle.mk_trace_lines.specs.TraceLines.{TraceLine}
use Rattle.mk_trace_lines.specs.TraceLines.TraceLine.{Marks, Kept, Changes, Changed}
use Rattle.mk_trace_text.specs.declared.section.Section.{Section}
use Rattle.mk_trace_text.specs.declared.section.Section.TheVariants as sections
use Rattle.mk_trace_text.specs.Traces.{entry_line, journal_lines, replica_lines, journals_lines, change_line, change_lines}
use Rattle.mk_trace_text.specs.States.{State, journaled, after}
use Rattle.mk_trace_text.specs.Grammar.{before_cell, in_journal, in_changes, at_end}
use Rattle.mk_trace.proofs.FitLaws.{ltb-from}
use Rattle.mk_trace.proofs.Suited.{IsSound, IsCellBehind}
use Rattle.mk_trace.proofs.InTurn.{IsNext, Leads, then, first, none_left}
use Rattle.mk_trace.proofs.LogsInTurn.{extended_at}

abbrev pub Cells : Type 0
Cells = List (List JournalEntry)

pub journaled_at : (front : List Cells) (done : Cells) (xs : List JournalEntry) (rest : Cells) (back : List Cells) (x : JournalEntry)
    → journaled (front ++ (done ++ xs ∷ rest) ∷ back) (length front) (length done) x ≡ front ++ (done ++ (xs ++ x ∷ []) ∷ rest) ∷ back
journaled_at [] done xs rest back x = ap (λ (l : Cells). l ∷ back) (extended_at done xs rest x)
journaled_at (f ∷ front) done xs rest back x = ap (λ (l : List Cells). f ∷ l) (journaled_at front done xs rest back x)

-- in the journal of a replica and a key
abbrev in_cell : State → Section → ℕ → ℕ → List Cells → State
in_cell b x replica key table = record b { section = x; replica = replica; key = key; round = record b.round { journals = table } }

-- behind the logs, or in the journal of this replica and key
abbrev pub cell_at : State → Option (ℕ × ℕ) → List Cells → State
cell_at b None table = record b { round = record b.round { journals = table } }
cell_at b (Some m) table = in_cell b sections.Journal m.0 m.1 table

-- the last journal stands before that of this replica and key
abbrev IsUpTo : ℕ → ℕ → Option (ℕ × ℕ) → Type 0
IsUpTo replica key None = Unit {0}
IsUpTo replica key (Some m) = (m.0 < replica) ⊎ ((replica ≡ m.0) × (m.1 < key))

-- b stands behind the logs of a round, none of whose journals has an entry
module _ (all : List RoundLog) (b : State) (sound : IsSound b.head) (ready : before_cell b.section ≡ true)
    (free : (s : State) (replica key : ℕ) → IsCellBehind s b.section replica key) where
  abbrev To : State → List TraceLine → State → Type 0
  To s lines t = Leads b.head.client_names.names b.head.key_names.names all s lines t

  -- the table, in which the journal of this place has these entries
  abbrev table_at : List Cells → Cells → List JournalEntry → Cells → List Cells → List Cells
  table_at front done xs rest back = front ++ (done ++ xs ∷ rest) ∷ back

  -- one entry more
  entry_leads : (x : Section) → in_journal x ≡ true → (front : List Cells) (done : Cells) (xs : List JournalEntry) (rest : Cells) (back : List Cells)
      (entry : JournalEntry) (lines : List TraceLine) (t : State) → entry_fits (history b.head all) entry ≡ true
      → To (in_cell b sections.Journal (length front) (length done) (table_at front done (xs ++ entry ∷ []) rest back)) lines t
      → To (in_cell b x (length front) (length done) (table_at front done xs rest back)) (entry_line entry ∷ lines) t
  entry_leads x at front done xs rest back entry lines t fits more =
      first b.head.client_names.names b.head.key_names.names all (in_cell b x (length front) (length done) (table_at front done xs rest back))
      (in_cell b sections.Journal (length front) (length done) (table_at front done (xs ++ entry ∷ []) rest back)) t (Kept entry) lines
      (record { sound = sound; suits = (at, fits); spelled = refl })
      (ap (in_cell b sections.Journal (length front) (length done)) (journaled_at front done xs rest back entry))
      more

  entries_lead : (front : List Cells) (done : Cells) (xs : List JournalEntry) (rest : Cells) (back : List Cells) (more : List JournalEntry)
      → list_all (entry_fits (history b.head all)) more ≡ true
      → To (in_cell b sections.Journal (length front) (length done) (table_at front done xs rest back)) (map entry_line more)
      (in_cell b sections.Journal (length front) (length done) (table_at front done (xs ++ more) rest back))
  entries_lead front done xs rest back [] fits =
      none_left b.head.client_names.names b.head.key_names.names all (in_cell b sections.Journal (length front) (length done) (table_at front done xs rest back))
      (in_cell b sections.Journal (length front) (length done) (table_at front done (xs ++ []) rest back))
      (ap (λ (l : List JournalEntry). in_cell b sections.Journal (length front) (length done) (table_at front done l rest back)) (sym (append-nil xs)))
  entries_lead front done xs rest back (entry ∷ more) fits =
      let run = history b.head all in
      let q = and_parts (entry_fits run entry) (list_all (entry_fits run) more) fits in
      entry_leads sections.Journal refl front done xs rest back entry (map entry_line more)
      (in_cell b sections.Journal (length front) (length done) (table_at front done (xs ++ entry ∷ more) rest back)) q.0
      (subst (λ (l : List JournalEntry). To (in_cell b sections.Journal (length front) (length done) (table_at front done (xs ++ entry ∷ []) rest back)) (map entry_line more)
      (in_cell b sections.Journal (length front) (length done) (table_at front done l rest back)))
      (append_assoc xs (entry ∷ []) more)
      (entries_lead front done (xs ++ entry ∷ []) rest back more q.1))

  further : (w : Option (ℕ × ℕ)) (replica key n : ℕ) → key ≤ n → IsUpTo replica key w → IsUpTo replica n w
  further None replica key n le h = tt
  further (Some m) replica key n le (inl h) = inl h
  further (Some m) replica key n le (inr h) = inr (h.0, (let k = h.1 in omega (arith, le, k)))

  later : (w : Option (ℕ × ℕ)) (replica key n : ℕ) → replica < n → IsUpTo replica key w → IsUpTo n 0 w
  later None replica key n lt h = tt
  later (Some m) replica key n lt (inl h) = inl (omega (arith, lt, h))
  later (Some m) replica key n lt (inr h) = inl (let e = h.0 in omega (arith, lt, e))

  marks_next : (w : Option (ℕ × ℕ)) (table : List Cells) (replica key : ℕ) → IsUpTo replica key w → replica < members b.head.size → key < length b.head.key_names.names
      → IsNext b.head.client_names.names b.head.key_names.names all (cell_at b w table) (Marks replica key)
  marks_next None table replica key up low few = record {
    sound = sound;
    suits = (ready, ltb-from replica (members b.head.size) low, few, free (cell_at b None table) replica key);
    spelled = refl;
  }
  marks_next (Some m) table replica key up low few = record { sound = sound; suits = (refl, ltb-from replica (members b.head.size) low, few, up); spelled = refl }

  marks_leaves : (w : Option (ℕ × ℕ)) (table : List Cells) (replica key : ℕ) → after (cell_at b w table) (Marks replica key) ≡ in_cell b sections.Cell replica key table
  marks_leaves None table replica key = refl
  marks_leaves (Some m) table replica key = refl

  -- a journal that is not there, or its heading and its entries
  journal_leads : (w : Option (ℕ × ℕ)) (front : List Cells) (done rest : Cells) (back : List Cells) (journal : List JournalEntry) → IsUpTo (length front) (length done) w
      → length front < members b.head.size → length done < length b.head.key_names.names → list_all (entry_fits (history b.head all)) journal ≡ true
      → (y : Option (ℕ × ℕ)) × IsUpTo (length front) (suc (length done)) y
      × To (cell_at b w (table_at front done [] rest back)) (journal_lines (length front) (length done) journal) (cell_at b y (table_at front done journal rest back))
  journal_leads w front done rest back [] up low few fits = (
    w,
    further w (length front) (length done) (suc (length done)) (omega arith) up,
    none_left b.head.client_names.names b.head.key_names.names all (cell_at b w (table_at front done [] rest back)) (cell_at b w (table_at front done [] rest back)) refl,
  )
  journal_leads w front done rest back (entry ∷ more) up low few fits =
      let q = and_parts (entry_fits (history b.head all) entry) (list_all (entry_fits (history b.head all)) more) fits in
      let s = cell_at b w (table_at front done [] rest back) in
      let m = in_cell b sections.Cell (length front) (length done) (table_at front done [] rest back) in
      let t = in_cell b sections.Journal (length front) (length done) (table_at front done (entry ∷ more) rest back) in (
        Some (length front, length done),
        inr (refl, omega arith),
        first b.head.client_names.names b.head.key_names.names all s m t (Marks (length front) (length done)) (map entry_line (entry ∷ more))
            (marks_next w (table_at front done [] rest back) (length front) (length done) up low few)
            (marks_leaves w (table_at front done [] rest back) (length front) (length done))
            (entry_leads sections.Cell refl front done [] rest back entry (map entry_line more) t q.0 (entries_lead front done (entry ∷ []) rest back more q.1)),
      )

  -- the journals of a replica
  replica_leads : (w : Option (ℕ × ℕ)) (front : List Cells) (done todo : Cells) (back : List Cells) → IsUpTo (length front) (length done) w
      → length front < members b.head.size → length done + length todo ≤ length b.head.key_names.names
      → list_all (list_all (entry_fits (history b.head all))) todo ≡ true
      → (y : Option (ℕ × ℕ)) × IsUpTo (length front) (length done + length todo) y
      × To (cell_at b w (front ++ (done ++ replicate (length todo) []) ∷ back)) (replica_lines (length front) (length done) todo) (cell_at b y (front ++ (done ++ todo) ∷ back))
  replica_leads w front done [] back up low few fits = (
    w,
    further w (length front) (length done) (length done + 0) (omega arith) up,
    none_left b.head.client_names.names b.head.key_names.names all (cell_at b w (front ++ (done ++ []) ∷ back)) (cell_at b w (front ++ (done ++ []) ∷ back)) refl,
  )
  replica_leads w front done (journal ∷ journals) back up low few fits =
      let run = history b.head all in
      let q = and_parts (list_all (entry_fits run) journal) (list_all (list_all (entry_fits run)) journals) fits in
      let rest : Cells = replicate (length journals) [] in
      let one = journal_leads w front done rest back journal up low (omega (arith, few)) q.0 in
      let longer = length-append done (journal ∷ []) in
      let k = replica_leads one.0 front (done ++ journal ∷ []) journals back (further one.0 (length front) (suc (length done)) (length (done ++ journal ∷ [])) (omega (arith, longer)) one.1) low (omega (arith, few, longer)) q.1 in
      let s = cell_at b w (table_at front done [] rest back) in
      let m = cell_at b one.0 (table_at front done journal rest back) in
      let t = cell_at b k.0 (front ++ (done ++ journal ∷ journals) ∷ back) in
      let from : To m (replica_lines (length front) (length done + 1) journals) t =
      subst (λ (n : ℕ). To m (replica_lines (length front) n journals) t) longer
      (subst (λ (l : Cells). To (cell_at b one.0 (front ++ l ∷ back)) (replica_lines (length front) (length (done ++ journal ∷ [])) journals) t) (append_assoc done (journal ∷ []) rest)
      (subst (λ (l : Cells). To (cell_at b one.0 (front ++ ((done ++ journal ∷ []) ++ rest) ∷ back)) (replica_lines (length front) (length (done ++ journal ∷ [])) journals) (cell_at b k.0 (front ++ l ∷ back)))
      (append_assoc done (journal ∷ []) journals) k.2)) in (
        k.0,
        further k.0 (length front) (length (done ++ journal ∷ []) + length journals) (length done + length (journal ∷ journals)) (omega (arith, longer)) k.1,
        then b.head.client_names.names b.head.key_names.names all s m t (journal_lines (length front) (length done) journal) (replica_lines (length front) (length done + 1) journals) one.2 from,
      )

  -- the journals of all replicas
  pub journals_lead : (w : Option (ℕ × ℕ)) (front todo : List Cells) → IsUpTo (length front) 0 w → length front + length todo ≤ members b.head.size
      → Each (λ replica. length replica ≡ length b.head.key_names.names) todo → list_all (list_all (list_all (entry_fits (history b.head all)))) todo ≡ true
      → (y : Option (ℕ × ℕ))
      × To (cell_at b w (front ++ replicate (length todo) (replicate (length b.head.key_names.names) []))) (journals_lines (length front) todo) (cell_at b y (front ++ todo))
  journals_lead w front [] up low keys fits =
      (w, none_left b.head.client_names.names b.head.key_names.names all (cell_at b w (front ++ [])) (cell_at b w (front ++ [])) refl)
  journals_lead w front (replica ∷ replicas) up low keys fits =
      let run = history b.head all in
      let q = and_parts (list_all (list_all (entry_fits run)) replica) (list_all (list_all (list_all (entry_fits run))) replicas) fits in
      let bare : Cells = replicate (length b.head.key_names.names) [] in
      let back : List Cells = replicate (length replicas) bare in
      let one = replica_leads w front [] replica back up (omega (arith, low)) (let e = keys.0 in omega (arith, e)) q.0 in
      let longer = length-append front (replica ∷ []) in
      let k = journals_lead one.0 (front ++ replica ∷ []) replicas (later one.0 (length front) (0 + length replica) (length (front ++ replica ∷ [])) (omega (arith, longer)) one.1) (omega (arith, low, longer)) keys.1 q.1 in
      let s = cell_at b w (front ++ bare ∷ back) in
      let m = cell_at b one.0 (front ++ replica ∷ back) in
      let t = cell_at b k.0 (front ++ replica ∷ replicas) in
      let whole : To s (replica_lines (length front) 0 replica) m =
      subst (λ (n : ℕ). To (cell_at b w (front ++ replicate n [] ∷ back)) (replica_lines (length front) 0 replica) m) keys.0 one.2 in
      let from : To m (journals_lines (length front + 1) replicas) t =
      subst (λ (n : ℕ). To m (journals_lines n replicas) t) longer
      (subst (λ (l : List Cells). To (cell_at b one.0 l) (journals_lines (length (front ++ replica ∷ [])) replicas) t) (append_assoc front (replica ∷ []) back)
      (subst (λ (l : List Cells). To (cell_at b one.0 ((front ++ replica ∷ []) ++ back)) (journals_lines (length (front ++ replica ∷ [])) replicas) (cell_at b k.0 l)) (append_assoc front (replica ∷ []) replicas) k.1)) in (
        k.0,
        then b.head.client_names.names b.head.key_names.names all s m t (replica_lines (length front) 0 replica) (journals_lines (length front + 1) replicas) whole from,
      )

-- ---- global lines

-- b stands behind the journals of a round that has no global line yet
module _ (all : List RoundLog) (b : State) (sound : IsSound b.head) (ready : before_cell b.section ≡ true) where
  abbrev ToChange : State → List TraceLine → State → Type 0
  ToChange s lines t = Leads b.head.client_names.names b.head.key_names.names all s lines t

  abbrev in_globals : Section → ℕ → List GlobalEntry → State
  in_globals x changes entries = record b { section = x; changes = changes; round = record b.round { globals = entries } }

  -- one global line more
  change_leads : (x : Section) → in_changes x ≡ true → (n : ℕ) (xs : List GlobalEntry) (entry : GlobalEntry) (lines : List TraceLine) (t : State)
      → global_fits (history b.head all) entry ≡ true → n < 256 → ToChange (in_globals sections.Changes (n + 1) (xs ++ entry ∷ [])) lines t
      → ToChange (in_globals x n xs) (change_line entry ∷ lines) t
  change_leads x at n xs entry lines t fits few more =
      first b.head.client_names.names b.head.key_names.names all (in_globals x n xs) (in_globals sections.Changes (n + 1) (xs ++ entry ∷ [])) t (Changed entry) lines
      (record { sound = sound; suits = (at, few, fits); spelled = refl }) refl more

  none_more : (n : ℕ) → n ≡ n + 0
  none_more n = omega arith

  one_more : (n m : ℕ) → (n + 1) + m ≡ n + suc m
  one_more n m = omega arith

  changes_more : (n : ℕ) (xs more : List GlobalEntry) → list_all (global_fits (history b.head all)) more ≡ true → n + length more ≤ 256
      → ToChange (in_globals sections.Changes n xs) (map change_line more) (in_globals sections.Changes (n + length more) (xs ++ more))
  changes_more n xs [] fits few =
      none_left b.head.client_names.names b.head.key_names.names all (in_globals sections.Changes n xs) (in_globals sections.Changes (n + 0) (xs ++ []))
      (ap (λ (k : ℕ). in_globals sections.Changes k xs) (none_more n) ∙ ap (in_globals sections.Changes (n + 0)) (sym (append-nil xs)))
  changes_more n xs (entry ∷ more) fits few =
      let run = history b.head all in
      let q = and_parts (global_fits run entry) (list_all (global_fits run) more) fits in
      let e = one_more n (length more) in
      change_leads sections.Changes refl n xs entry (map change_line more) (in_globals sections.Changes (n + length (entry ∷ more)) (xs ++ entry ∷ more)) q.0 (omega (arith, few))
      (subst (λ (l : List GlobalEntry). ToChange (in_globals sections.Changes (n + 1) (xs ++ entry ∷ [])) (map change_line more) (in_globals sections.Changes (n + suc (length more)) l))
      (append_assoc xs (entry ∷ []) more)
      (subst (λ (k : ℕ). ToChange (in_globals sections.Changes (n + 1) (xs ++ entry ∷ [])) (map change_line more) (in_globals sections.Changes k ((xs ++ entry ∷ []) ++ more))) e
      (changes_more (n + 1) (xs ++ entry ∷ []) more q.1 (omega (arith, few, e)))))

  -- what stands behind a round
  pub record ChangesLed (globals : List GlobalEntry) : Type 0 where
    pub section : Section
    pub ends : at_end section ≡ true
    pub leads : ToChange (record b { round = record b.round { globals = [] } }) (change_lines globals)
        (record b { section = section; changes = b.changes + length globals; round = record b.round { globals = globals } })

  pub changes_lead : (globals : List GlobalEntry) → at_end b.section ≡ true → list_all (global_fits (history b.head all)) globals ≡ true
      → b.changes + length globals ≤ 256 → ChangesLed globals
  changes_lead [] ended fits few = record {
    section = b.section;
    ends = ended;
    leads = none_left b.head.client_names.names b.head.key_names.names all (record b { round = record b.round { globals = [] } })
        (record b { section = b.section; changes = b.changes + 0; round = record b.round { globals = [] } })
        (ap (λ (n : ℕ). record b { changes = n; round = record b.round { globals = [] } }) (none_more b.changes));
  }
  changes_lead (entry ∷ more) ended fits few =
      let run = history b.head all in
      let q = and_parts (global_fits run entry) (list_all (global_fits run) more) fits in
      let e = one_more b.changes (length more) in
      let t = in_globals sections.Changes (b.changes + length (entry ∷ more)) (entry ∷ more) in
      record {
        section = sections.Changes;
        ends = refl;
        leads = first b.head.client_names.names b.head.key_names.names all (record b { round = record b.round { globals = [] } }) (in_globals sections.Globals b.changes []) t Changes
            (map change_line (entry ∷ more))
            (record { sound = sound; suits = ready; spelled = refl }) refl
            (change_leads sections.Globals refl b.changes [] entry (map change_line more) t q.0 (omega (arith, few))
            (subst (λ (k : ℕ). ToChange (in_globals sections.Changes (b.changes + 1) (entry ∷ [])) (map change_line more) (in_globals sections.Changes k (entry ∷ more))) e
            (changes_more (b.changes + 1) (entry ∷ []) more q.1 (omega (arith, few, e)))));
      }
