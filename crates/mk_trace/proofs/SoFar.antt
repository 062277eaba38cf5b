-- The lines that were read so far are those of what was read.
use Rattle.std.proofs.Common.{◌≡◌, ◌⊎◌, ℕ, zero, suc, ◌+◌, ◌≤◌, ◌<◌, true, List, [], ◌∷◌, ◌++◌, length, map, get_or, replicate, refl, sym, ap, subst, ◌∙◌, arith, append_assoc, inl, inr}
use Rattle.std.proofs.lemmas.List.{append-nil, map-append}
use Rattle.mk_lists.specs.Among.{Each}
use Rattle.mk_quorum.specs.Sizes.{members}
use Rattle.mk_words.specs.declared.Step.{Step}
use Rattle.mk_words.specs.declared.JournalEntry.{JournalEntry}
use Rattle.mk_words.specs.declared.GlobalEntry.{GlobalEntry}
use Rattle.mk_history.specs.declared.RoundLog.{RoundLog}
use Rattle.mk_history.specs.Shape.{IsRoundShape}
use Rattle.mk_kept.specs.declared.head.Head.{Head}
use Rattle.mk_kept.specs.Heads.{history}
use Rattle.mk_trace_lines.specs.TraceLines.{TraceLine, key_name}
use Rattle.mk_trace_lines.specs.TraceLines.TraceLine.{Opens, Sizes, Declares, Names, Begins, Heads, Logged, Marks, Kept, Changes, Changed, Ends}
use Rattle.mk_trace_text.specs.declared.section.Section.{Section}
use Rattle.mk_trace_text.specs.declared.section.Section.TheVariants as sections
use Rattle.mk_trace_text.specs.Begun.{seq_of, begun_after, begun_in}
use Rattle.mk_trace_text.specs.Traces.{zeros, client_lines, key_line, logs_lines, journals_lines, change_lines, round_lines, rounds_lines, head_lines}
use Rattle.mk_trace_text.specs.States.{State, nothing, fresh, extended, journaled, closed, after}
use Rattle.mk_trace_text.specs.Grammar.{at_end}
use Rattle.mk_trace.proofs.KeepLaws.{IsKept, InHead, InRound, every, KeptIn, closed_head, closed_round}
use Rattle.mk_trace.proofs.GrownTables.{extended-length}
use Rattle.mk_trace.proofs.LineFits.{Fits}
use Rattle.mk_trace_text.proofs.LinesMore.{client_lines-more, begun_by, begun_by-more, rounds_lines-more, zeros-more}
use Rattle.mk_trace.proofs.Suited.{IsColumnBehind, IsCellBehind}
use Rattle.mk_trace.proofs.LinesBack.{Stands}
use Rattle.mk_trace.proofs.SectionCases.{start_is, size_is, clients_are, keys_are, column_are, cell_are, end_are, log_are, journal_are, changes_are, round_are}
use Rattle.mk_trace.proofs.TablesSoFar.{IsSome, Bare, bare_up, bare_at, bare_push, bare_none, some_there, none_begun, no_log_lines, heading_if, logs_push, begun_push, NoneKept, no_journals, BareCells, HasCell, cell_of, none_kept_from, cells_up, has_cell, cell_bare, cells_next, cells_push, has_push, cell_some, marks_if, journals_push, changes_if, changes_push}

-- ---- what was read so far

-- the heading that still waits for a line of its own
abbrev pub pending : Section → State → List TraceLine
pending sections.Column s = Heads s.column ∷ []
pending sections.Cell s = Marks s.replica s.key ∷ []
pending sections.Globals s = Changes ∷ []
pending _ s = []

-- the lines of the head, and of rounds behind it
abbrev pub with_head : Head → List RoundLog → List TraceLine → List TraceLine
with_head head rounds rest = head_lines (history head []) ++ (rounds_lines (zeros head.client_columns) 0 rounds ++ rest)

abbrev pub lines_in : Section → State → List TraceLine
lines_in sections.Start s = []
lines_in sections.Opened s = Opens s.head.version ∷ []
lines_in sections.Clients s = head_lines (history s.head [])
lines_in sections.Keys s = head_lines (history s.head [])
lines_in sections.Ended s = with_head s.head s.rounds (Ends ∷ [])
lines_in x s = with_head s.head (every s) (pending x s)

-- the lines so far
abbrev pub so_far : State → List TraceLine
so_far s = lines_in s.section s

-- what holds of the tables of the round that goes on
abbrev pub TablesIn : Section → State → Type 0
TablesIn sections.Round s = Bare 0 s.round.logs × NoneKept s.round.journals × (s.round.globals ≡ [])
TablesIn sections.Column s = Bare s.column s.round.logs × (s.column < length s.round.logs) × NoneKept s.round.journals × (s.round.globals ≡ [])
TablesIn sections.Log s =
    Bare (suc s.column) s.round.logs × (s.column < length s.round.logs) × IsSome (get_or s.round.logs s.column []) × NoneKept s.round.journals × (s.round.globals ≡ [])
TablesIn sections.Cell s = BareCells s.replica s.key s.round.journals × HasCell s.replica s.key s.round.journals × (s.round.globals ≡ [])
TablesIn sections.Journal s =
    BareCells s.replica (suc s.key) s.round.journals × HasCell s.replica s.key s.round.journals × IsSome (cell_of s.replica s.key s.round.journals) × (s.round.globals ≡ [])
TablesIn sections.Globals s = s.round.globals ≡ []
TablesIn sections.Changes s = IsSome s.round.globals
TablesIn _ s = Unit {0}

-- in a round: what was begun, and the tables
abbrev InOrder : Section → State → Type 0
InOrder x s = (s.begun ≡ begun_by (zeros s.head.client_columns) (every s)) × TablesIn x s

-- in the head
abbrev pub OrderedIn : Section → State → Type 0
OrderedIn sections.Start s = (s.head.client_columns ≡ []) × (s.head.key_names.names ≡ []) × (s.begun ≡ zeros s.head.client_columns)
OrderedIn sections.Opened s = (s.head.client_columns ≡ []) × (s.head.key_names.names ≡ []) × (s.begun ≡ zeros s.head.client_columns)
OrderedIn sections.Clients s = (s.head.key_names.names ≡ []) × (s.begun ≡ zeros s.head.client_columns)
OrderedIn sections.Keys s = s.begun ≡ zeros s.head.client_columns
OrderedIn sections.Ended s = Unit {0}
OrderedIn x s = InOrder x s

abbrev pub IsOrdered : State → Type 0
IsOrdered s = OrderedIn s.section s

pub nothing_ordered : IsOrdered nothing
nothing_ordered = (refl, refl, refl)

-- a line keeps the order, and stands last
abbrev pub Adds : State → TraceLine → Type 0
Adds s line = IsOrdered (after s line) × (so_far (after s line) ≡ so_far s ++ line ∷ [])

-- from what holds in a section to what holds in the state's own
from_section : (s : State) (x : Section) (line : TraceLine) → s.section ≡ x → IsKept s → IsOrdered s
    → (KeptIn x s → OrderedIn x s → IsOrdered (after s line) × (so_far (after s line) ≡ lines_in x s ++ line ∷ [])) → Adds s line
from_section s x line e k o f =
    let r = f (subst (λ (y : Section). KeptIn y s) e k) (subst (λ (y : Section). OrderedIn y s) e o) in
    (r.0, r.1 ∙ ap (λ (y : Section). lines_in y s ++ line ∷ []) (sym e))

-- ---- the head

key_at_end : (names : List (List ℕ)) (name : List ℕ) (n : ℕ) → length names ≡ n → key_name (names ++ name ∷ []) n ≡ name
key_at_end [] name zero e = refl
key_at_end [] name (suc n) e = absurd (omega (arith, e))
key_at_end (x ∷ names) name zero e = absurd (omega (arith, e))
key_at_end (x ∷ names) name (suc n) e = key_at_end names name n (omega (arith, e))

key_before : (names : List (List ℕ)) (name : List ℕ) (n : ℕ) → n < length names → key_name (names ++ name ∷ []) n ≡ key_name names n
key_before [] name n lt = absurd (omega (arith, lt))
key_before (x ∷ names) name zero lt = refl
key_before (x ∷ names) name (suc n) lt = key_before names name n (omega (arith, lt))

-- a name more changes nothing of the lines of those before
clients_same : (names : List (List ℕ)) (name : List ℕ) (n : ℕ) (columns : List ℕ) → n + length columns ≤ length names
    → client_lines (names ++ name ∷ []) n columns ≡ client_lines names n columns
clients_same names name n [] le = refl
clients_same names name n (c ∷ columns) le =
    ap (λ (w : List ℕ). Declares w c ∷ client_lines (names ++ name ∷ []) (n + 1) columns) (key_before names name n (omega (arith, le)))
    ∙ ap (λ (l : List TraceLine). Declares (key_name names n) c ∷ l) (clients_same names name (n + 1) columns (omega (arith, le)))

clients_more : (names : List (List ℕ)) (name : List ℕ) (columns : List ℕ) (c : ℕ) → length names ≡ length columns
    → client_lines (names ++ name ∷ []) 0 (columns ++ c ∷ []) ≡ client_lines names 0 columns ++ Declares name c ∷ []
clients_more names name columns c e =
    client_lines-more (names ++ name ∷ []) 0 columns c
    ∙ ap (λ (l : List TraceLine). l ++ Declares (key_name (names ++ name ∷ []) (0 + length columns)) c ∷ []) (clients_same names name 0 columns (omega (arith, e)))
    ∙ ap (λ (w : List ℕ). client_lines names 0 columns ++ Declares w c ∷ []) (key_at_end names name (0 + length columns) (omega (arith, e)))

adds_opens : (s : State) (v : ℕ) → IsKept s → IsOrdered s → Fits s (Opens v) → Adds s (Opens v)
adds_opens s v k o f = from_section s sections.Start (Opens v) (start_is s.section f.0) k o (λ kept h. (h, refl))

adds_sizes : (s : State) (n : ℕ) → IsKept s → IsOrdered s → Fits s (Sizes n) → Adds s (Sizes n)
adds_sizes s n k o f =
    from_section s sections.Opened (Sizes n) (size_is s.section f.0) k o (λ kept h. (
      (h.1, h.2),
      ap (λ (cs : List ℕ). Opens s.head.version ∷ Sizes n ∷ (client_lines s.head.client_names.names 0 cs ++ map key_line s.head.key_names.names)) h.0
          ∙ ap (λ (keys : List (List ℕ)). Opens s.head.version ∷ Sizes n ∷ map key_line keys) h.1,
    ))

adds_declares : (s : State) (name : List ℕ) (c : ℕ) → IsKept s → IsOrdered s → Fits s (Declares name c) → Adds s (Declares name c)
adds_declares s name c k o f =
    let e = clients_are s.section f.0 in
    let kept : InHead s = (subst (λ (y : Section). KeptIn y s) e k).0 in
    let h = subst (λ (y : Section). OrderedIn y s) e o in
    let names = s.head.client_names.names in
    let columns = s.head.client_columns in
    let opening = λ (l : List TraceLine). Opens s.head.version ∷ Sizes s.head.size ∷ l in
    let same : client_lines (names ++ name ∷ []) 0 (columns ++ c ∷ []) ++ map key_line s.head.key_names.names
    ≡ (client_lines names 0 columns ++ map key_line s.head.key_names.names) ++ Declares name c ∷ [] =
    ap (λ (l : List TraceLine). l ++ map key_line s.head.key_names.names) (clients_more names name columns c kept.head.clients)
    ∙ ap (λ (keys : List (List ℕ)). (client_lines names 0 columns ++ Declares name c ∷ []) ++ map key_line keys) h.0
    ∙ append-nil (client_lines names 0 columns ++ Declares name c ∷ [])
    ∙ sym (ap (λ (keys : List (List ℕ)). (client_lines names 0 columns ++ map key_line keys) ++ Declares name c ∷ []) h.0
    ∙ ap (λ (l : List TraceLine). l ++ Declares name c ∷ []) (append-nil (client_lines names 0 columns))) in
    let ordered : OrderedIn sections.Clients (after s (Declares name c)) =
    (h.0, ap (λ (b : List ℕ). b ++ 0 ∷ []) h.1 ∙ sym (zeros-more columns c)) in (
      subst (λ (y : Section). OrderedIn y (after s (Declares name c))) (sym e) ordered,
      ap (λ (y : Section). lines_in y (after s (Declares name c))) e ∙ ap opening same ∙ ap (λ (y : Section). lines_in y s ++ Declares name c ∷ []) (sym e),
    )

names_more : (s : State) (name : List ℕ) → head_lines (history (after s (Names name)).head []) ≡ head_lines (history s.head []) ++ Names name ∷ []
names_more s name =
    let front = client_lines s.head.client_names.names 0 s.head.client_columns in
    ap (λ (l : List TraceLine). Opens s.head.version ∷ Sizes s.head.size ∷ (front ++ l)) (map-append key_line s.head.key_names.names (name ∷ []))
    ∙ ap (λ (l : List TraceLine). Opens s.head.version ∷ Sizes s.head.size ∷ l) (sym (append_assoc front (map key_line s.head.key_names.names) (Names name ∷ [])))

adds_names : (s : State) (name : List ℕ) → IsKept s → IsOrdered s → Fits s (Names name) → Adds s (Names name)
adds_names s name k o f = at (keys_are s.section f.0)
  where
    at : (s.section ≡ sections.Clients) ⊎ (s.section ≡ sections.Keys) → Adds s (Names name)
    at (inl e) = from_section s sections.Clients (Names name) e k o (λ kept h. (h.1, names_more s name))
    at (inr e) = from_section s sections.Keys (Names name) e k o (λ kept h. (h, names_more s name))

-- ---- rounds

-- the rounds that were closed, where a round begins or the text ends: no line waits
closed_lines : (s : State) → IsKept s → IsOrdered s → at_end s.section ≡ true
    → (so_far s ≡ with_head s.head (every s) []) × InRound s × (s.begun ≡ begun_by (zeros s.head.client_columns) (every s))
closed_lines s k o e = at (end_are s.section e)
  where
    from : (x : Section) → s.section ≡ x → (KeptIn x s → InRound s) → (OrderedIn x s → s.begun ≡ begun_by (zeros s.head.client_columns) (every s))
        → lines_in x s ≡ with_head s.head (every s) []
        → (so_far s ≡ with_head s.head (every s) []) × InRound s × (s.begun ≡ begun_by (zeros s.head.client_columns) (every s))
    from x is f g l = (ap (λ (y : Section). lines_in y s) is ∙ l, f (subst (λ (y : Section). KeptIn y s) is k), g (subst (λ (y : Section). OrderedIn y s) is o))

    at : (s.section ≡ sections.Round) ⊎ ((s.section ≡ sections.Log) ⊎ ((s.section ≡ sections.Journal) ⊎ (s.section ≡ sections.Changes)))
        → (so_far s ≡ with_head s.head (every s) []) × InRound s × (s.begun ≡ begun_by (zeros s.head.client_columns) (every s))
    at (inl is) = from sections.Round is (λ h. h) (λ h. h.0) refl
    at (inr (inl is)) = from sections.Log is (λ h. h) (λ h. h.0) refl
    at (inr (inr (inl is))) = from sections.Journal is (λ h. h) (λ h. h.0) refl
    at (inr (inr (inr is))) = from sections.Changes is (λ h. h) (λ h. h.0) refl

none_kept : (n keys : ℕ) → NoneKept (replicate n (replicate keys []))
none_kept zero keys = tt
none_kept (suc n) keys = (bare_none keys [] refl, none_kept n keys)

-- a fresh round has its heading alone
fresh_lines : (head : Head) (begun : List ℕ) (n : ℕ) → round_lines begun n (fresh head) ≡ Begins (n + 1) ∷ []
fresh_lines head begun n =
    ap (λ (l : List TraceLine). Begins (n + 1) ∷ (l ++ (journals_lines 0 (fresh head).journals ++ []))) (no_log_lines begun (fresh head).logs (bare_none head.columns [] refl))
    ∙ ap (λ (l : List TraceLine). Begins (n + 1) ∷ (l ++ [])) (no_journals 0 (fresh head).journals (none_kept (members head.size) (length head.key_names.names)))

-- one line more behind the rounds
one_more : (front rounds extra : List TraceLine) (line : TraceLine) → front ++ ((rounds ++ (extra ++ line ∷ [])) ++ []) ≡ (front ++ (rounds ++ extra)) ++ line ∷ []
one_more front rounds extra line =
    ap (λ (l : List TraceLine). front ++ l) (append-nil (rounds ++ (extra ++ line ∷ [])) ∙ sym (append_assoc rounds extra (line ∷ [])))
    ∙ sym (append_assoc front (rounds ++ extra) (line ∷ []))

begins_more : (s : State) (n : ℕ) (rounds : List RoundLog) → closed s ≡ rounds → length rounds ≡ s.count → n ≡ s.count + 1
    → with_head s.head (every (after s (Begins n))) [] ≡ (head_lines (history s.head []) ++ (rounds_lines (zeros s.head.client_columns) 0 rounds ++ [])) ++ Begins n ∷ []
begins_more s n rounds c counts e =
    let zero_begun = zeros s.head.client_columns in
    let front = head_lines (history s.head []) in
    let old = rounds_lines zero_begun 0 rounds in
    let grown : rounds_lines zero_begun 0 (closed s ++ fresh s.head ∷ []) ≡ old ++ ([] ++ Begins n ∷ []) =
    ap (λ (l : List RoundLog). rounds_lines zero_begun 0 (l ++ fresh s.head ∷ [])) c
    ∙ rounds_lines-more zero_begun 0 rounds (fresh s.head)
    ∙ ap (λ (l : List TraceLine). old ++ l) (fresh_lines s.head (begun_by zero_begun rounds) (0 + length rounds)
    ∙ ap (λ (k : ℕ). Begins k ∷ []) (number (length rounds) s.count n counts e)) in
    ap (λ (l : List TraceLine). front ++ (l ++ [])) grown ∙ one_more front old [] (Begins n)
  where
    number : (a b n : ℕ) → a ≡ b → n ≡ b + 1 → (0 + a) + 1 ≡ n
    number a b n x y = omega (arith, x, y)

fresh_begun : (s : State) (n : ℕ) (rounds : List RoundLog) → closed s ≡ rounds → s.begun ≡ begun_by (zeros s.head.client_columns) rounds
    → s.begun ≡ begun_by (zeros s.head.client_columns) (every (after s (Begins n)))
fresh_begun s n rounds c e =
    let zero_begun = zeros s.head.client_columns in
    e ∙ sym (ap (λ (l : List RoundLog). begun_by zero_begun (l ++ fresh s.head ∷ [])) c ∙ begun_by-more zero_begun rounds (fresh s.head)
    ∙ none_begun (begun_by zero_begun rounds) (fresh s.head).logs (bare_none s.head.columns [] refl))

fresh_tables : (s : State) (n : ℕ) → TablesIn sections.Round (after s (Begins n))
fresh_tables s n = (bare_none s.head.columns [] refl, none_kept (members s.head.size) (length s.head.key_names.names), refl)

adds_begins : (s : State) (n : ℕ) → IsKept s → IsOrdered s → Fits s (Begins n) → Stands s (Begins n) → Adds s (Begins n)
adds_begins s n k o f stands = at (round_are s.section f.0)
  where
    first : (x : Section) → s.section ≡ x → (KeptIn x s → InHead s) → (OrderedIn x s → s.begun ≡ zeros s.head.client_columns) → lines_in x s ≡ head_lines (history s.head [])
        → Adds s (Begins n)
    first x e in_head begun lines =
        let kept = in_head (subst (λ (y : Section). KeptIn y s) e k) in
        let none = closed_head s kept in
        let ordered = begun (subst (λ (y : Section). OrderedIn y s) e o) in (
          (fresh_begun s n [] none ordered, fresh_tables s n),
          begins_more s n [] none (sym kept.count) stands
              ∙ ap (λ (l : List TraceLine). l ++ Begins n ∷ []) (append-nil (head_lines (history s.head [])) ∙ sym lines ∙ ap (λ (y : Section). lines_in y s) (sym e)),
        )

    at : (s.section ≡ sections.Clients) ⊎ ((s.section ≡ sections.Keys) ⊎ (at_end s.section ≡ true)) → Adds s (Begins n)
    at (inl e) = first sections.Clients e (λ h. h.0) (λ h. h.1) refl
    at (inr (inl e)) = first sections.Keys e (λ h. h.0) (λ h. h) refl
    at (inr (inr e)) =
        let h = closed_lines s k o e in
        let c = closed_round s h.1 in (
          (fresh_begun s n (every s) c h.2, fresh_tables s n),
          begins_more s n (every s) c h.1.count stands ∙ ap (λ (l : List TraceLine). l ++ Begins n ∷ []) (sym h.0),
        )

-- a heading waits behind the lines so far
waits : (s : State) (line : TraceLine) → (head_lines (history s.head []) ++ (rounds_lines (zeros s.head.client_columns) 0 (every s) ++ line ∷ []))
    ≡ with_head s.head (every s) [] ++ line ∷ []
waits s line =
    let front = head_lines (history s.head []) in
    let old = rounds_lines (zeros s.head.client_columns) 0 (every s) in
    ap (λ (l : List TraceLine). front ++ (l ++ line ∷ [])) (sym (append-nil old)) ∙ sym (append_assoc front (old ++ []) (line ∷ []))

-- the shape of the round that goes on
round_shape : (s : State) → InRound s → IsRoundShape (history s.head []) s.round
round_shape s h = last s.rounds (h.shapes [])
  where
    last : (rounds : List RoundLog) → Each (IsRoundShape (history s.head [])) (rounds ++ s.round ∷ []) → IsRoundShape (history s.head []) s.round
    last [] e = e.0
    last (x ∷ xs) e = last xs e.1

adds_heads : (s : State) (c : ℕ) → IsKept s → IsOrdered s → Fits s (Heads c) → Stands s (Heads c) → Adds s (Heads c)
adds_heads s c k o f stands = at (column_are s.section f)
  where
    low : InRound s → c < length s.round.logs
    low h = (let e = (round_shape s h).logs in let lt = stands.0 in omega (arith, e, lt))

    at : (s.section ≡ sections.Round) ⊎ (s.section ≡ sections.Log) → Adds s (Heads c)
    at (inl e) =
        from_section s sections.Round (Heads c) e k o (λ kept h. ((h.0, (bare_up 0 c s.round.logs (omega arith) h.1.0, low kept, h.1.1, h.1.2)), waits s (Heads c)))
    at (inr e) =
        let behind : s.column < c = subst (λ (y : Section). IsColumnBehind s y c) e stands.1 in
        from_section s sections.Log (Heads c) e k o (λ kept h. (
          (h.0, (bare_up (suc s.column) c s.round.logs (omega (arith, behind)) h.1.0, low kept, h.1.3, h.1.4)),
          waits s (Heads c),
        ))

-- ---- a line more in the round that goes on

round_more : (s : State) (round : RoundLog) (extra : List TraceLine) (line : TraceLine)
    → ((begun : List ℕ) (n : ℕ) → begun ≡ begun_by (zeros s.head.client_columns) s.rounds → round_lines begun n round ≡ round_lines begun n s.round ++ (extra ++ line ∷ []))
    → with_head s.head (s.rounds ++ round ∷ []) [] ≡ with_head s.head (every s) extra ++ line ∷ []
round_more s round extra line grown =
    let zero_begun = zeros s.head.client_columns in
    let front = head_lines (history s.head []) in
    let before = rounds_lines zero_begun 0 s.rounds in
    let begun = begun_by zero_begun s.rounds in
    let n = 0 + length s.rounds in
    let old = rounds_lines zero_begun 0 (every s) in
    let whole : rounds_lines zero_begun 0 (s.rounds ++ round ∷ []) ≡ old ++ (extra ++ line ∷ []) =
    rounds_lines-more zero_begun 0 s.rounds round ∙ ap (λ (l : List TraceLine). before ++ l) (grown begun n refl)
    ∙ sym (append_assoc before (round_lines begun n s.round) (extra ++ line ∷ []))
    ∙ ap (λ (l : List TraceLine). l ++ (extra ++ line ∷ [])) (sym (rounds_lines-more zero_begun 0 s.rounds s.round)) in
    ap (λ (l : List TraceLine). front ++ (l ++ [])) whole ∙ one_more front old extra line

-- what was begun before the round that goes on, and in it
begun_here : (s : State) → s.begun ≡ begun_by (zeros s.head.client_columns) (every s) → s.begun ≡ begun_in (begun_by (zeros s.head.client_columns) s.rounds) s.round.logs
begun_here s e = e ∙ begun_by-more (zeros s.head.client_columns) s.rounds s.round

heading_one : (log : List Step) (c : ℕ) → log ≡ [] → heading_if log c ≡ Heads c ∷ []
heading_one log c e = ap (λ (l : List Step). heading_if l c) e

heading_none : (log : List Step) (c : ℕ) → IsSome log → heading_if log c ≡ []
heading_none [] c h = absurd h
heading_none (x ∷ xs) c h = refl

-- a step: its log is the last one, and nothing stands behind the logs
logged_more : (s : State) (seq : ℕ) (step : Step) (extra : List TraceLine) → s.begun ≡ begun_by (zeros s.head.client_columns) (every s) → seq ≡ seq_of s.begun step
    → s.column < length s.round.logs → Bare (suc s.column) s.round.logs → NoneKept s.round.journals → s.round.globals ≡ []
    → heading_if (get_or s.round.logs s.column []) s.column ≡ extra
    → with_head s.head (every (after s (Logged seq step))) [] ≡ with_head s.head (every s) extra ++ Logged seq step ∷ []
logged_more s seq step extra begun e low bare none empty heading =
    round_more s (after s (Logged seq step)).round extra (Logged seq step) (λ b n is.
    let old = logs_lines b 0 s.round.logs in
    let behind = journals_lines 0 s.round.journals ++ change_lines s.round.globals in
    let nothing_behind : behind ≡ [] =
    ap (λ (l : List TraceLine). l ++ change_lines s.round.globals) (no_journals 0 s.round.journals none) ∙ ap change_lines empty in
    let now : begun_in b s.round.logs ≡ s.begun = ap (λ (x : List ℕ). begun_in x s.round.logs) is ∙ sym (begun_here s begun) in
    let line_is : Logged (seq_of (begun_in b s.round.logs) step) step ≡ Logged seq step =
    ap (λ (x : List ℕ). Logged (seq_of x step) step) now ∙ ap (λ (k : ℕ). Logged k step) (sym e) in
    let pushed : logs_lines b 0 (extended s.round.logs s.column step) ≡ old ++ (extra ++ Logged seq step ∷ []) =
    logs_push b 0 s.round.logs s.column step low bare
    ∙ ap (λ (k : ℕ). old ++ (heading_if (get_or s.round.logs s.column []) k ++ Logged (seq_of (begun_in b s.round.logs) step) step ∷ [])) (none_plus s.column)
    ∙ ap (λ (l : List TraceLine). old ++ (l ++ Logged (seq_of (begun_in b s.round.logs) step) step ∷ [])) heading
    ∙ ap (λ (l : TraceLine). old ++ (extra ++ l ∷ [])) line_is in
    ap (λ (l : List TraceLine). Begins (n + 1) ∷ (logs_lines b 0 (extended s.round.logs s.column step) ++ l)) nothing_behind
    ∙ ap (λ (l : List TraceLine). Begins (n + 1) ∷ l) (append-nil (logs_lines b 0 (extended s.round.logs s.column step)) ∙ pushed)
    ∙ ap (λ (l : List TraceLine). Begins (n + 1) ∷ (l ++ (extra ++ Logged seq step ∷ []))) (sym (append-nil old))
    ∙ ap (λ (l : List TraceLine). Begins (n + 1) ∷ ((old ++ l) ++ (extra ++ Logged seq step ∷ []))) (sym nothing_behind))
  where
    none_plus : (k : ℕ) → 0 + k ≡ k
    none_plus k = omega arith

logged_begun : (s : State) (seq : ℕ) (step : Step) → s.begun ≡ begun_by (zeros s.head.client_columns) (every s) → s.column < length s.round.logs
    → Bare (suc s.column) s.round.logs
    → (after s (Logged seq step)).begun ≡ begun_by (zeros s.head.client_columns) (every (after s (Logged seq step)))
logged_begun s seq step e low bare =
    let b = begun_by (zeros s.head.client_columns) s.rounds in
    ap (λ (x : List ℕ). begun_after x step) (begun_here s e) ∙ sym (begun_push b s.round.logs s.column step low bare)
    ∙ sym (begun_by-more (zeros s.head.client_columns) s.rounds (after s (Logged seq step)).round)

adds_logged : (s : State) (seq : ℕ) (step : Step) → IsKept s → IsOrdered s → Fits s (Logged seq step) → Stands s (Logged seq step) → Adds s (Logged seq step)
adds_logged s seq step k o f stands = at (log_are s.section f.0)
  where
    longer : s.column < length s.round.logs → s.column < length (extended s.round.logs s.column step)
    longer low = (let e = extended-length s.round.logs s.column step in omega (arith, e, low))

    at : (s.section ≡ sections.Column) ⊎ (s.section ≡ sections.Log) → Adds s (Logged seq step)
    at (inl e) = from_section s sections.Column (Logged seq step) e k o (λ kept h.
        let bare = bare_up s.column (suc s.column) s.round.logs (omega arith) h.1.0 in (
          (
            logged_begun s seq step h.0 h.1.1 bare,
            (bare_push s.column s.round.logs step bare, longer h.1.1, some_there s.column s.round.logs step h.1.1, h.1.2, h.1.3),
          ),
          logged_more s seq step (Heads s.column ∷ []) h.0 stands h.1.1 bare h.1.2 h.1.3
              (heading_one (get_or s.round.logs s.column []) s.column (bare_at s.column s.round.logs h.1.0)),
        ))
    at (inr e) = from_section s sections.Log (Logged seq step) e k o (λ kept h. (
      (
        logged_begun s seq step h.0 h.1.1 h.1.0,
        (bare_push s.column s.round.logs step h.1.0, longer h.1.1, some_there s.column s.round.logs step h.1.1, h.1.3, h.1.4),
      ),
      logged_more s seq step [] h.0 stands h.1.1 h.1.0 h.1.3 h.1.4 (heading_none (get_or s.round.logs s.column []) s.column h.1.2),
    ))

adds_marks : (s : State) (r c : ℕ) → IsKept s → IsOrdered s → Fits s (Marks r c) → Stands s (Marks r c) → Adds s (Marks r c)
adds_marks s r c k o f stands = at (cell_are s.section f)
  where
    has : InRound s → HasCell r c s.round.journals
    has h =
        let shape = round_shape s h in
        has_cell r c (length s.head.key_names.names) s.round.journals (let e = shape.journals in let lt = stands.0 in omega (arith, e, lt)) shape.keys stands.1

    at : (s.section ≡ sections.Round) ⊎ ((s.section ≡ sections.Log) ⊎ (s.section ≡ sections.Journal)) → Adds s (Marks r c)
    at (inl e) =
        from_section s sections.Round (Marks r c) e k o (λ kept h. ((h.0, (none_kept_from r c s.round.journals h.1.1, has kept, h.1.2)), waits s (Marks r c)))
    at (inr (inl e)) =
        from_section s sections.Log (Marks r c) e k o (λ kept h. ((h.0, (none_kept_from r c s.round.journals h.1.3, has kept, h.1.4)), waits s (Marks r c)))
    at (inr (inr e)) =
        let behind : (s.replica < r) ⊎ ((r ≡ s.replica) × (s.key < c)) = subst (λ (y : Section). IsCellBehind s y r c) e stands.2 in
        from_section s sections.Journal (Marks r c) e k o (λ kept h. ((h.0, (cells_up s.replica s.key r c s.round.journals behind h.1.0, has kept, h.1.3)), waits s (Marks r c)))

marks_one : (journal : List JournalEntry) (r c : ℕ) → journal ≡ [] → marks_if journal r c ≡ Marks r c ∷ []
marks_one journal r c e = ap (λ (l : List JournalEntry). marks_if l r c) e

marks_none : (journal : List JournalEntry) (r c : ℕ) → IsSome journal → marks_if journal r c ≡ []
marks_none [] r c h = absurd h
marks_none (x ∷ xs) r c h = refl

kept_more : (s : State) (entry : JournalEntry) (extra : List TraceLine) → HasCell s.replica s.key s.round.journals → BareCells s.replica (suc s.key) s.round.journals
    → s.round.globals ≡ [] → marks_if (cell_of s.replica s.key s.round.journals) s.replica s.key ≡ extra
    → with_head s.head (every (after s (Kept entry))) [] ≡ with_head s.head (every s) extra ++ Kept entry ∷ []
kept_more s entry extra has bare empty heading =
    round_more s (after s (Kept entry)).round extra (Kept entry) (λ b n is.
    let logs = logs_lines b 0 s.round.logs in
    let old = journals_lines 0 s.round.journals in
    let new = journals_lines 0 (journaled s.round.journals s.replica s.key entry) in
    let none : change_lines s.round.globals ≡ [] = ap change_lines empty in
    let pushed : new ≡ old ++ (extra ++ Kept entry ∷ []) =
    journals_push 0 s.round.journals s.replica s.key entry has bare
    ∙ ap (λ (k : ℕ). old ++ (marks_if (cell_of s.replica s.key s.round.journals) k s.key ++ Kept entry ∷ [])) (none_plus s.replica)
    ∙ ap (λ (l : List TraceLine). old ++ (l ++ Kept entry ∷ [])) heading in
    ap (λ (l : List TraceLine). Begins (n + 1) ∷ (logs ++ (new ++ l))) none
    ∙ ap (λ (l : List TraceLine). Begins (n + 1) ∷ (logs ++ l)) (append-nil new ∙ pushed)
    ∙ ap (λ (l : List TraceLine). Begins (n + 1) ∷ l) (sym (append_assoc logs old (extra ++ Kept entry ∷ [])))
    ∙ ap (λ (l : List TraceLine). Begins (n + 1) ∷ ((logs ++ l) ++ (extra ++ Kept entry ∷ []))) (sym (append-nil old))
    ∙ ap (λ (l : List TraceLine). Begins (n + 1) ∷ ((logs ++ (old ++ l)) ++ (extra ++ Kept entry ∷ []))) (sym none))
  where
    none_plus : (k : ℕ) → 0 + k ≡ k
    none_plus k = omega arith

-- a round with other journals or global lines begins the same
same_begun : (s : State) (round : RoundLog) → round.logs ≡ s.round.logs → s.begun ≡ begun_by (zeros s.head.client_columns) (every s)
    → s.begun ≡ begun_by (zeros s.head.client_columns) (s.rounds ++ round ∷ [])
same_begun s round e h =
    begun_here s h ∙ ap (begun_in (begun_by (zeros s.head.client_columns) s.rounds)) (sym e) ∙ sym (begun_by-more (zeros s.head.client_columns) s.rounds round)

adds_kept : (s : State) (entry : JournalEntry) → IsKept s → IsOrdered s → Fits s (Kept entry) → Adds s (Kept entry)
adds_kept s entry k o f = at (journal_are s.section f.0)
  where
    at : (s.section ≡ sections.Cell) ⊎ (s.section ≡ sections.Journal) → Adds s (Kept entry)
    at (inl e) = from_section s sections.Cell (Kept entry) e k o (λ kept h.
        let bare = cells_next s.replica s.key s.round.journals h.1.0 in (
          (
            same_begun s (after s (Kept entry)).round refl h.0,
            (cells_push s.replica s.key s.round.journals entry bare, has_push s.replica s.key s.round.journals entry h.1.1, cell_some s.replica s.key s.round.journals entry h.1.1, h.1.2),
          ),
          kept_more s entry (Marks s.replica s.key ∷ []) h.1.1 bare h.1.2
              (marks_one (cell_of s.replica s.key s.round.journals) s.replica s.key (cell_bare s.replica s.key s.round.journals h.1.0)),
        ))
    at (inr e) = from_section s sections.Journal (Kept entry) e k o (λ kept h. (
      (
        same_begun s (after s (Kept entry)).round refl h.0,
        (cells_push s.replica s.key s.round.journals entry h.1.0, has_push s.replica s.key s.round.journals entry h.1.1, cell_some s.replica s.key s.round.journals entry h.1.1, h.1.3),
      ),
      kept_more s entry [] h.1.1 h.1.0 h.1.3 (marks_none (cell_of s.replica s.key s.round.journals) s.replica s.key h.1.2),
    ))

adds_globals : (s : State) → IsKept s → IsOrdered s → Fits s Changes → Adds s Changes
adds_globals s k o f = at (cell_are s.section f)
  where
    at : (s.section ≡ sections.Round) ⊎ ((s.section ≡ sections.Log) ⊎ (s.section ≡ sections.Journal)) → Adds s Changes
    at (inl e) = from_section s sections.Round Changes e k o (λ kept h. ((h.0, h.1.2), waits s Changes))
    at (inr (inl e)) = from_section s sections.Log Changes e k o (λ kept h. ((h.0, h.1.4), waits s Changes))
    at (inr (inr e)) = from_section s sections.Journal Changes e k o (λ kept h. ((h.0, h.1.3), waits s Changes))

changes_one : (globals : List GlobalEntry) → globals ≡ [] → changes_if globals ≡ Changes ∷ []
changes_one globals e = ap changes_if e

changes_none : (globals : List GlobalEntry) → IsSome globals → changes_if globals ≡ []
changes_none [] h = absurd h
changes_none (x ∷ xs) h = refl

changed_more : (s : State) (entry : GlobalEntry) (extra : List TraceLine) → changes_if s.round.globals ≡ extra
    → with_head s.head (every (after s (Changed entry))) [] ≡ with_head s.head (every s) extra ++ Changed entry ∷ []
changed_more s entry extra heading =
    round_more s (after s (Changed entry)).round extra (Changed entry) (λ b n is.
    let logs = logs_lines b 0 s.round.logs in
    let cells = journals_lines 0 s.round.journals in
    let old = change_lines s.round.globals in
    let pushed : change_lines (s.round.globals ++ entry ∷ []) ≡ old ++ (extra ++ Changed entry ∷ []) =
    changes_push s.round.globals entry ∙ ap (λ (l : List TraceLine). old ++ (l ++ Changed entry ∷ [])) heading in
    ap (λ (l : List TraceLine). Begins (n + 1) ∷ (logs ++ (cells ++ l))) pushed
    ∙ ap (λ (l : List TraceLine). Begins (n + 1) ∷ (logs ++ l)) (sym (append_assoc cells old (extra ++ Changed entry ∷ [])))
    ∙ ap (λ (l : List TraceLine). Begins (n + 1) ∷ l) (sym (append_assoc logs (cells ++ old) (extra ++ Changed entry ∷ []))))

some_last : (globals : List GlobalEntry) (entry : GlobalEntry) → IsSome (globals ++ entry ∷ [])
some_last [] entry = tt
some_last (x ∷ xs) entry = tt

adds_changed : (s : State) (entry : GlobalEntry) → IsKept s → IsOrdered s → Fits s (Changed entry) → Adds s (Changed entry)
adds_changed s entry k o f = at (changes_are s.section f.0)
  where
    at : (s.section ≡ sections.Globals) ⊎ (s.section ≡ sections.Changes) → Adds s (Changed entry)
    at (inl e) = from_section s sections.Globals (Changed entry) e k o (λ kept h. (
      (same_begun s (after s (Changed entry)).round refl h.0, some_last s.round.globals entry),
      changed_more s entry (Changes ∷ []) (changes_one s.round.globals h.1),
    ))
    at (inr e) = from_section s sections.Changes (Changed entry) e k o (λ kept h. (
      (same_begun s (after s (Changed entry)).round refl h.0, some_last s.round.globals entry),
      changed_more s entry [] (changes_none s.round.globals h.1),
    ))

adds_ends : (s : State) → IsKept s → IsOrdered s → Fits s Ends → Adds s Ends
adds_ends s k o f =
    let h = closed_lines s k o f in
    let c = closed_round s h.1 in (
      tt,
      ap (λ (l : List RoundLog). with_head s.head l (Ends ∷ [])) c ∙ waits s Ends ∙ ap (λ (l : List TraceLine). l ++ Ends ∷ []) (sym h.0),
    )

-- each line that is read adds itself
pub adds : (s : State) (line : TraceLine) → IsKept s → IsOrdered s → Fits s line → Stands s line → Adds s line
adds s (Opens v) k o f stands = adds_opens s v k o f
adds s (Sizes n) k o f stands = adds_sizes s n k o f
adds s (Declares name c) k o f stands = adds_declares s name c k o f
adds s (Names name) k o f stands = adds_names s name k o f
adds s (Begins n) k o f stands = adds_begins s n k o f stands
adds s (Heads c) k o f stands = adds_heads s c k o f stands
adds s (Logged seq step) k o f stands = adds_logged s seq step k o f stands
adds s (Marks r c) k o f stands = adds_marks s r c k o f stands
adds s (Kept entry) k o f stands = adds_kept s entry k o f
adds s Changes k o f stands = adds_globals s k o f
adds s (Changed entry) k o f stands = adds_changed s entry k o f
adds s Ends k o f stands = adds_ends s k o f
