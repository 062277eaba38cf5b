-- The journal of a tenure replays from the cell of the epoch's base.
use Rattle.std.proofs.Common.{◌≡◌, ◌<◌, ◌≤◌, ℕ, ◌+◌, Bool, true, false, refl, arith, inl, inr, sym, ap, ◌∙◌, List, [], ◌∷◌, ◌++◌, Option, Some, None, subst, cond, not, ◌||◌, ◌&&◌, map, length}
use Rattle.std.specs.Prelude.{slice_get, ◌==◌}
use Rattle.std.proofs.lemmas.Bool.{cases_eq, eq-eqb, eqb-true}
use Rattle.std.proofs.lemmas.List.{append-nil, append_assoc}
use Rattle.std.proofs.lemmas.Option.{same_Some}
use Rattle.mk_lists.specs.Among.{Each, Each-append}
use Rattle.mk_lists.proofs.Places.{slice_get-replicate}
use Rattle.mk_words.proofs.JournalLaws.{EachAnswered-append, cell_through-append}
use Rattle.mk_epoch_laws.proofs.Turning.{answer_given}
use Rattle.mk_words.specs.declared.JournalEntry.{JournalEntry}
use Rattle.mk_words.specs.Cells.{CellState, first_cell}
use Rattle.mk_words.specs.Journals.{cell_through, EachAnswered}
use Rattle.mk_quorum.specs.Sizes.{members}
use Rattle.mk_words.specs.Bases.{BaseState, empty_base}
use Rattle.mk_words.specs.Rebuilding.{rebuilt}
use Rattle.mk_words.specs.declared.GlobalEntry.{GlobalEntry}
use Rattle.mk_model.specs.EpochState.{EpochState, ReplicaState, first_replica, made_for, base_for}
use Rattle.mk_model.specs.GlobalAnswers.{global_answer, lacks, is_accepted}
use Rattle.mk_model.specs.GlobalSteps.{IsAnswer, global_after, base_or_empty}
use Rattle.mk_column_laws.specs.Moments.{has_number}
use Rattle.mk_history.specs.declared.RoundLog.{RoundLog}
use Rattle.mk_history.specs.Histories.{History, journal_of}
use Rattle.mk_history.specs.Legality.{EachGlobalAnswered, EachRoundLegal}
use Rattle.mk_history.specs.Wholes.{WholeState, first_state, cell_of, after_logs, after_global, after_line, globals_through, after_round, state_through, handed_in}
use Rattle.mk_run_laws.specs.RunEvents.{emptied_by}
use Rattle.mk_run_laws.specs.Tenures.{DatedEntry, dated_at, has_epoch, tenure_from, tenure_of, entries_in, TenuresReplay, AreInOrder, TenuresAscend}
use Rattle.mk_run_laws.proofs.Standing.{At, Stands, HasIt, IsPast, line_stands}
use Rattle.mk_run_laws.proofs.Born.{NotIt, line_born, global_made, globals_made, rounds_made}
use Rattle.mk_run_laws.proofs.Cells.{LineCell, HasCell, has_cell, cell_first, cell_after_logs, line_cell}

-- ---- lists of entries

pub entries_in-append : (one other : List DatedEntry) → entries_in (one ++ other) ≡ entries_in one ++ entries_in other
entries_in-append [] other = refl
entries_in-append (d ∷ one) other = ap (λ (es : List JournalEntry). d.entry ∷ es) (entries_in-append one other)

entries_in-dated : (n : ℕ) (journal : List JournalEntry) → entries_in (map (dated_at n) journal) ≡ journal
entries_in-dated n [] = refl
entries_in-dated n (entry ∷ journal) = ap (λ (es : List JournalEntry). entry ∷ es) (entries_in-dated n journal)

-- the part of a round
abbrev part : Bool → List JournalEntry → List JournalEntry
part b journal = cond b journal []

part_dated : (b : Bool) (n : ℕ) (journal : List JournalEntry) → entries_in (cond b (map (dated_at n) journal) []) ≡ part b journal
part_dated true n journal = entries_in-dated n journal
part_dated false n journal = refl

-- ---- whether a replica has the epoch

has_true : (e : ℕ) (x : ReplicaState) → HasIt e x → has_epoch e (Some x) ≡ true
has_true e x h = let lost = h.1 in let k = eq-eqb x.adopted e h.2 in grind (arith, lost, k)

has_not : (e : ℕ) (x : ReplicaState) → NotIt e x → has_epoch e (Some x) ≡ false
has_not e x (inl lost) = grind (arith, lost)
has_not e x (inr apart) = by (x.adopted == e) refl
  where
    by : (b : Bool) → (x.adopted == e) ≡ b → (not (lacks x.phase) && b) ≡ false
    by true k = absurd (apart (eqb-true x.adopted e k))
    by false k = grind arith

past_not : (e : ℕ) (x : ReplicaState) → IsPast e x → NotIt e x
past_not e x (le, inl lost) = inl lost
past_not e x (le, inr beyond) = inr (λ same. omega (arith, same, beyond))

module _ (run : History) (r e key : ℕ) (lt : key < length run.key_names) (base : BaseState) where
  abbrev opening : CellState
  opening = rebuilt base key

  -- the epoch never came, or it came, and while it is there the cell is where its journal leads
  pub data Tenured (state : WholeState) (cell : CellState) (journal : List JournalEntry) : Type 0 where
    Never : 0 < e → At (NotIt e) r state.epochs.replicas → journal ≡ [] → Tenured state cell journal
    Now : At (HasIt e) r state.epochs.replicas → cell ≡ cell_through opening journal → Tenured state cell journal
    Once : At (IsPast e) r state.epochs.replicas → Tenured state cell journal

  -- the cell is there, what was done was answered, and the tenure is one of the three
  pub record Kept (state : WholeState) (journal : List JournalEntry) : Type 0 where
    pub cell : CellState
    pub has : HasCell state r key cell
    pub answered : EachAnswered opening journal
    pub tenured : Tenured state cell journal

  -- the epoch's base, where it is made, is this one
  abbrev Fits : EpochState → Type 0
  Fits state = 0 < e → (b : BaseState) → made_for e state ≡ Some b → b ≡ base

  -- the whole after an accepted line
  abbrev after_accepted : WholeState → GlobalEntry → WholeState
  after_accepted state entry =
      let parts = after_line run entry.line state in
      record parts { epochs = global_after state.epochs (handed_in state entry.line) entry.line }

  accepted_line : (state : WholeState) (entry : GlobalEntry) (journal : List JournalEntry) → IsAnswer state.epochs entry.line entry.answer → Fits state.epochs → is_accepted entry.answer ≡ true →
      Kept state journal → Kept (after_accepted state entry) journal
  accepted_line state entry journal answered fits is k =
      let c = line_cell run state r key k.cell lt k.has entry.line in
      let given = answer_given state.epochs entry.line entry.answer answered is in
      record { cell = c.after; has = c.has; answered = k.answered; tenured = by k.cell c given k.tenured }
    where
      stands : (old cell : CellState) → (has_number (emptied_by entry.line) r ≡ false → cell ≡ old) → (x : ReplicaState) → slice_get (after_accepted state entry).epochs.replicas r ≡ Some x →
          Stands e (false || has_number (emptied_by entry.line) r) x → old ≡ cell_through opening journal → Tenured (after_accepted state entry) cell journal
      stands old cell stays x at (inl h) same = Now (x, at, h.0) (stays h.1 ∙ same)
      stands old cell stays x at (inr h) same = Once (x, at, h)

      past : (cell : CellState) (x : ReplicaState) → slice_get (after_accepted state entry).epochs.replicas r ≡ Some x → Stands e (true || has_number (emptied_by entry.line) r) x →
          Tenured (after_accepted state entry) cell journal
      past cell x at (inl h) = absurd (cc h.1)
      past cell x at (inr h) = Once (x, at, h)

      by : (old : CellState) (c : LineCell run entry.line state r key old) → is_accepted (global_answer state.epochs entry.line) ≡ true → Tenured state old journal →
          Tenured (after_accepted state entry) c.after journal
      by old c given (Now (x, at, h) same) =
          let s = line_stands state.epochs (handed_in state entry.line) e r false entry.line given (x, at, inl (h, refl)) in
          stands old c.after c.stays s.0 s.1 s.2 same
      by old c given (Once (x, at, h)) =
          let s = line_stands state.epochs (handed_in state entry.line) e r true entry.line given (x, at, inr h) in
          past c.after s.0 s.1 s.2
      by old c given (Never up h none) = elim (line_born state.epochs (handed_in state entry.line) e r entry.line given h) [
        | inl still ↦ Never up still none
        | inr born ↦ (let made = born.1 in
            Now born.2 (
            c.taken e born.0 ∙ ap (λ (o : Option BaseState). rebuilt (base_or_empty o) key) made.1 ∙ ap (λ (b : BaseState). rebuilt b key) (fits up made.0 made.1)
            ∙ ap (cell_through opening) (sym none)
            ))
      ]

  kept_global : (state : WholeState) (entry : GlobalEntry) (journal : List JournalEntry) → IsAnswer state.epochs entry.line entry.answer → Fits state.epochs → Kept state journal →
      Kept (after_global run state entry) journal
  kept_global state entry journal answered fits k = by (is_accepted entry.answer) refl
    where
      by : (b : Bool) → is_accepted entry.answer ≡ b →
          Kept (let parts = cond b (after_line run entry.line state) state in record parts { epochs = cond b (global_after state.epochs (handed_in state entry.line) entry.line) state.epochs }) journal
      by true is = accepted_line state entry journal answered fits is k
      by false is = k

  kept_globals : (entries : List GlobalEntry) (state : WholeState) (journal : List JournalEntry) → EachGlobalAnswered run state entries → Fits (globals_through run state entries).epochs → Kept state journal →
      Kept (globals_through run state entries) journal
  kept_globals [] state journal answered fits k = k
  kept_globals (entry ∷ entries) state journal answered fits k =
      let next = after_global run state entry in
      kept_globals entries next journal answered.1 fits
      (kept_global state entry journal answered.0
      (λ up b made. fits up b (globals_made e b run entries next (global_made e b run state entry made))) k)

  kept_logs : (round : RoundLog) (state : WholeState) (journal : List JournalEntry) → EachAnswered (cell_of state r key) (journal_of round r key) → Kept state journal →
      Kept (after_logs run round state) (journal ++ part (has_epoch e (slice_get state.epochs.replicas r)) (journal_of round r key))
  kept_logs round state journal replays k = by (journal_of round r key) refl k.tenured
    where
      absent : (more : List JournalEntry) (x : ReplicaState) → slice_get state.epochs.replicas r ≡ Some x → NotIt e x → journal ++ part (has_epoch e (slice_get state.epochs.replicas r)) more ≡ journal
      absent more x at h =
          ap (λ (o : Option ReplicaState). journal ++ part (has_epoch e o) more) at
          ∙ ap (λ (b : Bool). journal ++ part b more) (has_not e x h) ∙ append-nil journal

      done : (t : List JournalEntry) → EachAnswered opening t → Tenured (after_logs run round state) (cell_through k.cell (journal_of round r key)) t → Kept (after_logs run round state) t
      done t answered tenured =
          record { cell = cell_through k.cell (journal_of round r key); has = cell_after_logs run round state r key k.cell k.has; answered = answered; tenured = tenured }

      by : (more : List JournalEntry) → journal_of round r key ≡ more → Tenured state k.cell journal → Kept (after_logs run round state) (journal ++ part (has_epoch e (slice_get state.epochs.replicas r)) more)
      by more is (Never up (x, at, h) none) =
          subst (Kept (after_logs run round state)) (sym (absent more x at h)) (done journal k.answered (Never up (x, at, h) none))
      by more is (Once (x, at, h)) =
          subst (Kept (after_logs run round state)) (sym (absent more x at (past_not e x h))) (done journal k.answered (Once (x, at, h)))
      by more is (Now (x, at, h) same) =
          let there : part (has_epoch e (slice_get state.epochs.replicas r)) more ≡ more =
          ap (λ (o : Option ReplicaState). part (has_epoch e o) more) at ∙ ap (λ (b : Bool). part b more) (has_true e x h) in
          let answers = subst (λ (c : CellState). EachAnswered c (journal_of round r key)) (has_cell state r key k.cell k.has ∙ same) replays in
          subst (λ (t : List JournalEntry). Kept (after_logs run round state) (journal ++ t)) (is ∙ sym there)
          (done (journal ++ journal_of round r key) (EachAnswered-append opening journal (journal_of round r key) k.answered answers)
          (Now (x, at, h) (ap (λ (c : CellState). cell_through c (journal_of round r key)) same ∙ sym (cell_through-append opening journal (journal_of round r key)))))

  kept_rounds : r < members run.faults → (rounds : List RoundLog) (n : ℕ) (state : WholeState) (journal : List JournalEntry) → EachRoundLegal run state rounds →
      Fits (state_through run state rounds).epochs → Kept state journal →
      Kept (state_through run state rounds) (journal ++ entries_in (tenure_from r e key n run state rounds))
  kept_rounds rlt [] n state journal legal fits k = subst (Kept state) (sym (append-nil journal)) k
  kept_rounds rlt (round ∷ rounds) n state journal legal fits k =
      let here = has_epoch e (slice_get state.epochs.replicas r) in
      let more = journal_of round r key in
      let next = after_round run round state in
      let logs = kept_logs round state journal ((legal.0).journals r key rlt lt) k in
      let lines = kept_globals round.globals (after_logs run round state) (journal ++ part here more) (legal.0).globals
      (λ up b made. fits up b (rounds_made e b run rounds next made)) logs in
      let ended : Kept next (journal ++ part here more) = record { cell = lines.cell; has = lines.has; answered = lines.answered; tenured = same_epochs lines.cell (journal ++ part here more) lines.tenured } in
      let later = tenure_from r e key (n + 1) run next rounds in
      let split = entries_in-append (cond here (map (dated_at n) more) []) later ∙ ap (λ (es : List JournalEntry). es ++ entries_in later) (part_dated here n more) in
      subst (Kept (state_through run next rounds)) (append_assoc journal (part here more) (entries_in later) ∙ ap (λ (es : List JournalEntry). journal ++ es) (sym split))
      (kept_rounds rlt rounds (n + 1) next (journal ++ part here more) legal.1 fits ended)
    where
      same_epochs : (cell : CellState) (t : List JournalEntry) → Tenured (globals_through run (after_logs run round state) round.globals) cell t → Tenured (after_round run round state) cell t
      same_epochs cell t (Never up h none) = Never up h none
      same_epochs cell t (Now h same) = Now h same
      same_epochs cell t (Once h) = Once h

first_kept : (run : History) (r e key : ℕ) → r < members run.faults → (lt : key < length run.key_names) → (base : BaseState) → (e ≡ 0 → base ≡ empty_base) → Kept run r e key lt base (first_state run) []
first_kept run r e key rlt lt base first =
    record { cell = first_cell; has = cell_first run r key rlt lt; answered = tt; tenured = by (e == 0) refl }
  where
    at : slice_get (first_state run).epochs.replicas r ≡ Some first_replica
    at = slice_get-replicate (members run.faults) r first_replica rlt

    by : (b : Bool) → (e == 0) ≡ b → Tenured run r e key lt base (first_state run) first_cell []
    by true k =
        let zero = eqb-true e 0 k in
        Now (first_replica, at, (omega (arith, zero), refl, sym zero)) (ap (λ (b : BaseState). rebuilt b key) (sym (first zero)))
    by false k = Never (let apart : (e ≡ 0 → ⊥) = (λ same. absurd (cc (sym k ∙ eq-eqb e 0 same))) in positive e apart) (first_replica, at, inr (λ same. absurd (cc (sym k ∙ eq-eqb e 0 (sym same))))) refl
      where
        positive : (n : ℕ) → (n ≡ 0 → ⊥) → 0 < n
        positive n apart = elim (cases_eq n 0) [ inl same ↦ absurd (apart same) | inr other ↦ grind (arith, other) ]

made_or_first : (e : ℕ) (state : EpochState) (base : BaseState) → base_for e state ≡ Some base → (0 < e → (b : BaseState) → made_for e state ≡ Some b → b ≡ base) × (e ≡ 0 → base ≡ empty_base)
made_or_first e state base is = by (e == 0) refl is
  where
    by : (b : Bool) → (e == 0) ≡ b → cond b (Some empty_base) (made_for e state) ≡ Some base → (0 < e → (b : BaseState) → made_for e state ≡ Some b → b ≡ base) × (e ≡ 0 → base ≡ empty_base)
    by true k is = (λ up b made. absurd (let zero = eqb-true e 0 k in omega (arith, zero, up)), λ zero. same_Some base empty_base (sym is))
    by false k is = (λ up b made. same_Some b base (sym made ∙ is), λ zero. absurd (cc (sym k ∙ eq-eqb e 0 zero)))

replayed_cell : (run : History) (r e key : ℕ) (lt : key < length run.key_names) (base : BaseState) (last : WholeState) (cell : CellState) (journal : List JournalEntry) →
    Tenured run r e key lt base last cell journal → has_epoch e (slice_get last.epochs.replicas r) ≡ true → cell ≡ cell_through (rebuilt base key) journal
replayed_cell run r e key lt base last cell journal t there = by t
  where
    absent : (x : ReplicaState) → slice_get last.epochs.replicas r ≡ Some x → NotIt e x → ⊥
    absent x at h = cc (sym (ap (has_epoch e) at ∙ has_not e x h) ∙ there)

    by : Tenured run r e key lt base last cell journal → cell ≡ cell_through (rebuilt base key) journal
    by (Never up (x, at, h) none) = absurd (absent x at h)
    by (Now h same) = same
    by (Once (x, at, h)) = absurd (absent x at (past_not e x h))

pub tenures_replay : TenuresReplay
tenures_replay run rounds legal r e key rlt lt base is =
    let last = state_through run (first_state run) rounds in
    let fits = made_or_first e last.epochs base is in
    let k = kept_rounds run r e key lt base rlt rounds 1 (first_state run) [] legal fits.0 (first_kept run r e key rlt lt base fits.1) in
    record {
      answered = k.answered;
      leads = λ there. has_cell last r key k.cell k.has ∙ replayed_cell run r e key lt base last k.cell (entries_in (tenure_of run rounds r e key)) k.tenured there;
    }

-- whatever the base, and also where none was made
pub tenure_answered : (run : History) (rounds : List RoundLog) → EachRoundLegal run (first_state run) rounds → (r e key : ℕ) → r < members run.faults → key < length run.key_names →
    (opening : CellState) × EachAnswered opening (entries_in (tenure_of run rounds r e key))
tenure_answered run rounds legal r e key rlt lt = by (base_for e (state_through run (first_state run) rounds).epochs) refl
  where
    unmade : (n : ℕ) (state : EpochState) → base_for n state ≡ None → 0 < n → (b : BaseState) → made_for n state ≡ Some b → b ≡ empty_base
    unmade n state none up b made = absurd (case (n == 0) refl none)
      where
        case : (x : Bool) → (n == 0) ≡ x → cond x (Some empty_base) (made_for n state) ≡ None → ⊥
        case true k is = cc is
        case false k is = cc (sym is ∙ made)

    by : (o : Option BaseState) → base_for e (state_through run (first_state run) rounds).epochs ≡ o → (opening : CellState) × EachAnswered opening (entries_in (tenure_of run rounds r e key))
    by (Some base) k = (rebuilt base key, (tenures_replay run rounds legal r e key rlt lt base k).answered)
    by None k =
        let fits = unmade e (state_through run (first_state run) rounds).epochs k in (
          rebuilt empty_base key,
          (kept_rounds run r e key lt empty_base rlt rounds 1 (first_state run) [] legal fits (first_kept run r e key rlt lt empty_base (λ _. refl))).answered,
        )

-- ---- rounds ascend

all_from : (n k : ℕ) (journal : List JournalEntry) → n ≤ k → Each (λ (d : DatedEntry). n ≤ d.round) (map (dated_at k) journal)
all_from n k [] le = tt
all_from n k (entry ∷ journal) le = (le, all_from n k journal le)

part_from : (b : Bool) (n k : ℕ) (journal : List JournalEntry) → n ≤ k → Each (λ (d : DatedEntry). n ≤ d.round) (cond b (map (dated_at k) journal) [])
part_from true n k journal le = all_from n k journal le
part_from false n k journal le = tt

tenure_after : (r e key n k : ℕ) (run : History) (state : WholeState) (rounds : List RoundLog) → n ≤ k → Each (λ (d : DatedEntry). n ≤ d.round) (tenure_from r e key k run state rounds)
tenure_after r e key n k run state [] le = tt
tenure_after r e key n k run state (round ∷ rounds) le =
    let here = has_epoch e (slice_get state.epochs.replicas r) in
    Each-append (λ (d : DatedEntry). n ≤ d.round) (cond here (map (dated_at k) (journal_of round r key)) []) (tenure_from r e key (k + 1) run (after_round run round state) rounds)
    (part_from here n k (journal_of round r key) le) (tenure_after r e key n (k + 1) run (after_round run round state) rounds (omega (arith, le)))

order_here : (n : ℕ) (journal : List JournalEntry) (later : List DatedEntry) → Each (λ (d : DatedEntry). n ≤ d.round) later → AreInOrder later → AreInOrder (map (dated_at n) journal ++ later)
order_here n [] later from order = order
order_here n (entry ∷ journal) later from order = (
  Each-append (λ (d : DatedEntry). n ≤ d.round) (map (dated_at n) journal) later (all_from n n journal (omega arith)) from,
  order_here n journal later from order,
)

order_part : (b : Bool) (n : ℕ) (journal : List JournalEntry) (later : List DatedEntry) → Each (λ (d : DatedEntry). n ≤ d.round) later → AreInOrder later →
    AreInOrder (cond b (map (dated_at n) journal) [] ++ later)
order_part true n journal later from order = order_here n journal later from order
order_part false n journal later from order = order

ascends : (r e key n : ℕ) (run : History) (state : WholeState) (rounds : List RoundLog) → AreInOrder (tenure_from r e key n run state rounds)
ascends r e key n run state [] = tt
ascends r e key n run state (round ∷ rounds) =
    order_part (has_epoch e (slice_get state.epochs.replicas r)) n (journal_of round r key) (tenure_from r e key (n + 1) run (after_round run round state) rounds)
    (tenure_after r e key n (n + 1) run (after_round run round state) rounds (omega arith)) (ascends r e key (n + 1) run (after_round run round state) rounds)

pub tenures_ascend : TenuresAscend
tenures_ascend run rounds r e key = ascends r e key 1 run (first_state run) rounds
