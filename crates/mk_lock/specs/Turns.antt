-- The rule of a key's lock, and what each step tells.
-- Word 0 counts the tickets that were drawn, and word 1 the turns that have ended, both modulo 2^64. Word 2 counts sleepers, and may be any number here. The one slot has the journal.
use Rattle.std.specs.Prelude.{◌≡◌, ◌≢◌, ℕ, zero, suc, ◌+◌, ◌%◌, ◌^◌, ◌<◌, ◌≤◌, ◌⊎◌, List, [], ◌∷◌, ◌++◌, length, slice_index, drop}
use mathlib.Core.Option.{Option, none, some}
use lib.ListN.{get_elem?}
use Rattle.atomic_table.specs.Table.{State, Me, Step}
use Rattle.mk_lists.specs.Among.{Each}
use Rattle.mk_words.specs.declared.JournalEntry.{JournalEntry}
use Rattle.mk_lock.specs.declared.view.Held.{Held}
use Rattle.mk_lock.specs.declared.view.Stage.{Stage}
use Rattle.mk_lock.specs.declared.view.Stage.TheVariants.{Idle, Waiting, InTurn}
use Rattle.mk_lock.specs.declared.view.View.{View}
use Rattle.mk_lock.specs.declared.view.Origin.{Origin}
use Rattle.mk_lock.specs.Entries.{JournalState, of_seat, IsBy}

abbrev pub held : ℕ → List JournalEntry → Held
held number entries = record { number = number; entries = entries }

abbrev pub view : List Held → Stage → View
view hs stage = record { held = hs; stage = stage }

-- the numbers from this one on, so many of them, with no entry
abbrev pub fresh : ℕ → ℕ → List Held
fresh number zero = []
fresh number (suc more) = held number [] ∷ fresh (suc number) more

abbrev pub tickets : Stage → ℕ
tickets Idle = 0
tickets (Waiting ticket) = 1
tickets (InTurn ticket taken) = 1

abbrev pub tickets_of : View → ℕ
tickets_of v = tickets v.stage

abbrev pub seats_of : View → ℕ
seats_of v = length v.held

abbrev pub total : (View → ℕ) → List View → ℕ
total f [] = 0
total f (v ∷ vs) = f v + total f vs

abbrev pub IsInTurn : Stage → Type 0
IsInTurn (InTurn ticket taken) = Unit {0}
IsInTurn _ = ⊥

abbrev pub kept : Origin → List JournalEntry → JournalState
kept key journal = record { opening = key.opening.value.state; entries = journal }

module _ (key : Origin) (next served : ℕ) (journal : List JournalEntry) (holder : ℕ → ℕ) (homes : List (Option JournalState)) (id : ℕ) where
  -- a ticket is one of those out, and this seat's. In its turn the seat has the journal
  abbrev pub Knows : Stage → Type 0
  Knows Idle = Unit {0}
  Knows (Waiting ticket) = (served ≤ ticket) × (ticket < next) × (holder ticket ≡ id)
  Knows (InTurn ticket taken) = (ticket ≡ served) × (ticket < next) × (holder ticket ≡ id) × (taken.value ≡ kept key journal) × (get_elem? homes 0 ≡ some none)

-- the number is this seat's, and its entries in the journal are those of the list
abbrev pub Owns : Origin → List JournalEntry → (ℕ → ℕ) → ℕ → Held → Type 0
Owns key journal owner id h = (h.number < key.seats) × (owner h.number ≡ id) × (of_seat h.number journal ≡ h.entries)

pub record Fits (key : Origin) (next served : ℕ) (journal : List JournalEntry) (owner holder : ℕ → ℕ) (homes : List (Option JournalState)) (id : ℕ) (v : View) : Type 0 where
  pub knows : Knows key next served journal holder homes id v.stage
  pub enough : tickets_of v ≤ seats_of v
  pub owns : Each (Owns key journal owner id) v.held

-- the journal is at home, or out with a seat
abbrev pub IsPlaced : List (Option JournalState) → List View → JournalState → Type 0
IsPlaced homes views x = (get_elem? homes 0 ≡ some (some x)) ⊎ ((id : ℕ) × (v : View) × (get_elem? views id ≡ some v) × IsInTurn v.stage)

pub record IsKept (key : Origin) (s : State JournalState View) : Type 0 where
  pub next : ℕ
  pub served : ℕ
  pub journal : List JournalEntry
  pub owner : ℕ → ℕ
  pub holder : ℕ → ℕ
  pub wide : length s.words ≡ 3
  pub next_word : slice_index s.words 0 ≡ next % 2 ^ 64
  pub served_word : slice_index s.words 1 ≡ served % 2 ^ 64
  pub few : key.seats < 2 ^ 32
  pub out : total tickets_of s.views + served ≡ next
  pub all_held : total seats_of s.views ≡ key.seats
  pub each : (id : ℕ) (v : View) → get_elem? s.views id ≡ some v → Fits key next served journal owner holder s.homes id v
  pub no_stranger : (number : ℕ) → key.seats ≤ number → of_seat number journal ≡ []
  pub placed : IsPlaced s.homes s.views (kept key journal)

abbrev pub begins : Origin → View
begins key = view (fresh 0 key.seats) Idle

abbrev Sat : Type 0
Sat = Me JournalState View

-- the seat has drawn the ticket whose number was found
abbrev pub Drawn : Step JournalState → Sat → ℕ → Sat → Type 0
Drawn st m found n = (ticket : ℕ) × (found ≡ ticket % 2 ^ 64) × (n ≡ (view m.0.held (Waiting ticket), m.1))

abbrev pub taken : JournalState → Rattle.std.specs.declared.snapshot.Snapshot.Snapshot JournalState
taken x = record { marker = record {}; value = x }

-- a seat that waits is in its turn where its ticket is served, and has the journal
abbrev pub AwaitedAt : Stage → Sat → ℕ → Sat → Type 0
AwaitedAt (Waiting ticket) m found n =
    (found ≡ ticket % 2 ^ 64 → (x : JournalState) × (n ≡ (view m.0.held (InTurn ticket (taken x)), (0, x) ∷ m.1))) × (found ≢ ticket % 2 ^ 64 → n ≡ m)
AwaitedAt _ m found n = Unit {0}

abbrev pub Awaited : Step JournalState → Sat → ℕ → Sat → Type 0
Awaited st m found n = AwaitedAt m.0.stage m found n

-- the entries that were added in the turn
abbrev pub added : Stage → List (ℕ × JournalState) → List JournalEntry
added (InTurn ticket before) (x ∷ xs) = drop (length before.value.entries) x.1.entries
added _ _ = []

abbrev pub longer : List Held → List JournalEntry → List Held
longer [] more = []
longer (h ∷ hs) more = held h.number (h.entries ++ more) ∷ hs

-- the turn has ended, and the seat's list is longer by what was added
abbrev pub ended : Sat → Sat
ended m = (view (longer m.0.held (added m.0.stage m.1)) Idle, [])

abbrev pub Ended : Step JournalState → Sat → ℕ → Sat → Type 0
Ended st m found n = n ≡ ended m

-- the seat is as it was
abbrev pub Counted : Step JournalState → Sat → ℕ → Sat → Type 0
Counted st m found n = n ≡ m

-- a seat with one number at least, and no ticket
abbrev pub Rests : Sat → Type 0
Rests m = (m.0.stage ≡ Idle) × (0 < length m.0.held) × (m.1 ≡ [])

-- the seat has drawn this ticket
abbrev pub Waits : Sat → ℕ → Sat → Type 0
Waits m found n = (ticket : ℕ) × (found ≡ ticket % 2 ^ 64) × (n ≡ (view m.0.held (Waiting ticket), m.1))

abbrev pub HasTicket : ℕ → Sat → Type 0
HasTicket found m = (ticket : ℕ) × (found ≡ ticket % 2 ^ 64) × (m.0.stage ≡ Waiting ticket)

-- the seat is in its turn, and has the journal
abbrev pub HasTurn : Sat → Sat → Type 0
HasTurn m n = (ticket : ℕ) × (x : JournalState) × (n ≡ (view m.0.held (InTurn ticket (taken x)), (0, x) ∷ m.1))

-- what the seat has of the journal leads on from what it took, by entries of its own
abbrev pub MayEnd : Sat → Type 0
MayEnd m = (h : Held) × (ticket : ℕ) × (x y : JournalState) × (more : List JournalEntry) × (m ≡ (view (h ∷ []) (InTurn ticket (taken x)), (0, y) ∷ []))
    × (y.opening ≡ x.opening) × (y.entries ≡ x.entries ++ more) × IsBy h.number more

-- a new seat has the first number
abbrev pub first_held : List Held → List Held
first_held [] = []
first_held (h ∷ hs) = h ∷ []

abbrev pub others_held : List Held → List Held
others_held [] = []
others_held (h ∷ hs) = hs

abbrev pub first_seat : View → View
first_seat v = view (first_held v.held) Idle

abbrev pub other_seats : View → View
other_seats v = view (others_held v.held) v.stage

abbrev pub both_seats : View → View → View
both_seats v w = view (v.held ++ w.held) v.stage

abbrev pub spent : View
spent = view [] Idle
