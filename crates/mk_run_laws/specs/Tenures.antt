-- What a replica did with a key while it had the state of one epoch.
use Rattle.std.specs.Prelude.{◌≡◌, ◌⊎◌, ◌<◌, ◌≤◌, ℕ, ◌+◌, Bool, true, false, not, ◌&&◌, ◌==◌, List, [], ◌∷◌, ◌++◌, map, length, Option, Some, None, slice_get, if◌then◌else◌}
use Rattle.mk_lists.specs.Among.{Among, Each}
use Rattle.mk_txn.specs.declared.Stamp.{Stamp}
use Rattle.mk_txn.specs.Stamps.{is_before}
use Rattle.mk_words.specs.declared.Act.{Act}
use Rattle.mk_words.specs.declared.Act.TheVariants.{CheckRead, CheckWrite, ReleaseRead, ReleaseWrite}
use Rattle.mk_words.specs.declared.Answer.{Answer}
use Rattle.mk_words.specs.declared.Answer.TheVariants.{Okay}
use Rattle.mk_words.specs.declared.JournalEntry.{JournalEntry}
use Rattle.mk_words.specs.Journals.{cell_through, EachAnswered}
use Rattle.mk_quorum.specs.Sizes.{members}
use Rattle.mk_words.specs.Bases.{BaseState}
use Rattle.mk_words.specs.Rebuilding.{rebuilt}
use Rattle.mk_model.specs.EpochState.{ReplicaState, base_for}
use Rattle.mk_model.specs.GlobalAnswers.{lacks}
use Rattle.mk_column_laws.specs.Moments.{PastAct}
use Rattle.mk_history.specs.declared.RoundLog.{RoundLog}
use Rattle.mk_history.specs.Histories.{History, journal_of}
use Rattle.mk_history.specs.Wholes.{WholeState, first_state, cell_of, after_round, state_through}
use Rattle.mk_history.specs.Legality.{EachRoundLegal}
use Rattle.mk_run_laws.specs.RunEvents.{moment_of}

-- an entry of a journal with the number of its round
pub record DatedEntry : Type 0 where
  pub round : ℕ
  pub entry : JournalEntry

abbrev pub dated_at : ℕ → JournalEntry → DatedEntry
dated_at round entry = record { round = round; entry = entry }

-- the replica has state, and it is this epoch's
abbrev pub has_epoch : ℕ → Option ReplicaState → Bool
has_epoch epoch (Some replica) = not (lacks replica.phase) && replica.adopted == epoch
has_epoch epoch None = false

-- the journal of a key at a replica over these rounds, but for those that begin while the replica does not have the epoch's
-- state; the first round has this number
abbrev pub tenure_from : (r epoch key : ℕ) → ℕ → History → WholeState → List RoundLog → List DatedEntry
tenure_from r epoch key number run state [] = []
tenure_from r epoch key number run state (round ∷ rounds) =
    (if has_epoch epoch (slice_get state.epochs.replicas r) then map (dated_at number) (journal_of round r key) else [])
    ++ tenure_from r epoch key (number + 1) run (after_round run round state) rounds

-- the same over the first rounds of a run
abbrev pub tenure_of : History → List RoundLog → (r epoch key : ℕ) → List DatedEntry
tenure_of run rounds r epoch key = tenure_from r epoch key 1 run (first_state run) rounds

-- its entries, without rounds
abbrev pub entries_in : List DatedEntry → List JournalEntry
entries_in tenure = map (λ d. d.entry) tenure

-- a tenure replays from the cell that the epoch's base makes of the key, and while the replica has the epoch its cell is
-- where that leads
pub record IsReplayed (run : History) (rounds : List RoundLog) (r epoch key : ℕ) (base : BaseState) : Type 0 where
  pub answered : EachAnswered (rebuilt base key) (entries_in (tenure_of run rounds r epoch key))
  pub leads : has_epoch epoch (slice_get (state_through run (first_state run) rounds).epochs.replicas r) ≡ true →
      cell_of (state_through run (first_state run) rounds) r key ≡ cell_through (rebuilt base key) (entries_in (tenure_of run rounds r epoch key))

abbrev pub TenuresReplay : Type 0
TenuresReplay =
    (run : History) (rounds : List RoundLog) → EachRoundLegal run (first_state run) rounds →
    (r epoch key : ℕ) → r < members run.faults → key < length run.key_names →
    (base : BaseState) → base_for epoch (state_through run (first_state run) rounds).epochs ≡ Some base →
    IsReplayed run rounds r epoch key base

-- no later entry is of an earlier round
abbrev pub AreInOrder : List DatedEntry → Type 0
AreInOrder [] = Unit {0}
AreInOrder (d ∷ ds) = Each (λ later. d.round ≤ later.round) ds × AreInOrder ds

abbrev pub TenuresAscend : Type 0
TenuresAscend = (run : History) (rounds : List RoundLog) (r epoch key : ℕ) → AreInOrder (tenure_of run rounds r epoch key)

-- the act of a column that an entry of a tenure is
abbrev pub act_in : (r epoch key : ℕ) → DatedEntry → PastAct
act_in r epoch key d = record { round = d.round; replica = r; epoch = epoch; key = key; act = d.entry.act; answer = d.entry.answer }

-- each entry of a column is a key act of that column, and each key act that the column did where the epoch was served is an entry
pub record IsMatchedTo (run : History) (rounds : List RoundLog) (c r epoch key : ℕ) : Type 0 where
  pub entry_done : (d : DatedEntry) → Among d (tenure_of run rounds r epoch key) → d.entry.seat ≡ c → Among (act_in r epoch key d) (moment_of run c rounds).past.acts
  pub act_entered : (act : PastAct) → Among act (moment_of run c rounds).past.acts → act.replica ≡ r → act.epoch ≡ epoch → act.key ≡ key →
      (moment_of run c rounds).past.served_in act.round r epoch ≡ true →
      (d : DatedEntry) × Among d (tenure_of run rounds r epoch key) × (d.entry.seat ≡ c) × (act_in r epoch key d ≡ act)

abbrev pub TenuresMatch : Type 0
TenuresMatch =
    (run : History) (rounds : List RoundLog) → EachRoundLegal run (first_state run) rounds →
    (c r epoch key : ℕ) → c < run.columns → r < members run.faults → key < length run.key_names → IsMatchedTo run rounds c r epoch key

-- the entries of a column, as its acts
abbrev pub acts_in : (c r epoch key : ℕ) → List DatedEntry → List PastAct
acts_in c r epoch key [] = []
acts_in c r epoch key (d ∷ tenure) =
    if d.entry.seat == c then act_in r epoch key d ∷ acts_in c r epoch key tenure else acts_in c r epoch key tenure

-- a list stands in another in the same order, with others between
abbrev pub StandsIn : {X : Type 0} → List X → List X → Type 0
StandsIn [] ys = Unit {0}
StandsIn (x ∷ xs) [] = ⊥
StandsIn (x ∷ xs) (y ∷ ys) = ((y ≡ x) × StandsIn xs ys) ⊎ StandsIn (x ∷ xs) ys

-- a column's entries of a tenure stand in the order of its acts
abbrev pub TenuresFollow : Type 0
TenuresFollow =
    (run : History) (rounds : List RoundLog) → EachRoundLegal run (first_state run) rounds →
    (c r epoch key : ℕ) → c < run.columns → r < members run.faults → key < length run.key_names →
    StandsIn (acts_in c r epoch key (tenure_of run rounds r epoch key)) (moment_of run c rounds).past.acts

-- a tenure has this act with this answer, in this round
abbrev pub IsIn : List DatedEntry → ℕ → Act → Answer → Type 0
IsIn tenure round act answer = (d : DatedEntry) × Among d tenure × (d.round ≡ round) × (d.entry.act ≡ act) × (d.entry.answer ≡ answer)

-- a tenure has this act in a round that is not later than this one
abbrev pub IsInBy : List DatedEntry → ℕ → Act → Type 0
IsInBy tenure round act = (d : DatedEntry) × Among d tenure × (d.round ≤ round) × (d.entry.act ≡ act)

-- where a replica let in both the check of a read and the check of a write between the read's version and the reader, it
-- gave up the read not later than the round in which it checked the write, or the write not later than that of the read
abbrev pub ClashesGiveUp : Type 0
ClashesGiveUp =
    (run : History) (rounds : List RoundLog) → EachRoundLegal run (first_state run) rounds →
    (r epoch key : ℕ) → r < members run.faults → key < length run.key_names →
    (ts version other : Stamp) (i j : ℕ) → is_before version other ≡ true → is_before other ts ≡ true →
    IsIn (tenure_of run rounds r epoch key) i (CheckRead ts version) Okay → IsIn (tenure_of run rounds r epoch key) j (CheckWrite other) Okay →
    IsInBy (tenure_of run rounds r epoch key) j (ReleaseRead ts) ⊎ IsInBy (tenure_of run rounds r epoch key) i (ReleaseWrite other)
