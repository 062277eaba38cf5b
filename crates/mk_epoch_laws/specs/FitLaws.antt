-- What is handed in with promises, and that every promise then is one of which a base may be made.
use Rattle.std.specs.Prelude.{◌≡◌, ℕ, List, [], ◌∷◌, ◌++◌, map, flat_map, slice_get, Some, ⊤}
use Rattle.mk_lists.specs.Among.{Among, Each}
use Rattle.mk_txn.specs.Transactions.{Transaction, AreCoherent}
use Rattle.mk_words.specs.declared.Entry.{Entry}
use Rattle.mk_words.specs.Entries.{HasDistinctIds}
use Rattle.mk_words.specs.declared.Fated.{Fated}
use Rattle.mk_words.specs.Promises.{EntryFits, ArePromises}
use Rattle.mk_words.specs.declared.GlobalLine.{GlobalLine}
use Rattle.mk_words.specs.declared.GlobalLine.TheVariants.{Wipe, Ask, Promise, Merge, Adopt, Enter}
use Rattle.mk_words.specs.declared.GlobalAnswer.{GlobalAnswer}
use Rattle.mk_model.specs.EpochState.{EpochState, ReplicaState, MadeBase, first_epochs, promises_for}
use Rattle.mk_model.specs.GlobalSteps.{HandedIn, GlobalStep}
use Rattle.mk_epoch_laws.specs.Turns.{GlobalTurn, after_turn, after_turns, EachAnswered}

-- the transactions of these entries
abbrev pub txns_in : List Entry → List Transaction
txns_in entries = map (λ (e : Entry). e.txn) entries

-- the transactions of all entries that were handed in with promises
abbrev pub handed_txns : EpochState → List Transaction
handed_txns state = flat_map (λ g. txns_in g.promise.entries) state.promises

-- each base lists only transactions that were handed in
abbrev pub BasesListHanded : EpochState → Type 0
BasesListHanded state = (made : MadeBase) → Among made state.made → (f : Fated) → Among f made.base.list → Among f.txn (handed_txns state)

-- what a replica may hand in: different attempts; an Ok vote fits the replica's base, whose marks cover none of them; and
-- with all that was handed in before, equal numbers mean equal transactions and other numbers have other stamps
pub record MayHandIn (state : EpochState) (r : ℕ) (entries : List Entry) : Type 0 where
  pub distinct_ids : HasDistinctIds entries
  pub entries_fit : (replica : ReplicaState) → slice_get state.replicas r ≡ Some replica → Each (EntryFits replica.base) entries
  pub coherent : AreCoherent (handed_txns state ++ txns_in entries)

-- only a promise hands something in
abbrev pub LineFits : EpochState → HandedIn → GlobalLine → Type 0
LineFits state handed (Wipe r) = ⊤
LineFits state handed (Ask epoch) = ⊤
LineFits state handed (Promise epoch r) = MayHandIn state r handed.entries
LineFits state handed (Merge epoch) = ⊤
LineFits state handed (Adopt epoch r) = ⊤
LineFits state handed (Enter epoch) = ⊤

-- each replica hands in what it may
abbrev pub EachFits : EpochState → List GlobalTurn → Type 0
EachFits state [] = Unit {0}
EachFits state (turn ∷ turns) = LineFits state turn.handed turn.line × EachFits (after_turn state turn) turns

-- lines with legal answers, with which replicas hand in what they may, lead to it
abbrev pub IsReached : EpochState → Type 0
IsReached state =
    (f : ℕ) × (turns : List GlobalTurn) × EachAnswered (first_epochs f) turns × EachFits (first_epochs f) turns × (after_turns (first_epochs f) turns ≡ state)

-- it begins so
abbrev pub FirstIsReached : Type 0
FirstIsReached = (f : ℕ) → IsReached (first_epochs f)

-- and goes on so
abbrev pub NextIsReached : Type 0
NextIsReached =
    (state : EpochState) (handed : HandedIn) (line : GlobalLine) (answer : GlobalAnswer) (after : EpochState) →
    IsReached state → LineFits state handed line → GlobalStep state handed line answer after → IsReached after

-- a base may be made of each epoch's promises
abbrev pub PromisesAreFit : Type 0
PromisesAreFit = (state : EpochState) → IsReached state → (epoch : ℕ) → ArePromises (promises_for epoch state)

-- all that was handed in is coherent
abbrev pub HandedInIsCoherent : Type 0
HandedInIsCoherent = (state : EpochState) → IsReached state → AreCoherent (handed_txns state)
