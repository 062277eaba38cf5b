-- What somebody has learned is listed: whoever backs an outcome, somebody learned it; and who learned it first did so at
-- first hand.
use Rattle.std.specs.Prelude.{◌≡◌, ℕ, Bool, true, false, Some, List, find}
use Rattle.mk_lists.specs.Among.{Among}
use Rattle.mk_txn.specs.declared.TxnId.{TxnId}
use Rattle.mk_txn.specs.declared.Outcome.{Outcome}
use Rattle.mk_txn.specs.Transactions.{same_id}
use Rattle.mk_words.specs.declared.Body.TheVariants.{Decide}
use Rattle.mk_model.specs.ColumnState.{AttemptState, TakeoverOf, Learning, Way, attempt_of, takeover_of}
use Rattle.mk_model.specs.ColumnState.Way.{ByVotes, ByAccepts, ByPick, ByMoved, ByTelling, ByFinishing}
use Rattle.mk_model.specs.Learnings.{learning}
use Rattle.mk_model.specs.Sending.{Sent}
use Rattle.mk_column_laws.specs.Moments.{Moment, PastEntry}
use Rattle.mk_column_laws.specs.Laws.{AlwaysHolds}

-- somebody learned this outcome of the attempt
abbrev pub IsListed : List Learning → TxnId → Outcome → Type 0
IsListed learned id outcome = (way : Way) × Among (learning id way outcome) learned

-- what the own coordinator and takeovers have learned, what a Decide says, and what an entry became final with, is listed
pub record ListedOf (m : Moment) (id : TxnId) : Type 0 where
  pub own : (a : AttemptState) (outcome : Outcome) → attempt_of m.column id ≡ Some a → a.coord.learned ≡ Some outcome → IsListed m.column.learned id outcome
  pub takeover : (view : ℕ) (t : TakeoverOf) (outcome : Outcome) → takeover_of m.column id view ≡ Some t → t.state.learned ≡ Some outcome → IsListed m.column.learned id outcome
  pub sent : (r view : ℕ) (outcome : Outcome) → Sent m.column.link id r view (Decide outcome) → IsListed m.column.learned id outcome
  pub final : (r : ℕ) (entry : PastEntry) (outcome : Outcome) (round : ℕ) → m.past.entries r id ≡ Some entry → entry.last ≡ Some (outcome, round) →
      IsListed m.column.learned id outcome

abbrev pub LearningsAreListed : Type 0
LearningsAreListed = AlwaysHolds (λ taught m. (id : TxnId) → ListedOf m id)

-- it is learned by votes, by accepts or from a later epoch's base, and not because somebody else knew it
abbrev pub is_first_hand : Way → Bool
is_first_hand ByVotes = true
is_first_hand ByAccepts = true
is_first_hand (ByPick view) = true
is_first_hand (ByMoved epoch) = true
is_first_hand ByTelling = false
is_first_hand ByFinishing = false

-- the first learning of an attempt in the list is at first hand
abbrev pub FirstIsFirstHand : Type 0
FirstIsFirstHand = AlwaysHolds (λ taught m. (id : TxnId) (l : Learning) → find (λ (k : Learning). same_id k.id id) m.column.learned ≡ Some l → is_first_hand l.way ≡ true)
