-- Marks are true: up to a mark, each attempt of its client is settled.
use Rattle.std.specs.Prelude.{◌≡◌, ◌≤◌, ℕ, true, Some}
use Rattle.mk_lists.specs.Among.{Among}
use Rattle.mk_txn.specs.MarkMaps.{mark_of, IsMarkMap}
use Rattle.mk_words.specs.declared.Msg.{Msg}
use Rattle.mk_words.specs.declared.Body.TheVariants.{Validate as ValidateBody}
use Rattle.mk_model.specs.ColumnState.{AttemptState, attempt_of, is_settled, marks_at}
use Rattle.mk_column_laws.specs.Moments.{Moment}
use Rattle.mk_column_laws.specs.Laws.{AlwaysHolds}

-- each attempt of the client up to this place is there, and settled
abbrev pub IsSettledTo : Moment → ℕ → ℕ → Type 0
IsSettledTo m client mark =
    (seq : ℕ) → 1 ≤ seq → seq ≤ mark → (a : AttemptState) × (attempt_of m.column (record { client = client; seq = seq }) ≡ Some a) × (is_settled a ≡ true)

-- the marks that were sent with Validates, and those that replicas keep, are true
pub record MarkFacts (m : Moment) : Type 0 where
  pub sent : (msg : Msg) (mark : ℕ) → Among msg m.column.link → msg.body ≡ ValidateBody mark → IsSettledTo m msg.id.client mark
  pub kept : (r client : ℕ) → IsSettledTo m client (mark_of (marks_at m.column r) client)
  pub maps : (r : ℕ) → IsMarkMap (marks_at m.column r)

abbrev pub MarksAreTrue : Type 0
MarksAreTrue = AlwaysHolds (λ taught m. MarkFacts m)
