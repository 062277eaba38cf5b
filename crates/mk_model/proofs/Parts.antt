-- What the parts of a column keep: the number of what is found, and what an answer leaves alone.
use Rattle.std.proofs.Common.{◌≡◌, refl, sym, subst, Some}
use Rattle.std.specs.Prelude.{ℕ}
use Rattle.std.proofs.lemmas.Bool.{cond_both}
use Rattle.mk_lists.proofs.Lookups.{find-passes}
use Rattle.mk_txn.specs.declared.TxnId.{TxnId}
use Rattle.mk_txn.proofs.IdOrder.{same_id-tells}
use Rattle.mk_words.specs.declared.Body.{Body}
use Rattle.mk_words.specs.declared.Body.TheVariants.{Accepted as AcceptedBody, Told as ToldBody, Moved as MovedBody}
use Rattle.mk_words.specs.Picks.{TakeoverState}
use Rattle.mk_model.specs.ColumnState.{ColumnState, AttemptState, ClientState, TakeoverOf, is_attempt, attempt_of}
use Rattle.mk_model.specs.Answers.{state_answered, takeover_answered, heard_of}

-- an attempt that is found has the number that was asked for
pub attempt_of-id : (column : ColumnState) (id : TxnId) (a : AttemptState) → attempt_of column id ≡ Some a → a.id ≡ id
attempt_of-id column id a e = same_id-tells a.id id (find-passes (is_attempt id) column.attempts a e)

pub attempt_of-own : (column : ColumnState) (id : TxnId) (a : AttemptState) → attempt_of column id ≡ Some a → attempt_of column a.id ≡ Some a
attempt_of-own column id a e = subst (λ (x : TxnId). attempt_of column x ≡ Some a) (sym (attempt_of-id column id a e)) e

-- an answer leaves the number and the view of a takeover
pub state_answered-view : (r : ℕ) (b : Body) (t : TakeoverState) → (state_answered r b t).view ≡ t.view
state_answered-view r AcceptedBody t = refl
state_answered-view r (ToldBody told) t = refl
state_answered-view r (MovedBody moved) t = refl
state_answered-view r _ t = refl

pub takeover_answered-id : (r : ℕ) (b : Body) (t : TakeoverOf) → (takeover_answered r b t).id ≡ t.id
takeover_answered-id r b t = cond_both t.closed t (record t { state = state_answered r b t.state }) (λ (x : TakeoverOf). x.id ≡ t.id) (λ _. refl) (λ _. refl)

pub takeover_answered-view : (r : ℕ) (b : Body) (t : TakeoverOf) → (takeover_answered r b t).state.view ≡ t.state.view
takeover_answered-view r b t = cond_both t.closed t (record t { state = state_answered r b t.state }) (λ (x : TakeoverOf). x.state.view ≡ t.state.view) (λ _. refl) (λ _. state_answered-view r b t.state)

-- what a client hears leaves its number, its next place and its last time
pub heard_of-number : (b : Body) (c : ClientState) → (heard_of b c).number ≡ c.number
heard_of-number (MovedBody moved) c = refl
heard_of-number _ c = refl

pub heard_of-same : (b : Body) (c : ClientState) → ((heard_of b c).last_time ≡ c.last_time) × ((heard_of b c).next_seq ≡ c.next_seq)
heard_of-same (MovedBody moved) c = (refl, refl)
heard_of-same _ c = (refl, refl)
