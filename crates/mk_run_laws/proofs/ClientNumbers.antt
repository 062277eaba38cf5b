-- The clients of a column keep their numbers, and no two columns share one.
use Rattle.std.proofs.Common.{◌≡◌, ◌≤◌, ℕ, ◌+◌, Bool, true, false, refl, arith, inl, inr, sym, ap, ◌∙◌, List, [], ◌∷◌, Option, Some, None, cond, map}
use Rattle.std.specs.Prelude.{slice_get, ◌==◌}
use Rattle.std.proofs.lemmas.Bool.{cond_both, eqb-true}
use Rattle.mk_lists.specs.Among.{Among}
use Rattle.mk_lists.proofs.Changes.{map-change}
use Rattle.mk_column_laws.proofs.Resets.{reset_clients}
use Rattle.mk_model.proofs.Parts.{heard_of-number}
use Rattle.mk_txn.specs.declared.TxnId.{TxnId}
use Rattle.mk_txn.specs.declared.WriteItem.{WriteItem}
use Rattle.mk_txn.specs.declared.Stamp.{Stamp as StampType}
use Rattle.mk_txn.specs.Stamps.{next_stamp_of}
use Rattle.mk_txn.specs.Transactions.{Transaction}
use Rattle.mk_words.specs.declared.Answer.{Answer}
use Rattle.mk_words.specs.declared.Msg.{Msg}
use Rattle.mk_words.specs.Links.{message, goes_to_replica}
use Rattle.mk_words.specs.Checks.{KeyAct}
use Rattle.mk_words.specs.Validations.{ValidationState, next_act, after_answer}
use Rattle.mk_words.specs.declared.Ruling.{Ruling}
use Rattle.mk_words.specs.declared.Ruling.TheVariants.{Fast, Propose, Learned, Short, Unaccepted}
use Rattle.mk_words.specs.Rulings.{ruling}
use Rattle.mk_words.specs.declared.Pick.{Pick}
use Rattle.mk_words.specs.declared.Pick.TheVariants.{Known, Learned as PickLearned, Propose as PickPropose, Short as PickShort, Unaccepted as PickUnaccepted, Unclear}
use Rattle.mk_words.specs.Picks.{pick}
use Rattle.mk_words.specs.declared.Step.{Step}
use Rattle.mk_words.specs.declared.Step.TheVariants.{Begin, Unread, Read, Stamp, Validate, Take, Key, Rule, Again, Takeover, Pick as PickStep, Stop}
use Rattle.mk_model.specs.ColumnState.{Setting, ColumnState, ClientState, AttemptState, Work, is_client, new_client, client_of, attempt_of, takeover_of}
use Rattle.mk_model.specs.ColumnState.Work.{Idle, Fetching, Validating, Finishing}
use Rattle.mk_model.specs.Answers.{heard_of, listens, is_led}
use Rattle.mk_model.specs.Learnings.{txn_of}
use Rattle.mk_model.specs.Steps.{epoch_of, stepped, stamped, ruled, picked, validated, answered, taken, replica_takes, begun, with_last_time}
use Rattle.mk_model.proofs.Frames.{on_some-keeps}
use Rattle.mk_column_laws.specs.Moments.{Moment, Event, after_event, moment_through}
use Rattle.mk_column_laws.specs.Moments.Event.{NewRound, Doing}
use Rattle.mk_history.specs.Histories.{clients_of}

abbrev pub numbers : List ClientState → List ℕ
numbers clients = map (λ c. c.number) clients

module _ (ns : List ℕ) (round : Setting) (column : ColumnState) (h : numbers column.clients ≡ ns) where
  abbrev KeepsNumbers : ColumnState → Type 0
  KeepsNumbers other = numbers other.clients ≡ ns

  stamp_one : (id : TxnId) (writes : List WriteItem) (s : Option StampType) → KeepsNumbers (stamped id writes s column)
  stamp_one id writes None = h
  stamp_one id writes (Some stamp) = map-change (λ (c : ClientState). c.number) (is_client id.client) (with_last_time stamp.time) (λ _. refl) column.clients ∙ h

  taken_fine : (msg : Msg) → KeepsNumbers (taken round msg column)
  taken_fine msg =
      cond_both (goes_to_replica msg.body) _ _ KeepsNumbers (λ _. on_some-keeps KeepsNumbers (replica_takes round msg) (txn_of column msg.id) column (λ txn e. h) h) (λ _. cond_both (msg.view == 0) _ _ KeepsNumbers (λ _. cond_both (listens (attempt_of column msg.id)) _ _ KeepsNumbers (λ _. map-change (λ (c : ClientState). c.number) (is_client msg.id.client) (heard_of msg.body) (heard_of-number msg.body) column.clients ∙ h) (λ _. h)) (λ _. cond_both (is_led round msg.epoch msg.view) _ _ KeepsNumbers (λ _. h) (λ _. h)))

  ruled_fine : (id : TxnId) (r : Ruling) → ((a : AttemptState) → KeepsNumbers (ruled round.faults a r column))
  ruled_fine id (Fast o) a = h
  ruled_fine id (Learned o) a = h
  ruled_fine id (Propose o) a = h
  ruled_fine id (Short k) a = h
  ruled_fine id (Unaccepted k) a = h

  picked_fine : (view : ℕ) (a : AttemptState) (p : Pick) → KeepsNumbers (picked round.faults view a p column)
  picked_fine view a (Known o) = h
  picked_fine view a (PickLearned o) = h
  picked_fine view a (PickPropose o) = h
  picked_fine view a (PickShort k) = h
  picked_fine view a (PickUnaccepted k) = h
  picked_fine view a (Unclear x y) = h

  validated_fine : (txn : Transaction) (r ep : ℕ) (state : ValidationState) (next : Option KeyAct) → KeepsNumbers (validated txn r ep state next column)
  validated_fine txn r ep state (Some act) = h
  validated_fine txn r ep state None = h

  answered_fine : (answer : Answer) (w : Work) → KeepsNumbers (answered answer w column)
  answered_fine answer Idle = h
  answered_fine answer (Fetching id r key) = h
  answered_fine answer (Validating txn r ep state) = validated_fine txn r ep (after_answer state answer) (next_act (after_answer state answer))
  answered_fine answer (Finishing r []) = h
  answered_fine answer (Finishing r (act ∷ acts)) = h

  step_fine : (step : Step) → KeepsNumbers (stepped round column step)
  step_fine (Begin client replica) =
      on_some-keeps KeepsNumbers _ (client_of column client) column (λ d e. map-change (λ (c : ClientState). c.number) (is_client d.number) (begun (epoch_of (slice_get round.views replica))) (λ _. refl) column.clients ∙ h) h
  step_fine (Unread client) = on_some-keeps KeepsNumbers _ (client_of column client) column (λ d e. map-change (λ (c : ClientState). c.number) (is_client d.number) (begun 0) (λ _. refl) column.clients ∙ h) h
  step_fine (Read id key) = on_some-keeps KeepsNumbers _ (attempt_of column id) column (λ a _. h) h
  step_fine (Stamp id clock writes) =
      on_some-keeps KeepsNumbers _ (attempt_of column id) column
      (λ a e. on_some-keeps KeepsNumbers _ (client_of column a.id.client) column (λ d k. stamp_one a.id writes (next_stamp_of d.number d.last_time clock a.reads)) h) h
  step_fine (Validate id) = on_some-keeps KeepsNumbers _ (attempt_of column id) column (λ a _. h) h
  step_fine (Take number) = on_some-keeps KeepsNumbers _ (message column.link number) column (λ msg _. taken_fine msg) h
  step_fine (Key call answer) = answered_fine answer column.work
  step_fine (Rule id) = on_some-keeps KeepsNumbers _ (attempt_of column id) column (λ a _. ruled_fine id (ruling round.faults a.coord) a) h
  step_fine (Again id) = on_some-keeps KeepsNumbers _ (attempt_of column id) column (λ a _. on_some-keeps KeepsNumbers _ a.coord.proposed column (λ o _. h) h) h
  step_fine (Takeover id view) = on_some-keeps KeepsNumbers _ (attempt_of column id) column (λ a _. h) h
  step_fine (PickStep id view) =
      on_some-keeps KeepsNumbers _ (attempt_of column id) column
      (λ a _. on_some-keeps KeepsNumbers _ (takeover_of column a.id view) column (λ t _. picked_fine view a (pick round.faults t.state)) h) h
  step_fine (Stop id) = h

pub numbers_through : (ns : List ℕ) (m : Moment) (events : List Event) → numbers m.column.clients ≡ ns → numbers (moment_through m events).column.clients ≡ ns
numbers_through ns m [] h = h
numbers_through ns m (NewRound views resets ∷ events) h =
    numbers_through ns (after_event (NewRound views resets) m) events (ap numbers (reset_clients resets m.column) ∙ h)
numbers_through ns m (Doing step ∷ events) h = numbers_through ns (after_event (Doing step) m) events (step_fine ns m.round m.column h step)

pub numbers_first : (ns : List ℕ) → numbers (map new_client ns) ≡ ns
numbers_first [] = refl
numbers_first (n ∷ ns) = ap (λ (xs : List ℕ). n ∷ xs) (numbers_first ns)

-- ---- no two columns share a client

pub from_here : (c k : ℕ) (columns : List ℕ) (n : ℕ) → Among n (clients_of c k columns) → k ≤ n
from_here c k [] n a = absurd a
from_here c k (x ∷ columns) n a = by (x == c) (from_here c (k + 1) columns n) a
  where
    by : (b : Bool) → (Among n (clients_of c (k + 1) columns) → k + 1 ≤ n) → Among n (cond b (k ∷ clients_of c (k + 1) columns) (clients_of c (k + 1) columns)) → k ≤ n
    by true again (inl same) = omega (arith, same)
    by true again (inr a) = let le = again a in omega (arith, le)
    by false again a = let le = again a in omega (arith, le)

pub one_column : (c d k : ℕ) (columns : List ℕ) (n : ℕ) → Among n (clients_of c k columns) → Among n (clients_of d k columns) → c ≡ d
one_column c d k [] n a b = absurd a
one_column c d k (x ∷ columns) n a b = by (x == c) refl (x == d) refl (one_column c d (k + 1) columns n) a b
  where
    late_c : Among n (clients_of c (k + 1) columns) → k ≡ n → ⊥
    late_c a same = let le = from_here c (k + 1) columns n a in omega (arith, le, same)

    late_d : Among n (clients_of d (k + 1) columns) → k ≡ n → ⊥
    late_d a same = let le = from_here d (k + 1) columns n a in omega (arith, le, same)

    by : (p : Bool) → (x == c) ≡ p → (q : Bool) → (x == d) ≡ q → (Among n (clients_of c (k + 1) columns) → Among n (clients_of d (k + 1) columns) → c ≡ d) →
        Among n (cond p (k ∷ clients_of c (k + 1) columns) (clients_of c (k + 1) columns)) → Among n (cond q (k ∷ clients_of d (k + 1) columns) (clients_of d (k + 1) columns)) → c ≡ d
    by true e true f again a b = sym (eqb-true x c e) ∙ eqb-true x d f
    by true e false f again (inl same) b = absurd (late_d b same)
    by true e false f again (inr a) b = again a b
    by false e true f again a (inl same) = absurd (late_c a same)
    by false e true f again a (inr b) = again a b
    by false e false f again a b = again a b
