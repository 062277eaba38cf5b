-- The steps that stamp nothing: clients and transactions stay.
use Rattle.std.proofs.Common.{◌≡◌, ◌≤◌, ℕ, Bool, true, false, cond, refl, sym, subst, ap, ◌∙◌, List, [], ◌∷◌, ◌++◌, Option, Some, None}
use Rattle.std.specs.Prelude.{find, map, option_map, IsSomeAnd, if◌then◌else◌, ◌==◌}
use Rattle.std.specs.Option.{option_or}
use Rattle.std.proofs.lemmas.Option.{none-some, same_Some}
use Rattle.std.proofs.lemmas.List.Folds.{find-append}
use Rattle.mk_model.proofs.Parts.{heard_of-number}
use Rattle.mk_txn.specs.declared.TxnId.{TxnId}
use Rattle.mk_txn.specs.declared.Outcome.{Outcome}
use Rattle.mk_txn.specs.Transactions.{Transaction, same_id}
use Rattle.mk_words.specs.declared.Answer.{Answer}
use Rattle.mk_words.specs.declared.Msg.{Msg}
use Rattle.mk_words.specs.declared.Body.{Body}
use Rattle.mk_words.specs.declared.Body.TheVariants.{Validate as ValidateBody, Voted, Accept, Accepted as AcceptedBody, Decide, Ask, Told as ToldBody, Moved as MovedBody}
use Rattle.mk_words.specs.Links.{goes_to_replica}
use Rattle.mk_words.specs.Checks.{KeyAct}
use Rattle.mk_words.specs.Validations.{ValidationState, next_act, after_answer}
use Rattle.mk_words.specs.declared.Ruling.{Ruling}
use Rattle.mk_words.specs.declared.Ruling.TheVariants.{Fast, Propose, Learned, Short, Unaccepted}
use Rattle.mk_words.specs.declared.Pick.{Pick}
use Rattle.mk_words.specs.declared.Pick.TheVariants.{Known, Learned as PickLearned, Propose as PickPropose, Short as PickShort, Unaccepted as PickUnaccepted, Unclear}
use Rattle.mk_words.specs.Picks.{pick}
use Rattle.mk_model.specs.ColumnState.{Setting, ColumnState, ClientState, AttemptState, Learning, Work, attempt_of, is_attempt, is_client, change_client, change_attempt, takeover_of}
use Rattle.mk_model.specs.ColumnState.Work.{Idle, Fetching, Validating, Finishing}
use Rattle.mk_model.specs.Answers.{heard_of, attempt_answered, own_answered, takeover_heard, answer_taken, listens, is_led}
use Rattle.mk_model.specs.Learnings.{is_decision_of, txn_of}
use Rattle.mk_model.specs.Steps.{on_some, new_attempt, unread_attempt, next_id, begun, beginning, left_unread, with_attempt, proposing, taught, ruled, sent_again, picked, picking, replica_takes, taken, with_read, fetched, validated, answered}
use Rattle.mk_column.specs.Growing.{LastsStay, client_numbers}
use Rattle.mk_column.proofs.ListLaws.{find-change, map-kept, changed_member}
use Rattle.mk_column.proofs.GrownLaws.{IsCalm, at_most_itself, same-lasts, lasts-through, changed-lasts}

-- an attempt stays with its transaction, and one that is new has none
abbrev pub Follows : Option AttemptState → Option AttemptState → Type 0
Follows None None = Unit {0}
Follows None (Some now) = now.txn ≡ None
Follows (Some was) None = ⊥
Follows (Some was) (Some now) = now.txn ≡ was.txn

-- clients and transactions stay
pub record IsQuiet (before after : ColumnState) : Type 0 where
  pub clients : client_numbers after ≡ client_numbers before
  pub lasts : LastsStay before after
  pub attempts : (id : TxnId) → Follows (attempt_of before id) (attempt_of after id)

follows-itself : (o : Option AttemptState) → Follows o o
follows-itself None = tt
follows-itself (Some a) = refl

follows-after : (o p q : Option AttemptState) → Follows o p → Follows p q → Follows o q
follows-after None None q h k = k
follows-after None (Some b) None h k = absurd k
follows-after None (Some b) (Some c) h k = k ∙ h
follows-after (Some a) None q h k = absurd h
follows-after (Some a) (Some b) None h k = absurd k
follows-after (Some a) (Some b) (Some c) h k = k ∙ h

-- what a quiet step and its learnings leave
pub quiet-calm : (before after : ColumnState) (more : List Learning) → IsQuiet before after → IsCalm before (record after { learned = before.learned ++ more })
quiet-calm before after more h =
    record {
      clients = h.clients;
      lasts = h.lasts;
      attempts = λ id attempt found. kept (attempt_of before id) (attempt_of after id) attempt found (h.attempts id);
      fresh = λ id attempt now none. new (attempt_of before id) (attempt_of after id) attempt none now (h.attempts id);
      decisions =
          λ id outcome e. ap (option_map (λ (l : Learning). l.outcome)) (find-append (is_decision_of id) before.learned more)
          ∙ first (find (is_decision_of id) before.learned) (find (is_decision_of id) more) outcome e;
    }
  where
    kept : (o p : Option AttemptState) (attempt : AttemptState) → o ≡ Some attempt → Follows o p → IsSomeAnd p (λ later. later.txn ≡ attempt.txn)
    kept None p attempt e k = absurd (none-some attempt e)
    kept (Some was) None attempt e k = absurd k
    kept (Some was) (Some now) attempt e k = k ∙ ap (λ (a : AttemptState). a.txn) (same_Some was attempt e)

    new : (o p : Option AttemptState) (attempt : AttemptState) → o ≡ None → p ≡ Some attempt → Follows o p → attempt.txn ≡ None
    new None None attempt none now k = absurd (none-some attempt now)
    new None (Some b) attempt none now k = ap (λ (a : AttemptState). a.txn) (sym (same_Some b attempt now)) ∙ k
    new (Some was) p attempt none now k = absurd (none-some was (sym none))

    first : (o p : Option Learning) (outcome : Outcome) → option_map (λ (l : Learning). l.outcome) o ≡ Some outcome
        → option_map (λ (l : Learning). l.outcome) (option_or o p) ≡ Some outcome
    first None p outcome e = absurd (none-some outcome e)
    first (Some l) p outcome e = e

pub same-quiet : (before after : ColumnState) → after.clients ≡ before.clients → after.attempts ≡ before.attempts → IsQuiet before after
same-quiet before after clients attempts =
    record {
      clients = ap (map (λ (c : ClientState). c.number)) clients;
      lasts = same-lasts before after clients;
      attempts = λ id. subst (λ all. Follows (attempt_of before id) (find (is_attempt id) all)) (sym attempts) (follows-itself (attempt_of before id));
    }

pub after-quiet : (a b c : ColumnState) → IsQuiet a b → IsQuiet b c → IsQuiet a c
after-quiet a b c h k =
    record {
      clients = k.clients ∙ h.clients;
      lasts = lasts-through a b c h.lasts k.lasts;
      attempts = λ id. follows-after (attempt_of a id) (attempt_of b id) (attempt_of c id) (h.attempts id) (k.attempts id);
    }

pub client-quiet : (n : ℕ) (g : ClientState → ClientState) (column : ColumnState) → ((c : ClientState) → (g c).number ≡ c.number)
    → ((c : ClientState) → (g c).last_time ≡ c.last_time) → IsQuiet column (change_client n g column)
client-quiet n g column keeps stay =
    record {
      clients = map-kept (is_client n) g (λ (c : ClientState). c.number) keeps column.clients;
      lasts = changed-lasts n g column keeps (λ c found. subst (λ last. c.last_time ≤ last) (sym (stay c)) (at_most_itself c.last_time));
      attempts = λ id. follows-itself (attempt_of column id);
    }

pub attempt-quiet : (q : TxnId) (g : AttemptState → AttemptState) (column : ColumnState) → ((a : AttemptState) → (g a).id ≡ a.id)
    → ((a : AttemptState) → (g a).txn ≡ a.txn) → IsQuiet column (change_attempt q g column)
attempt-quiet q g column ids txns =
    record {
      clients = refl;
      lasts = same-lasts column (change_attempt q g column) refl;
      attempts =
          λ id. subst (Follows (attempt_of column id))
          (sym (find-change (is_attempt q) g (is_attempt id) (λ a. ap (λ i. same_id i id) (ids a)) column.attempts)) (turned (attempt_of column id));
    }
  where
    by_test : (b : Bool) (a : AttemptState) → (cond b (g a) a).txn ≡ a.txn
    by_test true a = txns a
    by_test false a = refl

    turned : (o : Option AttemptState) → Follows o (option_map (changed_member (is_attempt q) g) o)
    turned None = tt
    turned (Some a) = by_test (is_attempt q a) a

pub joined-quiet : (attempt : AttemptState) (column : ColumnState) → attempt.txn ≡ None → IsQuiet column (with_attempt attempt column)
joined-quiet attempt column none =
    record {
      clients = refl;
      lasts = same-lasts column (with_attempt attempt column) refl;
      attempts =
          λ id. subst (Follows (attempt_of column id)) (sym (find-append (is_attempt id) column.attempts (attempt ∷ [])))
          (joined (attempt_of column id) (is_attempt id attempt));
    }
  where
    joined : (o : Option AttemptState) (b : Bool) → Follows o (option_or o (cond b (Some attempt) None))
    joined None true = none
    joined None false = tt
    joined (Some a) b = refl

pub some-quiet : {X : Type 0} (f : X → ColumnState → ColumnState) (o : Option X) (column : ColumnState) → ((x : X) → IsQuiet column (f x column))
    → IsQuiet column (on_some f o column)
some-quiet f None column h = same-quiet column column refl refl
some-quiet f (Some x) column h = h x

if-quiet : (b : Bool) (column x y : ColumnState) → IsQuiet column x → IsQuiet column y → IsQuiet column (if b then x else y)
if-quiet true column x y h k = h
if-quiet false column x y h k = k

-- ---- each kind of step

pub begin-quiet : (round : Setting) (replica epoch : ℕ) (c : ClientState) (column : ColumnState) → IsQuiet column (beginning round replica epoch c column)
begin-quiet round replica epoch c column =
    let heard = change_client c.number (begun epoch) column in
    after-quiet column heard (beginning round replica epoch c column) (client-quiet c.number (begun epoch) column (λ x. refl) (λ x. refl))
    (joined-quiet (new_attempt round.faults (next_id c) replica epoch) heard refl)

pub unread-quiet : (round : Setting) (c : ClientState) (column : ColumnState) → IsQuiet column (left_unread round c column)
unread-quiet round c column =
    let heard = change_client c.number (begun 0) column in
    after-quiet column heard (left_unread round c column) (client-quiet c.number (begun 0) column (λ x. refl) (λ x. refl))
    (joined-quiet (unread_attempt round.faults (next_id c)) heard refl)

heard-last : (body : Body) (c : ClientState) → (heard_of body c).last_time ≡ c.last_time
heard-last (ValidateBody mark) c = refl
heard-last (Voted vote) c = refl
heard-last (Accept outcome) c = refl
heard-last AcceptedBody c = refl
heard-last (Decide outcome) c = refl
heard-last Ask c = refl
heard-last (ToldBody told) c = refl
heard-last (MovedBody moved) c = refl

own-quiet : (msg : Msg) (column : ColumnState) → IsQuiet column (own_answered msg column)
own-quiet msg column =
    let turned = change_attempt msg.id (attempt_answered msg.replica msg.body) column in
    let heard = change_client msg.id.client (heard_of msg.body) turned in
    if-quiet (listens (attempt_of column msg.id)) column heard column
    (after-quiet column turned heard (attempt-quiet msg.id (attempt_answered msg.replica msg.body) column (λ a. refl) (λ a. refl)) (client-quiet msg.id.client (heard_of msg.body) turned (heard_of-number msg.body) (heard-last msg.body)))
    (same-quiet column column refl refl)

takeover-quiet : (round : Setting) (msg : Msg) (column : ColumnState) → IsQuiet column (takeover_heard round msg column)
takeover-quiet round msg column =
    if-quiet (is_led round msg.epoch msg.view) column _ column (same-quiet column _ refl refl) (same-quiet column column refl refl)

answer-quiet : (round : Setting) (msg : Msg) (column : ColumnState) → IsQuiet column (answer_taken round msg column)
answer-quiet round msg column =
    if-quiet (msg.view == 0) column (own_answered msg column) (takeover_heard round msg column) (own-quiet msg column) (takeover-quiet round msg column)

pub taken-quiet : (round : Setting) (msg : Msg) (column : ColumnState) → IsQuiet column (taken round msg column)
taken-quiet round msg column =
    if-quiet (goes_to_replica msg.body) column (on_some (replica_takes round msg) (txn_of column msg.id) column) (answer_taken round msg column)
    (some-quiet (replica_takes round msg) (txn_of column msg.id) column (λ txn. same-quiet column (replica_takes round msg txn column) refl refl))
    (answer-quiet round msg column)

validated-quiet : (txn : Transaction) (replica epoch : ℕ) (state : ValidationState) (act : Option KeyAct) (column : ColumnState)
    → IsQuiet column (validated txn replica epoch state act column)
validated-quiet txn replica epoch state (Some act) column = same-quiet column (validated txn replica epoch state (Some act) column) refl refl
validated-quiet txn replica epoch state None column = same-quiet column (validated txn replica epoch state None column) refl refl

pub answered-quiet : (answer : Answer) (work : Work) (column : ColumnState) → IsQuiet column (answered answer work column)
answered-quiet answer Idle column = same-quiet column column refl refl
answered-quiet answer (Fetching id replica key) column =
    let read = change_attempt id (with_read key answer) column in
    after-quiet column read (fetched id key answer column) (attempt-quiet id (with_read key answer) column (λ a. refl) (λ a. refl))
    (same-quiet read (fetched id key answer column) refl refl)
answered-quiet answer (Validating txn replica epoch state) column =
    let next = after_answer state answer in validated-quiet txn replica epoch next (next_act next) column
answered-quiet answer (Finishing replica []) column = same-quiet column (answered answer (Finishing replica []) column) refl refl
answered-quiet answer (Finishing replica (act ∷ acts)) column = same-quiet column (answered answer (Finishing replica (act ∷ acts)) column) refl refl

pub ruled-quiet : (f : ℕ) (attempt : AttemptState) (r : Ruling) (column : ColumnState) → IsQuiet column (ruled f attempt r column)
ruled-quiet f attempt (Fast outcome) column =
    let turned = change_attempt attempt.id (taught outcome) column in
    after-quiet column turned (ruled f attempt (Fast outcome) column) (attempt-quiet attempt.id (taught outcome) column (λ a. refl) (λ a. refl))
    (same-quiet turned (ruled f attempt (Fast outcome) column) refl refl)
ruled-quiet f attempt (Learned outcome) column =
    let turned = change_attempt attempt.id (taught outcome) column in
    after-quiet column turned (ruled f attempt (Learned outcome) column) (attempt-quiet attempt.id (taught outcome) column (λ a. refl) (λ a. refl))
    (same-quiet turned (ruled f attempt (Learned outcome) column) refl refl)
ruled-quiet f attempt (Propose outcome) column =
    let turned = change_attempt attempt.id (proposing outcome) column in
    after-quiet column turned (ruled f attempt (Propose outcome) column) (attempt-quiet attempt.id (proposing outcome) column (λ a. refl) (λ a. refl))
    (same-quiet turned (ruled f attempt (Propose outcome) column) refl refl)
ruled-quiet f attempt (Short k) column = same-quiet column column refl refl
ruled-quiet f attempt (Unaccepted k) column = same-quiet column column refl refl

pub again-quiet : (f : ℕ) (attempt : AttemptState) (column : ColumnState) → IsQuiet column (sent_again f attempt column)
again-quiet f attempt column = some-quiet _ attempt.coord.proposed column (λ outcome. same-quiet column _ refl refl)

picked-quiet : (f view : ℕ) (attempt : AttemptState) (p : Pick) (column : ColumnState) → IsQuiet column (picked f view attempt p column)
picked-quiet f view attempt (Known outcome) column = same-quiet column (picked f view attempt (Known outcome) column) refl refl
picked-quiet f view attempt (PickLearned outcome) column = same-quiet column (picked f view attempt (PickLearned outcome) column) refl refl
picked-quiet f view attempt (PickPropose outcome) column = same-quiet column (picked f view attempt (PickPropose outcome) column) refl refl
picked-quiet f view attempt (PickShort k) column = same-quiet column column refl refl
picked-quiet f view attempt (PickUnaccepted k) column = same-quiet column column refl refl
picked-quiet f view attempt (Unclear ok not_ok) column = same-quiet column column refl refl

pub picking-quiet : (round : Setting) (view : ℕ) (attempt : AttemptState) (column : ColumnState) → IsQuiet column (picking round view attempt column)
picking-quiet round view attempt column =
    some-quiet _ (takeover_of column attempt.id view) column (λ t. picked-quiet round.faults view attempt (pick round.faults t.state) column)
