-- A column in which nothing is proposed: every message, attempt and learning is one of a commit by votes, and a step that
-- proposes nothing leaves it so.
use Rattle.std.proofs.Common.{◌≡◌, ◌⊎◌, ◌∙◌, ℕ, ◌==◌, Bool, true, false, refl, arith, inl, inr, sym, ap, subst, List, [], ◌∷◌, ◌++◌, Option, Some, None, not, if◌then◌else◌, map}
use Rattle.std.specs.Prelude.{slice_get, max, nat_lt}
use Rattle.std.specs.Option.{option_or}
use Rattle.std.proofs.lemmas.Bool.{cond_both}
use Rattle.std.proofs.lemmas.Bool.Decides.{nat_tests}
use Rattle.mk_lists.specs.Among.{Among, Each, Each-append, Each-among}
use Rattle.mk_lists.specs.Changed.{change, Each-change}
use Rattle.mk_txn.specs.declared.TxnId.{TxnId}
use Rattle.mk_txn.specs.declared.Stamp.{Stamp as StampType}
use Rattle.mk_txn.specs.declared.WriteItem.{WriteItem}
use Rattle.mk_txn.specs.declared.Vote.{Vote}
use Rattle.mk_txn.specs.declared.Outcome.{Outcome}
use Rattle.mk_txn.specs.declared.Outcome.TheVariants.{Commit}
use Rattle.mk_txn.specs.Stamps.{next_stamp_of}
use Rattle.mk_txn.specs.Transactions.{Transaction}
use Rattle.mk_words.specs.declared.Answer.{Answer}
use Rattle.mk_words.specs.declared.Entry.{Entry}
use Rattle.mk_words.specs.Entries.{entry_of}
use Rattle.mk_words.specs.declared.Msg.{Msg}
use Rattle.mk_words.specs.declared.Body.{Body}
use Rattle.mk_words.specs.declared.Body.TheVariants.{Validate as ValidateBody, Voted, Accept, Accepted as AcceptedBody, Decide, Ask, Told as ToldBody, Moved as MovedBody}
use Rattle.mk_words.specs.Links.{message, goes_to_replica}
use Rattle.mk_words.specs.Checks.{KeyAct}
use Rattle.mk_words.specs.Validations.{ValidationState, next_act, after_answer}
use Rattle.mk_words.specs.declared.Ruling.{Ruling}
use Rattle.mk_words.specs.declared.Ruling.TheVariants.{Fast}
use Rattle.mk_words.specs.Rulings.{ruling}
use Rattle.mk_quorum.specs.Sizes.{members}
use Rattle.mk_trim.specs.declared.ReplicaView.{ReplicaView}
use Rattle.mk_words.specs.declared.Step.{Step}
use Rattle.mk_words.specs.declared.Step.TheVariants.{Begin, Unread, Read, Stamp, Validate, Take, Key, Rule, Again, Takeover, Pick as PickStep, Stop}
use Rattle.mk_model.specs.ColumnState.{Setting, ColumnState, AttemptState, ClientState, Learning, Work, attempt_of, client_of, entries_at, is_attempt, is_client, send, to_all, mark_sent, numbers_from}
use Rattle.mk_model.specs.ColumnState.Work.{Idle, Fetching, Validating, Finishing}
use Rattle.mk_model.specs.ColumnState.Way.{ByVotes, ByTelling, ByFinishing}
use Rattle.mk_model.specs.Replicas.{is_serving, Held, Reaction, reaction, reaction_by_view, held_at, on_validate, decide_known, entry_or_opened, with_entry, validate_known, validate_unfinished}
use Rattle.mk_model.specs.Answers.{listens, heard_of, attempt_answered, own_answered, takeover_heard}
use Rattle.mk_model.specs.Learnings.{learning_of, learned_in_step, by_taken, by_message, by_rule, by_ruling, is_heard, is_finished_by, txn_of}
use Rattle.mk_model.specs.Steps.{beginning, begun, stamping, stamped, with_txn, with_last_time, taught, ruled, replica_takes, taken, answered, validated, with_read, epoch_of, stepped, column_after}
use Rattle.mk_model.proofs.Frames.{on_some-keeps}
use Rattle.mk_column_laws.proofs.SortedAttempts.{message_among}

-- ---- what is calm

abbrev pub IsCalmBody : Body → Type 0
IsCalmBody (ValidateBody mark) = Unit {0}
IsCalmBody (Voted vote) = Unit {0}
IsCalmBody (Decide outcome) = outcome ≡ Commit
IsCalmBody (ToldBody told) = told.last ≡ Some Commit
IsCalmBody (Accept outcome) = ⊥
IsCalmBody AcceptedBody = ⊥
IsCalmBody Ask = ⊥
IsCalmBody (MovedBody moved) = ⊥

pub record IsCalmMsg (msg : Msg) : Type 0 where
  pub view : msg.view ≡ 0
  pub body : IsCalmBody msg.body

pub record IsCalmAttempt (a : AttemptState) : Type 0 where
  pub epoch : a.epoch ≡ 0
  pub unread : a.unread ≡ false
  pub stopped : a.stopped ≡ false
  pub proposed : a.coord.proposed ≡ None
  pub learned : (a.coord.learned ≡ None) ⊎ (a.coord.learned ≡ Some Commit)

pub record IsCalmLearning (l : Learning) : Type 0 where
  pub commits : l.outcome ≡ Commit
  pub way : (l.way ≡ ByVotes) ⊎ ((l.way ≡ ByTelling) ⊎ (l.way ≡ ByFinishing))

abbrev pub HasHeardNothing : ClientState → Type 0
HasHeardNothing client = client.heard ≡ 0

pub record IsCalm (c : ColumnState) : Type 0 where
  pub link : Each IsCalmMsg c.link
  pub attempts : Each IsCalmAttempt c.attempts
  pub clients : Each HasHeardNothing c.clients
  pub takeovers : c.takeovers ≡ []
  pub learned : Each IsCalmLearning c.learned

-- every view that there is serves epoch 0
abbrev pub AllFirst : List ReplicaView → Type 0
AllFirst views = (r : ℕ) (view : ReplicaView) → slice_get views r ≡ Some view → (is_serving view.phase ≡ true) × (view.epoch ≡ 0)

-- a step of a run in which nothing is proposed, stopped or taken over
abbrev pub IsCalmStep : Setting → ColumnState → Step → Type 0
IsCalmStep round c (Rule id) = (a : AttemptState) → attempt_of c id ≡ Some a → ruling round.faults a.coord ≡ Fast Commit
IsCalmStep round c (Unread client) = ⊥
IsCalmStep round c (Again id) = ⊥
IsCalmStep round c (Takeover id view) = ⊥
IsCalmStep round c (PickStep id view) = ⊥
IsCalmStep round c (Stop id) = ⊥
IsCalmStep round c _ = Unit {0}

-- but for what is learned
record IsCalmButLearned (c : ColumnState) : Type 0 where
  pub link : Each IsCalmMsg c.link
  pub attempts : Each IsCalmAttempt c.attempts
  pub clients : Each HasHeardNothing c.clients
  pub takeovers : c.takeovers ≡ []

module _ (round : Setting) (first : AllFirst round.views) (c : ColumnState) (calm : IsCalm c)
    (epochs : (msg : Msg) → Among msg c.link → msg.epoch ≡ 0)
    (finals : (r : ℕ) (id : TxnId) (entry : Entry) (outcome : Outcome) → entry_of id (entries_at c r) ≡ Some entry → entry.last ≡ Some outcome → outcome ≡ Commit) where
  as_it_is : IsCalmButLearned c
  as_it_is = record { link = calm.link; attempts = calm.attempts; clients = calm.clients; takeovers = calm.takeovers }

  -- ---- clients and attempts

  zero_of : (r : ℕ) → epoch_of (slice_get round.views r) ≡ 0
  zero_of r = by (slice_get round.views r) refl
    where
      by : (o : Option ReplicaView) → slice_get round.views r ≡ o → epoch_of o ≡ 0
      by None e = refl
      by (Some view) e = (first r view e).1

  begins_calm : (replica : ℕ) (client : ClientState) → IsCalmButLearned (beginning round replica (epoch_of (slice_get round.views replica)) client c)
  begins_calm replica client =
      record {
        link = calm.link;
        attempts = Each-append IsCalmAttempt c.attempts _ calm.attempts (record { epoch = zero_of replica; unread = refl; stopped = refl; proposed = refl; learned = inl refl }, tt);
        clients = Each-change (is_client client.number) (begun (epoch_of (slice_get round.views replica))) HasHeardNothing
            (λ x t h. (λ i. max (h i) (zero_of replica i))) c.clients calm.clients;
        takeovers = calm.takeovers;
      }

  same_attempts : (p : AttemptState → Bool) (g : AttemptState → AttemptState) → ((x : AttemptState) → IsCalmAttempt x → IsCalmAttempt (g x)) → Each IsCalmAttempt (change p g c.attempts)
  same_attempts p g k = Each-change p g IsCalmAttempt (λ x t h. k x h) c.attempts calm.attempts

  stamps_calm : (id : TxnId) (writes : List WriteItem) (stamp : Option StampType) → IsCalmButLearned (stamped id writes stamp c)
  stamps_calm id writes None = as_it_is
  stamps_calm id writes (Some stamp) =
      record {
        link = calm.link;
        attempts = same_attempts (is_attempt id) (with_txn stamp writes) (λ x h. record { epoch = h.epoch; unread = h.unread; stopped = h.stopped; proposed = h.proposed; learned = h.learned });
        clients = Each-change (is_client id.client) (with_last_time stamp.time) HasHeardNothing (λ x t h. h) c.clients calm.clients;
        takeovers = calm.takeovers;
      }

  -- ---- messages

  all_calm : (epoch : ℕ) (id : TxnId) (body : Body) → IsCalmBody body → (ns : List ℕ) → Each IsCalmMsg (map (λ r. record { epoch = epoch; id = id; replica = r; view = 0; body = body }) ns)
  all_calm epoch id body b [] = tt
  all_calm epoch id body b (n ∷ ns) = (record { view = refl; body = b }, all_calm epoch id body b ns)

  to_all_calm : (f epoch : ℕ) (id : TxnId) (body : Body) → IsCalmBody body → Each IsCalmMsg (to_all f epoch id 0 body)
  to_all_calm f epoch id body b = all_calm epoch id body b (numbers_from 0 (members f))

  more_link : (ms : List Msg) → Each IsCalmMsg ms → Each IsCalmMsg (c.link ++ ms)
  more_link ms k = Each-append IsCalmMsg c.link ms calm.link k

  -- what a replica sends
  abbrev Replies : Reaction → Type 0
  Replies reaction = Each IsCalmMsg reaction.sent

  validate_replies : (msg : Msg) (txn : Transaction) (held : Held) (mark : ℕ) (o : Option Entry) → msg.view ≡ 0 →
      ((entry : Entry) (outcome : Outcome) → o ≡ Some entry → entry.last ≡ Some outcome → outcome ≡ Commit) → Replies (on_validate txn mark held msg o)
  validate_replies msg txn held mark None v f = tt
  validate_replies msg txn held mark (Some entry) v f = by entry.last refl
    where
      unfinished : (o : Option Vote) → Replies (validate_unfinished mark held msg o)
      unfinished (Some vote) = (record { view = v; body = tt }, tt)
      unfinished None = tt

      by : (o : Option Outcome) → entry.last ≡ o → Replies (validate_known mark entry held msg o)
      by (Some outcome) e = (record { view = v; body = e ∙ ap (λ (x : Outcome). Some x) (f entry outcome refl e) }, tt)
      by None e = unfinished entry.vote

  decide_replies : (msg : Msg) (entry : Entry) (held : Held) (outcome : Outcome) (o : Option Outcome) → Replies (decide_known outcome entry held msg o)
  decide_replies msg entry held outcome (Some last) = tt
  decide_replies msg entry held outcome None = tt

  body_replies : (msg : Msg) (txn : Transaction) (b : Body) → msg.view ≡ 0 → IsCalmBody b → Replies (reaction txn (held_at c msg.replica) msg (entry_of msg.id (entries_at c msg.replica)) b)
  body_replies msg txn (ValidateBody mark) v k =
      validate_replies msg txn (held_at c msg.replica) mark (entry_of msg.id (entries_at c msg.replica)) v (λ entry outcome e last. finals msg.replica msg.id entry outcome e last)
  body_replies msg txn (Decide outcome) v k =
      let o = entry_of msg.id (entries_at c msg.replica) in let there = entry_or_opened txn o in
      decide_replies msg there (with_entry txn (held_at c msg.replica) o) outcome there.last
  body_replies msg txn (Voted vote) v k = tt
  body_replies msg txn (ToldBody told) v k = tt
  body_replies msg txn (Accept outcome) v k = absurd k
  body_replies msg txn AcceptedBody v k = absurd k
  body_replies msg txn Ask v k = absurd k
  body_replies msg txn (MovedBody moved) v k = absurd k

  view_replies : (msg : Msg) (txn : Transaction) → msg.view ≡ 0 → msg.epoch ≡ 0 → IsCalmBody msg.body → (o : Option ReplicaView) →
      ((view : ReplicaView) → o ≡ Some view → (is_serving view.phase ≡ true) × (view.epoch ≡ 0)) → Replies (reaction_by_view txn (held_at c msg.replica) msg o)
  view_replies msg txn v e k None f = tt
  view_replies msg txn v e k (Some view) f =
      cond_both (not (is_serving view.phase)) _ _ Replies (λ _. tt) (λ p.
      cond_both (nat_lt view.epoch msg.epoch) _ _ Replies (λ _. tt) (λ q.
      cond_both (nat_lt msg.epoch view.epoch) _ _ Replies (λ later. absurd (not_later later)) (λ r. body_replies msg txn msg.body v k)))
    where
      not_later : nat_lt msg.epoch view.epoch ≡ true → ⊥
      not_later t = let z = (f view refl).1 in grind (arith, nat_tests, t, z, e)

  replica_calm : (msg : Msg) (txn : Transaction) → Among msg c.link → IsCalmButLearned (replica_takes round msg txn c)
  replica_calm msg txn a =
      let h = Each-among IsCalmMsg msg c.link calm.link a in
      record {
        link = more_link _ (view_replies msg txn h.view (epochs msg a) h.body (slice_get round.views msg.replica) (λ view e. first msg.replica view e));
        attempts = calm.attempts;
        clients = calm.clients;
        takeovers = calm.takeovers;
      }

  -- ---- answers

  taught_calm : (o p : Option Outcome) → ((o ≡ None) ⊎ (o ≡ Some Commit)) → ((p ≡ None) ⊎ (p ≡ Some Commit)) → (option_or o p ≡ None) ⊎ (option_or o p ≡ Some Commit)
  taught_calm None p h k = k
  taught_calm (Some x) p h k = h

  answer_calm : (r : ℕ) (b : Body) → IsCalmBody b → (a : AttemptState) → IsCalmAttempt a → IsCalmAttempt (attempt_answered r b a)
  answer_calm r (Voted vote) k a h = record { epoch = h.epoch; unread = h.unread; stopped = h.stopped; proposed = h.proposed; learned = h.learned }
  answer_calm r (ToldBody told) k a h =
      record { epoch = h.epoch; unread = h.unread; stopped = h.stopped; proposed = h.proposed; learned = taught_calm a.coord.learned told.last h.learned (inr k) }
  answer_calm r (ValidateBody mark) k a h = record { epoch = h.epoch; unread = h.unread; stopped = h.stopped; proposed = h.proposed; learned = h.learned }
  answer_calm r (Decide outcome) k a h = record { epoch = h.epoch; unread = h.unread; stopped = h.stopped; proposed = h.proposed; learned = h.learned }
  answer_calm r (Accept outcome) k a h = absurd k
  answer_calm r AcceptedBody k a h = absurd k
  answer_calm r Ask k a h = absurd k
  answer_calm r (MovedBody moved) k a h = absurd k

  heard_calm : (b : Body) → IsCalmBody b → (x : ClientState) → HasHeardNothing x → HasHeardNothing (heard_of b x)
  heard_calm (MovedBody moved) k x h = absurd k
  heard_calm (Voted vote) k x h = h
  heard_calm (ToldBody told) k x h = h
  heard_calm (ValidateBody mark) k x h = h
  heard_calm (Decide outcome) k x h = h
  heard_calm (Accept outcome) k x h = h
  heard_calm AcceptedBody k x h = h
  heard_calm Ask k x h = h

  own_calm : (msg : Msg) → IsCalmMsg msg → IsCalmButLearned (own_answered msg c)
  own_calm msg k =
      cond_both (listens (attempt_of c msg.id)) _ _ IsCalmButLearned (λ _. record {
        link = calm.link;
        attempts = same_attempts (is_attempt msg.id) (attempt_answered msg.replica msg.body) (answer_calm msg.replica msg.body k.body);
        clients = Each-change (is_client (msg.id).client) (heard_of msg.body) HasHeardNothing (λ x t h. heard_calm msg.body k.body x h) c.clients calm.clients;
        takeovers = calm.takeovers;
      }) (λ _. as_it_is)

  takes_calm : (msg : Msg) → Among msg c.link → IsCalmButLearned (taken round msg c)
  takes_calm msg a =
      let k = Each-among IsCalmMsg msg c.link calm.link a in
      cond_both (goes_to_replica msg.body) _ _ IsCalmButLearned
      (λ _. on_some-keeps IsCalmButLearned (replica_takes round msg) (txn_of c msg.id) c (λ txn e. replica_calm msg txn a) as_it_is)
      (λ _. subst (λ (n : ℕ). IsCalmButLearned (if n == 0 then own_answered msg c else takeover_heard round msg c)) (sym k.view) (own_calm msg k))

  -- ---- key calls

  validated_calm : (txn : Transaction) (replica epoch : ℕ) (state : ValidationState) (o : Option KeyAct) → IsCalmButLearned (validated txn replica epoch state o c)
  validated_calm txn replica epoch state (Some act) = record { link = calm.link; attempts = calm.attempts; clients = calm.clients; takeovers = calm.takeovers }
  validated_calm txn replica epoch state None =
      record { link = more_link _ (record { view = refl; body = tt }, tt); attempts = calm.attempts; clients = calm.clients; takeovers = calm.takeovers }

  answered_calm : (answer : Answer) (w : Work) → IsCalmButLearned (answered answer w c)
  answered_calm answer Idle = as_it_is
  answered_calm answer (Fetching id replica key) =
      record {
        link = calm.link;
        attempts = same_attempts (is_attempt id) (with_read key answer) (λ x h. record { epoch = h.epoch; unread = h.unread; stopped = h.stopped; proposed = h.proposed; learned = h.learned });
        clients = calm.clients;
        takeovers = calm.takeovers;
      }
  answered_calm answer (Validating txn replica epoch state) = let next = after_answer state answer in validated_calm txn replica epoch next (next_act next)
  answered_calm answer (Finishing replica []) = record { link = calm.link; attempts = calm.attempts; clients = calm.clients; takeovers = calm.takeovers }
  answered_calm answer (Finishing replica (act ∷ acts)) = record { link = calm.link; attempts = calm.attempts; clients = calm.clients; takeovers = calm.takeovers }

  -- ---- ruling

  ruled_calm : (a : AttemptState) (r : Ruling) → r ≡ Fast Commit → IsCalmButLearned (ruled round.faults a r c)
  ruled_calm a r e =
      subst (λ (x : Ruling). IsCalmButLearned (ruled round.faults a x c)) (sym e) (record {
        link = more_link _ (to_all_calm round.faults a.epoch a.id (Decide Commit) refl);
        attempts = same_attempts (is_attempt a.id) (taught Commit)
            (λ x h. record { epoch = h.epoch; unread = h.unread; stopped = h.stopped; proposed = h.proposed; learned = taught_calm x.coord.learned (Some Commit) h.learned (inr refl) });
        clients = calm.clients;
        takeovers = calm.takeovers;
      })

  -- ---- what is learned

  abbrev Lessons : List Learning → Type 0
  Lessons ls = Each IsCalmLearning ls

  body_lessons : (msg : Msg) (b : Body) → IsCalmBody b → Lessons (by_message round c msg b)
  body_lessons msg (Decide outcome) k = cond_both (is_finished_by round c msg) _ _ Lessons (λ _. (record { commits = k; way = inr (inr refl) }, tt)) (λ _. tt)
  body_lessons msg (ToldBody told) k =
      cond_both (is_heard round c msg) _ _ Lessons (λ _. subst (λ (o : Option Outcome). Lessons (learning_of msg.id ByTelling o)) (sym k) (record { commits = refl; way = inr (inl refl) }, tt)) (λ _. tt)
  body_lessons msg (Voted vote) k = tt
  body_lessons msg (ValidateBody mark) k = tt
  body_lessons msg (Accept outcome) k = absurd k
  body_lessons msg AcceptedBody k = absurd k
  body_lessons msg Ask k = absurd k
  body_lessons msg (MovedBody moved) k = absurd k

  message_in : (link : List Msg) (number : ℕ) (msg : Msg) → message link number ≡ Some msg → Among msg link
  message_in link number msg e = message_among link number msg e

  taken_lessons : (number : ℕ) (o : Option Msg) → message c.link number ≡ o → Lessons (by_taken round c o)
  taken_lessons number None e = tt
  taken_lessons number (Some msg) e = body_lessons msg msg.body (Each-among IsCalmMsg msg c.link calm.link (message_in c.link number msg e)).body

  rule_lessons : (id : TxnId) (o : Option AttemptState) → ((a : AttemptState) → o ≡ Some a → ruling round.faults a.coord ≡ Fast Commit) → Lessons (by_rule round id o)
  rule_lessons id None f = tt
  rule_lessons id (Some a) f = subst (λ (r : Ruling). Lessons (by_ruling id r)) (sym (f a refl)) (record { commits = refl; way = inl refl }, tt)

  step_lessons : (step : Step) → IsCalmStep round c step → Lessons (learned_in_step round c step)
  step_lessons (Rule id) k = rule_lessons id (attempt_of c id) k
  step_lessons (Take number) k = taken_lessons number (message c.link number) refl
  step_lessons (Begin client replica) k = tt
  step_lessons (Read id key) k = tt
  step_lessons (Stamp id clock writes) k = tt
  step_lessons (Validate id) k = tt
  step_lessons (Key call answer) k = tt
  step_lessons (Unread client) k = absurd k
  step_lessons (Again id) k = absurd k
  step_lessons (Takeover id view) k = absurd k
  step_lessons (PickStep id view) k = absurd k
  step_lessons (Stop id) k = absurd k

  step_calm : (step : Step) → IsCalmStep round c step → IsCalmButLearned (stepped round c step)
  step_calm (Begin client replica) k =
      on_some-keeps IsCalmButLearned (beginning round replica (epoch_of (slice_get round.views replica))) (client_of c client) c (λ x e. begins_calm replica x) as_it_is
  step_calm (Read id key) k =
      on_some-keeps IsCalmButLearned (λ a col. record col { work = Fetching id a.replica key }) (attempt_of c id) c
      (λ a e. record { link = calm.link; attempts = calm.attempts; clients = calm.clients; takeovers = calm.takeovers }) as_it_is
  step_calm (Stamp id clock writes) k =
      on_some-keeps IsCalmButLearned (stamping clock writes) (attempt_of c id) c
      (λ a e. on_some-keeps IsCalmButLearned (λ cl col. stamped a.id writes (next_stamp_of cl.number cl.last_time clock a.reads) col) (client_of c (a.id).client) c
      (λ cl q. stamps_calm a.id writes (next_stamp_of cl.number cl.last_time clock a.reads)) as_it_is) as_it_is
  step_calm (Validate id) k =
      on_some-keeps IsCalmButLearned (λ a col. send (to_all round.faults a.epoch id 0 (ValidateBody (mark_sent round col id.client))) col) (attempt_of c id) c
      (λ a e. record { link = more_link _ (to_all_calm round.faults a.epoch id (ValidateBody (mark_sent round c id.client)) tt); attempts = calm.attempts; clients = calm.clients; takeovers = calm.takeovers }) as_it_is
  step_calm (Take number) k = on_some-keeps IsCalmButLearned (taken round) (message c.link number) c (λ msg e. takes_calm msg (message_in c.link number msg e)) as_it_is
  step_calm (Key call answer) k = answered_calm answer c.work
  step_calm (Rule id) k =
      on_some-keeps IsCalmButLearned (λ a col. ruled round.faults a (ruling round.faults a.coord) col) (attempt_of c id) c (λ a e. ruled_calm a (ruling round.faults a.coord) (k a e)) as_it_is
  step_calm (Unread client) k = absurd k
  step_calm (Again id) k = absurd k
  step_calm (Takeover id view) k = absurd k
  step_calm (PickStep id view) k = absurd k
  step_calm (Stop id) k = absurd k

  -- so the column is calm after the step
  pub calm_after : (step : Step) → IsCalmStep round c step → IsCalm (column_after round c step)
  calm_after step k =
      let h = step_calm step k in
      record {
        link = h.link;
        attempts = h.attempts;
        clients = h.clients;
        takeovers = h.takeovers;
        learned = Each-append IsCalmLearning c.learned (learned_in_step round c step) calm.learned (step_lessons step k);
      }
