-- What a column keeps when a replica takes a message.
use Rattle.std.proofs.Common.{◌≡◌, ◌<◌, ℕ, zero, suc, Bool, true, false, refl, sym, subst, ap, ◌∙◌, List, [], ◌∷◌, ◌++◌, Option, Some, None, ◌||◌, ◌&&◌, not, length, length-set, get_or, arith, cond}
use Rattle.std.specs.Prelude.{find, map, option_map, option_and_then, slice_get, slice_set, slice_index_or, is_some, nat_lt, IsSome, IsSomeAnd, if◌then◌else◌}
use Rattle.std.specs.List.{list_any}
use Rattle.std.specs.Option.{option_or}
use Rattle.std.proofs.lemmas.List.{map-set, map-append, append-nil, set-get_or}
use Rattle.std.proofs.lemmas.List.Folds.{find-append}
use Rattle.std.proofs.lemmas.Bool.{false≢true, cond_both}
use Rattle.mk_lists.specs.Among.{Each, Each-weaker}
use Rattle.mk_lists.proofs.Lookups.{find-passes}
use Rattle.mk_lists.proofs.EachMember.{Each-find}
use Rattle.mk_txn.specs.declared.TxnId.{TxnId}
use Rattle.mk_txn.specs.declared.Vote.{Vote}
use Rattle.mk_txn.specs.declared.Outcome.{Outcome}
use Rattle.mk_txn.specs.Transactions.{Transaction, same_id}
use Rattle.mk_txn.proofs.IdOrder.{same_id-tells, same_id-itself}
use Rattle.mk_words.specs.declared.Entry.{Entry}
use Rattle.mk_words.specs.Entries.{entry_of, opened, may_vote}
use Rattle.mk_words.specs.declared.Msg.{Msg}
use Rattle.mk_words.specs.declared.Body.{Body}
use Rattle.mk_words.specs.declared.Body.TheVariants.{Validate as ValidateBody, Voted, Accept, Accepted as AcceptedBody, Decide, Ask, Told as ToldBody, Moved as MovedBody}
use Rattle.mk_words.specs.Links.{goes_to_replica}
use Rattle.mk_words.specs.Checks.{KeyAct}
use Rattle.mk_quorum.specs.Sizes.{members}
use Rattle.mk_trim.specs.SettledAttempts.{SettledAttempts}
use Rattle.mk_trim.specs.declared.ReplicaView.{ReplicaView}
use Rattle.mk_column.specs.declared.learned.Learned.{Learned}
use Rattle.mk_column.specs.declared.learned.Way.TheVariants.{Finishing as KeptFinished}
use Rattle.std.proofs.lemmas.Option.{none-some}
use Rattle.mk_column.specs.declared.work.Work.{Work as KeptWork}
use Rattle.mk_column.specs.declared.work.Work.TheVariants.{Idle as KeptIdle, Fetching as KeptFetching, Validating as KeptValidating, Finishing as KeptFinishing}
use Rattle.mk_model.specs.ColumnState.{Setting, ColumnState, Learning, Work, AttemptState, is_attempt, entries_at}
use Rattle.mk_model.specs.ColumnState.Work.{Idle, Fetching, Validating, Finishing}
use Rattle.mk_model.specs.Conditions.{is_validate_of, is_idle, wanted}
use Rattle.mk_words.specs.Validations.{next_act, validation_of}
use Rattle.mk_column.specs.HeldByCode.{work_of, sent_of, reaction_with}
use Rattle.mk_model.specs.Learnings.{txn_of, is_decision_of, is_final, is_finished_by, by_message}
use Rattle.mk_column.specs.StepsByCode.{finished_by}
use Rattle.mk_model.specs.Replicas.{Held, Reaction, reply, ignored, answering, entry_or_opened, with_entry, marking, reaction, reaction_by_view, moved_reaction, validate_known, validate_unfinished, ask_known, accept_known, decide_known, finishing, is_serving, serves, held_at, reacted}
use Rattle.mk_model.specs.Steps.{on_some, replica_takes}
use Rattle.mk_column.specs.StepsByCode.{delivered}
use Rattle.mk_column.specs.AttemptsByCode.{BegunView, begun_of, is_begun, states_of}
use Rattle.mk_column.specs.ColumnByCode.{Kept, IsKept, AttemptFits, WorkFits, MayVoteAt, first_decision, learning_of_kept, finish_kept, column_of}
use Rattle.mk_column.proofs.ColumnLaws.{attempt-found}
use Rattle.mk_column.proofs.AnswerLaws.{IsKept-replied, index-map}

-- ---- what a reaction sends and begins

-- the key calls that a replica begins are at it, an entry that is validated may vote, and an act is left
abbrev pub WorkBegins : ℕ → Held → Work → Type 0
WorkBegins r held Idle = Unit {0}
WorkBegins r held (Fetching id replica key) = ⊥
WorkBegins r held (Validating txn replica epoch state) =
    (replica ≡ r) × IsSomeAnd (entry_of txn.id held.entries) (λ entry. may_vote entry ≡ true) × IsSome (next_act state)
WorkBegins r held (Finishing replica left) = IsSome (wanted (Finishing replica left))

-- no Validate is sent, and what is sent is of the message's replica
pub record ReactionFits (msg : Msg) (reaction : Reaction) : Type 0 where
  pub sent : (id : TxnId) → list_any (is_validate_of id) reaction.sent ≡ false
  pub within : (n : ℕ) → msg.replica < n → Each (λ (answer : Msg). answer.replica < n) reaction.sent
  pub work : WorkBegins msg.replica reaction.held reaction.work

ignored-fits : (held : Held) (msg : Msg) → ReactionFits msg (ignored held)
ignored-fits held msg = record { sent = λ id. refl; within = λ n h. tt; work = tt }

answering-fits : (held : Held) (msg : Msg) (body : Body) → ((id : TxnId) → is_validate_of id (reply msg body) ≡ false)
    → ReactionFits msg (answering held msg body)
answering-fits held msg body e = record { sent = λ id. ap (λ b. b || false) (e id); within = λ n h. (h, tt); work = tt }

finishing-begins : (r : ℕ) (held : Held) (acts : List KeyAct) → WorkBegins r held (finishing r acts)
finishing-begins r held [] = tt
finishing-begins r held (act ∷ acts) = refl

-- an entry that is opened may vote
opened-votes : (txn : Transaction) (id : TxnId) (entries : List Entry) → txn.id ≡ id → entry_of id entries ≡ None
    → IsSomeAnd (entry_of txn.id (entries ++ opened txn ∷ [])) (λ entry. may_vote entry ≡ true)
opened-votes txn id entries is none =
    subst (λ o. IsSomeAnd o (λ (entry : Entry). may_vote entry ≡ true)) (sym found) refl
  where
    found : entry_of txn.id (entries ++ opened txn ∷ []) ≡ Some (opened txn)
    found =
        find-append (λ (entry : Entry). same_id entry.txn.id txn.id) entries (opened txn ∷ [])
        ∙ ap (λ o. option_or o (find (λ (entry : Entry). same_id entry.txn.id txn.id) (opened txn ∷ []))) (ap (λ i. entry_of i entries) is ∙ none)
        ∙ ap (λ b. cond b (Some (opened txn)) None) (same_id-itself txn.id)

validate-fits : (txn : Transaction) (mark : ℕ) (held : Held) (msg : Msg) (entry : Entry) (last : Option Outcome)
    → ReactionFits msg (validate_known mark entry held msg last)
validate-fits txn mark held msg entry (Some outcome) = answering-fits (marking mark held msg) msg _ (λ id. refl)
validate-fits txn mark held msg entry None = by_vote entry.vote
  where
    by_vote : (vote : Option Vote) → ReactionFits msg (validate_unfinished mark held msg vote)
    by_vote (Some vote) = answering-fits (marking mark held msg) msg (Voted vote) (λ id. refl)
    by_vote None = ignored-fits held msg

ask-fits : (held : Held) (msg : Msg) (entry : Entry) (last : Option Outcome) → ReactionFits msg (ask_known entry held msg last)
ask-fits held msg entry (Some outcome) = answering-fits held msg _ (λ id. refl)
ask-fits held msg entry None =
    cond_both (nat_lt msg.view entry.view) (ignored held) _ (ReactionFits msg) (λ e. ignored-fits held msg) (λ e. answering-fits _ msg _ (λ id. refl))

accept-fits : (outcome : Outcome) (held : Held) (msg : Msg) (entry : Entry) (last : Option Outcome)
    → ReactionFits msg (accept_known outcome entry held msg last)
accept-fits outcome held msg entry (Some kept) = answering-fits held msg _ (λ id. refl)
accept-fits outcome held msg entry None =
    cond_both (nat_lt msg.view entry.view) (ignored held) _ (ReactionFits msg) (λ e. ignored-fits held msg) (λ e. answering-fits _ msg AcceptedBody (λ id. refl))

decide-fits : (outcome : Outcome) (held : Held) (msg : Msg) (entry : Entry) (last : Option Outcome)
    → ReactionFits msg (decide_known outcome entry held msg last)
decide-fits outcome held msg entry (Some kept) = ignored-fits held msg
decide-fits outcome held msg entry None =
    record { sent = λ id. refl; within = λ n h. tt; work = finishing-begins msg.replica (decide_known outcome entry held msg None).held _ }

body-fits : (txn : Transaction) (held : Held) (msg : Msg) (entry : Option Entry) (body : Body) → txn.id ≡ msg.id → IsSome (next_act (validation_of txn))
    → entry_of msg.id held.entries ≡ entry → ReactionFits msg (reaction txn held msg entry body)
body-fits txn held msg (Some entry) (ValidateBody mark) is acts found = validate-fits txn mark held msg entry entry.last
body-fits txn held msg None (ValidateBody mark) is acts found =
    record { sent = λ id. refl; within = λ n h. tt; work = (refl, opened-votes txn msg.id held.entries is found, acts) }
body-fits txn held msg entry Ask is acts found = ask-fits (with_entry txn held entry) msg (entry_or_opened txn entry) (entry_or_opened txn entry).last
body-fits txn held msg entry (Accept outcome) is acts found =
    accept-fits outcome (with_entry txn held entry) msg (entry_or_opened txn entry) (entry_or_opened txn entry).last
body-fits txn held msg entry (Decide outcome) is acts found =
    decide-fits outcome (with_entry txn held entry) msg (entry_or_opened txn entry) (entry_or_opened txn entry).last
body-fits txn held msg entry (Voted vote) is acts found = ignored-fits held msg
body-fits txn held msg entry AcceptedBody is acts found = ignored-fits held msg
body-fits txn held msg entry (ToldBody told) is acts found = ignored-fits held msg
body-fits txn held msg entry (MovedBody moved) is acts found = ignored-fits held msg

moved-fits : (view : ReplicaView) (held : Held) (msg : Msg) (body : Body) → ReactionFits msg (moved_reaction view held msg body)
moved-fits view held msg (Decide outcome) = ignored-fits held msg
moved-fits view held msg (ValidateBody mark) = answering-fits held msg _ (λ id. refl)
moved-fits view held msg Ask = answering-fits held msg _ (λ id. refl)
moved-fits view held msg (Accept outcome) = answering-fits held msg _ (λ id. refl)
moved-fits view held msg (Voted vote) = answering-fits held msg _ (λ id. refl)
moved-fits view held msg AcceptedBody = answering-fits held msg _ (λ id. refl)
moved-fits view held msg (ToldBody told) = answering-fits held msg _ (λ id. refl)
moved-fits view held msg (MovedBody moved) = answering-fits held msg _ (λ id. refl)

pub reaction-fits : (txn : Transaction) (held : Held) (msg : Msg) (view : ReplicaView) → txn.id ≡ msg.id → IsSome (next_act (validation_of txn))
    → ReactionFits msg (reaction_by_view txn held msg (Some view))
reaction-fits txn held msg view is acts =
    cond_both (not (is_serving view.phase)) (ignored held) _ (ReactionFits msg) (λ e. ignored-fits held msg) (λ e. cond_both (nat_lt view.epoch msg.epoch) (ignored held) _ (ReactionFits msg) (λ k. ignored-fits held msg) (λ k. cond_both (nat_lt msg.epoch view.epoch) (moved_reaction view held msg msg.body) _ (ReactionFits msg) (λ j. moved-fits view held msg msg.body) (λ j. body-fits txn held msg (entry_of msg.id held.entries) msg.body is acts refl)))

-- ---- what the column keeps

index-set : {X : Type 0} (xs : List X) (n : ℕ) (x d : X) → n < length xs → slice_index_or (slice_set xs n x) n d ≡ x
index-set [] n x d h = absurd (omega arith)
index-set (first ∷ xs) zero x d h = refl
index-set (first ∷ xs) (suc n) x d h = index-set xs n x d (omega arith)

begun-fits : (n : ℕ) (attempts : List BegunView) (replicas : List Held) (r : ℕ) (held : Held) (work : KeptWork) → r < n → length replicas ≡ n
    → WorkBegins r held (work_of work) → WorkFits n attempts (slice_set replicas r held) work
begun-fits n attempts replicas r held KeptIdle h long k = tt
begun-fits n attempts replicas r held (KeptFetching id replica key) h long k = absurd k
begun-fits n attempts replicas r held (KeptValidating txn replica epoch state) h long k =
    let within : r < length replicas = subst (λ m. r < m) (sym long) h in (
      subst (λ m. m < n) (sym k.0) h,
      subst (λ m. MayVoteAt m txn.id (slice_set replicas r held)) (sym k.0)
          (subst (λ (there : Held). IsSomeAnd (entry_of txn.id there.entries) (λ entry. may_vote entry ≡ true)) (sym (index-set replicas r held (record { entries = []; marks = [] }) within)) k.1),
      k.2,
    )
begun-fits n attempts replicas r held (KeptFinishing replica left) h long k = k

-- what a replica's finishing teaches leaves what is decided
finish-none : (id q : TxnId) (finished : Option Outcome) → find (is_decision_of q) (map learning_of_kept (finish_kept id finished)) ≡ None
finish-none id q None = refl
finish-none id q (Some outcome) =
    ap (λ b. cond b (Some (learning_of_kept (record { id = id; outcome = outcome; way = KeptFinished }))) None) (and_false (same_id id q))
  where
    and_false : (b : Bool) → (b && false) ≡ false
    and_false true = refl
    and_false false = refl

decision-stays : (q id : TxnId) (finished : Option Outcome) (learned : List Learned)
    → first_decision (map learning_of_kept (learned ++ finish_kept id finished)) q ≡ first_decision (map learning_of_kept learned) q
decision-stays q id finished learned =
    ap (λ all. first_decision all q) (map-append learning_of_kept learned (finish_kept id finished))
    ∙ ap (option_map (λ (l : Learning). l.outcome)) (find-append (is_decision_of q) (map learning_of_kept learned) (map learning_of_kept (finish_kept id finished)) ∙ ap (option_or (find (is_decision_of q) (map learning_of_kept learned))) (finish-none id q finished) ∙ or_none (find (is_decision_of q) (map learning_of_kept learned)))
  where
    or_none : (o : Option Learning) → option_or o None ≡ o
    or_none None = refl
    or_none (Some l) = refl

IsKept-finished : (f : ℕ) (kept : Kept) (ends : SettledAttempts) (id : TxnId) (finished : Option Outcome) → IsKept f kept ends
    → IsKept f (record kept { learned = kept.learned ++ finish_kept id finished }) ends
IsKept-finished f kept ends id finished h =
    let learned = map learning_of_kept kept.learned in
    let more = map learning_of_kept (kept.learned ++ finish_kept id finished) in
    record {
      replicas = h.replicas;
      attempts =
          Each-weaker (AttemptFits f kept.link learned) (AttemptFits f kept.link more)
          (λ b k. fits-finished f kept.link learned more b (decision-stays b.state.id id finished kept.learned) k) kept.attempts h.attempts;
      takeovers = h.takeovers;
      clients = h.clients;
      sent = h.sent;
      settled = h.settled;
      decisions = λ q none. decision-stays q id finished kept.learned ∙ h.decisions q none;
      validates = h.validates;
      homes = h.homes;
      takers = h.takers;
      work = h.work;
    }
  where
    fits-finished : (f : ℕ) (link : List Msg) (learned more : List Learning) (b : BegunView)
        → first_decision more b.state.id ≡ first_decision learned b.state.id → AttemptFits f link learned b → AttemptFits f link more b
    fits-finished f link learned more b e k =
        record { faults = k.faults; validated = k.validated; decided = k.decided ∙ sym e; named = k.named; acts = k.acts; unstamped = k.unstamped; seq = k.seq }

-- a reaction of the code is one of the definitions
pub record IsReaction (kept : Kept) (msg : Msg) (txn : Transaction) (view : ReplicaView) (old new : Held) (answer : Option Body) (work : KeptWork) : Type 0 where
  pub within : msg.replica < length kept.replicas
  pub there : old ≡ get_or kept.replicas msg.replica old
  pub named : txn.id ≡ msg.id
  pub acts : IsSome (next_act (validation_of txn))
  pub reacts : reaction_with new msg answer work ≡ reaction_by_view txn old msg (Some view)

pub IsKept-delivered : (f : ℕ) (kept : Kept) (ends : SettledAttempts) (msg : Msg) (txn : Transaction) (view : ReplicaView) (old new : Held)
    (answer : Option Body) (work : KeptWork) (finished : Option Outcome) (link : List Msg) (learned : List Learned)
    → IsKept f kept ends → IsReaction kept msg txn view old new answer work → link ≡ kept.link ++ sent_of msg answer
    → learned ≡ kept.learned ++ finish_kept msg.id finished
    → IsKept f (record kept { replicas = slice_set kept.replicas msg.replica new; link = link; work = work; learned = learned }) ends
IsKept-delivered f kept ends msg txn view old new answer work finished link learned h r sent taught =
    let within : msg.replica < members f = subst (λ n. msg.replica < n) h.replicas r.within in
    let fits : ReactionFits msg (reaction_with new msg answer work) = subst (ReactionFits msg) (sym r.reacts) (reaction-fits txn old msg view r.named r.acts) in
    rw (sent, taught)
    (IsKept-finished f _ ends msg.id finished
    (IsKept-replied f kept ends (slice_set kept.replicas msg.replica new) (sent_of msg answer) work h (length-set _ _ _ ∙ h.replicas) (fits.within (members f) within) fits.sent
    (begun-fits (members f) kept.attempts kept.replicas msg.replica new work within h.replicas fits.work)))

-- ---- as the definitions have it

finish-learned : (round : Setting) (column : ColumnState) (msg : Msg) (body : Body) → goes_to_replica body ≡ true
    → map learning_of_kept (finish_kept msg.id (finished_by round column msg body)) ≡ by_message round column msg body
finish-learned round column msg (ValidateBody mark) e = refl
finish-learned round column msg (Accept outcome) e = refl
finish-learned round column msg Ask e = refl
finish-learned round column msg (Decide outcome) e = by_test (is_finished_by round column msg)
  where
    by_test : (t : Bool)
        → map learning_of_kept (finish_kept msg.id (if t then Some outcome else None)) ≡ (if t then learning_of_kept (record { id = msg.id; outcome = outcome; way = KeptFinished }) ∷ [] else [])
    by_test true = refl
    by_test false = refl
finish-learned round column msg (Voted vote) e = absurd (false≢true e)
finish-learned round column msg AcceptedBody e = absurd (false≢true e)
finish-learned round column msg (ToldBody told) e = absurd (false≢true e)
finish-learned round column msg (MovedBody moved) e = absurd (false≢true e)

pub delivered-state : (round : Setting) (kept : Kept) (msg : Msg) (txn : Transaction) (view : ReplicaView) (old new : Held) (answer : Option Body)
    (work : KeptWork) (link : List Msg) (learned : List Learned) (finished : Option Outcome)
    → IsReaction kept msg txn view old new answer work → txn_of (column_of kept) msg.id ≡ Some txn → slice_get round.views msg.replica ≡ Some view
    → goes_to_replica msg.body ≡ true
    → link ≡ kept.link ++ sent_of msg answer → learned ≡ kept.learned ++ finish_kept msg.id finished
    → finished ≡ finished_by round (column_of kept) msg msg.body
    → column_of (record kept { replicas = slice_set kept.replicas msg.replica new; link = link; work = work; learned = learned }) ≡ delivered round msg (column_of kept)
delivered-state round kept msg txn view old new answer work link learned finished r stamped seen goes sent taught finishes =
    let column = column_of kept in
    let p = msg.replica in
    let teach = by_message round column msg msg.body in
    let held : held_at column p ≡ old =
    (λ i. record { entries = index-map (λ (h : Held). h.entries) kept.replicas p old [] r.within i; marks = index-map (λ (h : Held). h.marks) kept.replicas p old [] r.within i })
    ∙ sym r.there in
    let takes : on_some (replica_takes round msg) (txn_of column msg.id) column ≡ reacted p (reaction_with new msg answer work) column =
    ap (λ o. on_some (replica_takes round msg) o column) stamped ∙ ap (λ o. reacted p (reaction_by_view txn (held_at column p) msg o) column) seen
    ∙ ap (λ h. reacted p (reaction_by_view txn h msg (Some view)) column) held ∙ ap (λ reaction. reacted p reaction column) (sym r.reacts) in
    let learns : map learning_of_kept learned ≡ column.learned ++ teach =
    ap (map learning_of_kept) taught ∙ map-append learning_of_kept kept.learned (finish_kept msg.id finished)
    ∙ ap (λ o. column.learned ++ map learning_of_kept (finish_kept msg.id o)) finishes
    ∙ ap (λ all. column.learned ++ all) (finish-learned round column msg msg.body goes) in
    (λ i. record column {
      records = map-set (λ (h : Held). h.entries) kept.replicas p new i;
      marks = map-set (λ (h : Held). h.marks) kept.replicas p new i;
      link = sent i;
      work = work_of work;
      learned = learns i;
    })
    ∙ sym (ap (λ (col : ColumnState). record col { learned = column.learned ++ teach }) takes)

-- ---- messages that change nothing

teaches-none : (round : Setting) (column : ColumnState) (msg : Msg) (body : Body) → goes_to_replica body ≡ true → is_finished_by round column msg ≡ false
    → by_message round column msg body ≡ []
teaches-none round column msg (ValidateBody mark) e k = refl
teaches-none round column msg (Accept outcome) e k = refl
teaches-none round column msg Ask e k = refl
teaches-none round column msg (Decide outcome) e k =
    ap (λ t. if t then learning_of_kept (record { id = msg.id; outcome = outcome; way = KeptFinished }) ∷ [] else []) k
teaches-none round column msg (Voted vote) e k = absurd (false≢true e)
teaches-none round column msg AcceptedBody e k = absurd (false≢true e)
teaches-none round column msg (ToldBody told) e k = absurd (false≢true e)
teaches-none round column msg (MovedBody moved) e k = absurd (false≢true e)

nothing-delivered : (round : Setting) (column : ColumnState) (msg : Msg) → on_some (replica_takes round msg) (txn_of column msg.id) column ≡ column
    → by_message round column msg msg.body ≡ [] → column ≡ delivered round msg column
nothing-delivered round column msg same none =
    (λ i. record column { learned = sym (append-nil column.learned) i })
    ∙ (λ i. record column { learned = column.learned ++ sym none i })
    ∙ sym (ap (λ (col : ColumnState). record col { learned = column.learned ++ by_message round column msg msg.body }) same)

-- a message to a replica that is not seen
pub unseen-state : (round : Setting) (column : ColumnState) (msg : Msg) → is_idle column.work ≡ true → slice_get round.views msg.replica ≡ None
    → goes_to_replica msg.body ≡ true → column ≡ delivered round msg column
unseen-state round column msg idle none goes =
    nothing-delivered round column msg (takes (txn_of column msg.id))
    (teaches-none round column msg msg.body goes (ap (λ o. serves msg.epoch o && is_some (txn_of column msg.id) && not (is_final (entry_of msg.id (entries_at column msg.replica)))) none))
  where
    idle-work : (work : Work) → is_idle work ≡ true → Idle ≡ work
    idle-work Idle e = refl
    idle-work (Fetching id replica key) e = absurd (false≢true e)
    idle-work (Validating txn replica epoch state) e = absurd (false≢true e)
    idle-work (Finishing replica left) e = absurd (false≢true e)

    takes : (o : Option Transaction) → on_some (replica_takes round msg) o column ≡ column
    takes None = refl
    takes (Some txn) =
        ap (λ v. reacted msg.replica (reaction_by_view txn (held_at column msg.replica) msg v) column) none
        ∙ (λ i. record column {
          records = set-get_or column.records msg.replica [] i;
          marks = set-get_or column.marks msg.replica [] i;
          link = append-nil column.link i;
          work = idle-work column.work idle i;
        })

-- a message about an attempt that is not stamped
pub unstamped-state : (round : Setting) (column : ColumnState) (msg : Msg) → txn_of column msg.id ≡ None → goes_to_replica msg.body ≡ true
    → column ≡ delivered round msg column
unstamped-state round column msg none goes =
    nothing-delivered round column msg (ap (λ o. on_some (replica_takes round msg) o column) none)
    (teaches-none round column msg msg.body goes
    (ap (λ o. serves msg.epoch (slice_get round.views msg.replica) && is_some o && not (is_final (entry_of msg.id (entries_at column msg.replica)))) none
    ∙ ap (λ t. t && not (is_final (entry_of msg.id (entries_at column msg.replica)))) (and_false (serves msg.epoch (slice_get round.views msg.replica)))))
  where
    and_false : (b : Bool) → (b && false) ≡ false
    and_false true = refl
    and_false false = refl

-- ---- what the tables tell

pub txn-found : (id : TxnId) (all : List BegunView)
    → option_and_then (λ (a : AttemptState). a.txn) (find (is_attempt id) (states_of all)) ≡ option_and_then (λ (b : BegunView). b.state.txn) (begun_of id all)
txn-found id all = ap (option_and_then (λ (a : AttemptState). a.txn)) (attempt-found id all) ∙ through (begun_of id all)
  where
    through : (o : Option BegunView)
        → option_and_then (λ (a : AttemptState). a.txn) (option_map (λ (b : BegunView). b.state) o) ≡ option_and_then (λ (b : BegunView). b.state.txn) o
    through None = refl
    through (Some b) = refl

pub txn-named : (f : ℕ) (link : List Msg) (learned : List Learning) (id : TxnId) (all : List BegunView) (txn : Transaction)
    → Each (AttemptFits f link learned) all → option_and_then (λ (b : BegunView). b.state.txn) (begun_of id all) ≡ Some txn → txn.id ≡ id
txn-named f link learned id all txn h e = by_found (begun_of id all) refl e
  where
    by_found : (o : Option BegunView) → begun_of id all ≡ o → option_and_then (λ (b : BegunView). b.state.txn) o ≡ Some txn → txn.id ≡ id
    by_found None found k = absurd (none-some txn k)
    by_found (Some b) found k =
        (Each-find (AttemptFits f link learned) (is_begun id) all b h found).named txn k ∙ same_id-tells b.state.id id (find-passes (is_begun id) all b found)

-- the transaction of an attempt has an act
pub txn-acts : (f : ℕ) (link : List Msg) (learned : List Learning) (id : TxnId) (all : List BegunView) (txn : Transaction)
    → Each (AttemptFits f link learned) all → option_and_then (λ (b : BegunView). b.state.txn) (begun_of id all) ≡ Some txn
    → IsSome (next_act (validation_of txn))
txn-acts f link learned id all txn h e = by_found (begun_of id all) refl e
  where
    by_found : (o : Option BegunView) → begun_of id all ≡ o → option_and_then (λ (b : BegunView). b.state.txn) o ≡ Some txn
        → IsSome (next_act (validation_of txn))
    by_found None found k = absurd (none-some txn k)
    by_found (Some b) found k = (Each-find (AttemptFits f link learned) (is_begun id) all b h found).acts txn k

-- ---- the step
