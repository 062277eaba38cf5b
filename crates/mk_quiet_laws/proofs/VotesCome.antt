-- In a calm column in which every message was taken and no act was refused, an attempt whose Validates were sent has all votes.
use Rattle.std.proofs.Common.{◌≡◌, ◌⊎◌, ◌<◌, ◌≤◌, ◌∙◌, ℕ, zero, suc, ◌+◌, ◌-◌, Bool, true, false, refl, arith, inl, inr, sym, ap, subst, List, [], ◌∷◌, ◌++◌, length, map, Option, Some, None, if◌then◌else◌}
use Rattle.std.specs.Prelude.{is_some, nat_le, nat_lt, slice_get}
use Rattle.std.proofs.lemmas.Bool.Decides.{nat_tests}
use Rattle.std.proofs.lemmas.Option.{same_Some}
use Rattle.mk_lists.specs.Among.{Among, Each-among}
use Rattle.mk_lists.proofs.Lookups.{find_tells, find-from_Among}
use Rattle.mk_txn.specs.declared.TxnId.{TxnId}
use Rattle.mk_txn.specs.declared.Vote.{Vote}
use Rattle.mk_txn.specs.declared.Vote.TheVariants.{Ok as VoteOk, Abort as VoteAbort}
use Rattle.mk_txn.specs.declared.Outcome.{Outcome}
use Rattle.mk_txn.specs.declared.Outcome.TheVariants.{Commit}
use Rattle.mk_txn.specs.Outcomes.{is_ok_vote}
use Rattle.mk_txn.specs.Transactions.{same_id}
use Rattle.mk_txn.proofs.IdOrder.{same_id-itself, same_id-tells}
use Rattle.mk_words.specs.declared.Entry.{Entry}
use Rattle.mk_words.specs.Entries.{entry_of}
use Rattle.mk_words.specs.declared.Msg.{Msg}
use Rattle.mk_words.specs.declared.Moved.{Moved}
use Rattle.mk_words.specs.declared.Told.{Told}
use Rattle.mk_words.specs.declared.Body.{Body}
use Rattle.mk_words.specs.declared.Body.TheVariants.{Validate as ValidateBody, Voted, Accept, Decide, Ask, Told as ToldBody, Moved as MovedBody}
use Rattle.mk_words.specs.Links.{message}
use Rattle.mk_words.specs.declared.Ruling.{Ruling}
use Rattle.mk_words.specs.declared.Ruling.TheVariants.{Fast, Propose, Short}
use Rattle.mk_words.specs.Rulings.{ruling, by_votes, unless_learned, unless_proposed, first_refusal, is_abort_vote, any_vote}
use Rattle.mk_quorum.specs.Counts.{count_below}
use Rattle.mk_quorum.specs.Sizes.{members, fast_of, majority_of}
use Rattle.mk_quorum.specs.Slots.{slot, passes, count_slots}
use Rattle.mk_quorum.proofs.Meeting.{sizes_ascend}
use Rattle.mk_words.specs.declared.Step.{Step}
use Rattle.mk_words.specs.declared.Step.TheVariants.{Take}
use Rattle.mk_model.specs.ColumnState.{Setting, AttemptState, Learning, Way, attempt_of, entries_at, is_attempt}
use Rattle.mk_model.specs.ColumnState.Work.{Idle, Validating}
use Rattle.mk_model.specs.ColumnState.Way.{ByVotes, ByTelling, ByFinishing}
use Rattle.mk_model.specs.Conditions.{blocked}
use Rattle.mk_model.specs.Learnings.{learning}
use Rattle.mk_model.specs.Replicas.{serves}
use Rattle.mk_model.specs.Sending.{Sent, msg_of}
use Rattle.mk_model.proofs.Frames.{enabled}
use Rattle.mk_column_laws.specs.Moments.{Moment, PastEntry, Taught, StaysTaught, IsReached, Event, CanHappen, EachHappens, after_event, moment_through, step_done, first_moment}
use Rattle.mk_column_laws.specs.Moments.Event.{Doing}
use Rattle.mk_column_laws.specs.Moves.{undated}
use Rattle.mk_column_laws.specs.Facts.{Facts, ToldFacts, Says}
use Rattle.mk_column_laws.proofs.Rounds.{reached_facts, step_facts}
use Rattle.mk_column_laws.proofs.SortedSteps.{steps_sorted}
use Rattle.mk_record_laws.specs.Listed.{IsListed, is_first_hand}
use Rattle.mk_quiet_laws.specs.Taking.{IsTaken, IsCounted, IsUnderValidation, IsOvertaken}
use Rattle.mk_quiet_laws.specs.Sequence.{NoneIsRefused}
use Rattle.mk_quiet_laws.proofs.Voting.{votes_are_sent, entries_vote}
use Rattle.mk_quiet_laws.proofs.Taken.{taken_stays}
use Rattle.mk_quiet_laws.proofs.Counted.{votes_are_counted}
use Rattle.mk_quiet_laws.proofs.Calm.{IsCalm, IsCalmMsg, IsCalmBody, IsCalmAttempt, IsCalmLearning}
use Rattle.mk_quiet_laws.proofs.Course.{IsAskedAll}
use Rattle.mk_quiet_laws.proofs.Lower.{Lower}

-- ---- lists

-- a message that there is has a number
pub message_at : (link : List Msg) (k : ℕ) (msg : Msg) → slice_get link k ≡ Some msg → message link (k + 1) ≡ Some msg
message_at link k msg e =
    let low : nat_le 1 (k + 1) ≡ true = grind (arith, nat_tests) in
    let same : k + 1 - 1 ≡ k = omega arith in
    ap (λ (b : Bool). if b then slice_get link (k + 1 - 1) else None) low ∙ ap (slice_get link) same ∙ e

pub among_number : (link : List Msg) (msg : Msg) → Among msg link → (number : ℕ) × (1 ≤ number) × (number ≤ length link) × (message link number ≡ Some msg)
among_number link msg a = let k = place link a in (k.0 + 1, omega arith, (let below = k.1 in omega (arith, below)), message_at link k.0 msg k.2)
  where
    place : (xs : List Msg) → Among msg xs → (k : ℕ) × (k < length xs) × (slice_get xs k ≡ Some msg)
    place [] b = absurd b
    place (x ∷ xs) (inl same) = (0, omega arith, ap (λ (y : Msg). Some y) same)
    place (x ∷ xs) (inr b) = let k = place xs b in (suc k.0, (let below = k.1 in omega (arith, below)), k.2)

message_more : (link more : List Msg) (number : ℕ) (msg : Msg) → message link number ≡ Some msg → message (link ++ more) number ≡ Some msg
message_more link more number msg e = by (nat_le 1 number) e
  where
    longer : (xs : List Msg) (k : ℕ) → slice_get xs k ≡ Some msg → slice_get (xs ++ more) k ≡ Some msg
    longer [] k z = absurd (cc z)
    longer (x ∷ xs) zero z = z
    longer (x ∷ xs) (suc k) z = longer xs k z

    by : (b : Bool) → (if b then slice_get link (number - 1) else None) ≡ Some msg → (if b then slice_get (link ++ more) (number - 1) else None) ≡ Some msg
    by true z = longer link (number - 1) z
    by false z = absurd (cc z)

some_of : {X : Type 0} (o : Option X) → is_some o ≡ true → (x : X) × (o ≡ Some x)
some_of None e = absurd (cc e)
some_of (Some x) e = (x, refl)

-- ---- moments

happens_more : (taught : Taught) (m : Moment) (events : List Event) (event : Event) → EachHappens taught m events → CanHappen taught event (moment_through m events) → EachHappens taught m (events ++ event ∷ [])
happens_more taught m [] event h can = (can, tt)
happens_more taught m (first ∷ events) event h can = (h.0, happens_more taught (after_event first m) events event h.1 can)

through_more : (m : Moment) (events : List Event) (event : Event) → moment_through m (events ++ event ∷ []) ≡ after_event event (moment_through m events)
through_more m [] event = refl
through_more m (first ∷ events) event = through_more (after_event first m) events event

pub reached_step : (taught : Taught) (m : Moment) → IsReached taught m → (step : Step) → blocked m.round m.column step ≡ None → IsReached taught (step_done step m)
reached_step taught m h step can =
    record {
      version = h.version;
      faults = h.faults;
      keys = h.keys;
      clients = h.clients;
      events = h.events ++ Doing step ∷ [];
      happens = happens_more taught (first_moment h.version h.faults h.keys h.clients) h.events (Doing step) h.happens
          (subst (λ (n : Moment). CanHappen taught (Doing step) n) (sym h.leads) can);
      leads = through_more (first_moment h.version h.faults h.keys h.clients) h.events (Doing step) ∙ ap (step_done step) h.leads;
    }

module _ (taught : Taught) (stays : StaysTaught taught) (number : ℕ) (msg : Msg) where
  -- a message keeps its number
  message_stays : (m : Moment) → Facts taught m → (log : List Step) → EachHappens taught m (map Doing log) → (x : Msg) → message m.column.link number ≡ Some x →
      message (moment_through m (map Doing log)).column.link number ≡ Some x
  message_stays m h [] happens x e = e
  message_stays m h (step ∷ log) happens x e =
      let s = steps_sorted taught m h step (enabled m.round m.column step happens.0) in
      message_stays (step_done step m) (step_facts taught stays m h step happens.0) log happens.1 x
      (subst (λ (l : List Msg). message l number ≡ Some x) (sym s.grows) (message_more m.column.link s.link number x e))

  module _ (P : Moment → Type 0) (Q : Moment → Type 0)
      (taken : (m : Moment) → IsReached taught m → Q m → message m.column.link number ≡ Some msg → (events : List Event) → EachHappens taught m (Doing (Take number) ∷ events) → P (moment_through m (Doing (Take number) ∷ events)))
      (kept : (m : Moment) (step : Step) → Q m → Q (step_done step m)) where
    -- what a take leaves, once it was taken somewhere along a log
    pub taken_along : (m : Moment) → IsReached taught m → Q m → (log : List Step) → EachHappens taught m (map Doing log) → Among (Take number) log →
        message (moment_through m (map Doing log)).column.link number ≡ Some msg → P (moment_through m (map Doing log))
    taken_along m r q [] happens a e = absurd a
    taken_along m r q (step ∷ log) happens (inr a) e = taken_along (step_done step m) (reached_step taught m r step happens.0) (kept m step q) log happens.1 a e
    taken_along m r q (step ∷ log) happens (inl same) e =
        subst (λ (s : Step). EachHappens taught m (Doing s ∷ map Doing log) → message (moment_through m (Doing s ∷ map Doing log)).column.link number ≡ Some msg → P (moment_through m (Doing s ∷ map Doing log)))
        (sym same) here happens e
      where
        here : EachHappens taught m (Doing (Take number) ∷ map Doing log) → message (moment_through m (Doing (Take number) ∷ map Doing log)).column.link number ≡ Some msg →
            P (moment_through m (Doing (Take number) ∷ map Doing log))
        here can there =
            let x = some_of (message m.column.link number) (enabled m.round m.column (Take number) can.0).1.0 in
            let later = message_stays m (reached_facts taught stays m r) (Take number ∷ log) can x.0 x.1 in
            taken m r q (x.1 ∙ sym later ∙ there) (map Doing log) can

-- ---- a calm column

module _ (laws : Lower) (taught : Taught) (stays : StaysTaught taught) (m : Moment) (reached : IsReached taught m) (calm : IsCalm m.column) where
  facts : Facts taught m
  facts = reached_facts taught stays m reached

  pub calm_attempt : (id : TxnId) (a : AttemptState) → attempt_of m.column id ≡ Some a → IsCalmAttempt a
  calm_attempt id a e = Each-among IsCalmAttempt a m.column.attempts calm.attempts (find_tells (is_attempt id) m.column.attempts a e).0

  pub calm_msg : (msg : Msg) → Among msg m.column.link → IsCalmMsg msg
  calm_msg msg a = Each-among IsCalmMsg msg m.column.link calm.link a

  -- whose outcome somebody learned, its own coordinator has learned
  pub listed_learned : (id : TxnId) (outcome : Outcome) → IsListed m.column.learned id outcome → (a : AttemptState) → attempt_of m.column id ≡ Some a → is_some a.coord.learned ≡ true
  listed_learned id outcome (way, among) a found =
      let f = find-from_Among (λ (k : Learning). same_id k.id id) m.column.learned (learning id way outcome) among (same_id-itself id) in
      let t = find_tells (λ (k : Learning). same_id k.id id) m.column.learned f.0 f.1 in
      let is = same_id-tells (f.0).id id t.1 in
      let fast = facts.fast id (f.0).outcome (subst (λ (l : Learning). Among l m.column.learned) (by_votes_is f.0 is (first_way (f.0).way (calm_way f.0 t.0) (laws.first_hand taught stays m reached id f.0 f.1))) t.0) in
      subst (λ (x : AttemptState). is_some x.coord.learned ≡ true) (same_Some fast.attempt a (sym fast.found ∙ found)) fast.has_learned
    where
      calm_way : (l : Learning) → Among l m.column.learned → (l.way ≡ ByVotes) ⊎ ((l.way ≡ ByTelling) ⊎ (l.way ≡ ByFinishing))
      calm_way l b = (Each-among IsCalmLearning l m.column.learned calm.learned b).way

      first_way : (way : Way) → (way ≡ ByVotes) ⊎ ((way ≡ ByTelling) ⊎ (way ≡ ByFinishing)) → is_first_hand way ≡ true → way ≡ ByVotes
      first_way way (inl e) h = e
      first_way way (inr (inl e)) h = absurd (cc (sym h ∙ ap is_first_hand e))
      first_way way (inr (inr e)) h = absurd (cc (sym h ∙ ap is_first_hand e))

      by_votes_is : (l : Learning) → l.id ≡ id → l.way ≡ ByVotes → l ≡ learning id ByVotes l.outcome
      by_votes_is l p q = λ i. record { id = p i; outcome = l.outcome; way = q i }

  pub decide_learned : (id : TxnId) (r view : ℕ) (outcome : Outcome) → Sent m.column.link id r view (Decide outcome) → (a : AttemptState) → attempt_of m.column id ≡ Some a → is_some a.coord.learned ≡ true
  decide_learned id r view outcome sent a found = listed_learned id outcome ((laws.listed taught stays m reached id).sent r view outcome sent) a found

  -- what a step may go by
  pub unmoved : (msg : Msg) (moved : Moved) → Among msg m.column.link → msg.body ≡ MovedBody moved → ⊥
  unmoved msg moved a e = subst IsCalmBody e (calm_msg msg a).body

  pub told_learned : (msg : Msg) (t : Told) → Among msg m.column.link → msg.body ≡ ToldBody t → (a : AttemptState) → attempt_of m.column msg.id ≡ Some a → is_some a.coord.learned ≡ true
  told_learned msg t among e a found =
      let f = says msg.body e (facts.messages msg among).1 in
      let last = f.final Commit (subst IsCalmBody e (calm_msg msg among).body) in
      listed_learned msg.id Commit ((laws.listed taught stays m reached msg.id).final msg.replica f.entry Commit last.0 f.found last.1) a found
    where
      says : (b : Body) → b ≡ ToldBody t → Says taught m msg b → ToldFacts m msg.replica msg.id msg.view t
      says b is s = subst (Says taught m msg) is s

  pub epochs : (msg : Msg) → Among msg m.column.link → msg.epoch ≡ 0
  epochs msg a = let s = (facts.messages msg a).0 in sym s.same_epoch ∙ (calm_attempt msg.id s.attempt s.found).epoch

  pub finals : (r : ℕ) (id : TxnId) (entry : Entry) (outcome : Outcome) → entry_of id (entries_at m.column r) ≡ Some entry → entry.last ≡ Some outcome → outcome ≡ Commit
  finals r id entry outcome found last =
      let p = laws.record_past taught stays m reached r id entry found in
      final_commit p.0 p.1 (p.0).last refl (sym (ap (λ (x : Entry). x.last) p.2) ∙ last)
    where
      final_commit : (past : PastEntry) → m.past.entries r id ≡ Some past → (o : Option (Outcome × ℕ)) → past.last ≡ o → undated past.last ≡ Some outcome → outcome ≡ Commit
      final_commit past there None e u = absurd (cc (sym u ∙ ap undated e))
      final_commit past there (Some x) e u =
          let same : x.0 ≡ outcome = same_Some x.0 outcome (sym (ap undated e) ∙ u) in
          let s = laws.final_sent taught stays m reached r id past x.0 x.1 there e in
          sym same ∙ (calm_msg (msg_of s.2.0 id s.0 s.1 (Decide x.0)) s.2.1).body

  -- ---- where every message was taken

  module _ (opening : Moment) (begun : IsReached taught opening) (serving : (r : ℕ) → r < members opening.round.faults → serves 0 (slice_get opening.round.views r) ≡ true)
      (log : List Step) (happens : EachHappens taught opening (map Doing log)) (leads : moment_through opening (map Doing log) ≡ m) (same_round : m.round ≡ opening.round)
      (all : (number : ℕ) → 1 ≤ number → number ≤ length m.column.link → Among (Take number) log) where
    pub took : (msg : Msg) → Among msg m.column.link → IsTaken m msg msg.body
    took msg a =
        let k = among_number m.column.link msg a in
        subst (λ (n : Moment). IsTaken n msg msg.body) leads
        (taken_along taught stays k.0 msg (λ n. IsTaken n msg msg.body) (λ n. n.round ≡ opening.round)
        (λ n r q found events can. taken_stays taught stays n r k.0 msg found
        (subst (λ (views : Setting). serves msg.epoch (slice_get views.views msg.replica) ≡ true) (sym q)
        (ap (λ (e : ℕ). serves e (slice_get opening.round.views msg.replica)) (epochs msg a) ∙ serving msg.replica (subst (λ (s : Setting). msg.replica < members s.faults) same_round (facts.ranged msg a)))) events can)
        (λ n step q. q) opening begun refl log happens (all k.0 k.1 k.2) (subst (λ (n : Moment). message n.column.link k.0 ≡ Some msg) (sym leads) k.3))

    counted : (msg : Msg) (vote : Vote) → Among msg m.column.link → msg.body ≡ Voted vote → IsCounted m msg
    counted msg vote a e =
        let k = among_number m.column.link msg a in
        subst (λ (n : Moment). IsCounted n msg) leads
        (taken_along taught stays k.0 msg (λ n. IsCounted n msg) (λ n. n.round ≡ opening.round)
        (λ n r q found events can. votes_are_counted taught stays n r k.0 msg vote found e (calm_msg msg a).view events can)
        (λ n step q. q) opening begun refl log happens (all k.0 k.1 k.2) (subst (λ (n : Moment). message n.column.link k.0 ≡ Some msg) (sym leads) k.3))

    module _ (okay : NoneIsRefused m) (idle : m.column.work ≡ Idle) (id : TxnId) (a : AttemptState) (found : attempt_of m.column id ≡ Some a) (unlearned : a.coord.learned ≡ None) where
      not_learned : is_some a.coord.learned ≡ true → ⊥
      not_learned e = cc (sym e ∙ ap is_some unlearned)

      not_validating : (r : ℕ) → IsUnderValidation m r id → ⊥
      not_validating r (txn, ep, state, work, same) = apart (sym idle ∙ work)
        where
          apart : Idle ≡ Validating txn r ep state → ⊥
          apart e = cc e

      not_overtaken : (r : ℕ) → IsOvertaken m r id → ⊥
      not_overtaken r (view, inl s) = (calm_msg (msg_of s.0 id r view Ask) s.1).body
      not_overtaken r (view, inr (o, inl s)) = (calm_msg (msg_of s.0 id r view (Accept o)) s.1).body
      not_overtaken r (view, inr (o, inr s)) = not_learned (decide_learned id r view o s a found)

      voted_at : (r : ℕ) (entry : PastEntry) → m.past.entries r id ≡ Some entry → (o : Option (Vote × ℕ)) → entry.vote ≡ o → (v : Vote × ℕ) × (entry.vote ≡ Some v)
      voted_at r entry there None e = elim (entries_vote taught stays m reached r id entry there e) [ inl k ↦ absurd (not_validating r k) | inr k ↦ absurd (not_overtaken r k) ]
      voted_at r entry there (Some v) e = (v, e)

      -- the vote of each replica that was asked is counted
      slot_there : (r mark : ℕ) → Sent m.column.link id r 0 (ValidateBody mark) → is_some (slot a.coord.votes r) ≡ true
      slot_there r mark s =
          let entry = took (msg_of s.0 id r 0 (ValidateBody mark)) s.1 in
          let v = voted_at r entry.0 entry.1 (entry.0).vote refl in
          let sent = votes_are_sent taught stays m reached r id entry.0 (v.0).0 (v.0).1 entry.1 (v.1 ∙ (λ i. Some ((v.0).0, (v.0).1))) in
          let k = counted (msg_of sent.0 id r 0 (Voted (v.0).0)) (v.0).0 sent.1 refl in
          let same : k.0 ≡ a = same_Some k.0 a (sym k.1 ∙ found) in
          elim k.2 [
            | inl stopped ↦ absurd (cc (sym stopped ∙ ap (λ (x : AttemptState). x.stopped) same ∙ (calm_attempt id a found).stopped))
            | inr rest ↦ elim rest [
              | inl learned ↦ absurd (not_learned (sym (ap (λ (x : AttemptState). is_some x.coord.learned) same) ∙ learned))
              | inr there ↦ sym (ap (λ (x : AttemptState). is_some (slot x.coord.votes r)) same) ∙ there
            ]
          ]

      -- and Ok, since none was refused
      ok_vote : (r : ℕ) (v : Vote) → slot a.coord.votes r ≡ Some v → is_ok_vote v ≡ true
      ok_vote r VoteOk e = refl
      ok_vote r (VoteAbort conflict) e =
          let sent = (facts.attempts id a found).votes r (VoteAbort conflict) e in
          let t = laws.voted taught stays m reached id r 0 (VoteAbort conflict) sent in
          let k = laws.refusal taught stays m reached r id t.0 conflict t.2.0 a.epoch t.1 t.2.1 (a, found, refl) in
          absurd (okay _ k.3 conflict.reason conflict.stamp refl)

      slot_passes : (r mark : ℕ) → Sent m.column.link id r 0 (ValidateBody mark) → passes is_ok_vote (slot a.coord.votes r) ≡ true
      slot_passes r mark s = by (slot a.coord.votes r) refl (slot_there r mark s)
        where
          by : (o : Option Vote) → slot a.coord.votes r ≡ o → is_some o ≡ true → passes is_ok_vote o ≡ true
          by None e z = absurd (cc z)
          by (Some v) e z = ok_vote r v e

      all_count : (n : ℕ) (p : ℕ → Bool) → ((r : ℕ) → r < n → p r ≡ true) → count_below n p ≡ n
      all_count zero p h = refl
      all_count (suc n) p h = let here = h n (omega arith) in let rest = all_count n p (λ r lt. h r (omega (arith, lt))) in grind (arith, here, rest)

      fast_by_votes : (f : ℕ) → count_slots (members f) is_ok_vote a.coord.votes ≡ members f → by_votes f a.coord.votes ≡ Fast Commit
      fast_by_votes f e =
          let sizes = sizes_ascend f in
          let enough : nat_le (fast_of f) (count_slots (members f) is_ok_vote a.coord.votes) ≡ true =
          ap (nat_le (fast_of f)) e ∙ (let below = sizes.3 in le_test (fast_of f) (members f) below) in
          ap (λ (b : Bool). if b then Fast Commit else others f) enough
        where
          le_test : (x y : ℕ) → x ≤ y → nat_le x y ≡ true
          le_test x y h = grind (arith, nat_tests, h)

          others : ℕ → Ruling
          others f =
              if nat_le (fast_of f) (count_slots (members f) is_abort_vote a.coord.votes) then Fast (first_refusal a.coord.votes)
              else if nat_lt (count_slots (members f) any_vote a.coord.votes) (majority_of f) then Short (count_slots (members f) any_vote a.coord.votes)
              else if nat_le (majority_of f) (count_slots (members f) is_ok_vote a.coord.votes) then Propose Commit
              else Propose (first_refusal a.coord.votes)

      -- so the ruling is a commit by votes
      pub rules_fast : IsAskedAll m.round.faults m.column id → ruling m.round.faults a.coord ≡ Fast Commit
      rules_fast (mark, asked) =
          ap (unless_learned m.round.faults a.coord) unlearned ∙ ap (unless_proposed m.round.faults a.coord) (calm_attempt id a found).proposed
          ∙ fast_by_votes m.round.faults (all_count (members m.round.faults) (λ r. passes is_ok_vote (slot a.coord.votes r)) (λ r lt. slot_passes r mark (asked r lt)))
