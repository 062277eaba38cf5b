-- A vote that was taken is counted, unless the own coordinator stopped or has learned.
use Rattle.std.proofs.Common.{◌≡◌, ◌⊎◌, ◌<◌, ◌∙◌, ℕ, zero, suc, ◌==◌, Bool, true, false, refl, arith, inl, inr, sym, ap, subst, List, [], ◌∷◌, Option, Some, None, not, ◌||◌, length-set}
use Rattle.std.specs.Prelude.{is_some, length, option_map, slice_set, if◌then◌else◌}
use Rattle.std.proofs.lemmas.Bool.{cond_both}
use Rattle.std.proofs.lemmas.Option.{same_Some}
use Rattle.std.proofs.lemmas.List.{length-replicate}
use Rattle.mk_lists.proofs.Changes.{find-change}
use Rattle.mk_txn.specs.declared.TxnId.{TxnId}
use Rattle.mk_txn.specs.declared.Vote.{Vote}
use Rattle.mk_words.specs.declared.Msg.{Msg}
use Rattle.mk_words.specs.declared.Body.{Body}
use Rattle.mk_words.specs.declared.Body.TheVariants.{Validate as ValidateBody, Voted, Accept, Accepted as AcceptedBody, Decide, Ask, Told as ToldBody, Moved as MovedBody}
use Rattle.mk_words.specs.Links.{message, goes_to_replica}
use Rattle.mk_quorum.specs.Sizes.{members}
use Rattle.mk_quorum.specs.Slots.{slot, filled, keep_first}
use Rattle.mk_words.specs.Rulings.{CoordState}
use Rattle.mk_words.specs.declared.Step.TheVariants.{Take}
use Rattle.mk_model.specs.ColumnState.{ColumnState, AttemptState, attempt_of, is_attempt}
use Rattle.mk_model.specs.Learnings.{txn_of}
use Rattle.mk_model.specs.Steps.{stepped, taken, replica_takes, on_some}
use Rattle.mk_model.specs.Answers.{answer_taken, own_answered, takeover_heard, listens, attempt_answered, coord_answered}
use Rattle.mk_column_laws.specs.Moments.{Moment, Taught, StaysTaught, Event, CanHappen, EachHappens, after_event, moment_through, step_done}
use Rattle.mk_column_laws.specs.Moments.Event.{Doing}
use Rattle.mk_column_laws.specs.Moves.{Moves, IsStampedIn, AttemptMove, AttemptChange}
use Rattle.mk_column_laws.specs.Moves.AttemptMove.{AttemptStays, AttemptBegins, AttemptChanges}
use Rattle.mk_column_laws.specs.Moves.AttemptChange.{EndsReading, Reads, Stamps, RulesFast, RulesLearned, Proposes, Hears, Stops}
use Rattle.mk_column_laws.specs.Facts.{Facts, Grows}
use Rattle.mk_column_laws.specs.Identity.{Identity}
use Rattle.mk_column_laws.proofs.SortedAttempts.{message_among}
use Rattle.mk_column_laws.proofs.Growing.{grows}
use Rattle.mk_column_laws.proofs.Rounds.{event_facts, event_moves, reached_facts}
use Rattle.mk_record_laws.proofs.Always.{always}
use Rattle.mk_quiet_laws.specs.Taking.{IsCounted, VotesHaveSlots, VotesAreCounted}

-- ---- slots

filled_there : {X : Type 0} (slots : List (Option X)) (r : ℕ) (x : X) → r < length slots → is_some (slot (filled slots r x) r) ≡ true
filled_there {X} slots r x within = by (slot slots r) refl
  where
    set_there : (l : List (Option X)) (n : ℕ) → n < length l → is_some (slot (slice_set l n (Some x)) n) ≡ true
    set_there [] n lt = absurd (omega (arith, lt))
    set_there (s ∷ l) zero lt = refl
    set_there (s ∷ l) (suc n) lt = set_there l n (omega (arith, lt))

    by : (o : Option X) → slot slots r ≡ o → is_some (slot (keep_first slots r x o) r) ≡ true
    by (Some y) e = ap is_some e
    by None e = set_there slots r within

length_filled : {X : Type 0} (slots : List (Option X)) (r : ℕ) (x : X) → length (filled slots r x) ≡ length slots
length_filled {X} slots r x = by (slot slots r)
  where
    by : (o : Option X) → length (keep_first slots r x o) ≡ length slots
    by (Some y) = refl
    by None = length-set slots r (Some x)

answered_slots : (r : ℕ) (b : Body) (c : CoordState) → length (coord_answered r b c).votes ≡ length c.votes
answered_slots r (Voted vote) c = length_filled c.votes r vote
answered_slots r AcceptedBody c = refl
answered_slots r (ToldBody told) c = refl
answered_slots r (MovedBody moved) c = refl
answered_slots r (ValidateBody mark) c = refl
answered_slots r (Accept outcome) c = refl
answered_slots r (Decide outcome) c = refl
answered_slots r Ask c = refl

abbrev slots_of : AttemptState → ℕ
slots_of a = length a.coord.votes

changed_slots : (m : Moment) (next : ColumnState) (id : TxnId) (a b : AttemptState) → AttemptChange m next id a b → slots_of b ≡ slots_of a
changed_slots m next id a b (EndsReading is) = ap slots_of is
changed_slots m next id a b (Reads replica key answer work is) = ap slots_of is
changed_slots m next id a b (Stamps client clock stamp writes r w l c s is) = ap slots_of is
changed_slots m next id a b (RulesFast o l r is k) = ap slots_of is
changed_slots m next id a b (RulesLearned o l r is) = ap slots_of is
changed_slots m next id a b (Proposes o l r is p) = ap slots_of is
changed_slots m next id a b (Hears msg among i v l is) = ap slots_of is ∙ answered_slots msg.replica msg.body a.coord
changed_slots m next id a b (Stops is) = ap slots_of is

abbrev HaveSlots : Moment → Type 0
HaveSlots m = (id : TxnId) (a : AttemptState) → attempt_of m.column id ≡ Some a → slots_of a ≡ members m.round.faults

event_slots : (taught : Taught) → StaysTaught taught → (m : Moment) → Facts taught m → Identity m.column.clients m.column.attempts → (event : Event) → CanHappen taught event m → HaveSlots m → HaveSlots (after_event event m)
event_slots taught stays m h ids event can known id a found =
    by (attempt_of m.column id) refl (moves.attempts id) ∙ ap members (sym moves.same_faults)
  where
    moves : Moves m (after_event event m)
    moves = event_moves taught stays m h event can

    by : (old : Option AttemptState) → attempt_of m.column id ≡ old → AttemptMove m (after_event event m).column id (attempt_of m.column id) (attempt_of (after_event event m).column id) → slots_of a ≡ members m.round.faults
    by old is (AttemptStays same) = known id a (sym same ∙ found)
    by old is (AttemptBegins b none new own coord unstamped reads home) =
        ap slots_of (sym (same_Some b a (sym new ∙ found))) ∙ ap (λ (c : CoordState). length c.votes) coord ∙ length-replicate (members m.round.faults) None
    by old is (AttemptChanges b c was new change) =
        ap slots_of (sym (same_Some c a (sym new ∙ found))) ∙ changed_slots m (after_event event m).column id b c change ∙ known id b was

pub votes_have_slots : VotesHaveSlots
votes_have_slots = always (λ _ n. HaveSlots n) (λ taught version f keys clients id a found. absurd (cc found)) event_slots

-- ---- the step

module _ (taught : Taught) (m : Moment) (h : Facts taught m) (sized : HaveSlots m) (number : ℕ) (msg : Msg) (vote : Vote)
    (found : message m.column.link number ≡ Some msg) (voted : msg.body ≡ Voted vote) (own : msg.view ≡ 0) where
  abbrev CountedIn : ColumnState → Type 0
  CountedIn c =
      (a : AttemptState) × (attempt_of c msg.id ≡ Some a) × ((a.stopped ≡ true) ⊎ ((is_some a.coord.learned ≡ true) ⊎ (is_some (slot a.coord.votes msg.replica) ≡ true)))

  answer_path : stepped m.round m.column (Take number) ≡ own_answered msg m.column
  answer_path =
      ap (λ (o : Option Msg). on_some (taken m.round) o m.column) found
      ∙ ap (λ (b : Body). if goes_to_replica b then on_some (replica_takes m.round msg) (txn_of m.column msg.id) m.column else answer_taken m.round msg m.column) voted
      ∙ ap (λ (n : ℕ). if n == 0 then own_answered msg m.column else takeover_heard m.round msg m.column) own

  the_attempt : IsStampedIn m msg.id msg.epoch
  the_attempt = (h.messages msg (message_among m.column.link number msg found)).0

  deaf : (a : AttemptState) → listens (Some a) ≡ false → (a.stopped ≡ true) ⊎ ((is_some a.coord.learned ≡ true) ⊎ (is_some (slot a.coord.votes msg.replica) ≡ true))
  deaf a e = by a.stopped refl (is_some a.coord.learned) refl e
    where
      by : (s : Bool) → a.stopped ≡ s → (l : Bool) → is_some a.coord.learned ≡ l → not (s || l) ≡ false → (a.stopped ≡ true) ⊎ ((is_some a.coord.learned ≡ true) ⊎ (is_some (slot a.coord.votes msg.replica) ≡ true))
      by true p l q k = inl p
      by false p true q k = inr (inl q)
      by false p false q k = absurd (cc k)

  counted : CountedIn (own_answered msg m.column)
  counted =
      cond_both (listens (attempt_of m.column msg.id)) _ _ CountedIn (λ _. let s = the_attempt in
      let within : msg.replica < length s.attempt.coord.votes = subst (λ (n : ℕ). msg.replica < n) (sym (sized msg.id s.attempt s.found)) (h.ranged msg (message_among m.column.link number msg found)) in
      let here = filled_there s.attempt.coord.votes msg.replica vote within in (
        attempt_answered msg.replica msg.body s.attempt,
        find-change (is_attempt msg.id) (attempt_answered msg.replica msg.body) m.column.attempts (λ _. refl) ∙ ap (option_map (attempt_answered msg.replica msg.body)) s.found,
        inr (inr (ap (λ (b : Body). is_some (slot (coord_answered msg.replica b s.attempt.coord).votes msg.replica)) voted ∙ here)),
      )) (λ quiet. let s = the_attempt in (s.attempt, s.found, deaf s.attempt (ap listens (sym s.found) ∙ quiet)))

  now_counted : IsCounted (step_done (Take number) m) msg
  now_counted = subst CountedIn (sym answer_path) counted

-- ---- and it stays

some_still : {X Y : Type 0} (o : Option X) (p : Option Y) → ((x : X) → o ≡ Some x → is_some p ≡ true) → is_some o ≡ true → is_some p ≡ true
some_still None p f e = absurd (cc e)
some_still (Some x) p f e = f x refl

counted_still : (m next : Moment) → Grows m next → (msg : Msg) → IsCounted m msg → IsCounted next msg
counted_still m next g msg (a, found, k) =
    let more = g.attempts msg.id a found in (
      more.0,
      more.1,
      elim k [
        | inl stopped ↦ inl (more.2.stopped stopped)
        | inr rest ↦ elim rest [
          | inl learned ↦ inr (inl (some_still a.coord.learned more.0.coord.learned (λ o is. ap is_some (more.2.learned o is)) learned))
          | inr there ↦ inr (inr (some_still (slot a.coord.votes msg.replica) (slot more.0.coord.votes msg.replica) (λ v is. ap is_some (more.2.votes msg.replica v is)) there))
        ]
      ],
    )

through : (taught : Taught) → StaysTaught taught → (m : Moment) → Facts taught m → (msg : Msg) (events : List Event) → EachHappens taught m events → IsCounted m msg → IsCounted (moment_through m events) msg
through taught stays m h msg [] happens t = t
through taught stays m h msg (event ∷ events) happens t =
    through taught stays (after_event event m) (event_facts taught stays m h event happens.0) msg events happens.1
    (counted_still m (after_event event m) (grows taught m (after_event event m) h (event_moves taught stays m h event happens.0)) msg t)

pub votes_are_counted : VotesAreCounted
votes_are_counted taught stays m reached number msg vote found voted own events happens =
    let h = reached_facts taught stays m reached in
    through taught stays (step_done (Take number) m) (event_facts taught stays m h (Doing (Take number)) happens.0) msg events happens.1
    (now_counted taught m h (votes_have_slots taught stays m reached) number msg vote found voted own)
