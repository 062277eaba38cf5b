-- What holds at the start holds after every event.
use Rattle.std.proofs.Common.{◌≡◌, ◌⊎◌, ◌<◌, ◌∙◌, ℕ, zero, suc, true, refl, arith, inl, inr, sym, ap, subst, List, [], ◌∷◌, Option, Some, None, map, length-set, get_or-set_other}
use Rattle.std.proofs.lemmas.List.{length-replicate}
use Rattle.std.specs.Prelude.{find, option_map, length, replicate, slice_set, slice_index_or}
use Rattle.std.proofs.lemmas.Bool.Decides.{nat_tests}
use Rattle.std.proofs.lemmas.Bool.{cases_eq}
use Rattle.mk_lists.specs.Among.{Among, Among-append}
use Rattle.mk_column_laws.proofs.Resets.{reset_attempts, reset_learned, reset_link, reset_takeovers}
use Rattle.mk_txn.specs.declared.TxnId.{TxnId}
use Rattle.mk_txn.specs.Transactions.{same_id}
use Rattle.mk_words.specs.declared.Entry.{Entry}
use Rattle.mk_words.specs.Entries.{entry_of}
use Rattle.mk_words.specs.declared.Msg.{Msg}
use Rattle.mk_quorum.specs.Sizes.{members}
use Rattle.mk_trim.specs.declared.ReplicaView.{ReplicaView}
use Rattle.mk_words.specs.declared.Step.{Step}
use Rattle.mk_model.specs.ColumnState.{ColumnState, AttemptState, Learning, attempt_of, entries_at, is_attempt, is_takeover}
use Rattle.mk_model.specs.Conditions.{blocked}
use Rattle.mk_model.specs.Logs.{not_reading, replica_reset}
use Rattle.mk_model.proofs.Frames.{enabled}
use Rattle.mk_column_laws.specs.Moments.{Moment, PastEntry, Taught, StaysTaught, IsRound, IsReached, Event, CanHappen, EachHappens, moment_through, after_event, step_done, round_begun, replicas_reset, has_number, first_moment}
use Rattle.mk_column_laws.specs.Moments.Event.{NewRound, Doing}
use Rattle.mk_column_laws.specs.Moves.{Moves, AttemptMove, IsMatched, entry_of_past}
use Rattle.mk_column_laws.specs.Moves.AttemptMove.{AttemptStays, AttemptChanges}
use Rattle.mk_column_laws.specs.Moves.AttemptChange.{EndsReading}
use Rattle.mk_column_laws.specs.Moves.TakeoverMove.{TakeoverStays}
use Rattle.mk_column_laws.specs.Moves.EntryMove.{EntryStays}
use Rattle.mk_column_laws.specs.Moves.WorkMove.{WorkRests}
use Rattle.mk_column_laws.specs.Facts.{Facts}
use Rattle.mk_column_laws.proofs.SortedEntries.{matched_kept}
use Rattle.mk_column_laws.proofs.SortedSteps.{steps_sorted}
use Rattle.mk_column_laws.proofs.SortedLearnings.{step_moves}
use Rattle.mk_column_laws.proofs.Growing.{grows}
use Rattle.mk_column_laws.proofs.KeptAll.{kept}

-- ---- a step

module _ (taught : Taught) (stays : StaysTaught taught) (m : Moment) (h : Facts taught m) where
  step_matched : (step : Step) (able : blocked m.round m.column step ≡ None) (r : ℕ) (id : TxnId) → IsMatched (step_done step m) r id
  step_matched step able r id =
      let next = step_done step m in
      let s = steps_sorted taught m h step (enabled m.round m.column step able) in
      let g = grows taught m next h (step_moves taught m h step able) in
      elim (s.entries r id).1 [
        | inl e ↦ inl e
        | inr k ↦ matched_kept m next r id k.0 k.1 (λ epoch l. l) (λ a e. let b = g.attempts id a e in (b.0, b.1, b.2.same_epoch)) (h.matched r id)
      ]

  step_ranged : (step : Step) (able : blocked m.round m.column step ≡ None) (msg : Msg) → Among msg (step_done step m).column.link → msg.replica < members m.round.faults
  step_ranged step able msg a =
      let s = steps_sorted taught m h step (enabled m.round m.column step able) in
      elim (Among-append msg m.column.link s.link (subst (λ (l : List Msg). Among msg l) s.grows a)) [ inl old ↦ h.ranged msg old | inr new ↦ (s.messages msg new).0 ]

  pub step_facts : (step : Step) → blocked m.round m.column step ≡ None → Facts taught (step_done step m)
  step_facts step able =
      let s = steps_sorted taught m h step (enabled m.round m.column step able) in
      kept taught stays m (step_done step m) h (step_moves taught m h step able) (step_matched step able)
      (record { ever = h.round.ever; tenure = h.round.tenure; teaches = h.round.teaches }) (s.sized ∙ h.sized) (step_ranged step able)

-- ---- a round begins

reset_work : (resets : List ℕ) (c : ColumnState) → (replicas_reset resets c).work ≡ c.work
reset_work [] c = refl
reset_work (r ∷ resets) c = reset_work resets (replica_reset r c)

reset_length : (resets : List ℕ) (c : ColumnState) → length (replicas_reset resets c).records ≡ length c.records
reset_length [] c = refl
reset_length (r ∷ resets) c = reset_length resets (replica_reset r c) ∙ length-set c.records r []

emptied : (lists : List (List Entry)) (r : ℕ) → slice_index_or (slice_set lists r []) r [] ≡ []
emptied [] zero = refl
emptied [] (suc r) = refl
emptied (l ∷ lists) zero = refl
emptied (l ∷ lists) (suc r) = emptied lists r

-- a replica that is not reset keeps its entries
abbrev ResetAt : List ℕ → ColumnState → ℕ → Type 0
ResetAt resets c r = (entries_at (replicas_reset resets c) r ≡ entries_at c r) ⊎ ((entries_at (replicas_reset resets c) r ≡ []) × (has_number resets r ≡ true))

reset_at : (resets : List ℕ) (c : ColumnState) (r : ℕ) → ResetAt resets c r
reset_at [] c r = inl refl
reset_at (q ∷ resets) c r = by (reset_at resets (replica_reset q c) r) (cases_eq r q)
  where
    named : has_number resets r ≡ true → has_number (q ∷ resets) r ≡ true
    named e = grind (arith, e)

    first : r ≡ q → has_number (q ∷ resets) r ≡ true
    first e = grind (arith, nat_tests, e)

    empty : r ≡ q → entries_at (replica_reset q c) r ≡ []
    empty e = subst (λ (n : ℕ). slice_index_or (slice_set c.records q []) n [] ≡ []) (sym e) (emptied c.records q)

    by : ResetAt resets (replica_reset q c) r → (r ≡ q) ⊎ (r ≡ q → ⊥) → ResetAt (q ∷ resets) c r
    by (inl same) (inl e) = inr (same ∙ empty e, first e)
    by (inl same) (inr ne) = inl (same ∙ get_or-set_other c.records q r [] [] ne)
    by (inr k) here = inr (k.0, named k.1)

pub find-map : (f : AttemptState → AttemptState) (id : TxnId) → ((a : AttemptState) → (f a).id ≡ a.id) → (attempts : List AttemptState) → find (is_attempt id) (map f attempts) ≡ option_map f (find (is_attempt id) attempts)
find-map f id same [] = refl
find-map f id same (a ∷ attempts) =
    let k : is_attempt id (f a) ≡ is_attempt id a = ap (λ (x : TxnId). same_id x id) (same a) in
    grind (arith, k, find-map f id same attempts)

module _ (taught : Taught) (stays : StaysTaught taught) (m : Moment) (h : Facts taught m) (views : List ReplicaView) (resets : List ℕ) (fine : IsRound taught views resets m) where
  pub attempts_then : (id : TxnId) → attempt_of (round_begun views resets m).column id ≡ option_map not_reading (attempt_of m.column id)
  attempts_then id =
      ap (λ (l : List AttemptState). find (is_attempt id) (map not_reading l)) (reset_attempts resets m.column)
      ∙ find-map not_reading id (λ _. refl) m.column.attempts

  none_then : (id : TxnId) → attempt_of m.column id ≡ None → (b : AttemptState) → attempt_of (round_begun views resets m).column id ≡ Some b → ⊥
  none_then id e b f = let none : attempt_of (round_begun views resets m).column id ≡ None = attempts_then id ∙ ap (option_map not_reading) e in cc (none, f)

  pub round_moves : Moves m (round_begun views resets m)
  round_moves =
      record {
        same_faults = refl;
        attempts = λ id. by id (attempt_of m.column id) refl;
        takeovers = λ id view. TakeoverStays (ap (find (is_takeover id view)) (reset_takeovers resets m.column));
        entries = λ r id. EntryStays refl;
        stays_sent = λ msg a. subst (λ (l : List Msg). Among msg l) (sym (reset_link resets m.column)) a;
        messages = λ msg a. inl (subst (λ (l : List Msg). Among msg l) (reset_link resets m.column) a);
        stays_learned = λ l a. subst (λ (k : List Learning). Among l k) (sym (reset_learned resets m.column)) a;
        learnings = λ l a. inl (subst (λ (k : List Learning). Among l k) (reset_learned resets m.column) a);
        work = WorkRests (reset_work resets m.column ∙ fine.idle);
        rises = omega arith;
        begun_stays = λ id a e. refl;
        begun_now = λ id b e f. absurd (none_then id e b f);
        stays_ever = λ r epoch e. grind (arith, e);
      }
    where
      by : (id : TxnId) (o : Option AttemptState) → attempt_of m.column id ≡ o → AttemptMove m (round_begun views resets m).column id (attempt_of m.column id) (attempt_of (round_begun views resets m).column id)
      by id None e = AttemptStays (attempts_then id ∙ ap (option_map not_reading) e ∙ sym e)
      by id (Some a) e = AttemptChanges a (not_reading a) e (attempts_then id ∙ ap (option_map not_reading) e) (EndsReading refl)

  round_matched : (r : ℕ) (id : TxnId) → IsMatched (round_begun views resets m) r id
  round_matched r id = by (reset_at resets m.column r) (m.past.entries r id) refl
    where
      next : Moment
      next = round_begun views resets m

      by : ResetAt resets m.column r → (old : Option PastEntry) → m.past.entries r id ≡ old → IsMatched (round_begun views resets m) r id
      by (inl same) old is =
          let g = grows taught m (round_begun views resets m) h round_moves in
          matched_kept m (round_begun views resets m) r id (ap (entry_of id) same) refl (λ epoch l. grind (arith, l))
          (λ a e. let b = g.attempts id a e in (b.0, b.1, b.2.same_epoch)) (h.matched r id)
      by (inr k) None is = inl (ap (entry_of id) k.0 ∙ sym (ap (option_map entry_of_past) is))
      by (inr k) (Some e) is =
          let f = h.entries r id e is in
          let g = grows taught m (round_begun views resets m) h round_moves in
          let b = g.attempts id f.attempt f.found in
          let ever : m.past.ever_served r b.0.epoch ≡ true = subst (λ (n : ℕ). m.past.ever_served r n ≡ true) (sym b.2.same_epoch) f.served in
          inr (ap (entry_of id) k.0, (b.0, b.1, (let named = k.1 in grind (arith, ever, named))))

  pub round_facts : Facts taught (round_begun views resets m)
  round_facts =
      kept taught stays m (round_begun views resets m) h round_moves round_matched
      (record {
        ever = λ r epoch e. grind (arith, e);
        tenure = fine.tenure;
        teaches = fine.teaches;
      })
      (reset_length resets m.column ∙ h.sized)
      (λ msg a. h.ranged msg (subst (λ (l : List Msg). Among msg l) (reset_link resets m.column) a))

-- ---- the start, and all events

pub no_entries : (n r : ℕ) → ◌≡◌ {A = List Entry} (slice_index_or (replicate n []) r []) []
no_entries zero r = refl
no_entries (suc n) zero = refl
no_entries (suc n) (suc r) = no_entries n r

pub start_facts : (taught : Taught) (version f keys : ℕ) (clients : List ℕ) → Facts taught (first_moment version f keys clients)
start_facts taught version f keys clients =
    record {
      attempts = λ id a e. absurd (cc e);
      takeovers = λ id v t e. absurd (cc e);
      entries = λ r id e k. absurd (cc k);
      messages = λ msg a. absurd a;
      fast = λ id o a. absurd a;
      learnings = λ l a. absurd a;
      work = tt;
      matched = λ r id. inl (ap (entry_of id) (no_entries (members f) r));
      round = record { ever = λ r epoch e. absurd (cc e); tenure = λ r epoch e. refl; teaches = λ r view id epoch o e p lt k. absurd (cc e) };
      sized = length-replicate (members f) [];
      ranged = λ msg a. absurd a;
    }

module _ (taught : Taught) (stays : StaysTaught taught) where
  pub event_facts : (m : Moment) → Facts taught m → (event : Event) → CanHappen taught event m → Facts taught (after_event event m)
  event_facts m h (NewRound views resets) can = round_facts taught stays m h views resets can
  event_facts m h (Doing step) can = step_facts taught stays m h step can

  pub event_moves : (m : Moment) → Facts taught m → (event : Event) → CanHappen taught event m → Moves m (after_event event m)
  event_moves m h (NewRound views resets) can = round_moves taught stays m h views resets can
  event_moves m h (Doing step) can = step_moves taught m h step can

  pub facts_through : (m : Moment) → Facts taught m → (events : List Event) → EachHappens taught m events → Facts taught (moment_through m events)
  facts_through m h [] happens = h
  facts_through m h (event ∷ events) happens = facts_through (after_event event m) (event_facts m h event happens.0) events happens.1

  pub reached_facts : (m : Moment) → IsReached taught m → Facts taught m
  reached_facts m r = subst (Facts taught) r.leads (facts_through (first_moment r.version r.faults r.keys r.clients) (start_facts taught r.version r.faults r.keys r.clients) r.events r.happens)
