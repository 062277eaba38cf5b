-- A promise hands in all that its replica remembers of attempts of its epoch, and nothing is added to that later.
use Rattle.std.proofs.Common.{◌≡◌, ◌⊎◌, ◌<◌, ◌≤◌, ℕ, true, false, refl, arith, inl, inr, sym, ap, ◌∙◌, List, [], ◌∷◌, ◌++◌, Option, Some, None, subst, length}
use Rattle.std.specs.Prelude.{slice_get, option_map}
use Rattle.std.proofs.lemmas.List.{append-nil, append_assoc}
use Rattle.std.proofs.lemmas.Option.{same_Some}
use Rattle.mk_lists.specs.Among.{Among}
use Rattle.mk_lists.proofs.Members.{Among-from_flat_map}
use Rattle.mk_txn.specs.declared.TxnId.{TxnId}
use Rattle.mk_words.specs.declared.Entry.{Entry}
use Rattle.mk_words.specs.Entries.{entry_of, is_entry_of, HasDistinctIds}
use Rattle.mk_words.specs.declared.Phase.TheVariants.{Serving}
use Rattle.mk_words.specs.Promises.{PromiseState}
use Rattle.mk_words.specs.declared.GlobalEntry.{GlobalEntry}
use Rattle.mk_words.specs.declared.Step.{Step}
use Rattle.mk_model.specs.ColumnState.{ColumnState, AttemptState, attempt_of, entries_at}
use Rattle.mk_model.specs.Conditions.{blocked}
use Rattle.mk_model.specs.Replicas.{serves}
use Rattle.mk_model.specs.EpochState.{EpochState, ReplicaState, GivenPromise, views_of}
use Rattle.mk_epoch_laws.specs.WordLaws.{EverHad, PhaseFits}
use Rattle.mk_epoch_laws.proofs.Extending.{keeps_promise, keeps_had}
use Rattle.mk_column_laws.specs.Moments.{Moment, PastEntry, Event, CanHappen, after_event, step_done, replicas_reset}
use Rattle.mk_column_laws.specs.Moments.Event.{Doing}
use Rattle.mk_column_laws.specs.Moves.{entry_of_past}
use Rattle.mk_column_laws.specs.Facts.{Facts}
use Rattle.mk_history.specs.declared.RoundLog.{RoundLog}
use Rattle.mk_history.specs.Histories.{History}
use Rattle.mk_history.specs.Legality.{IsLegal}
use Rattle.mk_history.specs.Wholes.{WholeState, first_state, column_of, entries_of, after_logs, state_through}
use Rattle.mk_run_laws.specs.RunEvents.{IsMomentOf, emptied_in, moment_of}
use Rattle.mk_run_laws.specs.TaughtIn.{taught_in}
use Rattle.mk_run_laws.specs.Ends.{epochs_after, last_moment, whole_within}
use Rattle.mk_run_laws.specs.Joins.{HasColumns}
use Rattle.mk_run_laws.proofs.Joined.{rounds_join, lines_reset, column_after_logs, column_through_globals}
use Rattle.mk_run_laws.proofs.Ending.{begun_after, numbered, globals_length, after_logs_length, rounds_length, first_length}
use Rattle.mk_run_laws.proofs.Reaching.{serves_at, append-one}
use Rattle.mk_run_laws.proofs.Voted.{is_moment}
use Rattle.mk_base_laws.specs.Giving.{WasGiven}
use Rattle.mk_base_laws.specs.Owning.{IsOfItsEpoch}
use Rattle.mk_base_laws.specs.Freezing.{IsFrozen, PromisesFreeze, IsPromisedOf, PromisedAreOfEpoch}
use Rattle.mk_base_laws.proofs.Lower.{Lower}
use Rattle.mk_base_laws.proofs.Walking.{at_moment, grows_to_last, along_round, facts_after_rounds, later_extends}
use Rattle.mk_base_laws.proofs.Resetting.{after_reset, before_reset, attempt_reset, find-one, member_found}
use Rattle.mk_base_laws.proofs.Keeping.{not_emptied_in}
use Rattle.mk_base_laws.proofs.Given.{promises_were_given}
use Rattle.mk_base_laws.proofs.Owned.{owned_in, lines_answered}

-- ---- lists

-- of two first parts the shorter is a first part of the longer
part_of : (one rest other more : List RoundLog) → one ++ rest ≡ other ++ more → length one ≤ length other → (mid : List RoundLog) × (other ≡ one ++ mid)
part_of [] rest other more e le = (other, refl)
part_of (x ∷ one) rest [] more e le = absurd (omega (arith, le))
part_of (x ∷ one) rest (y ∷ other) more e le =
    let same : x ≡ y = cc e in
    let later : one ++ rest ≡ other ++ more = cc e in
    let k = part_of one rest other more later (omega (arith, le)) in
    (k.0, λ i. sym same i ∷ k.1 i)

pub first_part : (rounds one rest other more : List RoundLog) → rounds ≡ one ++ rest → rounds ≡ other ++ more → length one ≤ length other → (mid : List RoundLog) × (other ≡ one ++ mid)
first_part rounds one rest other more p q le = part_of one rest other more (sym p ∙ q) le

-- ---- after the promise

-- once the promise is given, its replica serves that epoch no more
never_serves : (run : History) → IsLegal run → (done rest : List RoundLog) → run.rounds ≡ done ++ rest → (given : GivenPromise) → Among given (epochs_after run done).promises →
    serves given.promise.adopted (slice_get (views_of (epochs_after run done)) given.promise.replica) ≡ true → ⊥
never_serves run legal done rest split given a is =
    let facts = facts_after_rounds run legal done rest split in
    let s = serves_at (epochs_after run done).replicas given.promise.replica given.promise.adopted is in
    let own = facts.each given.promise.replica s.0 s.1 in
    let bound = own.promised_below given a refl in
    let word = fits s.0 s.2 own.phase_fits in
    let low = (facts.given given a).lower in
    let same = s.3 in
    omega (arith, bound, word, low, same)
  where
    fits : (x : ReplicaState) → x.phase ≡ Serving → PhaseFits x x.phase → x.word ≡ x.adopted
    fits x serving k = subst (PhaseFits x) serving k

-- a promise stays given
stays_given : (run : History) → IsLegal run → (done more rest : List RoundLog) → run.rounds ≡ (done ++ more) ++ rest → (given : GivenPromise) →
    Among given (epochs_after run done).promises → Among given (epochs_after run (done ++ more)).promises
stays_given run legal done more rest split given a =
    keeps_promise (epochs_after run done) (epochs_after run (done ++ more)) (later_extends run legal done more rest split) given a

-- and what a replica had, it had later
had_later : (run : History) → IsLegal run → (early mid done rest : List RoundLog) → done ≡ early ++ mid → run.rounds ≡ done ++ rest → (r epoch : ℕ) →
    EverHad (epochs_after run early) r epoch → EverHad (epochs_after run done) r epoch
had_later run legal early mid done rest same split r epoch h =
    subst (λ (rs : List RoundLog). EverHad (epochs_after run rs) r epoch) (sym same)
    (keeps_had (epochs_after run early) (epochs_after run (early ++ mid)) (later_extends run legal early mid rest (split ∙ ap (λ (rs : List RoundLog). rs ++ rest) same)) r epoch h)

pub last_is : (run : History) (c : ℕ) → IsMomentOf run c (last_moment run c)
last_is run c = is_moment run run.rounds [] (sym (append-nil run.rounds)) c

module _ (laws : Lower) (run : History) (legal : IsLegal run) (c : ℕ) (lt : c < run.columns) (given : GivenPromise) (id : TxnId) (a : AttemptState)
    (found : attempt_of (last_moment run c).column id ≡ Some a) (own : a.epoch ≡ given.promise.adopted) where
  -- the attempt has its epoch from the start
  epoch_is : (m : Moment) → IsMomentOf run c m → (b : AttemptState) → attempt_of m.column id ≡ Some b → b.epoch ≡ given.promise.adopted
  epoch_is m k b there =
      let g = (grows_to_last laws run legal c lt m k).attempts id b there in
      let same : g.0 ≡ a = same_Some g.0 a (sym g.1 ∙ found) in
      sym g.2.same_epoch ∙ ap (λ (x : AttemptState). x.epoch) same ∙ own

  Same : (PastEntries : Option PastEntry) → EpochState → Moment → Type 0
  Same old epochs m = (m.round.views ≡ views_of epochs) × (m.past.entries given.promise.replica id ≡ old)

  same_step : (done rest : List RoundLog) → run.rounds ≡ done ++ rest → Among given (epochs_after run done).promises → (old : Option PastEntry) →
      (m : Moment) → IsMomentOf run c m → (step : Step) → blocked m.round m.column step ≡ None → Same old (epochs_after run done) m → Same old (epochs_after run done) (step_done step m)
  unfolding Same
  same_step done rest split a old m k step can (views, same) = (
    views,
    elim (change given.promise.replica id) [
      | inl stays ↦ stays ∙ same
      | inr served ↦ absurd (never_serves run legal done rest split given a
          ((λ i. serves (sym (epoch_is m k served.0 served.1) i) (slice_get (sym views i) given.promise.replica)) ∙ served.2))
    ],
  )
    where
      change : (r : ℕ) (x : TxnId) → ((step_done step m).past.entries r x ≡ m.past.entries r x)
          ⊎ ((b : AttemptState) × (attempt_of m.column x ≡ Some b) × (serves b.epoch (slice_get m.round.views r) ≡ true))
      change = at_moment laws run legal c lt
          (λ taught n. (event : Event) → CanHappen taught event n → (r : ℕ) (x : TxnId) →
          ((after_event event n).past.entries r x ≡ n.past.entries r x) ⊎ ((b : AttemptState) × (attempt_of n.column x ≡ Some b) × (serves b.epoch (slice_get n.round.views r) ≡ true)))
          laws.change m k (Doing step) can

  same_round : (done rest : List RoundLog) (round : RoundLog) → run.rounds ≡ done ++ round ∷ rest → Among given (epochs_after run done).promises →
      (moment_of run c (done ++ round ∷ [])).past.entries given.promise.replica id ≡ (moment_of run c done).past.entries given.promise.replica id
  unfolding Same
  same_round done rest round split a =
      let old = (moment_of run c done).past.entries given.promise.replica id in
      (along_round laws run legal c lt (Same old (epochs_after run done)) (same_step done (round ∷ rest) split a old) done rest round split (refl, refl)).1

  same_rounds : (done more later : List RoundLog) → run.rounds ≡ done ++ (more ++ later) → Among given (epochs_after run done).promises →
      (moment_of run c (done ++ more)).past.entries given.promise.replica id ≡ (moment_of run c done).past.entries given.promise.replica id
  same_rounds done [] later split a = ap (λ (rs : List RoundLog). (moment_of run c rs).past.entries given.promise.replica id) (append-nil done)
  same_rounds done (round ∷ more) later split a =
      let further = split ∙ append-one done round (more ++ later) in
      ap (λ (rs : List RoundLog). (moment_of run c rs).past.entries given.promise.replica id) (append-one done round more)
      ∙ same_rounds (done ++ round ∷ []) more later further (stays_given run legal done (round ∷ []) (more ++ later) further given a)
      ∙ same_round done (more ++ later) round split a

-- ---- the whole at the promise

pub columns_in : (run : History) (done : List RoundLog) (round : RoundLog) (lines : List GlobalEntry) → HasColumns run (whole_within run done round lines)
columns_in run done round lines =
    let state = state_through run (first_state run) done in
    numbered run (whole_within run done round lines)
    (globals_length run lines (after_logs run round state) ∙ after_logs_length run round state ∙ rounds_length run done (first_state run) ∙ first_length run)
    (λ c lt. (_, column_through_globals run lines (after_logs run round state) c _ (column_after_logs run round state c _ (begun_after run c lt done))))

module _ (laws : Lower) (run : History) (legal : IsLegal run) (given : GivenPromise) (done rest : List RoundLog) (split : run.rounds ≡ done ++ rest) (w : WasGiven run done given) where
  whole : WholeState
  whole = whole_within run w.before w.round w.lines

  -- the rounds after that of the promise
  after : List RoundLog
  after = w.later ++ rest

  pub split_before : run.rounds ≡ w.before ++ w.round ∷ (w.later ++ rest)
  split_before = split ∙ ap (λ (rs : List RoundLog). rs ++ rest) w.split ∙ append_assoc w.before (w.round ∷ w.later) rest

  pub split_after : run.rounds ≡ (w.before ++ w.round ∷ []) ++ (w.later ++ rest)
  split_after = split_before ∙ append-one w.before w.round (w.later ++ rest)

  entries_are : given.promise.entries ≡ entries_of whole.columns given.promise.replica
  unfolding whole
  entries_are = ap (λ (p : PromiseState). p.entries) w.hands

  -- the moment of a column at the end of that round's log
  then : ℕ → Moment
  then c = moment_of run c (w.before ++ w.round ∷ [])

  is_then : (c : ℕ) → IsMomentOf run c (moment_of run c (w.before ++ w.round ∷ []))
  is_then c = is_moment run (w.before ++ w.round ∷ []) (w.later ++ rest) split_after c

  column_is : (c : ℕ) → c < run.columns → column_of whole c ≡ replicas_reset (emptied_in w.lines) (then c).column
  unfolding whole then
  column_is c lt = lines_reset run c lt w.before w.round w.lines

  owned : (c : ℕ) → c < run.columns → (id : TxnId) (entry : Entry) → entry_of id (entries_at (column_of whole c) given.promise.replica) ≡ Some entry →
      IsOfItsEpoch whole.epochs (column_of whole c) given.promise.replica id
  unfolding whole
  owned c lt id entry there = owned_in laws run legal c lt w.before (w.later ++ rest) w.round split_before w.lines (w.entry ∷ w.more) w.in_round given.promise.replica id entry there

  -- it has an attempt of the epoch that the promise names
  owned_attempt : (c : ℕ) → c < run.columns → (id : TxnId) (entry : Entry) → entry_of id (entries_at (column_of whole c) given.promise.replica) ≡ Some entry →
      (b : AttemptState) × (attempt_of (then c).column id ≡ Some b) × (b.epoch ≡ given.promise.adopted)
  unfolding whole then
  owned_attempt c lt id entry there =
      let o = owned c lt id entry there in
      let one : o.replica ≡ w.replica = same_Some o.replica w.replica (sym o.at ∙ w.at) in (
        o.attempt,
        sym (attempt_reset (emptied_in w.lines) (then c).column id) ∙ ap (λ (x : ColumnState). attempt_of x id) (sym (column_is c lt)) ∙ o.found,
        o.same_epoch ∙ ap (λ (x : ReplicaState). x.adopted) one ∙ ap (λ (p : PromiseState). p.adopted) (sym w.hands),
      )

  -- what is handed in of an attempt of a column is what that column has
  from_column : (c : ℕ) → c < run.columns → (id : TxnId) → ((d : ℕ) → d < run.columns → (b : AttemptState) → attempt_of (then d).column id ≡ Some b → d ≡ c) →
      entry_of id given.promise.entries ≡ entry_of id (entries_at (column_of whole c) given.promise.replica)
  unfolding whole then
  from_column c lt id only =
      let has = columns_in run w.before w.round w.lines in
      ap (entry_of id) entries_are
      ∙ find-one (is_entry_of id) (λ (x : ColumnState). entries_at x given.promise.replica) whole.columns (column_of whole c) (has.there c lt)
      (λ y m. let d = has.only y m in other y d.0 d.1 d.2 (entry_of id (entries_at y given.promise.replica)) refl)
    where
      other : (y : ColumnState) (d : ℕ) → d < run.columns → column_of (whole_within run w.before w.round w.lines) d ≡ y → (o : Option Entry) → entry_of id (entries_at y given.promise.replica) ≡ o →
          (entry_of id (entries_at y given.promise.replica) ≡ None) ⊎ (y ≡ column_of (whole_within run w.before w.round w.lines) c)
      other y d dlt is None e = inl e
      other y d dlt is (Some x) e =
          let b = owned_attempt d dlt id x (ap (λ (z : ColumnState). entry_of id (entries_at z given.promise.replica)) is ∙ e) in
          inr (sym is ∙ ap (column_of (whole_within run w.before w.round w.lines)) (only d dlt b.0 b.1))

  module _ (c : ℕ) (lt : c < run.columns) where
    facts_then : Facts (taught_in run) (then c)
    unfolding then
    facts_then = laws.facts run legal c lt (then c) (is_then c)

    -- a replica that remembers an attempt of the promise's epoch had that epoch before the round
    had_then : (id : TxnId) (p : PastEntry) → (then c).past.entries given.promise.replica id ≡ Some p → (b : AttemptState) → attempt_of (then c).column id ≡ Some b →
        b.epoch ≡ given.promise.adopted → EverHad (epochs_after run w.before) given.promise.replica given.promise.adopted
    unfolding then
    had_then id p e b there own =
        let f = facts_then.entries given.promise.replica id p e in
        let same : f.attempt ≡ b = same_Some f.attempt b (sym f.found ∙ there) in
        let ever = subst (λ (n : ℕ). (then c).past.ever_served given.promise.replica n ≡ true) (ap (λ (x : AttemptState). x.epoch) same ∙ own) f.served in
        let s = (laws.served run legal c lt (then c) (is_then c)).ever given.promise.replica given.promise.adopted ever in
        let now = (rounds_join run c lt w.before w.round).2 in
        let low = s.1 in
        let at = s.2 in
        let part = first_part run.rounds s.0 at.rest w.before (w.round ∷ (w.later ++ rest)) at.split split_before (omega (arith, now, low)) in
        had_later run legal s.0 part.0 w.before (w.round ∷ (w.later ++ rest)) part.1 split_before given.promise.replica given.promise.adopted
        (laws.had run legal s.0 given.promise.replica given.promise.adopted at)

    -- what the record of the promise has is what is remembered
    handed_then : (id : TxnId) → ((b : AttemptState) → attempt_of (then c).column id ≡ Some b → b.epoch ≡ given.promise.adopted) →
        entry_of id (entries_at (column_of whole c) given.promise.replica) ≡ option_map entry_of_past ((then c).past.entries given.promise.replica id)
    unfolding whole then
    handed_then id own_epoch = by ((then c).past.entries given.promise.replica id) refl
      where
        adopted_is : w.replica.adopted ≡ given.promise.adopted
        adopted_is = ap (λ (p : PromiseState). p.adopted) (sym w.hands)

        some : (p : PastEntry) → (then c).past.entries given.promise.replica id ≡ Some p →
            entry_of id (entries_at (column_of (whole_within run w.before w.round w.lines) c) given.promise.replica) ≡ option_map entry_of_past ((then c).past.entries given.promise.replica id)
        some p e =
            let f = facts_then.entries given.promise.replica id p e in
            let b = f.attempt in
            let there = f.found in
            let own = own_epoch b there in
            let state = state_through run (first_state run) w.before in
            let facts = facts_after_rounds run legal w.before (w.round ∷ (w.later ++ rest)) split_before in
            let quiet = not_emptied_in run w.lines (after_logs run w.round state) facts
            (lines_answered run legal w.before (w.later ++ rest) w.round split_before w.lines (w.entry ∷ w.more) w.in_round)
            given.promise.replica given.promise.adopted (had_then id p e b there own) w.replica w.at w.has_state adopted_is in
            let y = quiet.1 in
            let left = laws.records run legal w.before (w.later ++ rest) w.round split_before c lt given.promise.replica b.epoch y.0 y.1 y.2 (y.3 ∙ sym own) in
            let kept = at_moment laws run legal c lt
            (λ taught n. (r : ℕ) (x : TxnId) (s : AttemptState) → attempt_of n.column x ≡ Some s → n.past.has_left r s.epoch ≡ false → entry_of x (entries_at n.column r) ≡ option_map entry_of_past (n.past.entries r x))
            laws.kept (then c) (is_then c) given.promise.replica id b there left in
            ap (λ (x : ColumnState). entry_of id (entries_at x given.promise.replica)) (lines_reset run c lt w.before w.round w.lines)
            ∙ elim (after_reset (emptied_in w.lines) (then c).column given.promise.replica) [
              | inl k ↦ ap (entry_of id) k.1
              | inr k ↦ absurd (let one = quiet.0 in cc (sym one ∙ k.0))
            ]
            ∙ kept

        none : (then c).past.entries given.promise.replica id ≡ None → (o : Option Entry) →
            entry_of id (entries_at (column_of (whole_within run w.before w.round w.lines) c) given.promise.replica) ≡ o → o ≡ None
        none e None k = refl
        none e (Some x) k =
            let was = before_reset (emptied_in w.lines) (then c).column given.promise.replica id x
            (ap (λ (z : ColumnState). entry_of id (entries_at z given.promise.replica)) (sym (lines_reset run c lt w.before w.round w.lines)) ∙ k) in
            let p = at_moment laws run legal c lt
            (λ taught n. (r : ℕ) (i : TxnId) (entry : Entry) → entry_of i (entries_at n.column r) ≡ Some entry → (past : PastEntry) × (n.past.entries r i ≡ Some past) × (entry ≡ entry_of_past past))
            laws.past (then c) (is_then c) given.promise.replica id x was.1 in
            absurd (let there = p.1 in cc (sym e ∙ there))

        by : (o : Option PastEntry) → (then c).past.entries given.promise.replica id ≡ o →
            entry_of id (entries_at (column_of (whole_within run w.before w.round w.lines) c) given.promise.replica) ≡ option_map entry_of_past ((then c).past.entries given.promise.replica id)
        by (Some p) e = some p e
        by None e = none e (entry_of id (entries_at (column_of (whole_within run w.before w.round w.lines) c) given.promise.replica)) refl ∙ ap (option_map entry_of_past) (sym e)

  -- two columns never have an attempt of one number
  only_here : (c : ℕ) → c < run.columns → (m : Moment) → IsMomentOf run c m → (id : TxnId) (a : AttemptState) → attempt_of m.column id ≡ Some a →
      (d : ℕ) → d < run.columns → (b : AttemptState) → attempt_of (then d).column id ≡ Some b → d ≡ c
  unfolding then
  only_here c lt m k id a found d dlt b there = sym (laws.ids run legal d dlt (then d) (is_then d) id b there) ∙ laws.ids run legal c lt m k id a found

  frozen : (c : ℕ) → c < run.columns → (id : TxnId) (a : AttemptState) → attempt_of (last_moment run c).column id ≡ Some a → a.epoch ≡ given.promise.adopted → IsFrozen run done given c id
  unfolding then
  frozen c lt id a found own =
      let r = given.promise.replica in
      let upto = w.before ++ w.round ∷ [] in
      let entries : List RoundLog → Option PastEntry = λ rs. (moment_of run c rs).past.entries r id in
      let by_done = ap entries (w.split ∙ append-one w.before w.round w.later) ∙ same_rounds laws run legal c lt given id a found own upto w.later rest split_after w.by_then in
      let by_last = ap entries split_after
      ∙ same_rounds laws run legal c lt given id a found own upto (w.later ++ rest) [] (split_after ∙ ap (λ (rs : List RoundLog). upto ++ rs) (sym (append-nil (w.later ++ rest)))) w.by_then in
      record {
        handed = from_column c lt id (only_here c lt (last_moment run c) (last_is run c) id a found)
            ∙ handed_then c lt id (epoch_is laws run legal c lt given id a found own (then c) (is_then c))
            ∙ ap (option_map entry_of_past) (sym by_done);
        stays = by_last ∙ sym by_done;
      }

  promised_of : (entry : Entry) → Among entry given.promise.entries → IsPromisedOf run given entry
  unfolding whole then
  promised_of entry member =
      let k = Among-from_flat_map (λ (x : ColumnState). entries_at x given.promise.replica) entry whole.columns (subst (Among entry) entries_are member) in
      let d = (columns_in run w.before w.round w.lines).only k.0 k.1 in
      in_column d.0 d.1 (subst (λ (x : ColumnState). Among entry (entries_at x given.promise.replica)) (sym d.2) k.2)
    where
      in_column : (c : ℕ) → c < run.columns → Among entry (entries_at (column_of (whole_within run w.before w.round w.lines) c) given.promise.replica) → IsPromisedOf run given entry
      in_column c lt member =
          let distinct = at_moment laws run legal c lt (λ taught n. (r : ℕ) → HasDistinctIds (entries_at n.column r)) laws.distinct (then c) (is_then c) given.promise.replica in
          let full = subst (λ (x : ColumnState). Among entry (entries_at x given.promise.replica)) (column_is c lt) member in
          let kept : entries_at (replicas_reset (emptied_in w.lines) (then c).column) given.promise.replica ≡ entries_at (then c).column given.promise.replica =
          elim (after_reset (emptied_in w.lines) (then c).column given.promise.replica) [ inl k ↦ k.1 | inr k ↦ absurd (subst (Among entry) k.1 full) ] in
          let was = member_found (entries_at (then c).column given.promise.replica) distinct entry (subst (Among entry) kept full) in
          let there = ap (λ (x : ColumnState). entry_of entry.txn.id (entries_at x given.promise.replica)) (column_is c lt) ∙ ap (entry_of entry.txn.id) kept ∙ was in
          let b = owned_attempt c lt entry.txn.id entry there in
          let p = at_moment laws run legal c lt
          (λ taught n. (r : ℕ) (i : TxnId) (x : Entry) → entry_of i (entries_at n.column r) ≡ Some x → (past : PastEntry) × (n.past.entries r i ≡ Some past) × (x ≡ entry_of_past past))
          laws.past (then c) (is_then c) given.promise.replica entry.txn.id entry was in
          let f = (facts_then c lt).entries given.promise.replica entry.txn.id p.0 p.1 in
          let same : f.attempt ≡ b.0 = same_Some f.attempt b.0 (sym f.found ∙ b.1) in
          let stamped = ap (λ (x : AttemptState). x.txn) (sym same) ∙ f.stamped ∙ ap (λ (x : Entry). Some x.txn) (sym p.2) in
          let g = (grows_to_last laws run legal c lt (then c) (is_then c)).attempts entry.txn.id b.0 b.1 in
          record {
            column = c;
            in_run = lt;
            attempt = g.0;
            found = g.1;
            stamped = g.2.txn entry.txn stamped;
            same_epoch = g.2.same_epoch ∙ b.2;
            handed = from_column c lt entry.txn.id (only_here c lt (then c) (is_then c) entry.txn.id b.0 b.1) ∙ there;
          }

pub promises_freeze : Lower → PromisesFreeze
promises_freeze laws run legal done rest split given a c lt id x found own =
    frozen laws run legal given done rest split (promises_were_given run legal done rest split given a) c lt id x found own

pub promised_are_of_epoch : Lower → PromisedAreOfEpoch
promised_are_of_epoch laws run legal done rest split given a entry member =
    promised_of laws run legal given done rest split (promises_were_given run legal done rest split given a) entry member
