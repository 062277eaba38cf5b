-- What a replica has before a global line is what it may hand in.
use Rattle.std.proofs.Common.{◌≡◌, ◌<◌, ◌≤◌, ℕ, suc, ◌+◌, true, refl, arith, inl, inr, sym, ap, ◌∙◌, List, [], ◌∷◌, ◌++◌, Option, Some, None, subst, length, map}
use Rattle.std.specs.Prelude.{slice_get, flat_map}
use Rattle.std.proofs.lemmas.List.{map-append, append-nil, append_assoc}
use Rattle.std.proofs.lemmas.Option.{same_Some, slice_get_within}
use Rattle.mk_lists.specs.Among.{Among, AllDistinct, Among-append}
use Rattle.mk_lists.proofs.Members.{Among-from_flat_map, Among-from_map, slice_get-from_Among}
use Rattle.mk_lists.proofs.Distinct.{AllDistinct-append}
use Rattle.mk_lists.proofs.EachMember.{Each-from_Among}
use Rattle.mk_run_laws.proofs.Splitting.{globals_through-append}
use Rattle.mk_txn.specs.declared.TxnId.{TxnId}
use Rattle.mk_txn.specs.declared.Vote.{Vote}
use Rattle.mk_txn.specs.declared.Vote.TheVariants.{Ok as VoteOk, Abort as VoteAbort}
use Rattle.mk_txn.specs.Outcomes.{is_ok_vote}
use Rattle.mk_txn.specs.Transactions.{Transaction}
use Rattle.mk_words.specs.declared.Entry.{Entry}
use Rattle.mk_words.specs.Entries.{entry_of, HasDistinctIds}
use Rattle.mk_quorum.specs.Slots.{passes}
use Rattle.mk_words.specs.Promises.{EntryFits}
use Rattle.mk_words.specs.Rebuilding.{fits_base}
use Rattle.mk_words.specs.declared.GlobalEntry.{GlobalEntry}
use Rattle.mk_words.specs.declared.GlobalLine.{GlobalLine}
use Rattle.mk_words.specs.declared.GlobalLine.TheVariants.{Wipe, Ask, Promise, Merge, Adopt, Enter}
use Rattle.mk_model.specs.ColumnState.{ColumnState, AttemptState, attempt_of, entries_at}
use Rattle.mk_model.specs.Logs.{reading_ended}
use Rattle.mk_column_laws.specs.Moves.{undated}
use Rattle.mk_column_laws.specs.Identity.{StampsName}
use Rattle.mk_model.specs.EpochState.{EpochState, ReplicaState, GivenPromise, base_for}
use Rattle.mk_epoch_laws.specs.Turns.{GlobalTurn, after_turn, after_turns}
use Rattle.mk_epoch_laws.specs.WordLaws.{IsAt}
use Rattle.mk_epoch_laws.specs.FitLaws.{txns_in, handed_txns, MayHandIn, LineFits, EachFits}
use Rattle.mk_epoch_laws.proofs.Extending.{Extends, keeps_promise, keeps_base_for}
use Rattle.mk_history.specs.declared.RoundLog.{RoundLog}
use Rattle.mk_history.specs.Histories.{History}
use Rattle.mk_history.specs.Shape.{HasShape}
use Rattle.mk_history.specs.Legality.{IsLegal}
use Rattle.mk_history.specs.Wholes.{WholeState, first_state, last_state, column_of, entries_of, handed_in, after_logs, globals_through, after_round, state_through}
use Rattle.mk_run_laws.specs.RunEvents.{emptied_in, moment_of, turns_in, turns_from, turns_of}
use Rattle.mk_run_laws.specs.RunLaws.{StampsNameColumns}
use Rattle.mk_run_laws.specs.Ends.{epochs_after, last_moment, client_column, whole_within}
use Rattle.mk_run_laws.proofs.Ending.{globals_length, after_logs_length, rounds_length, first_length}
use Rattle.mk_run_laws.proofs.Joined.{lines_reset, has_column}
use Rattle.mk_run_laws.proofs.Lines.{state_through-append, lines-lead, lines_are_turns}
use Rattle.mk_run_laws.proofs.Reaching.{append-one}
use Rattle.mk_base_laws.specs.Freezing.{PromisedAreOfEpoch}
use Rattle.mk_base_laws.specs.VotesFit.{VotesFitBase}
use Rattle.mk_base_laws.specs.Marks.{NoEntryCovered}
use Rattle.mk_base_laws.specs.Handing.{MayHandInWithin, EndsMayHandIn, EndsAreReached}
use Rattle.mk_base_laws.proofs.Lower.{Lower}
use Rattle.mk_base_laws.proofs.Walking.{at_moment, grows_to_last}
use Rattle.mk_base_laws.proofs.Resetting.{after_reset, member_found}
use Rattle.mk_base_laws.proofs.Keeping.{extends_lines}
use Rattle.mk_base_laws.proofs.Owned.{owned_in}
use Rattle.mk_base_laws.proofs.Frozen.{columns_in, last_is}
use Rattle.mk_base_laws.proofs.Uncovered.{entered, then_is, facts_within}

-- ---- lists

last_of : (xs : List RoundLog) → 1 ≤ length xs → (ys : List RoundLog) × ((y : RoundLog) × (xs ≡ ys ++ y ∷ []))
last_of [] h = absurd (omega (arith, h))
last_of (x ∷ []) h = ([], (x, refl))
last_of (x ∷ (y ∷ xs)) h = let k = last_of (y ∷ xs) (omega arith) in (x ∷ k.0, (k.1.0, ap (λ (zs : List RoundLog). x ∷ zs) k.1.1))

-- ---- an Ok vote

ok_is : (vote : Vote) → is_ok_vote vote ≡ true → vote ≡ VoteOk
ok_is VoteOk e = refl
ok_is (VoteAbort k) e = absurd (cc e)

ok_dated : (o : Option (Vote × ℕ)) → passes is_ok_vote (undated o) ≡ true → (i : ℕ) × (o ≡ Some (VoteOk, i))
ok_dated None e = absurd (cc e)
ok_dated (Some v) e = (v.1, ap (λ (x : Vote). Some (x, v.1)) (ok_is v.0 e))

-- the transaction is an attempt's
record IsAttempts (run : History) (txn : Transaction) : Type 0 where
  column : ℕ
  in_run : column < run.columns
  attempt : AttemptState
  found : attempt_of (last_moment run column).column txn.id ≡ Some attempt
  stamped : attempt.txn ≡ Some txn

module _ (laws : Lower) (votes : VotesFitBase) (uncovered : NoEntryCovered) (promised : PromisedAreOfEpoch) (stamps : StampsName) (stamp_columns : StampsNameColumns)
    (run : History) (shape : HasShape run) (legal : IsLegal run) where
  -- what attempts' transactions are
  same_number : (a b : Transaction) → IsAttempts run a → IsAttempts run b → a.id ≡ b.id → a ≡ b
  same_number a b p q same =
      let one = laws.ids run legal p.column p.in_run (last_moment run p.column) (last_is run p.column) a.id p.attempt p.found in
      let two = laws.ids run legal q.column q.in_run (last_moment run q.column) (last_is run q.column) b.id q.attempt q.found in
      let column : p.column ≡ q.column = sym one ∙ ap (λ (i : TxnId). client_column run i.client) same ∙ two in
      let found = subst (λ (n : ℕ). attempt_of (last_moment run n).column a.id ≡ Some p.attempt) column p.found in
      let there = subst (λ (i : TxnId). attempt_of (last_moment run q.column).column i ≡ Some q.attempt) (sym same) q.found in
      let attempt : p.attempt ≡ q.attempt = same_Some p.attempt q.attempt (sym found ∙ there) in
      same_Some a b (sym p.stamped ∙ ap (λ (x : AttemptState). x.txn) attempt ∙ q.stamped)

  same_stamp_number : (a b : Transaction) → IsAttempts run a → IsAttempts run b → a.stamp ≡ b.stamp → a.id ≡ b.id
  same_stamp_number a b p q same =
      let column = stamp_columns run legal p.column q.column p.in_run q.in_run (last_moment run p.column) (last_moment run q.column) (last_is run p.column) (last_is run q.column)
      a.id b.id p.attempt q.attempt a b p.found q.found p.stamped q.stamped same in
      let found = subst (λ (n : ℕ). attempt_of (last_moment run n).column a.id ≡ Some p.attempt) column p.found in
      at_moment laws run legal q.column q.in_run
      (λ taught n. (i j : TxnId) (x y : AttemptState) (s t : Transaction) → attempt_of n.column i ≡ Some x → attempt_of n.column j ≡ Some y → x.txn ≡ Some s → y.txn ≡ Some t → s.stamp ≡ t.stamp → i ≡ j)
      stamps (last_moment run q.column) (last_is run q.column) a.id b.id p.attempt q.attempt a b found q.found p.stamped q.stamped same

  module _ (done rest : List RoundLog) (round : RoundLog) (split : run.rounds ≡ done ++ round ∷ rest) (lines more : List GlobalEntry) (part : round.globals ≡ lines ++ more) (r : ℕ) where
    -- no two entries of a column's record are of one attempt
    own_distinct : (c : ℕ) → c < run.columns → HasDistinctIds (entries_at (column_of (whole_within run done round lines) c) r)
    own_distinct c lt =
        let m = moment_of run c (done ++ round ∷ []) in
        let d = at_moment laws run legal c lt (λ taught n. (q : ℕ) → HasDistinctIds (entries_at n.column q)) laws.distinct m (then_is laws run legal done rest round split lines more part c) r in
        subst (λ (x : ColumnState). HasDistinctIds (entries_at x r)) (sym (lines_reset run c lt done round lines))
        (elim (after_reset (emptied_in lines) m.column r) [ inl k ↦ subst HasDistinctIds (sym k.1) d | inr k ↦ subst HasDistinctIds (sym k.1) tt ])

    found_in : (c : ℕ) → c < run.columns → (entry : Entry) → Among entry (entries_at (column_of (whole_within run done round lines) c) r) →
        entry_of entry.txn.id (entries_at (column_of (whole_within run done round lines) c) r) ≡ Some entry
    found_in c lt entry a = member_found (entries_at (column_of (whole_within run done round lines) c) r) (own_distinct c lt) entry a

    -- an entry of a column is of a client of that column
    client_is : (c : ℕ) → c < run.columns → (entry : Entry) → Among entry (entries_at (column_of (whole_within run done round lines) c) r) → client_column run entry.txn.id.client ≡ c
    client_is c lt entry a =
        let there = found_in c lt entry a in
        let o = owned_in laws run legal c lt done rest round split lines more part r entry.txn.id entry there in
        let e = entered laws run legal done rest round split lines more part c lt r entry.txn.id entry there o.replica o.at in
        laws.ids run legal c lt (moment_of run c (done ++ round ∷ [])) (then_is laws run legal done rest round split lines more part c) entry.txn.id e.attempt e.found

    -- these columns are those from this number on
    AreFrom : ℕ → List ColumnState → Type 0
    AreFrom n columns = (i : ℕ) (x : ColumnState) → slice_get columns i ≡ Some x → (d : ℕ) × (d ≡ n + i) × (d < run.columns) × (column_of (whole_within run done round lines) d ≡ x)

    distinct_from : (n : ℕ) (columns : List ColumnState) → AreFrom n columns → AllDistinct (map (λ (e : Entry). e.txn.id) (flat_map (λ (x : ColumnState). entries_at x r) columns))
    unfolding AreFrom
    distinct_from n [] from = tt
    distinct_from n (x ∷ columns) from =
        let first = from 0 x refl in
        let here = entries_at x r in
        let later = flat_map (λ (y : ColumnState). entries_at y r) columns in
        let again = distinct_from (n + 1) columns (λ i y e. let k = from (suc i) y e in let place = k.1 in (k.0, omega (arith, place), k.2, k.3)) in
        subst AllDistinct (sym (map-append (λ (e : Entry). e.txn.id) here later))
        (AllDistinct-append (map (λ (e : Entry). e.txn.id) here) (map (λ (e : Entry). e.txn.id) later)
        (subst (λ (y : ColumnState). HasDistinctIds (entries_at y r)) first.3 (own_distinct first.0 first.2)) again
        (λ id a b.
        let one = Among-from_map (λ (e : Entry). e.txn.id) id here a in
        let two = Among-from_map (λ (e : Entry). e.txn.id) id later b in
        let column = Among-from_flat_map (λ (y : ColumnState). entries_at y r) two.0 columns two.1 in
        let place = slice_get-from_Among column.0 columns column.1 in
        let other = from (suc place.0) column.0 place.1 in
        let p = client_is first.0 first.2 one.0 (subst (λ (y : ColumnState). Among one.0 (entries_at y r)) (sym first.3) one.1) in
        let q = client_is other.0 other.2 two.0 (subst (λ (y : ColumnState). Among two.0 (entries_at y r)) (sym other.3) column.2) in
        let same = sym p ∙ ap (λ (i : TxnId). client_column run i.client) (one.2 ∙ sym two.2) ∙ q in
        let at = first.1 in
        let there = other.1 in
        omega (arith, same, at, there)))

    all_columns : AreFrom 0 (whole_within run done round lines).columns
    unfolding AreFrom
    all_columns i x e =
        let state = state_through run (first_state run) done in
        let long = globals_length run lines (after_logs run round state) ∙ after_logs_length run round state ∙ rounds_length run done (first_state run) ∙ first_length run in
        let low = slice_get_within (whole_within run done round lines).columns i x e in
        (i, omega arith, omega (arith, low, long), has_column (whole_within run done round lines) i x e)

    -- each entry is of a column
    column_entry : (entry : Entry) → Among entry (entries_of (whole_within run done round lines).columns r) →
        (c : ℕ) × (c < run.columns) × Among entry (entries_at (column_of (whole_within run done round lines) c) r)
    column_entry entry a =
        let k = Among-from_flat_map (λ (x : ColumnState). entries_at x r) entry (whole_within run done round lines).columns a in
        let d = (columns_in run done round lines).only k.0 k.1 in
        (d.0, d.1, subst (λ (x : ColumnState). Among entry (entries_at x r)) (sym d.2) k.2)

    -- what is there is there at the end of the round
    extends_to_end : Extends (whole_within run done round lines).epochs (epochs_after run (done ++ round ∷ []))
    extends_to_end =
        let logs = after_logs run round (state_through run (first_state run) done) in
        let end = state_through-append run (first_state run) done (round ∷ []) in
        let all = globals_through-append run logs lines more in
        let e = extends_lines run more (whole_within run done round lines) in
        subst (λ (s : WholeState). Extends (whole_within run done round lines).epochs s.epochs) (sym end)
        (subst (λ (gs : List GlobalEntry). Extends (whole_within run done round lines).epochs (globals_through run logs gs).epochs) (sym part)
        (subst (λ (s : WholeState). Extends (whole_within run done round lines).epochs s.epochs) (sym all) e))

    split_end : run.rounds ≡ (done ++ round ∷ []) ++ rest
    split_end = split ∙ append-one done round rest

    -- an entry fits the base of its replica
    entry_fits : (replica : ReplicaState) → IsAt (whole_within run done round lines).epochs r replica → (entry : Entry) → Among entry (entries_of (whole_within run done round lines).columns r) →
        EntryFits replica.base entry
    entry_fits replica at entry a =
        let k = column_entry entry a in
        let c = k.0 in
        let there = found_in c k.1 entry k.2 in
        let e = entered laws run legal done rest round split lines more part c k.1 r entry.txn.id entry there replica at in
        record {
          voted = λ ok.
              let vote = ok_dated e.past.vote (ap (λ (x : Entry). passes is_ok_vote x.vote) (sym e.as_past) ∙ ok) in
              let own = ((facts_within laws run legal done rest round split lines more part).each r replica at).own_base in
              let made = ap (λ (n : ℕ). base_for n (epochs_after run (done ++ round ∷ []))) e.same_epoch
              ∙ keeps_base_for (whole_within run done round lines).epochs (epochs_after run (done ++ round ∷ [])) extends_to_end replica.adopted replica.base own in
              ap (λ (x : Entry). fits_base replica.base x.txn) e.as_past
              ∙ votes run shape legal (done ++ round ∷ []) rest split_end c r e.attempt.epoch k.1 entry.txn.id e.past vote.0 replica.base
              (record { there = e.there; vote = vote.1; in_epoch = (e.attempt, e.found, refl) }) made;
          uncovered = uncovered run legal done rest round split lines more part c k.1 r entry.txn.id entry there replica at;
        }

    -- what was handed in, and what is, are attempts' transactions
    handed_before : (txn : Transaction) → Among txn (handed_txns (whole_within run done round lines).epochs) → IsAttempts run txn
    handed_before txn a =
        let state = (whole_within run done round lines).epochs in
        let g = Among-from_flat_map (λ (x : GivenPromise). txns_in x.promise.entries) txn state.promises a in
        let x = Among-from_map (λ (e : Entry). e.txn) txn g.0.promise.entries g.2 in
        let kept = keeps_promise state (epochs_after run (done ++ round ∷ [])) extends_to_end g.0 g.1 in
        let p = promised run legal (done ++ round ∷ []) rest split_end g.0 kept x.0 x.1 in
        subst (IsAttempts run) x.2 (record { column = p.column; in_run = p.in_run; attempt = p.attempt; found = p.found; stamped = p.stamped })

    handed_now : (txn : Transaction) → Among txn (txns_in (entries_of (whole_within run done round lines).columns r)) → IsAttempts run txn
    handed_now txn a =
        let x = Among-from_map (λ (e : Entry). e.txn) txn (entries_of (whole_within run done round lines).columns r) a in
        let k = column_entry x.0 x.1 in
        let there = found_in k.0 k.1 x.0 k.2 in
        let o = owned_in laws run legal k.0 k.1 done rest round split lines more part r x.0.txn.id x.0 there in
        let e = entered laws run legal done rest round split lines more part k.0 k.1 r x.0.txn.id x.0 there o.replica o.at in
        let g = (grows_to_last laws run legal k.0 k.1 (moment_of run k.0 (done ++ round ∷ [])) (then_is laws run legal done rest round split lines more part k.0)).attempts x.0.txn.id e.attempt e.found in
        subst (IsAttempts run) x.2 (record { column = k.0; in_run = k.1; attempt = g.0; found = g.1; stamped = g.2.txn x.0.txn e.stamped })

    handed : (txn : Transaction) → Among txn (handed_txns (whole_within run done round lines).epochs ++ txns_in (entries_of (whole_within run done round lines).columns r)) → IsAttempts run txn
    handed txn a = elim (Among-append txn (handed_txns (whole_within run done round lines).epochs) (txns_in (entries_of (whole_within run done round lines).columns r)) a) [
      | inl old ↦ handed_before txn old
      | inr new ↦ handed_now txn new
    ]

    pub may_hand_in : MayHandIn (whole_within run done round lines).epochs r (entries_of (whole_within run done round lines).columns r)
    may_hand_in =
        record {
          distinct_ids = distinct_from 0 (whole_within run done round lines).columns all_columns;
          entries_fit = λ replica at. Each-from_Among (EntryFits replica.base) (entries_of (whole_within run done round lines).columns r) (entry_fits replica at);
          coherent = record {
            one_of_a_number = λ a b p q same. same_number a b (handed a p) (handed b q) same;
            one_of_a_stamp = λ a b p q same. same_stamp_number a b (handed a p) (handed b q) same;
          };
        }

pub may_hand_in_within : Lower → VotesFitBase → NoEntryCovered → PromisedAreOfEpoch → StampsName → StampsNameColumns → MayHandInWithin
may_hand_in_within laws votes uncovered promised stamps stamp_columns run shape legal done rest round split lines more part r =
    may_hand_in laws votes uncovered promised stamps stamp_columns run shape legal done rest round split lines more part r

-- ---- the end of a run

entries_ended : (columns : List ColumnState) (r : ℕ) → entries_of (map reading_ended columns) r ≡ entries_of columns r
entries_ended [] r = refl
entries_ended (x ∷ columns) r = ap (λ (es : List Entry). entries_at x r ++ es) (entries_ended columns r)

pub ends_may_hand_in : MayHandInWithin → EndsMayHandIn
ends_may_hand_in within run shape legal r =
    let k = last_of run.rounds shape.some_round in
    let done = k.0 in
    let round = k.1.0 in
    let whole = whole_within run done round round.globals in
    let may = within run shape legal done [] round k.1.1 round.globals [] (sym (append-nil round.globals)) r in
    let end : last_state run ≡ after_round run round (state_through run (first_state run) done) = ap (state_through run (first_state run)) k.1.1 ∙ state_through-append run (first_state run) done (round ∷ []) in
    subst (λ (s : WholeState). MayHandIn s.epochs r (entries_of s.columns r)) (sym end)
    (subst (MayHandIn whole.epochs r) (sym (entries_ended whole.columns r)) may)

fits-join : (state : EpochState) (one other : List GlobalTurn) → EachFits state one → EachFits (after_turns state one) other → EachFits state (one ++ other)
fits-join state [] other h k = k
fits-join state (turn ∷ one) other h k = (h.0, fits-join (after_turn state turn) one other h.1 k)

module _ (within : MayHandInWithin) (run : History) (shape : HasShape run) (legal : IsLegal run) where
  fits_lines : (done rest : List RoundLog) (round : RoundLog) → run.rounds ≡ done ++ round ∷ rest → (more lines : List GlobalEntry) → round.globals ≡ lines ++ more →
      EachFits (whole_within run done round lines).epochs (turns_in run (whole_within run done round lines) more)
  fits_lines done rest round split [] lines part = tt
  fits_lines done rest round split (entry ∷ more) lines part = (
    line entry.line,
    subst (λ (s : WholeState). EachFits s.epochs (turns_in run s more)) (globals_through-append run (after_logs run round (state_through run (first_state run) done)) lines (entry ∷ []))
        (fits_lines done rest round split more (lines ++ entry ∷ []) (part ∙ sym (append_assoc lines (entry ∷ []) more))),
  )
    where
      line : (l : GlobalLine) → LineFits (whole_within run done round lines).epochs (handed_in (whole_within run done round lines) l) l
      line (Wipe r) = tt
      line (Ask e) = tt
      line (Promise e r) = within run shape legal done rest round split lines (entry ∷ more) part r
      line (Merge e) = tt
      line (Adopt e r) = tt
      line (Enter e) = tt

  fits_rounds : (rest done : List RoundLog) → run.rounds ≡ done ++ rest → EachFits (epochs_after run done) (turns_from run (state_through run (first_state run) done) rest)
  fits_rounds [] done split = tt
  fits_rounds (round ∷ rest) done split =
      let state = state_through run (first_state run) done in
      let logs = after_logs run round state in
      let here = turns_in run logs round.globals in
      let next = after_round run round state in
      let again = fits_rounds rest (done ++ round ∷ []) (split ∙ append-one done round rest) in
      fits-join (epochs_after run done) here (turns_from run next rest) (fits_lines done rest round split round.globals [] refl)
      (subst (λ (e : EpochState). EachFits e (turns_from run next rest)) (sym (lines-lead run round.globals logs))
      (subst (λ (s : WholeState). EachFits s.epochs (turns_from run s rest)) (state_through-append run (first_state run) done (round ∷ [])) again))

pub ends_are_reached : MayHandInWithin → EndsAreReached
ends_are_reached within run shape legal =
    let l = lines_are_turns run run.rounds legal in
    (run.faults, turns_of run run.rounds, l.0, fits_rounds within run shape legal run.rounds [] refl, l.1)
