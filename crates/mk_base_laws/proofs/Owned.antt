-- Along the rounds of a run records have only entries of the epoch that their replica has.
use Rattle.std.proofs.Common.{◌≡◌, ◌⊎◌, ◌<◌, ℕ, Bool, true, false, refl, inl, inr, sym, ap, ◌∙◌, List, [], ◌∷◌, ◌++◌, Option, Some, None, subst, cond}
use Rattle.std.specs.Prelude.{is_some, option_map, slice_get}
use Rattle.std.proofs.lemmas.List.{append-nil}
use Rattle.mk_run_laws.proofs.Splitting.{globals-first}
use Rattle.mk_txn.specs.declared.TxnId.{TxnId}
use Rattle.mk_quorum.specs.Sizes.{members}
use Rattle.mk_words.specs.declared.Entry.{Entry}
use Rattle.mk_words.specs.Entries.{entry_of}
use Rattle.mk_words.specs.declared.GlobalEntry.{GlobalEntry}
use Rattle.mk_words.specs.declared.Step.{Step}
use Rattle.mk_model.specs.ColumnState.{ColumnState, AttemptState, attempt_of, entries_at}
use Rattle.mk_model.specs.Conditions.{blocked}
use Rattle.mk_model.specs.Logs.{not_reading, reading_ended}
use Rattle.mk_model.specs.Replicas.{serves}
use Rattle.mk_trim.specs.declared.ReplicaView.{ReplicaView}
use Rattle.mk_model.specs.EpochState.{EpochState, views_of}
use Rattle.mk_model.specs.GlobalAnswers.{lacks, is_accepted}
use Rattle.mk_model.specs.GlobalSteps.{IsAnswer, global_after}
use Rattle.mk_epoch_laws.proofs.Turning.{answer_given}
use Rattle.mk_column_laws.specs.Moments.{Moment, step_done, replicas_reset}
use Rattle.mk_column_laws.specs.Moments.Event.{Doing}
use Rattle.mk_column_laws.specs.Facts.{Grows}
use Rattle.mk_column_laws.proofs.Rounds.{find-map, no_entries}
use Rattle.mk_history.specs.declared.RoundLog.{RoundLog}
use Rattle.mk_history.specs.Histories.{History}
use Rattle.mk_history.specs.Legality.{IsLegal, EachGlobalAnswered, EachRoundLegal}
use Rattle.mk_history.specs.Wholes.{WholeState, first_state, column_of, handed_in, after_logs, after_global, globals_through, state_through}
use Rattle.mk_run_laws.specs.RunEvents.{IsMomentOf, emptied_by, emptied_in, moment_of}
use Rattle.mk_run_laws.specs.Ends.{epochs_after, whole_within}
use Rattle.mk_run_laws.proofs.Joined.{lines_reset, replicas_reset-append}
use Rattle.mk_run_laws.proofs.Lines.{state_through-append, legal-later}
use Rattle.mk_run_laws.proofs.Emptied.{emptied_before}
use Rattle.mk_run_laws.proofs.Reaching.{serves_at, append-one}
use Rattle.mk_base_laws.specs.Owning.{IsOfItsEpoch, IsOwned, RecordsAreOfTheEpoch}
use Rattle.mk_base_laws.proofs.Lower.{Lower}
use Rattle.mk_base_laws.proofs.Walking.{at_moment, grows_by, along_round}
use Rattle.mk_base_laws.proofs.Resetting.{before_reset, attempt_reset}
use Rattle.mk_base_laws.proofs.Keeping.{has_after}

-- ---- global lines

-- the global lines of the round after these
pub lines_answered : (run : History) → IsLegal run → (done rest : List RoundLog) (round : RoundLog) → run.rounds ≡ done ++ round ∷ rest →
    (lines more : List GlobalEntry) → round.globals ≡ lines ++ more → EachGlobalAnswered run (after_logs run round (state_through run (first_state run) done)) lines
lines_answered run legal done rest round split lines more same =
    let state = state_through run (first_state run) done in
    let here = legal-later run (first_state run) done (round ∷ rest) (subst (EachRoundLegal run (first_state run)) split legal) in
    globals-first run (after_logs run round state) lines more (subst (EachGlobalAnswered run (after_logs run round state)) same (here.0).globals)

owned_line : (run : History) (entry : GlobalEntry) (state : WholeState) (column : ColumnState) → IsAnswer state.epochs entry.line entry.answer → IsOwned state.epochs column →
    IsOwned (after_global run state entry).epochs (replicas_reset (cond (is_accepted entry.answer) (emptied_by entry.line) []) column)
owned_line run entry state column answered h = by (is_accepted entry.answer) refl
  where
    by : (b : Bool) → is_accepted entry.answer ≡ b →
        IsOwned (cond b (global_after state.epochs (handed_in state entry.line) entry.line) state.epochs) (replicas_reset (cond b (emptied_by entry.line) []) column)
    by false e = h
    by true e = λ r id x there.
        let was = before_reset (emptied_by entry.line) column r id x there in
        let o = h r id x was.1 in
        let k = has_after state.epochs (handed_in state entry.line) entry.line (answer_given state.epochs entry.line entry.answer answered e) r was.0 o.replica o.at o.has_state in
        record {
          replica = k.0;
          at = k.1;
          has_state = k.2;
          attempt = o.attempt;
          found = attempt_reset (emptied_by entry.line) column id ∙ o.found;
          same_epoch = o.same_epoch ∙ sym k.3;
        }

owned_lines : (run : History) (lines : List GlobalEntry) (state : WholeState) (column : ColumnState) → EachGlobalAnswered run state lines → IsOwned state.epochs column →
    IsOwned (globals_through run state lines).epochs (replicas_reset (emptied_in lines) column)
owned_lines run [] state column answered h = h
owned_lines run (entry ∷ lines) state column answered h =
    let emptied = cond (is_accepted entry.answer) (emptied_by entry.line) [] in
    subst (IsOwned (globals_through run (after_global run state entry) lines).epochs) (sym (replicas_reset-append emptied (emptied_in lines) column))
    (owned_lines run lines (after_global run state entry) (replicas_reset emptied column) answered.1 (owned_line run entry state column answered.0 h))

-- the end of a round
owned_ended : (epochs : EpochState) (column : ColumnState) → IsOwned epochs column → IsOwned epochs (reading_ended column)
owned_ended epochs column h r id x there =
    let o = h r id x there in
    record {
      replica = o.replica;
      at = o.at;
      has_state = o.has_state;
      attempt = not_reading o.attempt;
      found = find-map not_reading id (λ _. refl) column.attempts ∙ ap (option_map not_reading) o.found;
      same_epoch = o.same_epoch;
    }

emptied_last : (done : List RoundLog) (round : RoundLog) (emptied : List ℕ) → emptied_before emptied (done ++ round ∷ []) ≡ emptied_in round.globals
emptied_last [] round emptied = refl
emptied_last (first ∷ done) round emptied = emptied_last done round (emptied_in first.globals)

-- ---- rounds

module _ (laws : Lower) (run : History) (legal : IsLegal run) (c : ℕ) (lt : c < run.columns) where
  -- what a step keeps
  OwnedIn : EpochState → Moment → Type 0
  OwnedIn epochs m = (m.round.views ≡ views_of epochs) × IsOwned epochs m.column

  owned_step : (epochs : EpochState) (m : Moment) → IsMomentOf run c m → (step : Step) → blocked m.round m.column step ≡ None → OwnedIn epochs m → OwnedIn epochs (step_done step m)
  unfolding OwnedIn
  owned_step epochs m k step can (views, h) = (
    views,
    λ r id x there. elim (opens r id x there) [
      | inl was ↦ old r id (entry_of id (entries_at m.column r)) refl was
      | inr new ↦ opened r id new.0 new.1 new.2
    ],
  )
    where
      opens : (r : ℕ) (id : TxnId) (entry : Entry) → entry_of id (entries_at (step_done step m).column r) ≡ Some entry →
          (is_some (entry_of id (entries_at m.column r)) ≡ true) ⊎ ((a : AttemptState) × (attempt_of m.column id ≡ Some a) × (serves a.epoch (slice_get m.round.views r) ≡ true))
      opens = at_moment laws run legal c lt
          (λ taught n. (s : Step) → blocked n.round n.column s ≡ None → (r : ℕ) (id : TxnId) (entry : Entry) → entry_of id (entries_at (step_done s n).column r) ≡ Some entry →
          (is_some (entry_of id (entries_at n.column r)) ≡ true) ⊎ ((a : AttemptState) × (attempt_of n.column id ≡ Some a) × (serves a.epoch (slice_get n.round.views r) ≡ true)))
          laws.opens m k step can

      grown : Grows m (step_done step m)
      grown = grows_by laws run legal c lt m k (Doing step ∷ []) (can, tt)

      old : (r : ℕ) (id : TxnId) (o : Option Entry) → entry_of id (entries_at m.column r) ≡ o → is_some o ≡ true → IsOfItsEpoch epochs (step_done step m).column r id
      old r id None e is = absurd (cc is)
      old r id (Some x) e is =
          let o = h r id x e in
          let b = grown.attempts id o.attempt o.found in
          record { replica = o.replica; at = o.at; has_state = o.has_state; attempt = b.0; found = b.1; same_epoch = b.2.same_epoch ∙ o.same_epoch }

      opened : (r : ℕ) (id : TxnId) (a : AttemptState) → attempt_of m.column id ≡ Some a → serves a.epoch (slice_get m.round.views r) ≡ true → IsOfItsEpoch epochs (step_done step m).column r id
      opened r id a found is =
          let s = serves_at epochs.replicas r a.epoch (subst (λ (vs : List ReplicaView). serves a.epoch (slice_get vs r) ≡ true) views is) in
          let b = grown.attempts id a found in
          record { replica = s.0; at = s.1; has_state = ap lacks s.2; attempt = b.0; found = b.1; same_epoch = b.2.same_epoch ∙ sym s.3 }

  -- where a round begins
  OwnedAfter : List RoundLog → Type 0
  OwnedAfter done = IsOwned (epochs_after run done) (reading_ended (replicas_reset (emptied_before [] done) (moment_of run c done).column))

  owned_log : (done rest : List RoundLog) (round : RoundLog) → run.rounds ≡ done ++ round ∷ rest → OwnedAfter done → IsOwned (epochs_after run done) (moment_of run c (done ++ round ∷ [])).column
  unfolding OwnedIn OwnedAfter
  owned_log done rest round split h =
      (along_round laws run legal c lt (OwnedIn (epochs_after run done)) (owned_step (epochs_after run done)) done rest round split (refl, h)).1

  owned_globals : (done rest : List RoundLog) (round : RoundLog) → run.rounds ≡ done ++ round ∷ rest → OwnedAfter done → (lines more : List GlobalEntry) → round.globals ≡ lines ++ more →
      IsOwned (whole_within run done round lines).epochs (replicas_reset (emptied_in lines) (moment_of run c (done ++ round ∷ [])).column)
  owned_globals done rest round split h lines more same =
      owned_lines run lines (after_logs run round (state_through run (first_state run) done)) (moment_of run c (done ++ round ∷ [])).column
      (lines_answered run legal done rest round split lines more same) (owned_log done rest round split h)

  owned_round : (done rest : List RoundLog) (round : RoundLog) → run.rounds ≡ done ++ round ∷ rest → OwnedAfter done → OwnedAfter (done ++ round ∷ [])
  unfolding OwnedAfter
  owned_round done rest round split h =
      let m = moment_of run c (done ++ round ∷ []) in
      let ended = owned_ended (whole_within run done round round.globals).epochs (replicas_reset (emptied_in round.globals) m.column)
      (owned_globals done rest round split h round.globals [] (sym (append-nil round.globals))) in
      let emptied = emptied_last done round [] in
      let there = state_through-append run (first_state run) done (round ∷ []) in
      subst (λ (s : WholeState). IsOwned s.epochs (reading_ended (replicas_reset (emptied_before [] (done ++ round ∷ [])) m.column))) (sym there)
      (subst (λ (rs : List ℕ). IsOwned (whole_within run done round round.globals).epochs (reading_ended (replicas_reset rs m.column))) (sym emptied) ended)

  owned_first : OwnedAfter []
  unfolding OwnedAfter
  owned_first r id x there = absurd (nothing (sym (ap (entry_of id) (no_entries (members run.faults) r)) ∙ there))
    where
      nothing : ◌≡◌ {A = Option Entry} None (Some x) → ⊥
      nothing e = cc e

  owned_rounds : (before more later : List RoundLog) → run.rounds ≡ before ++ (more ++ later) → OwnedAfter before → OwnedAfter (before ++ more)
  owned_rounds before [] later split h = subst OwnedAfter (sym (append-nil before)) h
  owned_rounds before (round ∷ more) later split h =
      subst OwnedAfter (sym (append-one before round more))
      (owned_rounds (before ++ round ∷ []) more later (split ∙ append-one before round (more ++ later)) (owned_round before (more ++ later) round split h))

  pub owned_in : (done rest : List RoundLog) (round : RoundLog) → run.rounds ≡ done ++ round ∷ rest → (lines more : List GlobalEntry) → round.globals ≡ lines ++ more →
      IsOwned (whole_within run done round lines).epochs (column_of (whole_within run done round lines) c)
  owned_in done rest round split lines more same =
      subst (IsOwned (whole_within run done round lines).epochs) (sym (lines_reset run c lt done round lines))
      (owned_globals done rest round split (owned_rounds [] done (round ∷ rest) split owned_first) lines more same)

pub records_are_of_the_epoch : Lower → RecordsAreOfTheEpoch
records_are_of_the_epoch laws run legal done rest round split lines more same c lt = owned_in laws run legal c lt done rest round split lines more same
