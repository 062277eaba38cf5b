-- What is found along logs is what the columns list as learned.
use Rattle.std.proofs.Common.{◌≡◌, ◌⊎◌, ℕ, zero, suc, ◌+◌, refl, arith, inl, inr, sym, ap, ◌∙◌, List, [], ◌∷◌, ◌++◌, Some, subst, map}
use Rattle.std.specs.Prelude.{slice_get}
use Rattle.std.proofs.lemmas.Option.{same_Some}
use Rattle.mk_lists.specs.Among.{Among, Among-append, Among-append_left, Among-append_right}
use Rattle.mk_lists.proofs.Members.{Among-from_map, Among-map}
use Rattle.mk_txn.specs.declared.TxnId.{TxnId}
use Rattle.mk_txn.specs.declared.Outcome.{Outcome}
use Rattle.mk_words.specs.declared.Step.{Step}
use Rattle.mk_model.specs.ColumnState.{ColumnState, Setting, Learning}
use Rattle.mk_model.specs.Learnings.{learned_in_step}
use Rattle.mk_model.specs.Logs.{column_through, reading_ended}
use Rattle.mk_model.specs.Steps.{column_after}
use Rattle.mk_column_laws.specs.Moments.{replicas_reset}
use Rattle.mk_history.specs.declared.RoundLog.{RoundLog}
use Rattle.mk_history.specs.Histories.{History, log_of}
use Rattle.mk_history.specs.Learning.{Found, found, found_in_log, found_in_logs, found_in_round, found_in_globals, found_from, entered_through}
use Rattle.mk_history.specs.Learning.Place.{InLog}
use Rattle.mk_history.specs.Wholes.{WholeState, setting_of, after_logs, after_round, state_through}
use Rattle.mk_run_laws.specs.RunEvents.{emptied_in}
use Rattle.mk_run_laws.proofs.Joined.{HasColumn, column_after_round}
use Rattle.mk_run_laws.proofs.Ending.{resets_leave}

-- something of this attempt with this outcome is found
abbrev pub IsFound : TxnId → Outcome → List Found → Type 0
IsFound id outcome all = (f : Found) × (Among f all × ((f.id ≡ id) × (f.outcome ≡ outcome)))

-- something of this attempt with this outcome is listed
abbrev pub IsListed : TxnId → Outcome → List Learning → Type 0
IsListed id outcome list = (k : Learning) × (Among k list × ((k.id ≡ id) × (k.outcome ≡ outcome)))

pub found-left : (id : TxnId) (o : Outcome) (one other : List Found) → IsFound id o one → IsFound id o (one ++ other)
found-left id o one other (f, (a, same)) = (f, (Among-append_left f one other a, same))

pub found-right : (id : TxnId) (o : Outcome) (one other : List Found) → IsFound id o other → IsFound id o (one ++ other)
found-right id o one other (f, (a, same)) = (f, (Among-append_right f one other a, same))

-- ---- one log

pub listed_stays : (setting : Setting) (steps : List Step) (column : ColumnState) (k : Learning) → Among k column.learned → Among k (column_through setting column steps).learned
listed_stays setting [] column k a = a
listed_stays setting (step ∷ steps) column k a =
    listed_stays setting steps (column_after setting column step) k (Among-append_left k column.learned (learned_in_step setting column step) a)

log_found : (number c entry : ℕ) (setting : Setting) (steps : List Step) (column : ColumnState) (f : Found) → Among f (found_in_log number c entry setting column steps) →
    IsListed f.id f.outcome (column_through setting column steps).learned
log_found number c entry setting [] column f a = absurd a
log_found number c entry setting (step ∷ steps) column f a =
    let here = learned_in_step setting column step in
    let next = column_after setting column step in
    elim (Among-append f (map (found (InLog number c entry)) here) (found_in_log number c (entry + 1) setting next steps) a) [
      | inl now ↦ (
          let k = Among-from_map (found (InLog number c entry)) f here now in
          (k.0, (listed_stays setting steps next k.0 (Among-append_right k.0 column.learned here k.1), (ap (λ (x : Found). x.id) k.2, ap (λ (x : Found). x.outcome) k.2)))
          )
      | inr later ↦ log_found number c (entry + 1) setting steps next f later
    ]

log_listed : (number c entry : ℕ) (setting : Setting) (steps : List Step) (column : ColumnState) (k : Learning) → Among k (column_through setting column steps).learned →
    Among k column.learned ⊎ IsFound k.id k.outcome (found_in_log number c entry setting column steps)
log_listed number c entry setting [] column k a = inl a
log_listed number c entry setting (step ∷ steps) column k a =
    let here = learned_in_step setting column step in
    let next = column_after setting column step in
    let first = map (found (InLog number c entry)) here in
    let rest = found_in_log number c (entry + 1) setting next steps in
    elim (log_listed number c (entry + 1) setting steps next k a) [
      | inr later ↦ inr (found-right k.id k.outcome first rest later)
      | inl now ↦ elim (Among-append k column.learned here now) [
        | inl old ↦ inl old
        | inr new ↦ inr (found-left k.id k.outcome first rest (found (InLog number c entry) k, (Among-map (found (InLog number c entry)) k here new, (refl, refl))))
      ]
    ]

-- ---- the logs of a round

logs_found : (number : ℕ) (setting : Setting) (round : RoundLog) (columns : List ColumnState) (c : ℕ) (f : Found) → Among f (found_in_logs number setting round c columns) →
    (i : ℕ) × ((column : ColumnState) × ((slice_get columns i ≡ Some column) × IsListed f.id f.outcome (column_through setting column (log_of round (c + i))).learned))
logs_found number setting round [] c f a = absurd a
logs_found number setting round (column ∷ columns) c f a =
    elim (Among-append f (found_in_log number c 1 setting column (log_of round c)) (found_in_logs number setting round (c + 1) columns) a) [
      | inl here ↦ (
          let place : c ≡ c + 0 = omega arith in
          (0, (column, (refl, subst (λ (n : ℕ). IsListed f.id f.outcome (column_through setting column (log_of round n)).learned) place (log_found number c 1 setting (log_of round c) column f here))))
          )
      | inr later ↦ (
          let k = logs_found number setting round columns (c + 1) f later in
          let place : c + 1 + k.0 ≡ c + suc k.0 = omega arith in
          (suc k.0, (k.1.0, (k.1.1.0, subst (λ (n : ℕ). IsListed f.id f.outcome (column_through setting k.1.0 (log_of round n)).learned) place k.1.1.1)))
          )
    ]

logs_listed : (number : ℕ) (setting : Setting) (round : RoundLog) (columns : List ColumnState) (c i : ℕ) (column : ColumnState) → slice_get columns i ≡ Some column → (k : Learning) →
    Among k (column_through setting column (log_of round (c + i))).learned → Among k column.learned ⊎ IsFound k.id k.outcome (found_in_logs number setting round c columns)
logs_listed number setting round [] c i column at k a = absurd (cc at)
logs_listed number setting round (x ∷ columns) c zero column at k a =
    let same : x ≡ column = cc at in
    let first = found_in_log number c 1 setting x (log_of round c) in
    let rest = found_in_logs number setting round (c + 1) columns in
    let place : c + 0 ≡ c = omega arith in
    let here = subst (λ (n : ℕ). Among k (column_through setting column (log_of round n)).learned) place a in
    elim (log_listed number c 1 setting (log_of round c) x k (subst (λ (y : ColumnState). Among k (column_through setting y (log_of round c)).learned) (sym same) here)) [
      | inl old ↦ inl (subst (λ (y : ColumnState). Among k y.learned) same old)
      | inr new ↦ inr (found-left k.id k.outcome first rest new)
    ]
logs_listed number setting round (x ∷ columns) c (suc i) column at k a =
    let first = found_in_log number c 1 setting x (log_of round c) in
    let rest = found_in_logs number setting round (c + 1) columns in
    let place : c + suc i ≡ c + 1 + i = omega arith in
    elim (logs_listed number setting round columns (c + 1) i column at k (subst (λ (n : ℕ). Among k (column_through setting column (log_of round n)).learned) place a)) [
      | inl old ↦ inl old
      | inr new ↦ inr (found-right k.id k.outcome first rest new)
    ]

-- ---- rounds

-- the column after a round lists what it lists after the round's log
abbrev pub after_a_round : History → RoundLog → WholeState → ℕ → ColumnState → ColumnState
after_a_round run round state c column = reading_ended (replicas_reset (emptied_in round.globals) (column_through (setting_of run state) column (log_of round c)))

pub round_lists : (run : History) (round : RoundLog) (state : WholeState) (c : ℕ) (column : ColumnState) →
    (after_a_round run round state c column).learned ≡ (column_through (setting_of run state) column (log_of round c)).learned
round_lists run round state c column = (resets_leave (emptied_in round.globals) (column_through (setting_of run state) column (log_of round c))).learned

-- a column at the end lists it
abbrev pub AreListed : History → WholeState → List RoundLog → TxnId → Outcome → Type 0
AreListed run state rounds id outcome = (c : ℕ) × ((column : ColumnState) × (HasColumn (state_through run state rounds) c column × IsListed id outcome column.learned))

listed_later : (run : History) (rounds : List RoundLog) (state : WholeState) (c : ℕ) (column : ColumnState) → HasColumn state c column → (id : TxnId) (o : Outcome) → IsListed id o column.learned →
    AreListed run state rounds id o
listed_later run [] state c column has id o listed = (c, (column, (has, listed)))
listed_later run (round ∷ rounds) state c column has id o (k, (a, same)) =
    let next = after_a_round run round state c column in
    let there = listed_stays (setting_of run state) (log_of round c) column k a in
    listed_later run rounds (after_round run round state) c next (column_after_round run round state c column has) id o
    (k, (subst (Among k) (sym (round_lists run round state c column)) there, same))

-- what is found in the logs of a round is listed at the end
pub found_in_round_logs : (run : History) (number : ℕ) (round : RoundLog) (rounds : List RoundLog) (state : WholeState) (f : Found) →
    Among f (found_in_logs number (setting_of run state) round 0 state.columns) → AreListed run state (round ∷ rounds) f.id f.outcome
found_in_round_logs run number round rounds state f a =
    let k = logs_found number (setting_of run state) round state.columns 0 f a in
    let i = k.0 in
    let column = k.1.0 in
    let place : 0 + i ≡ i = omega arith in
    let listed = subst (λ (n : ℕ). IsListed f.id f.outcome (column_through (setting_of run state) column (log_of round n)).learned) place k.1.1.1 in
    listed_later run rounds (after_round run round state) i (after_a_round run round state i column) (column_after_round run round state i column k.1.1.0) f.id f.outcome
    (subst (IsListed f.id f.outcome) (sym (round_lists run round state i column)) listed)

-- what is listed at the end was listed, or is found
pub listed_found : (run : History) (rounds : List RoundLog) (number : ℕ) (state : WholeState) (entered : List ℕ) (c : ℕ) (column late : ColumnState) → HasColumn state c column →
    HasColumn (state_through run state rounds) c late → (k : Learning) → Among k late.learned → Among k column.learned ⊎ IsFound k.id k.outcome (found_from number run state entered rounds)
listed_found run [] number state entered c column late has ends k a = inl (subst (λ (y : ColumnState). Among k y.learned) (same_Some late column (sym ends ∙ has)) a)
listed_found run (round ∷ rounds) number state entered c column late has ends k a =
    let next = after_a_round run round state c column in
    let here = found_in_round number run state entered round in
    let logs = found_in_logs number (setting_of run state) round 0 state.columns in
    let lines = found_in_globals number 1 run (after_logs run round state) entered round.globals in
    let rest = found_from (number + 1) run (after_round run round state) (entered_through entered round.globals) rounds in
    let place : c ≡ 0 + c = omega arith in
    elim (listed_found run rounds (number + 1) (after_round run round state) (entered_through entered round.globals) c next late (column_after_round run round state c column has) ends k a) [
      | inr later ↦ inr (found-right k.id k.outcome here rest later)
      | inl now ↦ elim (logs_listed number (setting_of run state) round state.columns 0 c column has k
          (subst (λ (n : ℕ). Among k (column_through (setting_of run state) column (log_of round n)).learned) place (subst (Among k) (round_lists run round state c column) now))) [
            | inl old ↦ inl old
            | inr new ↦ inr (found-left k.id k.outcome here rest (found-left k.id k.outcome logs lines new))
          ]
    ]
