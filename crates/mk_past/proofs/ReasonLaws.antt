-- Each attempt of a legal run ended for a reason.
use Rattle.std.proofs.Common.{◌≡◌, ◌∙◌, ◌<◌, ℕ, zero, suc, true, refl, sym, ap, subst, arith, List, [], ◌∷◌, length, Option, Some, None, ◌&&◌, ◌↔◌, IsNone}
use Rattle.std.specs.Prelude.{option_map, is_some, slice_index_or}
use Rattle.std.proofs.lemmas.Option.{same_Some, none-some}
use Rattle.mk_lists.specs.Among.{Among, Each-among}
use Rattle.mk_lists.proofs.Lookups.{find_tells, find-from_Among}
use Rattle.mk_lists.proofs.Members.{Among-from_map}
use Rattle.mk_txn.specs.declared.Stamp.{Stamp}
use Rattle.mk_txn.specs.declared.TxnId.{TxnId}
use Rattle.mk_txn.specs.declared.Conflict.{Conflict}
use Rattle.mk_txn.specs.declared.Cause.TheVariants.{Conflict as ByConflict, Takeover as ByTakeover, Epoch as ByEpoch}
use Rattle.mk_txn.specs.declared.Outcome.{Outcome}
use Rattle.mk_txn.specs.declared.Outcome.TheVariants.{Commit, Abort}
use Rattle.mk_txn.specs.Stamps.{same_stamp}
use Rattle.mk_txn.specs.Transactions.{Transaction, same_id}
use Rattle.mk_txn.proofs.IdOrder.{same_id-tells, same_id-itself}
use Rattle.mk_txn.proofs.StampOrder.{same_stamp-itself}
use Rattle.mk_quorum.specs.Sizes.{members}
use Rattle.mk_words.specs.declared.JournalEntry.{JournalEntry}
use Rattle.mk_words.specs.Acts.{is_check_of}
use Rattle.mk_model.specs.ColumnState.{ColumnState, AttemptState, attempt_of}
use Rattle.mk_model.specs.Logs.{not_reading}
use Rattle.mk_record_laws.specs.Attempts.{AttemptsAreFound}
use Rattle.mk_history.specs.declared.Path.{Path}
use Rattle.mk_history.specs.declared.State.{State}
use Rattle.mk_history.specs.Histories.{History}
use Rattle.mk_history.specs.Learning.{Learnt, learned, first_learned, stamped_in, stamped_by}
use Rattle.mk_history.specs.Legality.{IsLegal}
use Rattle.mk_history.specs.Naming.{IsRefusalOf, IsConflictOf, IsNamed, EachNamed}
use Rattle.mk_history.specs.Shape.{HasShape, IsRoundShape}
use Rattle.mk_history.specs.Wholes.{last_state, column_of}
use Rattle.mk_run_laws.specs.Ends.{last_moment, client_column}
use Rattle.mk_run_laws.specs.Joins.{EndsJoin, ColumnsAreNumbered}
use Rattle.mk_run_laws.specs.Lifts.{MomentsOfRounds, IdsAreOfColumns}
use Rattle.mk_run_laws.specs.RunLaws.{IdsInRuns, FactsInRuns, TeachingStays, RunsReachMoments}
use Rattle.mk_run_laws.specs.TaughtIn.{taught_in}
use Rattle.mk_run_laws.proofs.LastMoments.{last_is_moment}
use Rattle.mk_cause_laws.proofs.Owned.{IsOf}
use Rattle.mk_safety.proofs.Committed.{stamped-from, stamped_by-from}
use Rattle.mk_verdict.proofs.SameFacts.{same_reason-itself}
use Rattle.mk_run.specs.declared.line.AttemptLine.{AttemptLine}
use Rattle.mk_run.specs.Attempts.{state_of, line_of, column_at, first_in_run, outcomes_of}
use Rattle.mk_past.specs.declared.refusals.CheckPlace.{CheckPlace}
use Rattle.mk_past.specs.declared.reasons.Reasoned.{Reasoned}
use Rattle.mk_past.specs.Refusals.{is_refused_by, is_refusal, first_refusal}
use Rattle.mk_past.specs.Reasons.{line_of_id, is_stamp, line_of_stamp, by_conflict, refusal_of, by_outcome, by_state, reason_of_line, reason_of, HasAttempt, IsReasoned}
use Rattle.mk_past.proofs.FirstLaws.{rounds-some}
use Rattle.mk_past.proofs.LineLaws.{IsOfRun, of_run, line-of_attempt}

-- ---- what a refusal is

journal-there : (journals : List (List (List JournalEntry))) (r key : ℕ) (entry : JournalEntry) → Among entry (slice_index_or (slice_index_or journals r []) key []) → r < length journals
journal-there [] r key entry a = absurd a
journal-there (keys ∷ journals) zero key entry a = omega arith
journal-there (keys ∷ journals) (suc r) key entry a = let more = journal-there journals r key entry a in omega (arith, more)

refuses : (stamp : Stamp) (conflict : Conflict) (entry : JournalEntry) → is_check_of stamp entry.act ≡ true → is_refused_by conflict entry.answer ≡ true → is_refusal stamp conflict entry ≡ true
refuses stamp conflict entry check refused = ap (λ b. b && is_refused_by conflict entry.answer) check ∙ refused

both-some : (conflict : Conflict) (place : Option CheckPlace) (owner : Option AttemptLine) → is_some place ≡ true → is_some owner ≡ true → is_some (by_conflict conflict place owner) ≡ true
both-some conflict None owner e f = absurd (cc e)
both-some conflict (Some place) None e f = absurd (cc f)
both-some conflict (Some place) (Some owner) e f = refl

abbrev outcome_first : Learnt → Outcome × Path
outcome_first l = (l.outcome, l.path)

module _ (ids : IdsInRuns) (of_columns : IdsAreOfColumns) (ends : EndsJoin) (columns : ColumnsAreNumbered) (moments : MomentsOfRounds) (facts : FactsInRuns) (teaching : TeachingStays) (reach : RunsReachMoments)
    (found : AttemptsAreFound) (run : History) (shape : HasShape run) (legal : IsLegal run) (named : EachNamed run) where
  -- a transaction of the run is an attempt's
  of_txn : (txn : Transaction) → Among txn (stamped_by (last_state run).columns) → IsOf run txn
  of_txn txn m =
      let f = stamped_by-from (last_state run).columns txn m in
      let k = (columns run run.rounds).only f.0 f.1 in
      let n = last_moment run k.0 in
      let at = last_is_moment moments run k.0 in
      let s = stamped-from (column_of (last_state run) k.0).attempts txn (subst (λ (x : ColumnState). Among txn (stamped_in x.attempts)) (sym k.2) f.2) in
      let g = Among-from_map not_reading s.0 n.column.attempts (subst (Among s.0) (ends run k.0 k.1 run.rounds).attempts s.1) in
      record {
        column = k.0;
        in_run = k.1;
        id = (g.0).id;
        attempt = g.0;
        found = found (taught_in run) (teaching run) n (reach run legal k.0 k.1 n at) g.0 g.1;
        stamped = ap (λ (x : AttemptState). x.txn) g.2 ∙ s.2;
      }

  own_id : (txn : Transaction) (o : IsOf run txn) → txn.id ≡ o.id
  own_id txn o = ((facts run legal o.column o.in_run (last_moment run o.column) (last_is_moment moments run o.column)).attempts o.id o.attempt o.found).txn_id txn o.stamped

  -- an attempt of the run with this stamp has a line
  owner-there : (other : Transaction) → Among other (stamped_by (last_state run).columns) → is_some (line_of_stamp other.stamp (outcomes_of run)) ≡ true
  owner-there other m =
      let o = of_txn other m in
      let line = line_of run.faults (first_in_run run) (column_at (last_state run).columns o.column) (not_reading o.attempt) in
      let there : Among line (outcomes_of run) = line-of_attempt ids ends moments run shape legal o.column o.in_run o.id o.attempt o.found in
      let passes : is_stamp other.stamp line.stamp ≡ true =
      ap (λ (t : Option Transaction). is_stamp other.stamp (option_map (λ (x : Transaction). x.stamp) t)) o.stamped ∙ same_stamp-itself other.stamp in
      let y = find-from_Among (λ (l : AttemptLine). is_stamp other.stamp l.stamp) (outcomes_of run) line there passes in
      ap is_some y.1

  -- a transaction that has a line's number is the line's
  same-txn : (line : AttemptLine) (r : IsOfRun run line) (txn : Transaction) → Among txn (stamped_by (last_state run).columns) → txn.id ≡ r.told.attempt.id → r.told.attempt.txn ≡ Some txn
  same-txn line r txn m same =
      let o = of_txn txn m in
      let one : r.told.id ≡ o.id = sym r.own ∙ sym same ∙ own_id txn o in
      let here = of_columns run legal r.column r.in_run (last_moment run r.column) (last_is_moment moments run r.column) r.told.id r.attempt r.found in
      let there = of_columns run legal o.column o.in_run (last_moment run o.column) (last_is_moment moments run o.column) o.id o.attempt o.found in
      let column : r.column ≡ o.column = sym here ∙ ap (λ (i : TxnId). client_column run i.client) one ∙ there in
      let attempt = same_Some r.attempt o.attempt (sym r.found ∙ (λ i. attempt_of (last_moment run (column i)).column (one i)) ∙ o.found) in
      sym r.same_txn ∙ ap (λ (a : AttemptState). a.txn) attempt ∙ o.stamped

  refusal-there : (txn : Transaction) (conflict : Conflict) → IsRefusalOf run txn conflict → is_some (first_refusal run txn.stamp conflict) ≡ true
  refusal-there txn conflict k =
      let count = (Each-among (IsRoundShape run) k.round run.rounds shape.rounds k.in_run).journals in
      let lt = journal-there k.round.journals k.replica conflict.key k.entry k.in_journal in
      let refused : is_refused_by conflict k.entry.answer ≡ true =
      ap (is_refused_by conflict) k.refused ∙ ap (λ b. b && same_stamp conflict.stamp conflict.stamp) (same_reason-itself conflict.reason) ∙ same_stamp-itself conflict.stamp in
      rounds-some txn.stamp conflict (members run.faults) 1 run.rounds k.round k.replica k.entry k.in_run (subst (λ (n : ℕ). k.replica < n) count lt) k.in_journal
      (refuses txn.stamp conflict k.entry k.check refused)

  conflict-there : (line : AttemptLine) (r : IsOfRun run line) (conflict : Conflict) → IsConflictOf run r.told.attempt.id conflict →
      is_some (by_conflict conflict (refusal_of run conflict line.stamp) (line_of_stamp conflict.stamp (outcomes_of run))) ≡ true
  conflict-there line r conflict k =
      let stamp : line.stamp ≡ Some k.txn.stamp =
      sym (ap (λ (l : AttemptLine). l.stamp) r.told.is) ∙ ap (option_map (λ (t : Transaction). t.stamp)) (same-txn line r k.txn k.in_run k.same_attempt) in
      both-some conflict (refusal_of run conflict line.stamp) (line_of_stamp conflict.stamp (outcomes_of run))
      (ap (λ (s : Option Stamp). is_some (refusal_of run conflict s)) stamp ∙ refusal-there k.txn conflict k.refusal)
      (subst (λ (s : Stamp). is_some (line_of_stamp s (outcomes_of run)) ≡ true) k.refusal.other_stamp (owner-there k.refusal.other k.refusal.other_in_run))

  outcome-there : (line : AttemptLine) (r : IsOfRun run line) (path : Path) (outcome : Outcome) → IsNamed run r.told.attempt.id outcome → is_some (by_outcome run line.stamp path outcome) ≡ true
  outcome-there line r path Commit k = refl
  outcome-there line r path (Abort (ByConflict conflict)) k = conflict-there line r conflict k
  outcome-there line r path (Abort (ByTakeover view)) k = refl
  outcome-there line r path (Abort (ByEpoch epoch)) k = refl

  state-there : (line : AttemptLine) (r : IsOfRun run line) (column : ColumnState) (o : Option Learnt) → first_learned r.told.attempt.id (learned run) ≡ o →
      is_some (by_state run line.stamp (state_of run.faults column r.told.attempt (option_map outcome_first o))) ≡ true
  state-there line r column None e = refl
  state-there line r column (Some l) e =
      let f = find_tells (λ (x : Learnt). same_id x.id r.told.attempt.id) (learned run) l e in
      outcome-there line r l.path l.outcome (subst (λ (id : TxnId). IsNamed run id l.outcome) (same_id-tells l.id r.told.attempt.id f.1) (named l f.0))

  pub reasoned : (line : AttemptLine) → Among line (outcomes_of run) → IsReasoned run line
  reasoned line m =
      let r = of_run ids ends moments run shape legal line m in
      ap (λ (s : State). is_some (by_state run line.stamp s)) (sym (ap (λ (l : AttemptLine). l.state) r.told.is))
      ∙ state-there line r (column_at (last_state run).columns r.column) (first_learned r.told.attempt.id (learned run)) refl

-- ---- none exactly where there is no attempt

no-line : (id : TxnId) (lines : List AttemptLine) → line_of_id id lines ≡ None → (line : AttemptLine) → Among line lines → line.id ≡ id → ⊥
no-line id lines none line m is =
    let y = find-from_Among (λ (l : AttemptLine). same_id l.id id) lines line m (ap (λ (x : TxnId). same_id x id) is ∙ same_id-itself id) in
    absurd (none-some y.0 (sym none ∙ y.1))

some-not_none : {X : Type 0} (o : Option X) → is_some o ≡ true → IsNone o → ⊥
some-not_none None e none = absurd (cc e)
some-not_none (Some x) e none = absurd (cc none)

is-none : {X : Type 0} (o : Option X) → o ≡ None → IsNone o
is-none None e = refl
is-none (Some x) e = absurd (cc e)

pub none-where : (run : History) (id : TxnId) (o : Option Reasoned) → o ≡ reason_of run id → ((line : AttemptLine) → Among line (outcomes_of run) → IsReasoned run line) →
    ((line : AttemptLine) → Among line (outcomes_of run) → HasAttempt run line.id) → (HasAttempt run id → (line : AttemptLine) × Among line (outcomes_of run) × (line.id ≡ id)) →
    IsNone o ↔ (¬ (HasAttempt run id))
none-where run id o is all only there = by (line_of_id id (outcomes_of run)) refl
  where
    by : (l : Option AttemptLine) → line_of_id id (outcomes_of run) ≡ l → IsNone o ↔ (¬ (HasAttempt run id))
    by None e = (λ none has. let l = there has in no-line id (outcomes_of run) e l.0 l.1 l.2, λ none. is-none o (is ∙ ap (reason_of_line run) e))
    by (Some line) e =
        let f = find_tells (λ (l : AttemptLine). same_id l.id id) (outcomes_of run) line e in (
          λ none. absurd (some-not_none o (ap is_some (is ∙ ap (reason_of_line run) e) ∙ all line f.0) none),
          λ none. absurd (none (subst (HasAttempt run) (same_id-tells line.id id f.1) (only line f.0))),
        )
