-- Why a base in force says what it says of an attempt of its source's epoch.
use Rattle.std.proofs.Common.{◌≡◌, ◌⊎◌, ◌<◌, ◌≤◌, ℕ, zero, suc, true, refl, arith, inl, inr, sym, ap, ◌∙◌, Option, Some, None, subst}
use Rattle.std.specs.Prelude.{is_some, option_map, option_and_then}
use Rattle.std.specs.Option.{unwrap_or}
use Rattle.std.proofs.lemmas.Option.{same_Some}
use Rattle.mk_lists.specs.Among.{Among}
use Rattle.mk_lists.proofs.Lookups.{find_tells}
use Rattle.mk_run_laws.proofs.LastMoments.{last_is_moment, same_column}
use Rattle.mk_txn.specs.declared.TxnId.{TxnId}
use Rattle.mk_txn.specs.declared.Accepted.{Accepted}
use Rattle.mk_txn.specs.declared.Cause.{Cause}
use Rattle.mk_txn.specs.declared.Cause.TheVariants.{Epoch as ByEpoch}
use Rattle.mk_txn.specs.declared.Outcome.{Outcome}
use Rattle.mk_txn.specs.declared.Outcome.TheVariants.{Commit, Abort}
use Rattle.mk_txn.proofs.IdOrder.{same_id-tells}
use Rattle.mk_words.specs.declared.Entry.{Entry}
use Rattle.mk_words.specs.Entries.{is_entry_of}
use Rattle.mk_words.specs.Bases.{BaseState, fate_in}
use Rattle.mk_merge_laws.proofs.Adding.{fate-member}
use Rattle.mk_merge_laws.specs.Composition.{made_fate}
use Rattle.mk_model.specs.ColumnState.{AttemptState, attempt_of}
use Rattle.mk_model.specs.Deciding.{IsDecided}
use Rattle.mk_model.specs.Sending.{Proposed}
use Rattle.mk_column_laws.specs.Facts.{IsBacked}
use Rattle.mk_record_laws.specs.Causes.{IsCausedBy, CausesOf, CausesAreTrue}
use Rattle.mk_model.specs.EpochState.{MadeBase, base_for, made_for}
use Rattle.mk_model.specs.Force.{InForce, source_of}
use Rattle.mk_epoch_laws.specs.Turns.{Always}
use Rattle.mk_epoch_laws.specs.BaseLaws.{IsMade, BasesMade, counted_for}
use Rattle.mk_epoch_laws.specs.PathLaws.{PathsKeep, outcome_in}
use Rattle.mk_history.specs.Histories.{History}
use Rattle.mk_history.specs.Legality.{IsLegal}
use Rattle.mk_history.specs.Shape.{HasShape}
use Rattle.mk_history.specs.Teaching.{stands_in}
use Rattle.mk_history.specs.Wholes.{last_state}
use Rattle.mk_run_laws.specs.Ends.{last_moment, run_epoch}
use Rattle.mk_run_laws.specs.Exact.{IsTaughtExactly}
use Rattle.mk_run_laws.specs.TaughtIn.{taught_in}
use Rattle.mk_run_laws.proofs.Reaching.{base_made}
use Rattle.mk_run_laws.proofs.Teachings.{found_once, base_there}
use Rattle.mk_fate_laws.specs.Composing.{Composed}
use Rattle.mk_fate_laws.specs.Composing.Composed.{Finally, ByAcceptance, Taken, Rejected as GaveWay, Dropped as FellAway}
use Rattle.mk_fate_laws.specs.InBases.{PathsGive, BasesAreComposed, OutcomesInBases, is_counted}
use Rattle.mk_fate_laws.specs.Fates.{FinalInForce}
use Rattle.mk_fate_laws.specs.Reasons.{EnteredInForce, WhyInForce, OutcomesInForce, IsCaused, BaseAbortsAreCaused, BackedAbortsAreCaused}
use Rattle.mk_fate_laws.specs.Reasons.WhyInForce.{WasDecided, WasProposed, WasTaken, WasGivenUp, NotListed}
use Rattle.mk_fate_laws.proofs.Fields.{IsNext}
use Rattle.mk_fate_laws.proofs.Building.{base_fields, held_force}
use Rattle.mk_fate_laws.proofs.Votes.{has_at}
use Rattle.mk_fate_laws.proofs.Placing.{Placed, at_end, last_faults}
use Rattle.mk_fate_laws.proofs.Dating.{DateSide, WasEnteredIn, run_bases, at_last, was_held}
use Rattle.mk_fate_laws.proofs.Joining.{remembered, promisers, handed_in, laws_of, txn_of}
use Rattle.mk_fate_laws.proofs.Fates.{FateSide}

module _ (side : FateSide) (finals : FinalInForce) (run : History) (shape : HasShape run) (legal : IsLegal run) (e : ℕ) (force : InForce (last_state run).epochs e) (up : 0 < e)
    (x : Placed run) (source : run_epoch run x.id ≡ source_of (last_state run).epochs e) where
  next : IsNext (base_fields (last_state run).epochs (run_bases side.join.dates run legal)) e x
  next = record { force = force; after_first = up; of_source = source }

  is_made : IsMade (last_state run).epochs e
  is_made = (run_bases side.join.dates run legal).paths.made e force

  -- what a promiser that counts has finished, is decided just so
  decided : (r : ℕ) → is_counted (last_state run).epochs e r ≡ true → (entry : Entry) (o : Outcome) → has_at (at_end run x) x.id r ≡ Some entry → entry.last ≡ Some o →
      IsDecided run.faults (at_end run x).column x.id o
  decided r counted entry o has last =
      let p = (promisers side.join run shape legal e x next).each r counted in
      let handed = handed_in side.join run shape legal e x next p.0 p.1 ∙ ap (has_at (at_end run x) x.id) p.2 ∙ has in
      let f = find_tells (is_entry_of x.id) p.0.entries entry handed in
      let same = same_id-tells entry.txn.id x.id f.1 in
      let d = finals run shape legal e force up p.0 p.1 entry f.0 o last in
      subst (λ (i : TxnId). IsDecided run.faults (at_end run x).column i o) same (at_place d.column d.in_run d.attempt d.found same d.decided)
    where
      at_place : (c : ℕ) → c < run.columns → (a : AttemptState) → attempt_of (last_moment run c).column entry.txn.id ≡ Some a → entry.txn.id ≡ x.id →
          IsDecided run.faults (last_moment run c).column entry.txn.id o → IsDecided run.faults (at_end run x).column entry.txn.id o
      at_place c lt a found same d =
          let there : attempt_of (last_moment run c).column x.id ≡ Some a = subst (λ (i : TxnId). attempt_of (last_moment run c).column i ≡ Some a) same found in
          let columns = side.join.dates.columns in
          let columns_are : c ≡ x.column = same_column columns.moments side.join.ids run legal c x.column lt x.in_run x.id a x.attempt there x.found in
          subst (λ (n : ℕ). IsDecided run.faults (last_moment run n).column entry.txn.id o) columns_are d

  proposed : (r : ℕ) (entry : Entry) (kept : Accepted) → has_at (at_end run x) x.id r ≡ Some entry → entry.accepted ≡ Some kept → Proposed (at_end run x).column.link x.id kept.view kept.outcome
  proposed r entry kept has accepted =
      let p = remembered ((at_end run x).past.entries r x.id) entry has in
      (((laws_of side.join run shape legal x).facts.entries r x.id p.0 p.1).accepted kept (ap (λ (n : Entry). n.accepted) p.2 ∙ accepted)).1

  said : (o : Option Outcome) → made_fate (last_state run).epochs.faults e (counted_for (last_state run).epochs e) x.id ≡ o → outcome_in (last_state run).epochs e x.id ≡ o
  said o fate = ap (option_and_then (λ (b : BaseState). fate_in x.id b.list)) (at_last side.join.dates run legal BasesAreComposed side.bases e is_made up) ∙ fate

  why : WhyInForce run x.column e x.id (outcome_in (last_state run).epochs e x.id)
  why = by (at_last side.join.dates run legal OutcomesInBases side.composed (run_epoch run) (side.join.dates.adds run legal) e x.id is_made up source (has_at (at_end run x) x.id)
      (handed_in side.join run shape legal e x next))
    where
      by : Composed (last_state run).epochs.faults e (counted_for (last_state run).epochs e) x.id (has_at (at_end run x) x.id) → WhyInForce run x.column e x.id (outcome_in (last_state run).epochs e x.id)
      by (Finally k) = WasDecided k.outcome (decided k.replica k.counts.0 k.entry k.outcome k.counts.1 k.final) (said (Some k.outcome) k.fate)
      by (ByAcceptance k) = WasProposed k.kept.view k.kept.outcome (proposed k.replica k.entry k.kept k.counts.1 k.accepted) (said (Some k.kept.outcome) k.fate)
      by (Taken open_still h fate) = WasTaken (said (Some Commit) fate)
      by (GaveWay k) = WasGivenUp (said (Some (Abort (ByEpoch e))) k.fate)
      by (FellAway k) = elim k.fate [
        | inl none ↦ NotListed (said None none)
        | inr given_up ↦ WasGivenUp (said (Some (Abort (ByEpoch e))) given_up)
      ]

-- ---- causes

abort_same : (a b : Cause) → Abort a ≡ Abort b → a ≡ b
abort_same a b e = cc e

module _ (side : FateSide) (finals : FinalInForce) (keep : Always PathsKeep) (causes : CausesAreTrue) (run : History) (shape : HasShape run) (legal : IsLegal run) where
  -- as `IsCaused`, by the run's epoch of the attempt
  abbrev Caused : Placed run → Cause → Type 0
  Caused x cause =
      IsCausedBy (at_end run x) x.id (Abort cause)
      ⊎ ((epoch : ℕ) × (cause ≡ ByEpoch epoch) × (is_some (made_for epoch (last_state run).epochs) ≡ true) × (run_epoch run x.id < epoch))

  causes_at : (x : Placed run) → CausesOf (at_end run x) x.id
  causes_at x =
      let columns = side.join.dates.columns in
      causes (taught_in run) (columns.stays run) (at_end run x) (columns.reach run legal x.column x.in_run (at_end run x) (last_is_moment columns.moments run x.column)) x.id

  -- a decision by the run's number of faults, and its cause
  decided_caused : (x : Placed run) (cause : Cause) → IsDecided run.faults (at_end run x).column x.id (Abort cause) → IsCausedBy (at_end run x) x.id (Abort cause)
  decided_caused x cause d =
      (causes_at x).decided (Abort cause)
      (subst (λ (f : ℕ). IsDecided f (at_end run x).column x.id (Abort cause)) (sym (last_faults side.join.dates.columns run legal x.column)) d)

  made_above : (e : ℕ) → 0 < e → IsMade (last_state run).epochs e → is_some (made_for e (last_state run).epochs) ≡ true
  made_above e up is = by (base_for e (last_state run).epochs) refl is
    where
      by : (o : Option BaseState) → base_for e (last_state run).epochs ≡ o → is_some o ≡ true → is_some (made_for e (last_state run).epochs) ≡ true
      by None k s = absurd (cc s)
      by (Some base) k s = ap is_some (base_made e (last_state run).epochs base up k)

  paths_give : PathsGive (last_state run).epochs (run_epoch run)
  paths_give = (run_bases side.join.dates run legal).paths

  caused : (limit e : ℕ) → e ≤ limit → InForce (last_state run).epochs e → (x : Placed run) (cause : Cause) → outcome_in (last_state run).epochs e x.id ≡ Some (Abort cause) → Caused x cause
  caused limit zero le force x cause there = absurd (cc there)
  caused zero (suc e) le force x cause there = absurd (omega (arith, le))
  caused (suc limit) (suc e) le force x cause there = elim (side.join.dates.adds run legal (suc e) x.id made (omega arith) (ap is_some there)) [
    | inl old ↦ caused limit (source_of (last_state run).epochs (suc e)) (omega (arith, below, le)) further x cause (sym (same old) ∙ there)
    | inr source ↦ by (why side finals run shape legal (suc e) force (omega arith) x source) source
  ]
    where
      made : IsMade (last_state run).epochs (suc e)
      made = paths_give.made (suc e) force

      below : source_of (last_state run).epochs (suc e) < suc e
      below = paths_give.below (suc e) force (omega arith)

      further : InForce (last_state run).epochs (source_of (last_state run).epochs (suc e))
      further = paths_give.source_force (suc e) force

      same : is_some (outcome_in (last_state run).epochs (source_of (last_state run).epochs (suc e)) x.id) ≡ true →
          outcome_in (last_state run).epochs (suc e) x.id ≡ outcome_in (last_state run).epochs (source_of (last_state run).epochs (suc e)) x.id
      same old =
          at_last side.join.dates run legal PathsKeep keep (run_epoch run) (side.join.dates.adds run legal) (suc e) (source_of (last_state run).epochs (suc e)) x.id made (1, refl)
          (paths_give.listed_below (source_of (last_state run).epochs (suc e)) x.id (paths_give.made (source_of (last_state run).epochs (suc e)) further) old)

      by : WhyInForce run x.column (suc e) x.id (outcome_in (last_state run).epochs (suc e) x.id) → run_epoch run x.id ≡ source_of (last_state run).epochs (suc e) → Caused x cause
      by (WasDecided o d said) source =
          inl (decided_caused x cause (subst (IsDecided run.faults (at_end run x).column x.id) (same_Some o (Abort cause) (sym said ∙ there)) d))
      by (WasProposed view o p said) source =
          inl ((causes_at x).proposed view (Abort cause) (subst (Proposed (at_end run x).column.link x.id view) (same_Some o (Abort cause) (sym said ∙ there)) p))
      by (WasTaken said) source = absurd (cc (sym said ∙ there))
      by (WasGivenUp said) source =
          let own : cause ≡ ByEpoch (suc e) = abort_same cause (ByEpoch (suc e)) (same_Some (Abort cause) (Abort (ByEpoch (suc e))) (sym there ∙ said)) in
          inr (suc e, own, made_above (suc e) (omega arith) made, (let lt = below in omega (arith, source, lt)))
      by (NotListed said) source = absurd (cc (sym said ∙ there))

  -- what a base lists is stamped
  stamped_in : (e : ℕ) (x : Placed run) (o : Outcome) → outcome_in (last_state run).epochs e x.id ≡ Some o → is_some x.attempt.txn ≡ true
  stamped_in e x o there = by (base_for e (last_state run).epochs) refl there
    where
      by : (b : Option BaseState) → base_for e (last_state run).epochs ≡ b → option_and_then (λ (base : BaseState). fate_in x.id base.list) b ≡ Some o → is_some x.attempt.txn ≡ true
      by None k t = absurd (cc t)
      by (Some base) k t =
          let f = fate-member x.id base.list o t in
          ap is_some (txn_of side.join run shape legal e f.0 (base, k, f.1) x (sym f.2))

  own_id : (x : Placed run) → x.id ≡ x.attempt.id
  own_id x = sym ((laws_of side.join run shape legal x).facts.attempts x.id x.attempt x.found).own_id

  base_caused : (e : ℕ) → InForce (last_state run).epochs e → (x : Placed run) (cause : Cause) → outcome_in (last_state run).epochs e x.id ≡ Some (Abort cause) → IsCaused run x.column x.attempt cause
  base_caused e force x cause there = elim (caused e e (omega arith) force x cause there) [
    | inl held ↦ inl (subst (λ (i : TxnId). IsCausedBy (at_end run x) i (Abort cause)) (own_id x) held)
    | inr (g, is, made, up) ↦
        let own = side.join.epochs run legal x.column x.in_run x.id x.attempt x.found (stamped_in e x (Abort cause) there) in
        inr (g, is, made, omega (arith, own, up))
  ]

  taught_caused : (x : Placed run) (cause : Cause) (round : ℕ) → taught_in run x.id x.attempt.epoch (Abort cause) round ≡ true → IsCaused run x.column x.attempt cause
  taught_caused x cause round taught = of_base k.made k.in_run (k.entered_in, k.entered) k.above k.teaches
    where
      k : IsTaughtExactly run x.id x.attempt.epoch (Abort cause) round
      k = side.exactly run x.id x.attempt.epoch (Abort cause) round taught

      of_base : (made : MadeBase) → Among made (last_state run).epochs.made → WasEnteredIn run made.epoch → x.attempt.epoch < made.epoch → stands_in made.base made.epoch x.id ≡ Abort cause →
          IsCaused run x.column x.attempt cause
      of_base made among entered above teaches = by (fate_in x.id made.base.list) refl teaches
        where
          force : InForce (last_state run).epochs made.epoch
          force = held_force (last_state run).epochs made.epoch (was_held side.join.dates run legal made.epoch entered)

          base : base_for made.epoch (last_state run).epochs ≡ Some made.base
          base =
              let state = (last_state run).epochs in
              let well = at_last side.join.dates run legal BasesMade side.made in
              base_there state made (well.well made among).after_first (ap (option_map (λ (m : MadeBase). m.base)) (found_once state.made well.once made among))

          listed : (o : Option Outcome) → fate_in x.id made.base.list ≡ o → outcome_in (last_state run).epochs made.epoch x.id ≡ o
          listed o k = ap (option_and_then (λ (b : BaseState). fate_in x.id b.list)) base ∙ k

          by : (o : Option Outcome) → fate_in x.id made.base.list ≡ o → unwrap_or o (Abort (ByEpoch made.epoch)) ≡ Abort cause → IsCaused run x.column x.attempt cause
          by (Some o) k t = base_caused made.epoch force x cause (listed (Some o) k ∙ ap (λ (p : Outcome). Some p) t)
          by None k t = inr (made.epoch, abort_same cause (ByEpoch made.epoch) (sym t), made_above made.epoch (omega (arith, above)) (ap is_some base), above)

  backed_caused : (x : Placed run) (cause : Cause) (round : ℕ) → IsBacked (taught_in run) (at_end run x) x.id (Abort cause) round → IsCaused run x.column x.attempt cause
  backed_caused x cause round (inl d) = inl (subst (λ (i : TxnId). IsCausedBy (at_end run x) i (Abort cause)) (own_id x) ((causes_at x).decided (Abort cause) d.0))
  backed_caused x cause round (inr (a, found, taught)) =
      taught_caused x cause round (subst (λ (b : AttemptState). taught_in run x.id b.epoch (Abort cause) round ≡ true) (same_Some a x.attempt (sym found ∙ x.found)) taught)

-- ---- as they are stated

pub outcomes_in_force : FateSide → FinalInForce → OutcomesInForce
outcomes_in_force side finals run shape legal e force up c lt id a found source =
    why side finals run shape legal e force up (record { column = c; in_run = lt; id = id; attempt = a; found = found }) source

pub entered_in_force : DateSide → EnteredInForce
entered_in_force side run legal e j entered = held_force (last_state run).epochs e (was_held side run legal e (j, entered))

pub base_aborts_are_caused : FateSide → FinalInForce → Always PathsKeep → CausesAreTrue → BaseAbortsAreCaused
base_aborts_are_caused side finals keep causes run shape legal e force c lt id a found cause there =
    base_caused side finals keep causes run shape legal e force (record { column = c; in_run = lt; id = id; attempt = a; found = found }) cause there

pub backed_aborts_are_caused : FateSide → FinalInForce → Always PathsKeep → CausesAreTrue → BackedAbortsAreCaused
backed_aborts_are_caused side finals keep causes run shape legal c lt id a found cause round backed =
    backed_caused side finals keep causes run shape legal (record { column = c; in_run = lt; id = id; attempt = a; found = found }) cause round backed
