-- A cause that a column has, or a base of an epoch above, is named; so all that is learned is.
use Rattle.std.proofs.Common.{◌≡◌, ◌<◌, ℕ, true, arith, refl, inl, inr, sym, ap, ◌∙◌, Some, subst}
use Rattle.std.specs.Prelude.{is_some, option_map, option_and_then}
use Rattle.mk_lists.specs.Among.{Among}
use Rattle.mk_lists.proofs.Lookups.{find_tells}
use Rattle.mk_lists.proofs.Members.{Among-map}
use Rattle.mk_run_laws.proofs.LastMoments.{last_always, last_is_moment}
use Rattle.mk_txn.specs.declared.TxnId.{TxnId}
use Rattle.mk_txn.specs.declared.Cause.{Cause}
use Rattle.mk_txn.specs.declared.Outcome.{Outcome}
use Rattle.mk_txn.specs.declared.Outcome.TheVariants.{Commit, Abort}
use Rattle.mk_txn.proofs.IdOrder.{same_id-tells}
use Rattle.mk_words.specs.Bases.{BaseState, fate_in}
use Rattle.mk_model.specs.ColumnState.{AttemptState, is_attempt, attempt_of}
use Rattle.mk_model.specs.Logs.{not_reading}
use Rattle.mk_column_laws.specs.Facts.{IsBacked}
use Rattle.mk_record_laws.specs.Causes.{IsCausedBy}
use Rattle.mk_model.specs.EpochState.{MadeBase, made_for}
use Rattle.mk_epoch_laws.specs.BaseLaws.{BasesMade}
use Rattle.mk_epoch_laws.specs.PathLaws.{outcome_in}
use Rattle.mk_history.specs.Histories.{History}
use Rattle.mk_history.specs.Shape.{HasShape}
use Rattle.mk_history.specs.Legality.{IsLegal}
use Rattle.mk_history.specs.Learning.{Learnt}
use Rattle.mk_history.specs.Naming.{IsEpochOf, IsNamed}
use Rattle.mk_history.specs.Teaching.{entered_round}
use Rattle.mk_history.specs.Wholes.{last_state, column_of}
use Rattle.mk_run_laws.specs.Ends.{last_moment}
use Rattle.mk_run_laws.specs.Learnt.{LearntFrom}
use Rattle.mk_run_laws.specs.Learnt.LearntFrom.{FromLog, FromBase}
use Rattle.mk_run_laws.specs.TaughtIn.{taught_in}
use Rattle.mk_run_laws.proofs.Teachings.{found_once, base_there}
use Rattle.mk_fate_laws.specs.Reasons.{IsCaused}
use Rattle.mk_safety.specs.Naming.{LearningsAreNamed}
use Rattle.mk_safety.proofs.Lower.{Lower, Reasons}
use Rattle.mk_safety.proofs.Resting.{attempt_backed, of_base}

module _ (laws : Lower) (why : Reasons) (run : History) (shape : HasShape run) (legal : IsLegal run) where
  own_id : (c : ℕ) (id : TxnId) (a : AttemptState) → attempt_of (last_moment run c).column id ≡ Some a → Among a (last_moment run c).column.attempts × (a.id ≡ id)
  own_id c id a found = let f = find_tells (is_attempt id) (last_moment run c).column.attempts a found in (f.0, same_id-tells a.id id f.1)

  epoch_named : (c : ℕ) → c < run.columns → (id : TxnId) (a : AttemptState) → attempt_of (last_moment run c).column id ≡ Some a → (epoch : ℕ) →
      is_some (made_for epoch (last_state run).epochs) ≡ true → a.epoch < epoch → IsEpochOf run id epoch
  epoch_named c lt id a found epoch made above =
      let f = own_id c id a found in
      record {
        made = made;
        column = column_of (last_state run) c;
        in_run = (why.columns run run.rounds).there c lt;
        attempt = not_reading a;
        in_column = subst (Among (not_reading a)) (sym (why.ends run c lt run.rounds).attempts) (Among-map not_reading a (last_moment run c).column.attempts f.0);
        same_attempt = f.1;
        earlier = above;
      }

  named_by : (c : ℕ) → c < run.columns → (id : TxnId) (a : AttemptState) → attempt_of (last_moment run c).column id ≡ Some a → (cause : Cause) → IsCaused run c a cause →
      IsNamed run id (Abort cause)
  named_by c lt id a found cause (inl h) =
      why.named run shape legal c lt id (Abort cause) (subst (λ (i : TxnId). IsCausedBy (last_moment run c) i (Abort cause)) (own_id c id a found).1 h)
  named_by c lt id a found cause (inr (epoch, same, made, above)) =
      subst (λ (x : Cause). IsNamed run id (Abort x)) (sym same) (epoch_named c lt id a found epoch made above)

  -- what a column learned
  log_named : (c : ℕ) → c < run.columns → (id : TxnId) (outcome : Outcome) (round : ℕ) → IsBacked (taught_in run) (last_moment run c) id outcome round → IsNamed run id outcome
  log_named c lt id Commit round backed = tt
  log_named c lt id (Abort cause) round backed =
      let a = attempt_backed laws run legal c lt id (Abort cause) round backed in
      named_by c lt id a.0 a.1 cause (why.backed run shape legal c lt id a.0 a.1 cause round backed)

  -- what a base lists
  base_named : (made : MadeBase) (j : ℕ) → Among made (last_state run).epochs.made → entered_round run made.epoch ≡ Some j → (id : TxnId) (outcome : Outcome) →
      fate_in id made.base.list ≡ Some outcome → IsNamed run id outcome
  base_named made j there entered id Commit fate = tt
  base_named made j there entered id (Abort cause) fate =
      let state = (last_state run).epochs in
      let b = of_base laws run legal made there id (Abort cause) fate in
      let above = b.above in
      let once = (last_always laws.lines run legal BasesMade laws.made).once in
      let base = base_there state made (omega (arith, above)) (ap (option_map (λ (x : MadeBase). x.base)) (found_once state.made once made there)) in
      let says : outcome_in state made.epoch id ≡ Some (Abort cause) = ap (option_and_then (λ (x : BaseState). fate_in id x.list)) base ∙ fate in
      named_by b.column b.in_run id b.attempt b.found cause
      (why.based run shape legal made.epoch (why.entered run legal made.epoch j entered) b.column b.in_run id b.attempt b.found cause says)

  each_named : (l : Learnt) → LearntFrom run l → IsNamed run l.id l.outcome
  each_named l (FromLog c lt k there same_attempt same_outcome) =
      let m = last_moment run c in
      subst (λ (o : Outcome). IsNamed run l.id o) same_outcome
      (subst (λ (i : TxnId). IsNamed run i k.outcome) same_attempt
      (log_named c lt k.id k.outcome m.past.now ((laws.learned run legal c lt m (last_is_moment laws.moments run c) k.id).learned k there refl)))
  each_named l (FromBase made j there entered fate uncovered) = base_named made j there entered l.id l.outcome fate

pub learnings_are_named : Lower → Reasons → LearningsAreNamed
learnings_are_named laws why run shape legal l there = each_named laws why run shape legal l (laws.sources run legal l there)
