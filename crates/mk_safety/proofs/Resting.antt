-- What is learned is listed by a column, which backs it, or by the base of an entered epoch, which is above the attempt's; and
-- two learnings of one attempt are of one column.
use Rattle.std.proofs.Common.{◌≡◌, ◌<◌, ℕ, true, arith, refl, inl, inr, sym, ap, List, Option, Some, None, subst}
use Rattle.std.specs.Prelude.{find, is_some, option_map}
use Rattle.std.specs.Option.{unwrap_or}
use Rattle.mk_lists.specs.Among.{Among}
use Rattle.mk_lists.proofs.Lookups.{find_tells}
use Rattle.mk_run_laws.proofs.LastMoments.{last_always, last_is_moment, same_column}
use Rattle.mk_txn.specs.declared.TxnId.{TxnId}
use Rattle.mk_txn.specs.declared.Cause.TheVariants.{Epoch as ByEpoch}
use Rattle.mk_txn.specs.declared.Outcome.{Outcome}
use Rattle.mk_txn.specs.declared.Outcome.TheVariants.{Abort}
use Rattle.mk_txn.specs.Transactions.{same_id}
use Rattle.mk_txn.proofs.IdOrder.{same_id-tells}
use Rattle.mk_words.specs.declared.Fated.{Fated}
use Rattle.mk_words.specs.Bases.{fate_in}
use Rattle.mk_model.specs.ColumnState.{AttemptState, Learning, attempt_of}
use Rattle.mk_column_laws.specs.Facts.{IsBacked}
use Rattle.mk_model.specs.EpochState.{MadeBase}
use Rattle.mk_epoch_laws.specs.BaseLaws.{BasesMade}
use Rattle.mk_history.specs.Histories.{History}
use Rattle.mk_history.specs.Legality.{IsLegal}
use Rattle.mk_history.specs.Learning.{Learnt}
use Rattle.mk_history.specs.Teaching.{entered_round}
use Rattle.mk_history.specs.Wholes.{last_state}
use Rattle.mk_run_laws.specs.Ends.{last_moment, run_epoch}
use Rattle.mk_run_laws.specs.Learnt.{LearntFrom}
use Rattle.mk_run_laws.specs.Learnt.LearntFrom.{FromLog, FromBase}
use Rattle.mk_run_laws.specs.TaughtIn.{taught_in}
use Rattle.mk_fate_laws.specs.Fates.{RestsOn}
use Rattle.mk_fate_laws.specs.Fates.RestsOn.{OnBase}
use Rattle.mk_safety.specs.Agreeing.{RestsIn, LearningsRest, LearningsAgree}
use Rattle.mk_safety.proofs.Lower.{Lower, Fates}

-- ---- one list

-- what a list says of an attempt, a member says
pub record IsListed (list : List Fated) (id : TxnId) (outcome : Outcome) : Type 0 where
  pub member : Fated
  pub there : Among member list
  pub same_attempt : member.txn.id ≡ id
  pub same_outcome : member.outcome ≡ outcome

pub listed : (list : List Fated) (id : TxnId) (outcome : Outcome) → fate_in id list ≡ Some outcome → IsListed list id outcome
listed list id outcome e = by (find (λ (f : Fated). same_id f.txn.id id) list) refl e
  where
    by : (o : Option Fated) → find (λ (f : Fated). same_id f.txn.id id) list ≡ o → option_map (λ (f : Fated). f.outcome) o ≡ Some outcome → IsListed list id outcome
    by None k is = absurd (cc is)
    by (Some f) k is =
        let found = find_tells (λ (x : Fated). same_id x.txn.id id) list f k in
        record { member = f; there = found.0; same_attempt = same_id-tells f.txn.id id found.1; same_outcome = (let same : Some f.outcome ≡ Some outcome = is in cc) }

module _ (laws : Lower) (run : History) (legal : IsLegal run) where
  -- what is backed is of an attempt
  pub attempt_backed : (c : ℕ) → c < run.columns → (id : TxnId) (outcome : Outcome) (round : ℕ) → IsBacked (taught_in run) (last_moment run c) id outcome round →
      (a : AttemptState) × (attempt_of (last_moment run c).column id ≡ Some a)
  attempt_backed c lt id outcome round (inr (a, found, taught)) = (a, found)
  attempt_backed c lt id outcome round (inl (inl fast, support)) =
      let f = (laws.facts run legal c lt (last_moment run c) (last_is_moment laws.moments run c)).fast id outcome fast in
      (f.attempt, f.found)
  attempt_backed c lt id outcome round (inl (inr (view, ((replica, (epoch, sent)), many)), support)) =
      let s = (laws.facts run legal c lt (last_moment run c) (last_is_moment laws.moments run c)).messages _ sent in
      (s.0.attempt, s.0.found)

  -- ---- what a base lists

  -- an attempt that a base lists: of an epoch below
  pub record IsOfBase (made : MadeBase) (id : TxnId) : Type 0 where
    pub column : ℕ
    pub in_run : column < run.columns
    pub attempt : AttemptState
    pub found : attempt_of (last_moment run column).column id ≡ Some attempt
    pub stamped : is_some attempt.txn ≡ true
    pub same_epoch : run_epoch run id ≡ attempt.epoch
    pub above : attempt.epoch < made.epoch

  pub of_base : (made : MadeBase) → Among made (last_state run).epochs.made → (id : TxnId) (outcome : Outcome) → fate_in id made.base.list ≡ Some outcome → IsOfBase made id
  of_base made there id outcome fate =
      let l = listed made.base.list id outcome fate in
      let m = laws.members run legal made there l.member l.there in
      let found = subst (λ (i : TxnId). attempt_of (last_moment run m.column).column i ≡ Some m.attempt) l.same_attempt m.found in
      let stamped = ap is_some m.stamped in
      let on_earlier = ((last_always laws.lines run legal BasesMade laws.made).well made there).on_earlier in
      let below = m.below in
      record {
        column = m.column;
        in_run = m.in_run;
        attempt = m.attempt;
        found = found;
        stamped = stamped;
        same_epoch = laws.epochs run legal m.column m.in_run id m.attempt found stamped;
        above = omega (arith, below, on_earlier);
      }

  -- ---- agreement

  module _ (fates : Fates) where
    from_log : (c : ℕ) → c < run.columns → (k : Learning) → Among k (last_moment run c).column.learned → RestsIn run k.id k.outcome
    from_log c lt k there =
        let m = last_moment run c in
        let backed = (laws.learned run legal c lt m (last_is_moment laws.moments run c) k.id).learned k there refl in
        let a = attempt_backed c lt k.id k.outcome m.past.now backed in
        record {
          column = c;
          in_run = lt;
          attempt = a.0;
          found = a.1;
          rests = fates.backed run legal c lt k.id k.outcome m.past.now backed;
        }

    from_base : (made : MadeBase) (j : ℕ) → Among made (last_state run).epochs.made → entered_round run made.epoch ≡ Some j → (id : TxnId) (outcome : Outcome) →
        fate_in id made.base.list ≡ Some outcome → RestsIn run id outcome
    from_base made j there entered id outcome fate =
        let b = of_base made there id outcome fate in
        let above = b.above in
        let same = b.same_epoch in
        record {
          column = b.column;
          in_run = b.in_run;
          attempt = b.attempt;
          found = b.found;
          rests = OnBase made j there entered (omega (arith, above, same)) (ap (λ (o : Option Outcome). unwrap_or o (Abort (ByEpoch made.epoch))) fate);
        }

    pub rests : (l : Learnt) → LearntFrom run l → RestsIn run l.id l.outcome
    rests l (FromLog c lt k there same_attempt same_outcome) =
        subst (λ (o : Outcome). RestsIn run l.id o) same_outcome (subst (λ (i : TxnId). RestsIn run i k.outcome) same_attempt (from_log c lt k there))
    rests l (FromBase made j there entered fate uncovered) = from_base made j there entered l.id l.outcome fate

pub learnings_rest : Lower → Fates → LearningsRest
learnings_rest laws fates run legal l there = rests laws run legal fates l (laws.sources run legal l there)

pub learnings_agree : Lower → Fates → LearningsRest → LearningsAgree
learnings_agree laws fates rest run shape legal a b there here same =
    let r = rest run legal a there in
    let s = subst (λ (i : TxnId). RestsIn run i b.outcome) (sym same) (rest run legal b here) in
    let column = same_column laws.moments laws.ids run legal s.column r.column s.in_run r.in_run a.id s.attempt r.attempt s.found r.found in
    fates.agree run shape legal r.column r.in_run a.id a.outcome b.outcome r.rests
    (subst (λ (c : ℕ). RestsOn run c a.id b.outcome) column s.rests)
