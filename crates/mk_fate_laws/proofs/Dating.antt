-- The bases of a run: when they were made and entered, as fields of the argument.
use Rattle.std.proofs.Common.{◌≡◌, ◌⊎◌, ◌≤◌, ◌<◌, ℕ, Bool, true, false, refl, arith, inl, inr, sym, ap, ◌∙◌, List, ◌++◌, Option, Some, None, subst, ◌&&◌}
use Rattle.std.specs.Prelude.{is_some, nat_lt, if◌then◌else◌}
use Rattle.std.specs.Option.{unwrap_or}
use Rattle.std.proofs.lemmas.Bool.Decides.{nat_tests}
use Rattle.std.specs.List.{list_any}
use Rattle.std.proofs.lemmas.Bool.{and_parts}
use Rattle.mk_lists.proofs.Tests.{Among-from_list_any, list_any-from_Among}
use Rattle.mk_run_laws.proofs.LastMoments.{last_is_moment}
use Rattle.mk_txn.specs.declared.TxnId.{TxnId}
use Rattle.mk_txn.specs.Transactions.{Transaction}
use Rattle.mk_words.specs.Bases.{BaseState}
use Rattle.mk_model.specs.ColumnState.{AttemptState}
use Rattle.mk_model.specs.Logs.{not_reading}
use Rattle.mk_column_laws.specs.Reading.{ReadsWereGot}
use Rattle.mk_record_laws.specs.Attempts.{UnreadIsNotStamped}
use Rattle.mk_model.specs.EpochState.{EpochState, MadeBase, first_epochs, base_for}
use Rattle.mk_model.specs.Force.{InForce, source_of}
use Rattle.mk_epoch_laws.specs.Turns.{after_turns, Always, AlwaysLater}
use Rattle.mk_epoch_laws.specs.BaseLaws.{IsMade, IsHeld, KeptGrows}
use Rattle.mk_epoch_laws.specs.PathLaws.{ForceInOrder}
use Rattle.mk_epoch_laws.proofs.Paths.{made_or_first}
use Rattle.mk_history.specs.declared.RoundLog.{RoundLog}
use Rattle.mk_history.specs.Histories.{History}
use Rattle.mk_history.specs.Wholes.{first_state, last_state}
use Rattle.mk_history.specs.Legality.{IsLegal, EachRoundLegal}
use Rattle.mk_history.specs.Teaching.{entered_round}
use Rattle.mk_run_laws.specs.RunEvents.{turns_of}
use Rattle.mk_run_laws.specs.TaughtIn.{taught_in}
use Rattle.mk_run_laws.specs.RunLaws.{LinesAreTurns}
use Rattle.mk_run_laws.specs.Ends.{epochs_after, last_moment, run_attempt, stamped_epoch, run_epoch, RoundsSplit}
use Rattle.mk_run_laws.specs.Dates.{ServedWas, ServersEntered, EnteredAt, EnteredWas, MadeWas, MadeFirst, made_round}
use Rattle.mk_run_laws.specs.Joins.{AttemptsJoin}
use Rattle.mk_base_laws.specs.Members.{BasesAddTheirSource}
use Rattle.mk_fate_laws.specs.InBases.{ForceGives}
use Rattle.mk_fate_laws.proofs.Building.{RunBases}
use Rattle.mk_fate_laws.proofs.Placing.{Placed, ColumnSide}

-- ---- the bases of a run

-- the laws on which it rests
pub record DateSide : Type 0 where
  pub columns : ColumnSide
  pub lines : LinesAreTurns
  pub splits : RoundsSplit
  pub entered : EnteredWas
  pub served : ServedWas
  pub servers : ServersEntered
  pub made_was : MadeWas
  pub made_first : MadeFirst
  pub grow : AlwaysLater KeptGrows
  pub order : AlwaysLater ForceInOrder
  pub give : Always ForceGives
  pub reads : ReadsWereGot
  pub unread : UnreadIsNotStamped
  pub attempts : AttemptsJoin
  pub adds : BasesAddTheirSource

-- the epoch was entered in some round
abbrev pub WasEnteredIn : History → ℕ → Type 0
WasEnteredIn run e = (j : ℕ) × (entered_round run e ≡ Some j)

abbrev pub entry_round : History → ℕ → ℕ
entry_round run e = unwrap_or (entered_round run e) 0

-- the epoch of a stamped attempt, and of another
stamped : (run : History) (id : TxnId) (a : AttemptState) → run_attempt run id ≡ Some (not_reading a) → run_epoch run id ≡ (if is_some a.txn then a.epoch else 0)
stamped run id a is = ap stamped_epoch is

module _ (side : DateSide) (run : History) (legal : IsLegal run) where
  abbrev pub end : EpochState
  end = (last_state run).epochs

  -- what is always so is so at the end
  pub at_last : (P : EpochState → Type 0) → Always P → P end
  at_last P always = let t = side.lines run run.rounds legal in subst P t.1 (always run.faults (turns_of run run.rounds) t.0)

  -- and after some rounds with the end
  pub until_last : (P : EpochState → EpochState → Type 0) → AlwaysLater P → (done rest : List RoundLog) → run.rounds ≡ done ++ rest → P (epochs_after run done) end
  until_last P always done rest split =
      let s = side.splits run done rest (subst (EachRoundLegal run (first_state run)) split legal) in
      let to_end = s.to_end ∙ ap (epochs_after run) (sym split) in
      subst (λ (late : EpochState). P (epochs_after run done) late) to_end
      (subst (λ (early : EpochState). P early (after_turns (after_turns (first_epochs run.faults) (turns_of run done)) s.more)) s.to_done
      (always run.faults (turns_of run done) s.more s.early s.late))

  entered_at : (e : ℕ) → (k : WasEnteredIn run e) → EnteredAt run e k.0
  entered_at e k = side.entered run legal e k.0 k.1

  pub was_held : (e : ℕ) → WasEnteredIn run e → IsHeld end e
  was_held e k = let w = entered_at e k in (until_last KeptGrows side.grow w.done w.rest w.split).held e w.held

  pub was_made : (e : ℕ) → WasEnteredIn run e → IsMade end e
  was_made e k =
      let w = entered_at e k in
      by (epochs_after run w.done) (base_for e (epochs_after run w.done)) refl w.made (λ base is. (until_last KeptGrows side.grow w.done w.rest w.split).bases e base is)
    where
      by : (early : EpochState) (x : Option BaseState) → base_for e early ≡ x → is_some (base_for e early) ≡ true → ((base : BaseState) → base_for e early ≡ Some base → base_for e end ≡ Some base) → IsMade end e
      by early None k is grows = absurd (cc (sym is ∙ ap is_some k))
      by early (Some base) k is grows = ap is_some (grows base k)

  pub in_time : (e later : ℕ) → InForce end e → 0 < e → WasEnteredIn run later → source_of end e < later → made_round run e ≤ entry_round run later
  in_time e later force up k lt =
      let w = entered_at later k in
      let made = (until_last ForceInOrder side.order w.done w.rest w.split e later force up w.held lt).0 in
      let by_then = side.made_first run e w.done w.rest w.split made in
      let rounds = w.rounds in
      let is = ap (λ (x : Option ℕ). unwrap_or x 0) k.1 in
      omega (arith, by_then, rounds, is)

  -- a stamped attempt's epoch was entered
  pub begun_at : (x : Placed run) → (run_epoch run x.id ≡ 0) ⊎ WasEnteredIn run (run_epoch run x.id)
  begun_at x = by x.attempt.txn refl
    where
      epoch : run_epoch run x.id ≡ (if is_some x.attempt.txn then x.attempt.epoch else 0)
      epoch = stamped run x.id x.attempt (side.attempts run legal x.column x.in_run x.id x.attempt x.found)

      by : (t : Option Transaction) → x.attempt.txn ≡ t → (run_epoch run x.id ≡ 0) ⊎ WasEnteredIn run (run_epoch run x.id)
      by None k = inl (epoch ∙ ap (λ (t : Option Transaction). if is_some t then x.attempt.epoch else 0) k)
      by (Some txn) k =
          let c = side.columns in
          let m = last_moment run x.column in
          let of = last_is_moment c.moments run x.column in
          let reached = c.reach run legal x.column x.in_run m of in
          let same : run_epoch run x.id ≡ x.attempt.epoch = epoch ∙ ap (λ (t : Option Transaction). if is_some t then x.attempt.epoch else 0) k in
          let reads = (side.reads (taught_in run) (c.stays run) m reached).attempts x.id x.attempt x.found in
          elim reads.home [
            | inl unread ↦ absurd (cc (sym k ∙ (side.unread (taught_in run) (c.stays run) m reached x.id x.attempt x.found unread).0))
            | inr served ↦ (
                let s = (side.served run legal x.column x.in_run m of).in_round (m.past.begun_in x.id) x.attempt.replica x.attempt.epoch served in
                let j = side.servers run legal s.0 x.attempt.replica x.attempt.epoch s.3 in
                inr (subst (WasEnteredIn run) (sym same) (j.0, j.1)))
          ]

  -- whether some epoch above was entered
  enters_above : ℕ → MadeBase → Bool
  enters_above e made = nat_lt e made.epoch && is_some (entered_round run made.epoch)

  pub some_above : (e : ℕ) → ((later : ℕ) × WasEnteredIn run later × (e < later)) ⊎ ((later : ℕ) → WasEnteredIn run later → e < later → ⊥)
  unfolding enters_above
  some_above e = by (list_any (enters_above e) end.made) refl
    where
      there : (x : Option ℕ) → is_some x ≡ true → (j : ℕ) × (x ≡ Some j)
      there None k = absurd (cc k)
      there (Some j) k = (j, refl)

      by : (b : Bool) → list_any (enters_above e) end.made ≡ b → ((later : ℕ) × WasEnteredIn run later × (e < later)) ⊎ ((later : ℕ) → WasEnteredIn run later → e < later → ⊥)
      by true k =
          let m = Among-from_list_any (enters_above e) end.made k in
          let b = and_parts (nat_lt e m.0.epoch) (is_some (entered_round run m.0.epoch)) m.2 in
          inl (m.0.epoch, there (entered_round run m.0.epoch) b.1, grind (arith, nat_tests, b.0))
      by false k = inr (λ later entered lt. elim (made_or_first end later (was_made later entered)) [
        | inl first ↦ omega (arith, first, lt)
        | inr m ↦ (
            let up : nat_lt e m.0.epoch ≡ true = (let same = m.2 in grind (arith, nat_tests, same, lt)) in
            let is : is_some (entered_round run m.0.epoch) ≡ true = subst (λ (n : ℕ). is_some (entered_round run n) ≡ true) (sym m.2) (ap is_some entered.1) in
            let any = list_any-from_Among (enters_above e) end.made m.0 m.1 (λ i. up i && is i) in
            cc (sym any ∙ k))
      ])

  abbrev pub run_bases : RunBases (Placed run) end
  run_bases =
      record {
        id_of = λ x. x.id;
        epoch_of = run_epoch run;
        paths = at_last ForceGives side.give (run_epoch run) (side.adds run legal);
        Entered = WasEnteredIn run;
        made_in = made_round run;
        entered_in = entry_round run;
        entered_held = was_held;
        force_time = in_time;
        begun = begun_at;
        above = some_above;
      }
