-- The laws of what becomes of attempts, from the argument and its fields.
use Rattle.std.proofs.Common.{◌≡◌, ◌≤◌, ◌<◌, ℕ, true, false, refl, arith, inl, inr, sym, ap, ◌∙◌, [], Option, Some, None, subst}
use Rattle.std.specs.Prelude.{is_some, option_map, option_and_then, ◌==◌, if◌then◌else◌}
use Rattle.std.proofs.lemmas.List.{append-nil}
use Rattle.std.proofs.lemmas.Option.{same_Some}
use Rattle.std.proofs.lemmas.Bool.{eq-eqb, false_from_ne_true}
use Rattle.mk_lists.specs.Among.{Among}
use Rattle.mk_lists.proofs.Tests.{list_any-from_Among}
use Rattle.mk_column_laws.proofs.Histories.{undated-some}
use Rattle.mk_txn.specs.declared.TxnId.{TxnId}
use Rattle.mk_txn.specs.declared.Outcome.{Outcome}
use Rattle.mk_txn.specs.declared.Outcome.TheVariants.{Commit, Abort}
use Rattle.mk_txn.specs.Clashes.{conflict}
use Rattle.mk_txn.specs.Outcomes.{is_commit, agrees}
use Rattle.mk_txn.specs.Transactions.{Transaction}
use Rattle.mk_words.specs.declared.Entry.{Entry}
use Rattle.mk_words.specs.declared.Fated.{Fated}
use Rattle.mk_quorum.specs.Slots.{passes}
use Rattle.mk_words.specs.Bases.{BaseState, empty_base, fate_in}
use Rattle.mk_words.specs.Promises.{PromiseState}
use Rattle.mk_words.specs.Merging.{merged_from}
use Rattle.mk_model.specs.ColumnState.{AttemptState, attempt_of}
use Rattle.mk_model.specs.Deciding.{IsDecided}
use Rattle.mk_column_laws.specs.Facts.{IsBacked}
use Rattle.mk_column_laws.specs.Moments.{PastEntry}
use Rattle.mk_column_laws.specs.Moves.{entry_of_past}
use Rattle.mk_model.specs.EpochState.{EpochState, MadeBase, base_for}
use Rattle.mk_model.specs.Force.{InForce, source_of}
use Rattle.mk_epoch_laws.specs.Turns.{Always}
use Rattle.mk_epoch_laws.specs.BaseLaws.{BasesMade, counted_for}
use Rattle.mk_epoch_laws.proofs.Paths.{made_or_first}
use Rattle.mk_history.specs.Histories.{History}
use Rattle.mk_history.specs.Wholes.{last_state}
use Rattle.mk_history.specs.Shape.{HasShape}
use Rattle.mk_history.specs.Legality.{IsLegal}
use Rattle.mk_history.specs.Teaching.{stands_in}
use Rattle.mk_run_laws.specs.TaughtIn.{taught_in}
use Rattle.mk_run_laws.specs.Exact.{TaughtExactly}
use Rattle.mk_run_laws.specs.Ends.{last_moment, stamped_epoch, run_epoch}
use Rattle.mk_run_laws.proofs.Teachings.{found_once, base_there}
use Rattle.mk_base_laws.specs.Freezing.{IsPromisedOf}
use Rattle.mk_fate_laws.specs.Composing.{BasesSay}
use Rattle.mk_fate_laws.specs.InBases.{commits_at, is_counted, PromisersCount, BasesAreComposed, OutcomesInBases, TakenFitInBases}
use Rattle.mk_fate_laws.specs.Fates.{RestsOn, BackedRests, DecidedStands, RestsStand, RestsAgree, NoClashInForce, CommitsFit, IsDecidedIn, FinalInForce}
use Rattle.mk_fate_laws.specs.Fates.RestsOn.{OnDecision, OnBase}
use Rattle.mk_fate_laws.proofs.Fields.{Decided, StandFields, IsNext}
use Rattle.mk_fate_laws.proofs.Standing.{Rests, decided_stands, rests_agree, no_clash_in_force, commits_fit, too_late}
use Rattle.mk_fate_laws.proofs.Standing.Rests.{OnDecision as IsDecision, OnBase as IsBase}
use Rattle.mk_fate_laws.proofs.Building.{InBase, held_force, base_fields, stand_fields}
use Rattle.mk_fate_laws.proofs.Placing.{Placed, at_end, last_laws, last_faults}
use Rattle.mk_run_laws.specs.Dates.{made_round}
use Rattle.mk_fate_laws.proofs.Dating.{was_held, at_last, run_bases}
use Rattle.mk_fate_laws.proofs.Joining.{JoinSide, remembered, run_joins, place_of, conflict_of, laws_of, handed_in, final_early, taught_before, decided_in, commits_as}

-- the laws on which it rests, beside those of votes and bases
pub record FateSide : Type 0 where
  pub join : JoinSide
  pub made : Always BasesMade
  pub composed : Always OutcomesInBases
  pub fit : Always TakenFitInBases
  pub bases : Always BasesAreComposed
  pub say : BasesSay
  pub exactly : TaughtExactly

agrees-so : (o p : Outcome) → is_commit o ≡ is_commit p → agrees o p ≡ true
agrees-so Commit Commit e = refl
agrees-so (Abort c) (Abort d) e = refl
agrees-so Commit (Abort d) e = absurd (cc e)
agrees-so (Abort c) Commit e = absurd (cc e)

module _ (side : FateSide) (run : History) (legal : IsLegal run) where
  -- the epoch that counts for an attempt is not above its own
  epoch_low : (c : ℕ) → c < run.columns → (id : TxnId) (a : AttemptState) → attempt_of (last_moment run c).column id ≡ Some a → run_epoch run id ≤ a.epoch
  epoch_low c lt id a found = by a.txn refl
    where
      is : run_epoch run id ≡ (if is_some a.txn then a.epoch else 0)
      is = ap stamped_epoch (side.join.dates.attempts run legal c lt id a found)

      by : (t : Option Transaction) → a.txn ≡ t → run_epoch run id ≤ a.epoch
      by None k = let none = is ∙ ap (λ (t : Option Transaction). if is_some t then a.epoch else 0) k in omega (arith, none)
      by (Some txn) k = let own = is ∙ ap (λ (t : Option Transaction). if is_some t then a.epoch else 0) k in omega (arith, own)

  backed_so : (c : ℕ) → c < run.columns → (id : TxnId) (o : Outcome) (round : ℕ) → IsBacked (taught_in run) (last_moment run c) id o round → RestsOn run c id o
  backed_so c lt id o round (inl d) = OnDecision (subst (λ (f : ℕ). IsDecided f (last_moment run c).column id o) (last_faults side.join.dates.columns run legal c) d.0)
  backed_so c lt id o round (inr (a, found, teaches)) =
      let k = side.exactly run id a.epoch o round teaches in
      let low = epoch_low c lt id a found in
      let up = k.above in
      OnBase k.made k.entered_in k.in_run k.entered (omega (arith, low, up)) k.teaches

module _ (side : FateSide) (run : History) (shape : HasShape run) (legal : IsLegal run) where
  abbrev j : JoinSide
  j = side.join

  abbrev ends : EpochState
  ends = (last_state run).epochs

  so : (P : EpochState → Type 0) → Always P → P ends
  so P always = at_last j.dates run legal P always

  abbrev fields : StandFields (Placed run)
  fields =
      stand_fields ends (run_bases j.dates run legal) (run_joins j run shape legal) (at_last j.dates run legal PromisersCount j.count) (j.dates.adds run legal)
      (at_last j.dates run legal OutcomesInBases side.composed) (at_last j.dates run legal TakenFitInBases side.fit) (at_last j.dates run legal BasesAreComposed side.bases) side.say

  -- the base that was made for an epoch is the one that it has
  base_of_made : (made : MadeBase) → Among made ends.made → base_for made.epoch ends ≡ Some made.base
  base_of_made made a =
      let well = so BasesMade side.made in
      base_there ends made (well.well made a).after_first (ap (option_map (λ (x : MadeBase). x.base)) (found_once ends.made well.once made a))

  -- what is decided is of an attempt
  decided_place : (c : ℕ) → c < run.columns → (id : TxnId) (o : Outcome) → IsDecided run.faults (last_moment run c).column id o → (a : AttemptState) × (attempt_of (last_moment run c).column id ≡ Some a)
  decided_place c lt id o (inl fast) = let f = (last_laws j.dates.columns run legal c lt).facts.fast id o fast in (f.attempt, f.found)
  decided_place c lt id o (inr chosen) =
      let f = ((last_laws j.dates.columns run legal c lt).facts.messages _ chosen.1.0.1.1).0 in
      (f.attempt, f.found)

  abbrev place : (c : ℕ) → c < run.columns → (id : TxnId) (a : AttemptState) → attempt_of (last_moment run c).column id ≡ Some a → Placed run
  place c lt id a found = record { column = c; in_run = lt; id = id; attempt = a; found = found }

  decided_so : (x : Placed run) (o : Outcome) → IsDecided run.faults (last_moment run x.column).column x.id o → Decided fields.j.v x (is_commit o)
  decided_so x o d =
      decided_in j run shape legal x o (subst (λ (f : ℕ). IsDecided f (last_moment run x.column).column x.id o) (sym (last_faults j.dates.columns run legal x.column)) d)

  rests_so : (x : Placed run) (o : Outcome) → RestsOn run x.column x.id o → Rests fields.j x (is_commit o)
  rests_so x o (OnDecision d) = IsDecision (decided_so x o d)
  rests_so x o (OnBase made i a entered above teaches) =
      IsBase made.epoch (i, entered) above (commits_as j run shape legal made.epoch x.id made.base (base_of_made made a) ∙ ap is_commit teaches)

  -- ---- the laws

  decided_stands_so : (c : ℕ) → c < run.columns → (id : TxnId) (o : Outcome) → IsDecided run.faults (last_moment run c).column id o → (e : ℕ) → InForce ends e → run_epoch run id < e →
      commits_at ends e id ≡ is_commit o
  decided_stands_so c lt id o d e force low =
      let a = decided_place c lt id o d in
      let x = place c lt id a.0 a.1 in
      decided_stands fields e x (is_commit o) force low (decided_so x o d)

  -- what the bases of two epochs say, whether the attempt is there or not
  base_says : (made : MadeBase) → Among made ends.made → (id : TxnId) → commits_at ends made.epoch id ≡ is_commit (stands_in made.base made.epoch id)
  base_says made a id = commits_as j run shape legal made.epoch id made.base (base_of_made made a)

  rests_stand_so : (c : ℕ) → c < run.columns → (id : TxnId) (o : Outcome) → RestsOn run c id o → (e : ℕ) → InForce ends e → run_epoch run id < e → commits_at ends e id ≡ is_commit o
  rests_stand_so c lt id o (OnDecision d) e force low = decided_stands_so c lt id o d e force low
  rests_stand_so c lt id o (OnBase made i a entered above teaches) e force low =
      let bs = run_bases j.dates run legal in
      bs.paths.line e made.epoch id force (held_force ends made.epoch (was_held j.dates run legal made.epoch (i, entered))) low above ∙ base_says made a id ∙ ap is_commit teaches

  rests_agree_so : (c : ℕ) → c < run.columns → (id : TxnId) (o p : Outcome) → RestsOn run c id o → RestsOn run c id p → agrees o p ≡ true
  rests_agree_so c lt id o p (OnDecision d) r =
      let a = decided_place c lt id o d in
      let x = place c lt id a.0 a.1 in
      agrees-so o p (rests_agree fields x (is_commit o) (is_commit p) (IsDecision (decided_so x o d)) (rests_so x p r))
  rests_agree_so c lt id o p (OnBase made i a entered above teaches) r =
      let force = held_force ends made.epoch (was_held j.dates run legal made.epoch (i, entered)) in
      agrees-so o p (sym (base_says made a id ∙ ap is_commit teaches) ∙ rests_stand_so c lt id p r made.epoch force above)

  clash_free : (e : ℕ) → InForce ends e → (base : BaseState) → base_for e ends ≡ Some base → (one other : Fated) → Among one base.list → Among other base.list →
      one.outcome ≡ Commit → other.outcome ≡ Commit → conflict one.txn other.txn ≡ false
  clash_free e force base is one other a b commits also = false_from_ne_true (conflict one.txn other.txn) (λ clash. by clash)
    where
      p : InBase ends e one
      p = (base, is, a)

      q : InBase ends e other
      q = (base, is, b)

      x : (x : Placed run) × (x.id ≡ one.txn.id)
      x = place_of j run shape legal e one p

      y : (y : Placed run) × (y.id ≡ other.txn.id)
      y = place_of j run shape legal e other q

      said : (f : Fated) → Among f base.list → f.outcome ≡ Commit → commits_at ends e f.txn.id ≡ true
      said f c is_one = elim (made_or_first ends e (ap is_some is)) [
        | inl first ↦ absurd (none first)
        | inr m ↦ (
            let up : 0 < e = (let well = ((so BasesMade side.made).well m.0 m.1).after_first in let same = m.2 in omega (arith, well, same)) in
            let made = so BasesAreComposed side.bases e (ap is_some is) up in
            let list : base ≡ merged_from ends.faults e (counted_for ends e) = same_Some base (merged_from ends.faults e (counted_for ends e)) (sym is ∙ made) in
            let says = (side.say ends.faults e (counted_for ends e)).said f (subst (λ (s : BaseState). Among f s.list) list c) in
            ap (λ (o : Option BaseState). passes is_commit (option_and_then (λ (s : BaseState). fate_in f.txn.id s.list) o)) made ∙ ap (passes is_commit) says ∙ ap is_commit is_one)
      ]
        where
          none : e ≡ 0 → ⊥
          none first =
              let empty : base_for 0 ends ≡ Some base = subst (λ (n : ℕ). base_for n ends ≡ Some base) first is in
              subst (λ (s : BaseState). Among f s.list) (sym (same_Some empty_base base empty)) c

      by : conflict one.txn other.txn ≡ true → ⊥
      by clash =
          no_clash_in_force fields e x.0 y.0 force (subst (λ (i : TxnId). commits_at ends e i ≡ true) (sym x.1) (said one a commits))
          (subst (λ (i : TxnId). commits_at ends e i ≡ true) (sym y.1) (said other b also)) (conflict_of j run shape legal e one other x.0 y.0 p q x.1 y.1 clash)

  commits_fit_so : (c d : ℕ) → c < run.columns → d < run.columns → (id other : TxnId) (a b : AttemptState) (one two : Transaction) →
      attempt_of (last_moment run c).column id ≡ Some a → attempt_of (last_moment run d).column other ≡ Some b → a.txn ≡ Some one → b.txn ≡ Some two →
      RestsOn run c id Commit → RestsOn run d other Commit → conflict one two ≡ false
  commits_fit_so c d clt dlt id other a b one two found also of_one of_two p q =
      let x = place c clt id a found in
      let y = place d dlt other b also in
      false_from_ne_true (conflict one two) (λ clash. commits_fit fields x y (rests_so x Commit p) (rests_so y Commit q) (record { one = one; other = two; of_one = of_one; of_other = of_two; conflicts = clash }))

  final_decided : (e : ℕ) → InForce ends e → 0 < e → (p : PromiseState) → Among p (counted_for ends e) → (entry : Entry) → Among entry p.entries → (o : Outcome) → entry.last ≡ Some o →
      IsDecidedIn run entry.txn.id o
  final_decided e force up p a entry b o last =
      elim (((laws_of j run shape legal x).backing x.id).final p.replica past.0 o round.0 past.1 round.1).1 [
        | inl d ↦ record { column = k.column; in_run = k.in_run; attempt = k.attempt; found = k.found; decided = subst (λ (f : ℕ). IsDecided f (last_moment run k.column).column entry.txn.id o) (last_faults j.dates.columns run legal k.column) d.0 }
        | inr t ↦ absurd (too_late fields.j e x next (is_commit o) round.0 early (taught_before j run shape legal x t.0 o round.0 t.1 (stamped t.0 t.1) t.2))
      ]
    where
      g : Among (record { epoch = e; promise = p }) ends.promises × (p.adopted ≡ source_of ends e)
      g = (so PromisersCount j.count e ((run_bases j.dates run legal).paths.made e force) up).given p a

      k : IsPromisedOf run (record { epoch = e; promise = p }) entry
      k = j.promised run legal run.rounds [] (sym (append-nil run.rounds)) (record { epoch = e; promise = p }) g.0 entry b

      x : Placed run
      x = place k.column k.in_run entry.txn.id k.attempt k.found

      next : IsNext (base_fields ends (run_bases j.dates run legal)) e x
      next =
          record {
            force = force;
            after_first = up;
            of_source = j.epochs run legal k.column k.in_run entry.txn.id k.attempt k.found (ap is_some k.stamped) ∙ k.same_epoch ∙ g.1;
          }

      past : (q : PastEntry) × ((at_end run x).past.entries p.replica x.id ≡ Some q) × (entry_of_past q ≡ entry)
      past = remembered ((at_end run x).past.entries p.replica x.id) entry (sym (handed_in j run shape legal e x next p a) ∙ k.handed)

      round : (i : ℕ) × (past.0.last ≡ Some (o, i))
      round = undated-some past.0.last o (ap (λ (q : Entry). q.last) past.2 ∙ last)

      counts : is_counted ends e p.replica ≡ true
      counts = list_any-from_Among (λ (q : PromiseState). q.replica == p.replica) (counted_for ends e) p a (eq-eqb p.replica p.replica refl)

      early : round.0 ≤ made_round run e
      early = final_early j run shape legal e x next p.replica counts past.0 past.1 o round.0 round.1

      stamped : (t : AttemptState) → attempt_of (at_end run x).column x.id ≡ Some t → is_some t.txn ≡ true
      stamped t found = ap (λ (q : AttemptState). is_some q.txn) (same_Some t k.attempt (sym found ∙ k.found)) ∙ ap is_some k.stamped

-- ---- as they are stated

pub backed_rests : FateSide → BackedRests
backed_rests side run legal c lt id o round b = backed_so side run legal c lt id o round b

pub decided_stands_in_runs : FateSide → DecidedStands
decided_stands_in_runs side run shape legal c lt id o d e force low = decided_stands_so side run shape legal c lt id o d e force low

pub rests_stand_in_runs : FateSide → RestsStand
rests_stand_in_runs side run shape legal c lt id o r e force low = rests_stand_so side run shape legal c lt id o r e force low

pub rests_agree_in_runs : FateSide → RestsAgree
rests_agree_in_runs side run shape legal c lt id o p r s = rests_agree_so side run shape legal c lt id o p r s

pub no_clash_in_runs : FateSide → NoClashInForce
no_clash_in_runs side run shape legal e force base is one other a b commits also = clash_free side run shape legal e force base is one other a b commits also

pub commits_fit_in_runs : FateSide → CommitsFit
commits_fit_in_runs side run shape legal c d clt dlt id other a b one two found also of_one of_two p q =
    commits_fit_so side run shape legal c d clt dlt id other a b one two found also of_one of_two p q

pub final_in_force : FateSide → FinalInForce
final_in_force side run shape legal e force up p a entry b o last = final_decided side run shape legal e force up p a entry b o last
