-- What a global line leaves of a replica that it does not empty, and that none empties a replica which has what it had.
use Rattle.std.proofs.Common.{◌≡◌, ℕ, Bool, true, false, refl, arith, sym, ap, ◌∙◌, List, [], ◌∷◌, ◌++◌, Option, Some, None, subst, cond}
use Rattle.std.specs.Prelude.{slice_get, slice_set}
use Rattle.std.proofs.lemmas.Option.{same_Some, slice_get_within}
use Rattle.mk_lists.proofs.Places.{slice_get-set_same}
use Rattle.mk_words.specs.declared.GlobalEntry.{GlobalEntry}
use Rattle.mk_words.specs.declared.GlobalLine.{GlobalLine}
use Rattle.mk_words.specs.declared.GlobalLine.TheVariants.{Wipe, Ask, Promise, Merge, Adopt, Enter}
use Rattle.mk_model.specs.EpochState.{EpochState, ReplicaState, made_for}
use Rattle.mk_model.specs.GlobalAnswers.{global_answer, adopt_answer, lacks, is_accepted}
use Rattle.mk_model.specs.GlobalSteps.{HandedIn, global_after, change_replica, wiped, adopting, base_or_empty, with_adoption}
use Rattle.mk_epoch_laws.specs.WordLaws.{IsAt, EverHad}
use Rattle.mk_epoch_laws.proofs.EpochFacts.{EpochFacts}
use Rattle.mk_epoch_laws.proofs.LineNews.{ReplicaNews, Stayed, WasWiped, HasPromised, HasAdopted, HasEntered, replica_news, still_at, adopt_done}
use Rattle.mk_epoch_laws.proofs.ReplicasKept.{never_had}
use Rattle.mk_epoch_laws.proofs.Extending.{Extends, extends_itself, extends_further, line_extends, keeps_had}
use Rattle.mk_epoch_laws.proofs.Turning.{answer_given, facts_turn}
use Rattle.mk_column_laws.specs.Moments.{has_number}
use Rattle.mk_history.specs.Histories.{History}
use Rattle.mk_history.specs.Legality.{EachGlobalAnswered}
use Rattle.mk_history.specs.Wholes.{WholeState, handed_in, after_global, globals_through}
use Rattle.mk_run_laws.specs.RunEvents.{emptied_by, emptied_in, turn_of}
use Rattle.mk_base_laws.proofs.Resetting.{is_number, number_is, no_number}

-- a replica that was not emptied has what it had
record HasStill (before after : ReplicaState) : Type 0 where
  forth : lacks before.phase ≡ false → lacks after.phase ≡ false
  back : lacks after.phase ≡ false → lacks before.phase ≡ false
  same : after.adopted ≡ before.adopted

module _ (state : EpochState) (line : GlobalLine) (r : ℕ) (quiet : has_number (emptied_by line) r ≡ false) where
  not_emptied : (other : GlobalLine) → line ≡ other → has_number (emptied_by other) r ≡ true → ⊥
  not_emptied other l e = cc (sym quiet ∙ ap (λ (x : GlobalLine). has_number (emptied_by x) r) l ∙ e)

  still_has : (before after : ReplicaState) → ReplicaNews state line r before after → HasStill before after
  still_has before after (Stayed apart same) = subst (HasStill before) same (record { forth = λ h. h; back = λ h. h; same = refl })
  still_has before after (WasWiped l now) = absurd (not_emptied (Wipe r) l (number_is r))
  still_has before after (HasPromised epoch l there up now) = subst (HasStill before) now (record { forth = λ h. refl; back = λ h. there; same = refl })
  still_has before after (HasAdopted epoch base l made old now) = absurd (not_emptied (Adopt epoch r) l (number_is r))
  still_has before after (HasEntered l waits now) = subst (HasStill before) now (record { forth = λ h. refl; back = λ h. ap lacks waits; same = refl })

module _ (state : EpochState) (handed : HandedIn) (line : GlobalLine) (is : is_accepted (global_answer state line) ≡ true) (r : ℕ) (quiet : has_number (emptied_by line) r ≡ false) where
  -- what it has after the line it had before
  pub had_before : (y : ReplicaState) → IsAt (global_after state handed line) r y → lacks y.phase ≡ false →
      (x : ReplicaState) × IsAt state r x × (lacks x.phase ≡ false) × (x.adopted ≡ y.adopted)
  had_before y at has =
      let k = replica_news state handed line is r y at in
      let h = still_has state line r quiet k.0 y k.2 in
      (k.0, k.1, h.back has, sym h.same)

  -- and what it had it has
  pub has_after : (x : ReplicaState) → IsAt state r x → lacks x.phase ≡ false →
      (y : ReplicaState) × IsAt (global_after state handed line) r y × (lacks y.phase ≡ false) × (y.adopted ≡ x.adopted)
  has_after x at has =
      let t = still_at state handed line r x at in
      let k = replica_news state handed line is r t.0 t.1 in
      let one : k.0 ≡ x = same_Some k.0 x (sym k.1 ∙ at) in
      let h = still_has state line r quiet k.0 t.0 k.2 in
      (t.0, t.1, h.forth (ap (λ (z : ReplicaState). lacks z.phase) one ∙ has), h.same ∙ ap (λ (z : ReplicaState). z.adopted) one)

-- a line that empties a replica leaves it without a state, or with one of an epoch that it never had
module _ (state : EpochState) (facts : EpochFacts state) (handed : HandedIn) (r epoch : ℕ) (had : EverHad state r epoch)
    (y : ReplicaState) (has : lacks y.phase ≡ false) (own : y.adopted ≡ epoch) where
  pub never_emptied : (line : GlobalLine) → is_accepted (global_answer state line) ≡ true → has_number (emptied_by line) r ≡ true → IsAt (global_after state handed line) r y → ⊥
  never_emptied (Wipe q) is e at = by (slice_get state.replicas q) refl at
    where
      q_is : q ≡ r
      q_is = is_number q r e

      by : (o : Option ReplicaState) → slice_get state.replicas q ≡ o → IsAt (change_replica q wiped o state) r y → ⊥
      by None k at = cc (sym k ∙ ap (slice_get state.replicas) q_is ∙ at)
      by (Some z) k at =
          let now = slice_get-set_same state.replicas q (wiped z) (slice_get_within state.replicas q z k) in
          let same : wiped z ≡ y = same_Some (wiped z) y (sym now ∙ ap (slice_get (slice_set state.replicas q (wiped z))) q_is ∙ at) in
          cc (ap (λ (x : ReplicaState). lacks x.phase) same ∙ has)
  never_emptied (Adopt e q) is n at = by (slice_get state.replicas q) refl is at
    where
      q_is : q ≡ r
      q_is = is_number q r n

      base : ReplicaState → ReplicaState
      base = adopting e (base_or_empty (made_for e state))

      by : (o : Option ReplicaState) → slice_get state.replicas q ≡ o → is_accepted (adopt_answer state e o) ≡ true →
          IsAt (with_adoption e q (change_replica q (adopting e (base_or_empty (made_for e state))) o state)) r y → ⊥
      by None k is at = cc is
      by (Some z) k is at =
          let next = adopting e (base_or_empty (made_for e state)) z in
          let now = slice_get-set_same state.replicas q next (slice_get_within state.replicas q z k) in
          let same : next ≡ y = same_Some next y (sym now ∙ ap (slice_get (slice_set state.replicas q next)) q_is ∙ at) in
          let epoch_is : e ≡ epoch = ap (λ (x : ReplicaState). x.adopted) same ∙ own in
          let d = adopt_done state e z is in
          let up = never_had state q z (facts.each q z k) e d.2 epoch (subst (λ (n : ℕ). EverHad state n epoch) (sym q_is) had) in
          omega (arith, up, epoch_is)
  never_emptied (Ask e) is n at = cc n
  never_emptied (Promise e q) is n at = cc n
  never_emptied (Merge e) is n at = cc n
  never_emptied (Enter e) is n at = cc n

-- what a line adds
had_line : (state : EpochState) (handed : HandedIn) (line : GlobalLine) (r epoch : ℕ) (b : Bool) → EverHad state r epoch → EverHad (cond b (global_after state handed line) state) r epoch
had_line state handed line r epoch true h = keeps_had state (global_after state handed line) (line_extends state handed line) r epoch h
had_line state handed line r epoch false h = h

-- a replica that has the state of an epoch which it had before these lines was not emptied by them, and had it then
pub not_emptied_in : (run : History) (lines : List GlobalEntry) (state : WholeState) → EpochFacts state.epochs → EachGlobalAnswered run state lines → (r epoch : ℕ) →
    EverHad state.epochs r epoch → (x : ReplicaState) → IsAt (globals_through run state lines).epochs r x → lacks x.phase ≡ false → x.adopted ≡ epoch →
    (has_number (emptied_in lines) r ≡ false) × ((y : ReplicaState) × IsAt state.epochs r y × (lacks y.phase ≡ false) × (y.adopted ≡ epoch))
not_emptied_in run [] state facts answered r epoch had x at has own = (refl, (x, at, has, own))
not_emptied_in run (entry ∷ lines) state facts answered r epoch had x at has own =
    let handed = handed_in state entry.line in
    let k = not_emptied_in run lines (after_global run state entry) (facts_turn state.epochs facts (turn_of state entry) answered.0) answered.1 r epoch
    (had_line state.epochs handed entry.line r epoch (is_accepted entry.answer) had) x at has own in
    by (is_accepted entry.answer) refl k.0 k.1.0 k.1.1 k.1.2 k.1.3
  where
    accepted : is_accepted entry.answer ≡ true → has_number (emptied_in lines) r ≡ false →
        (z : ReplicaState) → IsAt (global_after state.epochs (handed_in state entry.line) entry.line) r z → lacks z.phase ≡ false → z.adopted ≡ epoch →
        (has_number (emptied_by entry.line ++ emptied_in lines) r ≡ false) × ((y : ReplicaState) × IsAt state.epochs r y × (lacks y.phase ≡ false) × (y.adopted ≡ epoch))
    accepted e rest z at has own = line (has_number (emptied_by entry.line) r) refl
      where
        is : is_accepted (global_answer state.epochs entry.line) ≡ true
        is = answer_given state.epochs entry.line entry.answer answered.0 e

        line : (b : Bool) → has_number (emptied_by entry.line) r ≡ b →
            (has_number (emptied_by entry.line ++ emptied_in lines) r ≡ false) × ((y : ReplicaState) × IsAt state.epochs r y × (lacks y.phase ≡ false) × (y.adopted ≡ epoch))
        line true n = absurd (never_emptied state.epochs facts (handed_in state entry.line) r epoch had z has own entry.line is n at)
        line false n =
            let y = had_before state.epochs (handed_in state entry.line) entry.line is r n z at has in
            (no_number (emptied_by entry.line) (emptied_in lines) r n rest, (y.0, y.1, y.2, y.3 ∙ own))

    by : (b : Bool) → is_accepted entry.answer ≡ b → has_number (emptied_in lines) r ≡ false →
        (z : ReplicaState) → IsAt (cond b (global_after state.epochs (handed_in state entry.line) entry.line) state.epochs) r z → lacks z.phase ≡ false → z.adopted ≡ epoch →
        (has_number (cond b (emptied_by entry.line) [] ++ emptied_in lines) r ≡ false) × ((y : ReplicaState) × IsAt state.epochs r y × (lacks y.phase ≡ false) × (y.adopted ≡ epoch))
    by true e rest z at has own = accepted e rest z at has own
    by false e rest z at has own = (rest, (z, at, has, own))

-- ---- lists of lines

pub facts_lines : (run : History) (lines : List GlobalEntry) (state : WholeState) → EpochFacts state.epochs → EachGlobalAnswered run state lines → EpochFacts (globals_through run state lines).epochs
facts_lines run [] state facts answered = facts
facts_lines run (entry ∷ lines) state facts answered =
    facts_lines run lines (after_global run state entry) (facts_turn state.epochs facts (turn_of state entry) answered.0) answered.1

pub extends_lines : (run : History) (lines : List GlobalEntry) (state : WholeState) → Extends state.epochs (globals_through run state lines).epochs
extends_lines run [] state = extends_itself state.epochs
extends_lines run (entry ∷ lines) state =
    extends_further state.epochs (after_global run state entry).epochs (globals_through run (after_global run state entry) lines).epochs (by (is_accepted entry.answer)) (extends_lines run lines (after_global run state entry))
  where
    by : (b : Bool) → Extends state.epochs (cond b (global_after state.epochs (handed_in state entry.line) entry.line) state.epochs)
    by true = line_extends state.epochs (handed_in state entry.line) entry.line
    by false = extends_itself state.epochs
