-- What the columns go by is what entered epochs taught, and it stays taught.
use Rattle.std.proofs.Common.{◌≡◌, ◌<◌, ◌≤◌, ℕ, Bool, true, false, refl, arith, inl, inr, sym, ap, ◌∙◌, List, [], ◌∷◌, Option, Some, None, subst, cond, ◌&&◌, map}
use Rattle.std.specs.Prelude.{nat_lt, find, option_map, ◌==◌}
use Rattle.std.proofs.lemmas.Bool.Decides.{nat_tests}
use Rattle.std.proofs.lemmas.Bool.{eq-eqb, eqb-true}
use Rattle.mk_lists.specs.Among.{Among, AllDistinct}
use Rattle.mk_lists.proofs.Tests.{Among-from_list_any, list_any-from_Among}
use Rattle.mk_lists.proofs.Members.{Among-map}
use Rattle.mk_quorum.specs.Slots.{passes}
use Rattle.mk_words.specs.Bases.{empty_base}
use Rattle.mk_model.specs.EpochState.{EpochState, MadeBase, made_for, base_for}
use Rattle.mk_epoch_laws.specs.Turns.{Always}
use Rattle.mk_epoch_laws.specs.BaseLaws.{BasesMade}
use Rattle.mk_history.specs.Wholes.{last_state}
use Rattle.mk_history.specs.Teaching.{entered_round, stands_in}
use Rattle.mk_run_laws.specs.RunEvents.{turns_of}
use Rattle.mk_run_laws.specs.TaughtIn.{teaches, was_entered, is_same_outcome}
use Rattle.mk_run_laws.specs.RunLaws.{TeachingStays, TaughtMeans}
use Rattle.mk_run_laws.proofs.Lines.{lines_are_turns}
use Rattle.mk_run_laws.proofs.SameOutcome.{same_agrees}

pub all_three : (a b d : Bool) → (a && b && d) ≡ true → (a ≡ true) × (b ≡ true) × (d ≡ true)
all_three true true d e = (refl, refl, e)
all_three true false d e = absurd (cc e)
all_three false b d e = absurd (cc e)

pub entered_by : (o : Option ℕ) (round : ℕ) → passes (λ i. nat_lt i round) o ≡ true → (i : ℕ) × (o ≡ Some i) × (i < round)
entered_by None round e = absurd (cc e)
entered_by (Some i) round e = (i, refl, grind (arith, nat_tests, e))

later_passes : (o : Option ℕ) (i j : ℕ) → i ≤ j → passes (λ n. nat_lt n i) o ≡ true → passes (λ n. nat_lt n j) o ≡ true
later_passes None i j le e = absurd (cc e)
later_passes (Some n) i j le e = grind (arith, nat_tests, le, e)

both : (a b d x : Bool) → (a ≡ true) × (b ≡ true) × (d ≡ true) → x ≡ true → (a && x && d) ≡ true
both a b d x (p, q, s) k = grind (arith, p, s, k)

pub teaching_stays : TeachingStays
teaching_stays run id epoch outcome i j le e =
    let m = Among-from_list_any (teaches run id epoch outcome i) (last_state run).epochs.made e in
    let made = m.0 in
    let k = all_three (nat_lt epoch made.epoch) (was_entered run made.epoch i) (is_same_outcome (stands_in made.base made.epoch id) outcome) m.2 in
    list_any-from_Among (teaches run id epoch outcome j) (last_state run).epochs.made made m.1
    (both (nat_lt epoch made.epoch) (was_entered run made.epoch i) (is_same_outcome (stands_in made.base made.epoch id) outcome) (was_entered run made.epoch j) k
    (later_passes (entered_round run made.epoch) i j le k.1))

-- a base that was made once is found
pub found_once : (xs : List MadeBase) → AllDistinct (map (λ (m : MadeBase). m.epoch) xs) → (m : MadeBase) → Among m xs → find (λ (x : MadeBase). x.epoch == m.epoch) xs ≡ Some m
found_once [] once m a = absurd a
found_once (x ∷ xs) once m a = by (x.epoch == m.epoch) refl (found_once xs once.1 m) a
  where
    by : (b : Bool) → (x.epoch == m.epoch) ≡ b → (Among m xs → find (λ (y : MadeBase). y.epoch == m.epoch) xs ≡ Some m) → Among m (x ∷ xs) →
        cond b (Some x) (find (λ (y : MadeBase). y.epoch == m.epoch) xs) ≡ Some m
    by true k again (inl same) = ap Some same
    by true k again (inr a) =
        absurd (once.0 (subst (λ (n : ℕ). Among n (map (λ (y : MadeBase). y.epoch) xs)) (sym (eqb-true x.epoch m.epoch k)) (Among-map (λ (y : MadeBase). y.epoch) m xs a)))
    by false k again (inl same) = absurd (cc (sym k ∙ eq-eqb x.epoch m.epoch (ap (λ (y : MadeBase). y.epoch) same)))
    by false k again (inr a) = again a

pub base_there : (state : EpochState) (m : MadeBase) → 0 < m.epoch → made_for m.epoch state ≡ Some m.base → base_for m.epoch state ≡ Some m.base
base_there state m up e = by (m.epoch == 0) refl
  where
    by : (b : Bool) → (m.epoch == 0) ≡ b → cond b (Some empty_base) (made_for m.epoch state) ≡ Some m.base
    by true k = absurd (let first = eqb-true m.epoch 0 k in omega (arith, first, up))
    by false k = e

pub taught_means : Always BasesMade → TaughtMeans
taught_means bases run legal attempt outcome round e =
    let last = (last_state run).epochs in
    let m = Among-from_list_any (teaches run attempt.id attempt.epoch outcome round) last.made e in
    let made = m.0 in
    let k = all_three (nat_lt attempt.epoch made.epoch) (was_entered run made.epoch round) (is_same_outcome (stands_in made.base made.epoch attempt.id) outcome) m.2 in
    let lines = lines_are_turns run run.rounds legal in
    let well = subst BasesMade lines.1 (bases run.faults (turns_of run run.rounds) lines.0) in
    let first = (well.well made m.1).after_first in
    let was = entered_by (entered_round run made.epoch) round k.1 in
    let up : attempt.epoch < made.epoch = (let t = k.0 in grind (arith, nat_tests, t)) in
    record {
      epoch = made.epoch;
      above = up;
      entered_in = was.0;
      entered = was.1;
      earlier = was.2;
      base = made.base;
      made = base_there last made first (ap (option_map (λ (x : MadeBase). x.base)) (found_once last.made well.once made m.1));
      teaches = same_agrees (stands_in made.base made.epoch attempt.id) outcome k.2;
    }
