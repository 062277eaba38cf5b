-- What passes the test of one outcome is that outcome, so what is taught is known with its cause.
use Rattle.std.proofs.Common.{◌≡◌, true, refl, arith, ap}
use Rattle.std.specs.Prelude.{nat_lt, ◌==◌}
use Rattle.std.proofs.lemmas.Bool.Decides.{nat_tests}
use Rattle.std.proofs.lemmas.Bool.{and_parts, eqb-true}
use Rattle.mk_lists.proofs.Tests.{Among-from_list_any}
use Rattle.mk_txn.specs.declared.Stamp.{Stamp}
use Rattle.mk_txn.specs.declared.Reason.{Reason}
use Rattle.mk_txn.specs.declared.Reason.TheVariants.{ReadStale, ReadPending, WriteLate, WritePending}
use Rattle.mk_txn.specs.declared.Conflict.{Conflict}
use Rattle.mk_txn.specs.declared.Cause.{Cause}
use Rattle.mk_txn.specs.declared.Cause.TheVariants.{Conflict as ByConflict, Takeover as ByTakeover, Epoch as ByEpoch}
use Rattle.mk_txn.specs.declared.Outcome.{Outcome}
use Rattle.mk_txn.specs.declared.Outcome.TheVariants.{Commit, Abort}
use Rattle.mk_txn.specs.Stamps.{same_stamp}
use Rattle.mk_history.specs.Wholes.{last_state}
use Rattle.mk_history.specs.Teaching.{entered_round, stands_in}
use Rattle.mk_run_laws.specs.TaughtIn.{is_same_reason, is_same_conflict, is_same_cause, is_same_outcome, was_entered, teaches}
use Rattle.mk_run_laws.specs.Exact.{TaughtExactly}
use Rattle.mk_run_laws.proofs.Teachings.{all_three, entered_by}

stamp_is : (a b : Stamp) → same_stamp a b ≡ true → a ≡ b
stamp_is a b e =
    let k = and_parts (a.time == b.time) (a.client == b.client) e in
    let time = eqb-true a.time b.time k.0 in
    let client = eqb-true a.client b.client k.1 in
    λ i. record { time = time i; client = client i }

reason_is : (a b : Reason) → is_same_reason a b ≡ true → a ≡ b
reason_is ReadStale ReadStale e = refl
reason_is ReadStale ReadPending e = absurd (cc e)
reason_is ReadStale WriteLate e = absurd (cc e)
reason_is ReadStale WritePending e = absurd (cc e)
reason_is ReadPending ReadStale e = absurd (cc e)
reason_is ReadPending ReadPending e = refl
reason_is ReadPending WriteLate e = absurd (cc e)
reason_is ReadPending WritePending e = absurd (cc e)
reason_is WriteLate ReadStale e = absurd (cc e)
reason_is WriteLate ReadPending e = absurd (cc e)
reason_is WriteLate WriteLate e = refl
reason_is WriteLate WritePending e = absurd (cc e)
reason_is WritePending ReadStale e = absurd (cc e)
reason_is WritePending ReadPending e = absurd (cc e)
reason_is WritePending WriteLate e = absurd (cc e)
reason_is WritePending WritePending e = refl

conflict_is : (a b : Conflict) → is_same_conflict a b ≡ true → a ≡ b
conflict_is a b e =
    let k = all_three (a.key == b.key) (is_same_reason a.reason b.reason) (same_stamp a.stamp b.stamp) e in
    let key = eqb-true a.key b.key k.0 in
    let reason = reason_is a.reason b.reason k.1 in
    let stamp = stamp_is a.stamp b.stamp k.2 in
    λ i. record { key = key i; reason = reason i; stamp = stamp i }

cause_is : (a b : Cause) → is_same_cause a b ≡ true → a ≡ b
cause_is (ByConflict a) (ByConflict b) e = ap ByConflict (conflict_is a b e)
cause_is (ByConflict a) (ByTakeover b) e = absurd (cc e)
cause_is (ByConflict a) (ByEpoch b) e = absurd (cc e)
cause_is (ByTakeover a) (ByConflict b) e = absurd (cc e)
cause_is (ByTakeover a) (ByTakeover b) e = ap ByTakeover (eqb-true a b e)
cause_is (ByTakeover a) (ByEpoch b) e = absurd (cc e)
cause_is (ByEpoch a) (ByConflict b) e = absurd (cc e)
cause_is (ByEpoch a) (ByTakeover b) e = absurd (cc e)
cause_is (ByEpoch a) (ByEpoch b) e = ap ByEpoch (eqb-true a b e)

pub outcome_is : (a b : Outcome) → is_same_outcome a b ≡ true → a ≡ b
outcome_is Commit Commit e = refl
outcome_is (Abort a) (Abort b) e = ap Abort (cause_is a b e)
outcome_is Commit (Abort b) e = absurd (cc e)
outcome_is (Abort a) Commit e = absurd (cc e)

pub taught_exactly : TaughtExactly
taught_exactly run id epoch outcome round e =
    let m = Among-from_list_any (teaches run id epoch outcome round) (last_state run).epochs.made e in
    let made = m.0 in
    let k = all_three (nat_lt epoch made.epoch) (was_entered run made.epoch round) (is_same_outcome (stands_in made.base made.epoch id) outcome) m.2 in
    let was = entered_by (entered_round run made.epoch) round k.1 in
    record {
      made = made;
      in_run = m.1;
      above = (let t = k.0 in grind (arith, nat_tests, t));
      entered_in = was.0;
      entered = was.1;
      earlier = was.2;
      teaches = outcome_is (stands_in made.base made.epoch id) outcome k.2;
    }
