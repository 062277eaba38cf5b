-- Outcomes that are one pass the test, and only they.
use Rattle.std.proofs.Common.{◌≡◌, true, refl, arith}
use Rattle.std.specs.Prelude.{◌==◌}
use Rattle.std.proofs.lemmas.Bool.{and_from, eq-eqb}
use Rattle.mk_txn.specs.declared.Stamp.{Stamp}
use Rattle.mk_txn.specs.declared.Reason.{Reason}
use Rattle.mk_txn.specs.declared.Reason.TheVariants.{ReadStale, ReadPending, WriteLate, WritePending}
use Rattle.mk_txn.specs.declared.Conflict.{Conflict}
use Rattle.mk_txn.specs.declared.Cause.{Cause}
use Rattle.mk_txn.specs.declared.Cause.TheVariants.{Conflict as ByConflict, Takeover as ByTakeover, Epoch as ByEpoch}
use Rattle.mk_txn.specs.declared.Outcome.{Outcome}
use Rattle.mk_txn.specs.declared.Outcome.TheVariants.{Commit, Abort}
use Rattle.mk_txn.specs.Stamps.{same_stamp}
use Rattle.mk_txn.specs.Outcomes.{agrees}
use Rattle.mk_run_laws.specs.TaughtIn.{is_same_reason, is_same_conflict, is_same_cause, is_same_outcome}

stamp_same : (a : Stamp) → same_stamp a a ≡ true
stamp_same a = and_from (a.time == a.time) (a.client == a.client) (eq-eqb a.time a.time refl) (eq-eqb a.client a.client refl)

reason_same : (a : Reason) → is_same_reason a a ≡ true
reason_same ReadStale = refl
reason_same ReadPending = refl
reason_same WriteLate = refl
reason_same WritePending = refl

conflict_same : (a : Conflict) → is_same_conflict a a ≡ true
conflict_same a = let k = eq-eqb a.key a.key refl in let s = stamp_same a.stamp in let r = reason_same a.reason in grind (arith, k, s, r)

cause_same : (a : Cause) → is_same_cause a a ≡ true
cause_same (ByConflict a) = conflict_same a
cause_same (ByTakeover a) = eq-eqb a a refl
cause_same (ByEpoch a) = eq-eqb a a refl

pub outcome_same : (a : Outcome) → is_same_outcome a a ≡ true
outcome_same Commit = refl
outcome_same (Abort cause) = cause_same cause

pub same_agrees : (a b : Outcome) → is_same_outcome a b ≡ true → agrees a b ≡ true
same_agrees Commit Commit e = refl
same_agrees (Abort a) (Abort b) e = refl
same_agrees Commit (Abort b) e = absurd (cc e)
same_agrees (Abort a) Commit e = absurd (cc e)
