-- Marks and kept outcomes on small cases, by computing.
use Rattle.std.proofs.Common.{◌≡◌, ℕ, refl, [], ◌∷◌, nat_le, false}
use Rattle.std.specs.Prelude.{◌==◌, ◌||◌}
use Rattle.mk_txn.specs.declared.TxnId.{TxnId}
use Rattle.mk_txn.specs.declared.Cause.TheVariants.{Epoch as ByEpoch}
use Rattle.mk_txn.specs.declared.Outcome.TheVariants.{Commit, Abort}
use Rattle.mk_txn.specs.declared.Known.TheVariants.{Outcome as KnownOutcome, Absent, Forgotten}
use Rattle.mk_words.specs.Settling.{greatest_upto}
use Rattle.mk_words.specs.KeptOutcomes.{KeptOutcomes, nothing_kept, with_outcome, covered_by, known_of}

abbrev id : ℕ → ℕ → TxnId
id client seq = record { client = client; seq = seq }

-- the third does not count while the second does not pass
pub stops_at_gap : greatest_upto (λ n. n == 1 || n == 3) 5 ≡ 1
stops_at_gap = refl

pub goes_on : greatest_upto (λ n. nat_le n 3) 5 ≡ 3
goes_on = refl

pub none_passes : greatest_upto (λ n. false) 5 ≡ 0
none_passes = refl

abbrev some_kept : KeptOutcomes
some_kept = with_outcome (id 1 1) Commit (with_outcome (id 2 1) (Abort (ByEpoch 1)) (with_outcome (id 1 2) Commit nothing_kept))

pub in_order : some_kept.outcomes ≡ (id 1 1, Commit) ∷ ((id 1 2, Commit) ∷ ((id 2 1, Abort (ByEpoch 1)) ∷ []))
in_order = refl

pub first_stays : with_outcome (id 1 2) (Abort (ByEpoch 2)) some_kept ≡ some_kept
first_stays = refl

pub covered_dropped : (covered_by ((1, 1) ∷ []) some_kept).outcomes ≡ (id 1 2, Commit) ∷ ((id 2 1, Abort (ByEpoch 1)) ∷ [])
covered_dropped = refl

pub covered_forgotten : known_of (covered_by ((1, 1) ∷ []) some_kept) (id 1 1) ≡ Forgotten
covered_forgotten = refl

pub kept_known : known_of (covered_by ((1, 1) ∷ []) some_kept) (id 1 2) ≡ KnownOutcome Commit
kept_known = refl

pub other_absent : known_of (covered_by ((1, 1) ∷ []) some_kept) (id 1 3) ≡ Absent
other_absent = refl

pub covered_not_put : with_outcome (id 1 1) Commit (covered_by ((1, 1) ∷ []) some_kept) ≡ covered_by ((1, 1) ∷ []) some_kept
covered_not_put = refl
