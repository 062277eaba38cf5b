-- The run of two commits that clash.
use Rattle.std.proofs.Common.{◌≤◌, ℕ, [], arith, inl, inr, refl}
use Rattle.std.specs.Prelude.{map, sum}
use Rattle.mk_txn.specs.declared.Outcome.TheVariants.{Commit}
use Rattle.mk_words.specs.Bases.{fated}
use Rattle.mk_fate_laws.specs.Fates.{NoClashInForce}
use Rattle.mk_history.specs.Shape.{HasShape, begins_in}
use Rattle.mk_history.specs.Legality.{IsLegal}
use Rattle.mk_history.specs.Wholes.{first_state, after_round}
use Rattle.mk_cases.specs.ClashingCommits.{clashing, first_round, second_round, last_base, written, read, CommitsClash}
use Rattle.mk_cases.proofs.Tried.{tried_is_legal, apart}

few_attempts : (client : ℕ) → sum (map (begins_in client) clashing.rounds) ≤ 16384
few_attempts client = grind arith

shaped : HasShape clashing
shaped =
    record {
      version = inl refl;
      faults = (omega arith, omega arith);
      columns = refl;
      few_columns = omega arith;
      clients = refl;
      few_clients = omega arith;
      few_keys = omega arith;
      named_clients = (refl, (refl, tt));
      named_keys = (refl, tt);
      distinct_clients = (apart 97 0, (λ a. a, tt));
      distinct_keys = (λ a. a, tt);
      some_round = omega arith;
      few_rounds = omega arith;
      few_globals = omega arith;
      few_attempts = few_attempts;
      rounds = (
        record { logs = refl; journals = refl; keys = (refl, (refl, (refl, (refl, (refl, tt))))); steps = refl; entries = refl; globals = refl },
        (record { logs = refl; journals = refl; keys = (refl, (refl, (refl, (refl, (refl, tt))))); steps = refl; entries = refl; globals = refl }, tt),
      );
    }

legal : IsLegal clashing
legal = (
  tried_is_legal clashing first_round (first_state clashing)
      (record { enabled = refl; ended = refl; answered = refl; matched = refl; told = refl }),
  (
    tried_is_legal clashing second_round (after_round clashing first_round (first_state clashing))
        (record { enabled = refl; ended = refl; answered = refl; matched = refl; told = refl }),
    tt,
  ),
)

pub commits_clash : NoClashInForce → CommitsClash
commits_clash no_clash =
    record {
      shaped = shaped;
      legal = legal;
      made = refl;
      clash = refl;
      not_in_force =
          λ force. cc (no_clash clashing shaped legal 9 force last_base refl (fated read Commit) (fated written Commit) (inr (inl refl)) (inl refl) refl refl);
      in_force = inr ([], omega arith);
      writer_aborts = refl;
      reader_commits = refl;
    }
