-- The attempts of a run, and what replicas and coordinators did with them, as fields of the argument.
use Rattle.std.proofs.Common.{◌≡◌, ◌≤◌, ◌<◌, ℕ, true, sym, ◌∙◌, Some, subst}
use Rattle.mk_run_laws.proofs.LastMoments.{last_is_moment}
use Rattle.mk_txn.specs.declared.TxnId.{TxnId}
use Rattle.mk_txn.specs.Transactions.{Transaction}
use Rattle.mk_txn.specs.Clashes.{conflict}
use Rattle.mk_quorum.specs.Counts.{count_below}
use Rattle.mk_quorum.specs.Sizes.{members, majority_of, fast_of}
use Rattle.mk_merge_laws.specs.Composition.{ConflictIsMutual}
use Rattle.mk_model.specs.ColumnState.{AttemptState, attempt_of}
use Rattle.mk_model.specs.Deciding.{has_accepted}
use Rattle.mk_column_laws.specs.Moments.{Moment}
use Rattle.mk_column_laws.specs.Laws.{FactsHold, OneProposal, VotedTrue, AcceptedTrue, FastGrounds, ViewsAgree, FastForbids, OneDecision, CommitSupport, LearnedBacked}
use Rattle.mk_history.specs.Histories.{History}
use Rattle.mk_history.specs.Legality.{IsLegal}
use Rattle.mk_run_laws.specs.TaughtIn.{taught_in}
use Rattle.mk_run_laws.specs.RunLaws.{TeachingStays, RunsReachMoments}
use Rattle.mk_run_laws.specs.Lifts.{MomentsOfRounds, MomentsHaveSettings}
use Rattle.mk_run_laws.specs.Ends.{last_moment}
use Rattle.mk_fate_laws.proofs.Fields.{VoteFields}
use Rattle.mk_fate_laws.proofs.Votes.{MomentLaws, ok_at, no_at, voted_at, FinalAt, AcceptedAt, ProposedAt, FastAt, one_vote_at, one_proposal_at, views_agree_at, fast_forbids_at, fast_once_at, fast_commit_at, fast_abort_at, commit_votes_at, accepted_true_at, accepted_was_proposed_at}

-- an attempt of the run, in its column
pub record Placed (run : History) : Type 0 where
  pub column : ℕ
  pub in_run : column < run.columns
  pub id : TxnId
  pub attempt : AttemptState
  pub found : attempt_of (last_moment run column).column id ≡ Some attempt

-- the laws of columns, and that they are about runs
pub record ColumnSide : Type 0 where
  pub stays : TeachingStays
  pub reach : RunsReachMoments
  pub moments : MomentsOfRounds
  pub settings : MomentsHaveSettings
  pub facts : FactsHold
  pub one_proposal : OneProposal
  pub voted_true : VotedTrue
  pub accepted_true : AcceptedTrue
  pub fast_grounds : FastGrounds
  pub views_agree : ViewsAgree
  pub fast_forbids : FastForbids
  pub one_decision : OneDecision
  pub support : CommitSupport
  pub backed : LearnedBacked

module _ (side : ColumnSide) (run : History) (legal : IsLegal run) where
  pub last_laws : (c : ℕ) → c < run.columns → MomentLaws (taught_in run) (last_moment run c)
  last_laws c lt =
      let taught = taught_in run in
      let stays = side.stays run in
      let m = last_moment run c in
      let reached = side.reach run legal c lt m (last_is_moment side.moments run c) in
      record {
        facts = side.facts taught stays m reached;
        one_proposal = side.one_proposal taught stays m reached;
        voted_true = side.voted_true taught stays m reached;
        accepted_true = side.accepted_true taught stays m reached;
        fast_grounds = side.fast_grounds taught stays m reached;
        views_agree = side.views_agree taught stays m reached;
        fast_forbids = side.fast_forbids taught stays m reached;
        one_decision = side.one_decision taught stays m reached;
        support = side.support taught stays m reached;
        backing = side.backed taught stays m reached;
      }

  pub last_faults : (c : ℕ) → (last_moment run c).round.faults ≡ run.faults
  last_faults c = (side.settings run c (last_moment run c) (last_is_moment side.moments run c)).faults

abbrev pub at_end : (run : History) → Placed run → Moment
at_end run x = last_moment run x.column

-- two attempts conflict by their transactions
pub record ConflictOf (run : History) (x y : Placed run) : Type 0 where
  pub one : Transaction
  pub other : Transaction
  pub of_one : x.attempt.txn ≡ Some one
  pub of_other : y.attempt.txn ≡ Some other
  pub conflicts : conflict one other ≡ true

module _ (side : ColumnSide) (mutual_conflict : ConflictIsMutual) (run : History) (legal : IsLegal run) where
  pub laws : (x : Placed run) → MomentLaws (taught_in run) (at_end run x)
  laws x = last_laws side run legal x.column x.in_run

  pub same : (x : Placed run) → (at_end run x).round.faults ≡ run.faults
  same x = last_faults side run legal x.column

  abbrev pub run_votes : VoteFields (Placed run)
  run_votes =
      record {
        f = run.faults;
        ok = λ x r. ok_at (at_end run x) x.id r;
        no = λ x r. no_at (at_end run x) x.id r;
        voted_in = λ x r. voted_at (at_end run x) x.id r;
        Final = λ x r o round. FinalAt (at_end run x) x.id r o round;
        Accepted = λ x r view o. AcceptedAt (at_end run x) x.id r view o;
        has_accepted = λ x view r. has_accepted (at_end run x).column.link x.id view r;
        Proposed = λ x view o. ProposedAt (at_end run x) x.id view o;
        Fast = λ x o. FastAt (at_end run x) x.id o;
        Conflict = ConflictOf run;
        other_way = λ x y k. record { one = k.other; other = k.one; of_one = k.of_other; of_other = k.of_one; conflicts = mutual_conflict k.other k.one ∙ k.conflicts };
        one_vote = λ x r. one_vote_at (taught_in run) (at_end run x) (laws x) x.id r;
        one_proposal = λ x view o p. one_proposal_at (taught_in run) (at_end run x) (laws x) x.id view o p;
        views_agree = λ x view later o p many. views_agree_at (taught_in run) (at_end run x) (laws x) x.id view later o p
            (subst (λ (f : ℕ). majority_of f ≤ count_below (members f) (has_accepted (at_end run x).column.link x.id view)) (sym (same x)) many);
        fast_forbids = λ x view o p. fast_forbids_at (taught_in run) (at_end run x) (laws x) x.id view o p;
        fast_once = λ x o p. fast_once_at (taught_in run) (at_end run x) (laws x) x.id o p;
        fast_commit = λ x fast. subst (λ (f : ℕ). fast_of f ≤ count_below (members f) (ok_at (at_end run x) x.id)) (same x) (fast_commit_at (taught_in run) (at_end run x) (laws x) x.id fast);
        fast_abort = λ x fast. subst (λ (f : ℕ). fast_of f ≤ count_below (members f) (no_at (at_end run x) x.id)) (same x) (fast_abort_at (taught_in run) (at_end run x) (laws x) x.id fast);
        commit_votes = λ x view proposed. subst (λ (f : ℕ). majority_of f ≤ count_below (members f) (ok_at (at_end run x) x.id)) (same x) (commit_votes_at (taught_in run) (at_end run x) (laws x) x.id view proposed);
        accepted_true = λ x view r. accepted_true_at (taught_in run) (at_end run x) (laws x) x.id view r;
        accepted_was_proposed = λ x r u o. accepted_was_proposed_at (taught_in run) (at_end run x) (laws x) x.id r u o;
      }
