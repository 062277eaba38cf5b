-- Rulings over a few votes, by computing.
use Rattle.std.proofs.Common.{◌≡◌, ℕ, refl, List, [], ◌∷◌}
use Rattle.std.specs.Prelude.{Some}
use Rattle.mk_txn.specs.declared.Conflict.{Conflict}
use Rattle.mk_txn.specs.declared.Reason.TheVariants.{ReadStale}
use Rattle.mk_txn.specs.declared.Cause.TheVariants.{Conflict as ByConflict, Epoch as ByEpoch}
use Rattle.mk_txn.specs.declared.Vote.{Vote}
use Rattle.mk_txn.specs.declared.Vote.TheVariants.{Ok as VoteOk, Abort as VoteAbort}
use Rattle.mk_txn.specs.declared.Outcome.TheVariants.{Commit, Abort}
use Rattle.mk_txn.specs.Stamps.{zero_stamp}
use Rattle.mk_words.specs.declared.Ruling.TheVariants.{Fast, Propose, Learned, Short, Unaccepted}
use Rattle.mk_words.specs.Rulings.{CoordState, new_coord, vote_counted, accept_counted, coord_proposed, coord_taught, ruling}

abbrev at_key : ℕ → Conflict
at_key key = record { key = key; reason = ReadStale; stamp = zero_stamp }

-- the votes of these replicas, taken in turn
abbrev with_votes : CoordState → List (ℕ × Vote) → CoordState
with_votes coord [] = coord
with_votes coord (v ∷ vs) = with_votes (vote_counted v.0 v.1 coord) vs

pub two_votes : ruling 2 (with_votes (new_coord 2) ((0, VoteOk) ∷ ((1, VoteOk) ∷ []))) ≡ Short 2
two_votes = refl

pub three_votes : ruling 2 (with_votes (new_coord 2) ((0, VoteOk) ∷ ((1, VoteOk) ∷ ((2, VoteOk) ∷ [])))) ≡ Propose Commit
three_votes = refl

pub four_votes : ruling 2 (with_votes (new_coord 2) ((0, VoteOk) ∷ ((1, VoteOk) ∷ ((2, VoteOk) ∷ ((4, VoteOk) ∷ []))))) ≡ Fast Commit
four_votes = refl

-- of two refusals the lower-numbered replica's is the cause
pub lowest_refusal : ruling 2 (with_votes (new_coord 2) ((0, VoteOk) ∷ ((3, VoteAbort (at_key 7)) ∷ ((1, VoteAbort (at_key 5)) ∷ []))))
    ≡ Propose (Abort (ByConflict (at_key 5)))
lowest_refusal = refl

pub fast_abort : ruling 1 (with_votes (new_coord 1) ((2, VoteAbort (at_key 7)) ∷ ((1, VoteAbort (at_key 5)) ∷ ((0, VoteAbort (at_key 6)) ∷ []))))
    ≡ Fast (Abort (ByConflict (at_key 6)))
fast_abort = refl

-- a second vote of one replica does not count
pub first_vote_counts : ruling 1 (with_votes (new_coord 1) ((0, VoteOk) ∷ ((0, VoteAbort (at_key 7)) ∷ ((1, VoteOk) ∷ [])))) ≡ Propose Commit
first_vote_counts = refl

-- one accept of replica 2 taken twice
pub one_accept : ruling 1 (accept_counted 2 (accept_counted 2 (coord_proposed Commit (new_coord 1)))) ≡ Unaccepted 1
one_accept = refl

pub two_accepts : ruling 1 (accept_counted 0 (accept_counted 2 (coord_proposed Commit (new_coord 1)))) ≡ Learned Commit
two_accepts = refl

-- after a proposal equal votes do not decide any more
pub proposed_is_not_fast : ruling 1 (with_votes (coord_proposed Commit (new_coord 1)) ((0, VoteOk) ∷ ((1, VoteOk) ∷ ((2, VoteOk) ∷ [])))) ≡ Unaccepted 0
proposed_is_not_fast = refl

-- what was taught first comes first
pub taught_first : ruling 1 (coord_taught (Some Commit) (coord_taught (Some (Abort (ByEpoch 1))) (coord_proposed Commit (new_coord 1))))
    ≡ Learned (Abort (ByEpoch 1))
taught_first = refl
