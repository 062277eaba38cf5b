-- Picks over a few replies, by computing.
use Rattle.std.proofs.Common.{◌≡◌, ℕ, refl, List, [], ◌∷◌}
use Rattle.std.specs.Prelude.{Some, None}
use Rattle.mk_txn.specs.declared.Cause.TheVariants.{Takeover as ByTakeover, Epoch as ByEpoch}
use Rattle.mk_txn.specs.declared.Vote.TheVariants.{Ok as VoteOk}
use Rattle.mk_txn.specs.declared.Outcome.{Outcome}
use Rattle.mk_txn.specs.declared.Outcome.TheVariants.{Commit, Abort}
use Rattle.mk_words.specs.declared.Told.{Told}
use Rattle.mk_words.specs.declared.Pick.TheVariants.{Known, Learned, Propose, Short, Unaccepted, Unclear}
use Rattle.mk_words.specs.Picks.{TakeoverState, new_takeover, reply_counted, accept_counted, takeover_proposed, takeover_taught, pick}

abbrev ok : Told
ok = record { vote = Some VoteOk; accepted = None; last = None }

abbrev blank : Told
blank = record { vote = None; accepted = None; last = None }

abbrev accepting : ℕ → Outcome → Told
accepting view outcome = record { vote = None; accepted = Some (record { view = view; outcome = outcome }); last = None }

abbrev final : Outcome → Told
final outcome = record { vote = None; accepted = None; last = Some outcome }

abbrev with_replies : TakeoverState → List (ℕ × Told) → TakeoverState
with_replies takeover [] = takeover
with_replies takeover (t ∷ ts) = with_replies (reply_counted t.0 t.1 takeover) ts

pub two_ok_one_blank : pick 2 (with_replies (new_takeover 2 1) ((0, ok) ∷ ((1, ok) ∷ ((2, blank) ∷ [])))) ≡ Unclear 2 1
two_ok_one_blank = refl

pub two_ok_two_blank : pick 2 (with_replies (new_takeover 2 1) ((0, ok) ∷ ((1, ok) ∷ ((2, blank) ∷ ((3, blank) ∷ []))))) ≡ Propose (Abort (ByTakeover 1))
two_ok_two_blank = refl

-- of two accepted outcomes that of the higher view is proposed
pub highest_view : pick 1 (with_replies (new_takeover 1 3) ((0, accepting 0 Commit) ∷ ((1, accepting 2 (Abort (ByTakeover 2))) ∷ [])))
    ≡ Propose (Abort (ByTakeover 2))
highest_view = refl

-- and where the views tie, that of the lower-numbered replica
pub lowest_replica : pick 1 (with_replies (new_takeover 1 3) ((2, accepting 1 (Abort (ByTakeover 1))) ∷ ((0, accepting 1 Commit) ∷ [])))
    ≡ Propose Commit
lowest_replica = refl

pub one_promise : pick 1 (with_replies (new_takeover 1 1) ((0, ok) ∷ [])) ≡ Short 1
one_promise = refl

pub two_ok : pick 1 (with_replies (new_takeover 1 1) ((0, ok) ∷ ((2, ok) ∷ []))) ≡ Propose Commit
two_ok = refl

-- a second reply of one replica does not count, but a final outcome in it teaches
pub first_reply_counts : pick 1 (with_replies (new_takeover 1 1) ((0, ok) ∷ ((0, blank) ∷ ((2, ok) ∷ [])))) ≡ Propose Commit
first_reply_counts = refl

pub told_again : pick 1 (with_replies (new_takeover 1 1) ((0, ok) ∷ ((0, final Commit) ∷ []))) ≡ Known Commit
told_again = refl

-- one accept of replica 2 taken twice
pub one_accept : pick 1 (accept_counted 2 (accept_counted 2 (takeover_proposed Commit (new_takeover 1 1)))) ≡ Unaccepted 1
one_accept = refl

pub two_accepts : pick 1 (accept_counted 0 (accept_counted 2 (takeover_proposed Commit (new_takeover 1 1)))) ≡ Learned Commit
two_accepts = refl

-- what was taught first comes first
pub taught_first : pick 1 (takeover_taught (Some Commit) (takeover_taught (Some (Abort (ByEpoch 1))) (takeover_proposed Commit (new_takeover 1 1))))
    ≡ Known (Abort (ByEpoch 1))
taught_first = refl
