-- The five rulings by votes, from counts over the lists.
use Rattle.std.proofs.Common.{◌≡◌, ◌<◌, ◌≤◌, ℕ, arith, List, length, count_by}
use Rattle.std.specs.Prelude.{Option}
use Rattle.std.proofs.lemmas.Bool.Decides.{nat_tests}
use Rattle.mk_txn.specs.declared.Vote.{Vote}
use Rattle.mk_txn.specs.declared.Outcome.TheVariants.{Commit}
use Rattle.mk_txn.specs.Outcomes.{is_ok_vote}
use Rattle.mk_quorum.specs.Sizes.{members, majority_of, fast_of}
use Rattle.mk_quorum.specs.Slots.{passes}
use Rattle.mk_words.specs.declared.Ruling.TheVariants.{Fast, Propose, Short}
use Rattle.mk_words.specs.Rulings.{by_votes, first_refusal, is_abort_vote, any_vote}
use Rattle.mk_quorum.proofs.SlotLists.{slots_counted}

pub fast_commit : (f : ℕ) (votes : List (Option Vote)) → length votes ≡ members f →
    fast_of f ≤ count_by (passes is_ok_vote) votes → by_votes f votes ≡ Fast Commit
fast_commit f votes e oks = grind (arith, nat_tests, slots_counted (members f) is_ok_vote votes e)

pub fast_abort : (f : ℕ) (votes : List (Option Vote)) → length votes ≡ members f →
    count_by (passes is_ok_vote) votes < fast_of f → fast_of f ≤ count_by (passes is_abort_vote) votes →
    by_votes f votes ≡ Fast (first_refusal votes)
fast_abort f votes e oks aborts =
    grind (arith, nat_tests, slots_counted (members f) is_ok_vote votes e, slots_counted (members f) is_abort_vote votes e)

pub short : (f : ℕ) (votes : List (Option Vote)) → length votes ≡ members f →
    count_by (passes is_ok_vote) votes < fast_of f → count_by (passes is_abort_vote) votes < fast_of f →
    count_by (passes any_vote) votes < majority_of f → by_votes f votes ≡ Short (count_by (passes any_vote) votes)
short f votes e oks aborts all =
    grind (arith, nat_tests, slots_counted (members f) is_ok_vote votes e, slots_counted (members f) is_abort_vote votes e, slots_counted (members f) any_vote votes e)

pub propose_commit : (f : ℕ) (votes : List (Option Vote)) → length votes ≡ members f →
    count_by (passes is_ok_vote) votes < fast_of f → count_by (passes is_abort_vote) votes < fast_of f →
    majority_of f ≤ count_by (passes any_vote) votes → majority_of f ≤ count_by (passes is_ok_vote) votes → by_votes f votes ≡ Propose Commit
propose_commit f votes e oks aborts all most =
    grind (arith, nat_tests, slots_counted (members f) is_ok_vote votes e, slots_counted (members f) is_abort_vote votes e, slots_counted (members f) any_vote votes e)

pub propose_abort : (f : ℕ) (votes : List (Option Vote)) → length votes ≡ members f →
    count_by (passes is_ok_vote) votes < fast_of f → count_by (passes is_abort_vote) votes < fast_of f →
    majority_of f ≤ count_by (passes any_vote) votes → count_by (passes is_ok_vote) votes < majority_of f →
    by_votes f votes ≡ Propose (first_refusal votes)
propose_abort f votes e oks aborts all few =
    grind (arith, nat_tests, slots_counted (members f) is_ok_vote votes e, slots_counted (members f) is_abort_vote votes e, slots_counted (members f) any_vote votes e)
