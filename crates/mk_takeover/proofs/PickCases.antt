-- The picks by promises, by counts and by accepts, from counts over the lists.
use Rattle.std.proofs.Common.{◌≡◌, ◌∙◌, ◌<◌, ◌≤◌, ℕ, ap, sym, arith, List, length, count_by, map, Bool}
use Rattle.std.specs.Prelude.{Option, Some, None}
use Rattle.std.proofs.lemmas.Bool.Decides.{nat_tests}
use Rattle.mk_txn.specs.declared.Accepted.{Accepted}
use Rattle.mk_txn.specs.declared.Cause.TheVariants.{Takeover as ByTakeover}
use Rattle.mk_txn.specs.declared.Outcome.{Outcome}
use Rattle.mk_txn.specs.declared.Outcome.TheVariants.{Commit, Abort}
use Rattle.mk_txn.specs.Outcomes.{highest}
use Rattle.mk_quorum.specs.Sizes.{members, majority_of, block_of}
use Rattle.mk_quorum.specs.Slots.{passes}
use Rattle.mk_quorum.proofs.SlotLists.{slots_counted}
use Rattle.mk_words.specs.declared.Pick.TheVariants.{Propose, Learned, Short, Unaccepted, Unclear}
use Rattle.mk_words.specs.Picks.{TakeoverState, by_promises, by_accepted, by_counts, by_accepts, is_promise, is_ok_promise, is_other_promise, accepted_in}

pub short : (f : ℕ) (takeover : TakeoverState) → length takeover.told ≡ members f →
    count_by (passes is_promise) takeover.told < majority_of f → by_promises f takeover ≡ Short (count_by (passes is_promise) takeover.told)
short f takeover e few = grind (arith, nat_tests, slots_counted (members f) is_promise takeover.told e)

promised : (f : ℕ) (takeover : TakeoverState) → length takeover.told ≡ members f →
    majority_of f ≤ count_by (passes is_promise) takeover.told →
    by_promises f takeover ≡ by_accepted f takeover (highest (map accepted_in takeover.told))
promised f takeover e most = grind (arith, nat_tests, slots_counted (members f) is_promise takeover.told e)

pub propose_again : (f : ℕ) (takeover : TakeoverState) (accepted : Accepted) → length takeover.told ≡ members f →
    majority_of f ≤ count_by (passes is_promise) takeover.told → Some accepted ≡ highest (map accepted_in takeover.told) →
    Propose accepted.outcome ≡ by_promises f takeover
propose_again f takeover accepted e most h = ap (by_accepted f takeover) h ∙ sym (promised f takeover e most)

pub none_accepted : (f : ℕ) (takeover : TakeoverState) → length takeover.told ≡ members f →
    majority_of f ≤ count_by (passes is_promise) takeover.told → None ≡ highest (map accepted_in takeover.told) →
    by_counts f takeover ≡ by_promises f takeover
none_accepted f takeover e most h = ap (by_accepted f takeover) h ∙ sym (promised f takeover e most)

pub propose_commit : (f : ℕ) (takeover : TakeoverState) → length takeover.told ≡ members f →
    majority_of f ≤ count_by (passes is_ok_promise) takeover.told → by_counts f takeover ≡ Propose Commit
propose_commit f takeover e oks = grind (arith, nat_tests, slots_counted (members f) is_ok_promise takeover.told e)

pub propose_abort : (f : ℕ) (takeover : TakeoverState) → length takeover.told ≡ members f →
    count_by (passes is_ok_promise) takeover.told < majority_of f → block_of f ≤ count_by (passes is_other_promise) takeover.told →
    by_counts f takeover ≡ Propose (Abort (ByTakeover takeover.view))
propose_abort f takeover e oks others =
    grind (arith, nat_tests, slots_counted (members f) is_ok_promise takeover.told e, slots_counted (members f) is_other_promise takeover.told e)

pub unclear : (f : ℕ) (takeover : TakeoverState) → length takeover.told ≡ members f →
    count_by (passes is_ok_promise) takeover.told < majority_of f → count_by (passes is_other_promise) takeover.told < block_of f →
    by_counts f takeover ≡ Unclear (count_by (passes is_ok_promise) takeover.told) (count_by (passes is_other_promise) takeover.told)
unclear f takeover e oks others =
    grind (arith, nat_tests, slots_counted (members f) is_ok_promise takeover.told e, slots_counted (members f) is_other_promise takeover.told e)

pub learned : (f : ℕ) (outcome : Outcome) (accepts : List (Option Bool)) → length accepts ≡ members f →
    majority_of f ≤ count_by (passes (λ accepted. accepted)) accepts → by_accepts f outcome accepts ≡ Learned outcome
learned f outcome accepts e most = grind (arith, nat_tests, slots_counted (members f) (λ accepted. accepted) accepts e)

pub unaccepted : (f : ℕ) (outcome : Outcome) (accepts : List (Option Bool)) → length accepts ≡ members f →
    count_by (passes (λ accepted. accepted)) accepts < majority_of f →
    by_accepts f outcome accepts ≡ Unaccepted (count_by (passes (λ accepted. accepted)) accepts)
unaccepted f outcome accepts e few = grind (arith, nat_tests, slots_counted (members f) (λ accepted. accepted) accepts e)
