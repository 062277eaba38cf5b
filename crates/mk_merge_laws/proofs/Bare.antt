-- What a merge adds looks at what promises hand in beside their epochs and bases alone.
use Rattle.std.proofs.Common.{◌≡◌, ℕ, zero, suc, refl, ap, ◌∙◌, Bool, true, false, List, [], ◌∷◌, ◌++◌, map, filter, Option, Some, cond, ◌==◌, ◌+◌}
use Rattle.std.specs.Prelude.{find, option_and_then, nat_le, is_none, ◌&&◌}
use Rattle.std.specs.Option.{option_or}
use Rattle.mk_txn.specs.declared.TxnId.{TxnId}
use Rattle.mk_txn.specs.declared.Outcome.{Outcome}
use Rattle.mk_txn.specs.MarkMaps.{MarkMap, joined_marks}
use Rattle.mk_txn.specs.Outcomes.{is_ok_vote, is_commit}
use Rattle.mk_txn.specs.Transactions.{Transaction}
use Rattle.mk_words.specs.declared.Entry.{Entry}
use Rattle.mk_words.specs.Entries.{entry_of}
use Rattle.mk_quorum.specs.Counts.{count_below}
use Rattle.mk_quorum.specs.Sizes.{members, hint_of}
use Rattle.mk_quorum.specs.Slots.{passes}
use Rattle.mk_words.specs.KeptOutcomes.{KeptOutcomes}
use Rattle.mk_words.specs.declared.Fated.{Fated}
use Rattle.mk_words.specs.Bases.{fated, in_id_order, in_stamp_order, kept_of}
use Rattle.mk_words.specs.Promises.{PromiseState, base_of}
use Rattle.mk_words.specs.Merging.{reported, reports_from, first_last, highest_accepted, ok_reports, taken, fate_by, merged_marks}
use Rattle.mk_merge_laws.specs.Adding.{is_new, entered_txns, entered_fate, additions, raised_marks, bare}

pub entered-bare : (ss : List PromiseState) → entered_txns (map bare ss) ≡ entered_txns ss
entered-bare [] = refl
entered-bare (s ∷ ss) = ap (λ more. map (λ (e : Entry). e.txn) s.entries ++ more) (entered-bare ss)

pub raised-bare : (marks : MarkMap) (ss : List PromiseState) → raised_marks marks (map bare ss) ≡ raised_marks marks ss
raised-bare marks [] = refl
raised-bare marks (s ∷ ss) = raised-bare (joined_marks marks s.marks) ss

reported-bare : (ss : List PromiseState) (id : TxnId) (r : ℕ) → reported (map bare ss) id r ≡ reported ss id r
reported-bare [] id r = refl
reported-bare (s ∷ ss) id r = by (s.replica == r) (reported-bare ss id r)
  where
    by : (b : Bool) → reported (map bare ss) id r ≡ reported ss id r
        → option_and_then (λ (p : PromiseState). entry_of id p.entries) (cond b (Some (bare s)) (find (λ p. p.replica == r) (map bare ss))) ≡ option_and_then (λ (p : PromiseState). entry_of id p.entries) (cond b (Some s) (find (λ p. p.replica == r) ss))
    by true again = refl
    by false again = again

reports-bare : (ss : List PromiseState) (id : TxnId) (r left : ℕ) → reports_from (map bare ss) id r left ≡ reports_from ss id r left
reports-bare ss id r zero = refl
reports-bare ss id r (suc left) = λ i. reported-bare ss id r i ∷ reports-bare ss id (r + 1) left i

fate-bare : (f : ℕ) (ss : List PromiseState) → entered_fate f (map bare ss) ≡ entered_fate f ss
fate-bare f ss = λ i id. option_or (first_last (reports-bare ss id 0 (members f) i)) (highest_accepted (reports-bare ss id 0 (members f) i))

oks-bare : (f : ℕ) (ss : List PromiseState) → ok_reports f (map bare ss) ≡ ok_reports f ss
oks-bare f ss = λ i id. count_below (members f) (λ r. passes (λ (e : Entry). passes is_ok_vote e.vote) (reported-bare ss id r i))

pub additions-bare : (f epoch : ℕ) (kept : KeptOutcomes) (ss : List PromiseState) → additions f epoch kept (map bare ss) ≡ additions f epoch kept ss
additions-bare f epoch kept ss = λ i. added (entered-bare ss i) (fate-bare f ss i) (oks-bare f ss i)
  where
    fresh : List Transaction → List Transaction
    fresh entered = in_id_order (filter (λ txn. is_new kept txn.id) entered)

    commits : List Transaction → (TxnId → Option Outcome) → (TxnId → ℕ) → List Transaction
    commits entered fate oks = taken (filter (λ txn. passes is_commit (fate txn.id)) (fresh entered))
        (in_stamp_order (filter (λ txn. is_none (fate txn.id) && nat_le (hint_of f) (oks txn.id)) (fresh entered)))

    added : List Transaction → (TxnId → Option Outcome) → (TxnId → ℕ) → List Fated
    added entered fate oks = map (λ txn. fated txn (fate_by epoch txn (commits entered fate oks) (fate txn.id))) (fresh entered)

-- what was added to what is kept of the base
pub added-bare : (f epoch : ℕ) (hs ss : List PromiseState) (kept : KeptOutcomes) (more : List Fated) → hs ≡ map bare ss → kept ≡ kept_of (base_of ss) → more ≡ additions f epoch kept hs
    → more ≡ additions f epoch (kept_of (base_of ss)) ss
added-bare f epoch hs ss kept more is same made =
    made ∙ ap (additions f epoch kept) is ∙ additions-bare f epoch kept ss ∙ ap (λ k. additions f epoch k ss) same

pub marks-bare : (hs ss : List PromiseState) (kept : KeptOutcomes) (marks : MarkMap) → hs ≡ map bare ss → kept ≡ kept_of (base_of ss) → marks ≡ raised_marks kept.marks hs → marks ≡ merged_marks ss
marks-bare hs ss kept marks is same made =
    made ∙ ap (raised_marks kept.marks) is ∙ raised-bare kept.marks ss ∙ ap (λ (k : KeptOutcomes). raised_marks k.marks ss) same
