-- What a merge adds to the base of the promises that count: the attempts that entries report and the base does not have.
use Rattle.std.specs.Prelude.{◌≡◌, ℕ, Bool, List, [], ◌∷◌, ◌++◌, Option, map, filter, flat_map, fold, is_none, not, ◌&&◌, nat_le, if◌then◌else◌}
use Rattle.mk_lists.specs.Among.{Among}
use Rattle.std.specs.Option.{option_or}
use Rattle.mk_txn.specs.declared.TxnId.{TxnId}
use Rattle.mk_txn.specs.declared.Outcome.{Outcome}
use Rattle.mk_txn.specs.MarkMaps.{MarkMap, covers, joined_marks}
use Rattle.mk_txn.specs.Outcomes.{is_commit}
use Rattle.mk_txn.specs.Transactions.{Transaction, AreCoherent, id_before}
use Rattle.mk_words.specs.declared.Entry.{Entry}
use Rattle.mk_quorum.specs.Sizes.{hint_of}
use Rattle.mk_quorum.specs.Slots.{passes}
use Rattle.mk_words.specs.KeptOutcomes.{KeptOutcomes, outcome_of, with_outcome}
use Rattle.mk_words.specs.declared.Fated.{Fated}
use Rattle.mk_words.specs.Bases.{empty_base, fated, in_id_order, in_stamp_order}
use Rattle.mk_words.specs.Promises.{PromiseState, EntryFits, base_of}
use Rattle.mk_words.specs.Merging.{reports, first_last, highest_accepted, ok_reports, taken, fate_by}

-- nothing is kept of the attempt, and it is not forgotten
abbrev pub is_new : KeptOutcomes → TxnId → Bool
is_new kept id = not (covers kept.marks id) && is_none (outcome_of id kept.outcomes)

-- the transactions of all entries
abbrev pub entered_txns : List PromiseState → List Transaction
entered_txns promises = flat_map (λ p. map (λ e. e.txn) p.entries) promises

-- those of new attempts, in order of number
abbrev pub new_txns : KeptOutcomes → List PromiseState → List Transaction
new_txns kept promises = in_id_order (filter (λ txn. is_new kept txn.id) (entered_txns promises))

-- a final outcome, else the accepted outcome of the highest view
abbrev pub entered_fate : ℕ → List PromiseState → TxnId → Option Outcome
entered_fate f promises id = option_or (first_last (reports f promises id)) (highest_accepted (reports f promises id))

-- the commits among the new attempts by such outcomes
abbrev pub new_commits : ℕ → KeptOutcomes → List PromiseState → List Transaction
new_commits f kept promises = filter (λ txn. passes is_commit (entered_fate f promises txn.id)) (new_txns kept promises)

-- the candidates among them
abbrev pub new_candidates : ℕ → KeptOutcomes → List PromiseState → List Transaction
new_candidates f kept promises =
    in_stamp_order (filter (λ txn. is_none (entered_fate f promises txn.id) && nat_le (hint_of f) (ok_reports f promises txn.id)) (new_txns kept promises))

-- every new attempt with its fate, in order of number
abbrev pub additions : ℕ → ℕ → KeptOutcomes → List PromiseState → List Fated
additions f epoch kept promises =
    map (λ txn. fated txn (fate_by epoch txn (taken (new_commits f kept promises) (new_candidates f kept promises)) (entered_fate f promises txn.id))) (new_txns kept promises)

-- one more, at its place by number
abbrev pub put_fated : Fated → List Fated → List Fated
put_fated f [] = f ∷ []
put_fated f (first ∷ rest) = if id_before first.txn.id f.txn.id then first ∷ put_fated f rest else f ∷ (first ∷ rest)

-- each of these at its place
abbrev pub with_fated : List Fated → List Fated → List Fated
with_fated [] list = list
with_fated (f ∷ more) list = with_fated more (put_fated f list)

-- what is kept after the outcomes of these, put one after another
abbrev pub put_fates : List Fated → KeptOutcomes → KeptOutcomes
put_fates [] kept = kept
put_fates (f ∷ list) kept = put_fates list (with_outcome f.txn.id f.outcome kept)

-- what is asked of the promises that count: they have one base, and the entries fit it
pub record AreCounted (ps : List PromiseState) : Type 0 where
  pub coherent : AreCoherent (map (λ f. f.txn) (base_of ps).list ++ entered_txns ps)
  pub one_base : (p : PromiseState) → Among p ps → p.base ≡ base_of ps
  pub fit : (p : PromiseState) (e : Entry) → Among p ps → Among e p.entries → EntryFits p.base e

-- of each client the greatest mark, in these and in what was handed in
abbrev pub raised_marks : MarkMap → List PromiseState → MarkMap
raised_marks marks promises = fold (λ all p. joined_marks all p.marks) marks promises

-- the promise without its epoch and base
abbrev pub bare : PromiseState → PromiseState
bare state = record { replica = state.replica; adopted = 0; base = empty_base; entries = state.entries; marks = state.marks }
