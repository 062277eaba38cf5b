-- The promises of an epoch change, which of them count, and when a base can be made of them.
use Rattle.std.specs.Prelude.{◌≡◌, ℕ, ◌%◌, max, Bool, true, false, not, ◌&&◌, ◌==◌, nat_le, List, [], ◌∷◌, ◌++◌, filter, flat_map, map, take, length}
use Rattle.std.specs.List.{list_any}
use Rattle.mk_lists.specs.Among.{Among, Each, AllDistinct}
use Rattle.mk_txn.specs.MarkMaps.{MarkMap, covers}
use Rattle.mk_txn.specs.Outcomes.{is_ok_vote}
use Rattle.mk_txn.specs.Transactions.{Transaction, AreCoherent}
use Rattle.mk_words.specs.declared.Entry.{Entry}
use Rattle.mk_words.specs.Entries.{HasDistinctIds}
use Rattle.mk_quorum.specs.Sizes.{members, majority_of}
use Rattle.mk_quorum.specs.Slots.{passes}
use Rattle.mk_words.specs.Bases.{BaseState, empty_base}
use Rattle.mk_words.specs.Rebuilding.{fits_base}

-- what a replica handed in: the epoch that it has adopted with that epoch's base, its entries and its marks
pub record PromiseState : Type 0 where
  pub replica : ℕ
  pub adopted : ℕ
  pub base : BaseState
  pub entries : List Entry
  pub marks : MarkMap

-- the replica that leads an epoch or a view
abbrev pub leader_of : ℕ → ℕ → ℕ
leader_of f number = number % members f

-- the promise is the leader's
abbrev pub is_leaders : ℕ → ℕ → PromiseState → Bool
is_leaders f epoch promise = promise.replica == leader_of f epoch

-- the leader's promise and the first f others
abbrev pub chosen : ℕ → ℕ → List PromiseState → List PromiseState
chosen f epoch promises =
    take 1 (filter (is_leaders f epoch) promises) ++ take f (filter (λ p. not (is_leaders f epoch p)) promises)

-- a base can be made: a majority has promised, and the leader has
abbrev pub can_merge : ℕ → ℕ → List PromiseState → Bool
can_merge f epoch promises = nat_le (majority_of f) (length promises) && list_any (is_leaders f epoch) promises

-- the highest epoch that one of these promises has adopted
abbrev pub highest_adopted : List PromiseState → ℕ
highest_adopted [] = 0
highest_adopted (p ∷ promises) = max p.adopted (highest_adopted promises)

-- the promises that count: those of the highest adopted epoch
abbrev pub counting : List PromiseState → List PromiseState
counting promises = filter (λ p. p.adopted == highest_adopted promises) promises

-- the base of the promises that count, which is one
abbrev pub base_of : List PromiseState → BaseState
base_of [] = empty_base
base_of (p ∷ promises) = p.base

-- the transactions of a promise's base and of its entries
abbrev pub promised_txns : PromiseState → List Transaction
promised_txns p = map (λ f. f.txn) p.base.list ++ map (λ e. e.txn) p.entries

-- an entry fits its promise: an Ok vote fits the base, and the base's marks do not cover it
pub record EntryFits (base : BaseState) (entry : Entry) : Type 0 where
  pub voted : passes is_ok_vote entry.vote ≡ true → fits_base base entry.txn ≡ true
  pub uncovered : covers base.marks entry.txn.id ≡ false

-- what is asked of the promises of which a base is made
pub record ArePromises (promises : List PromiseState) : Type 0 where
  pub distinct_replicas : AllDistinct (map (λ p. p.replica) promises)
  pub distinct_ids : Each (λ p. HasDistinctIds p.entries) promises
  pub one_base : (p q : PromiseState) → Among p promises → Among q promises → p.adopted ≡ q.adopted → p.base ≡ q.base
  pub coherent : AreCoherent (flat_map promised_txns promises)
  pub entries_fit : Each (λ p. Each (EntryFits p.base) p.entries) promises
