-- Fates, found transaction by transaction.
use Rattle.std.proofs.Common.{◌≡◌, ℕ, ◌<◌, ◌≤◌, ◌+◌, Bool, true, false, refl, sym, ap, ◌∙◌, List, [], ◌∷◌, ◌++◌, length, get_or, map, filter, drop, Option, None, append_assoc, if◌then◌else◌}
use Rattle.std.proofs.lemmas.List.{append-nil, drop_all}
use Rattle.std.specs.List.{list_any}
use Rattle.std.specs.Borrow.{Bor}
use Rattle.mk_txn.specs.declared.TxnId.{TxnId}
use Rattle.mk_txn.specs.declared.Cause.TheVariants.{Epoch as ByEpoch}
use Rattle.mk_txn.specs.declared.Outcome.{Outcome}
use Rattle.mk_txn.specs.declared.Outcome.TheVariants.{Commit, Abort}
use Rattle.mk_txn.specs.Clashes.{conflict}
use Rattle.mk_txn.specs.Transactions.{Transaction, same_id}
use Rattle.mk_words.specs.declared.Fated.{Fated}
use Rattle.mk_words.specs.Merging.{taken, fate_by}
use Rattle.mk_lists.proofs.Places.{drop_read}

-- the transactions that are borrowed
abbrev pub nows : List (Bor Transaction) → List Transaction
nows txns = map (λ t. t.now) txns

-- ---- those that pass a test

-- with those that are left it comes to all that pass
abbrev pub ComesToPassing : (Transaction → Bool) → List (Bor Transaction) → ℕ → List Transaction → Type 0
ComesToPassing p all i found = found ++ filter p (nows (drop i all)) ≡ filter p (nows all)

-- the same where those that were found are borrowed
abbrev pub ComesToFiltered : (Transaction → Bool) → List (Bor Transaction) → ℕ → List (Bor Transaction) → Type 0
ComesToFiltered p all i found = ComesToPassing p all i (nows found)

-- ---- candidates in turn

-- with those that are left it comes to all that are taken
abbrev pub ComesToTaken : List (Bor Transaction) → ℕ → List Transaction → List Transaction → Type 0
ComesToTaken all i begun commits = taken commits (nows (drop i all)) ≡ taken begun (nows all)

-- ---- every transaction with its fate

-- with those that are left it comes to all fates
abbrev pub ComesToFates : (Transaction → Fated) → List (Bor Transaction) → ℕ → List Fated → Type 0
ComesToFates F all i list = list ++ map F (nows (drop i all)) ≡ map F (nows all)

-- ---- one fate

pub fate-taken : (epoch : ℕ) (txn : Transaction) (commits : List Transaction) (settled : Option Outcome) (id : TxnId) (b : Bool) → settled ≡ None → id ≡ txn.id → b ≡ list_any (λ c. same_id c.id id) commits → b ≡ true
    → Commit ≡ fate_by epoch txn commits settled
fate-taken epoch txn commits settled id b none same found hit =
    ap (λ t. if t then Commit else Abort (ByEpoch epoch)) (sym hit ∙ found ∙ ap (λ i. list_any (λ (c : Transaction). same_id c.id i) commits) same)
    ∙ sym (ap (fate_by epoch txn commits) none)

pub fate-aborted : (epoch : ℕ) (txn : Transaction) (commits : List Transaction) (settled : Option Outcome) (id : TxnId) (b : Bool) → settled ≡ None → id ≡ txn.id → b ≡ list_any (λ c. same_id c.id id) commits → b ≡ false
    → Abort (ByEpoch epoch) ≡ fate_by epoch txn commits settled
fate-aborted epoch txn commits settled id b none same found miss =
    ap (λ t. if t then Commit else Abort (ByEpoch epoch)) (sym miss ∙ found ∙ ap (λ i. list_any (λ (c : Transaction). same_id c.id i) commits) same)
    ∙ sym (ap (fate_by epoch txn commits) none)
