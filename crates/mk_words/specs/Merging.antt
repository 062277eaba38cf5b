-- The base that an epoch's leader makes from promises.
use Rattle.std.specs.Prelude.{ℕ, zero, suc, ◌+◌, List, [], ◌∷◌, ◌++◌, Option, Some, None, find, fold, map, filter, flat_map, option_map, option_and_then, is_none, ◌&&◌, ◌==◌, nat_le, if◌then◌else◌}
use Rattle.std.specs.List.{list_any}
use Rattle.std.specs.Option.{option_or}
use Rattle.mk_txn.specs.declared.TxnId.{TxnId}
use Rattle.mk_txn.specs.declared.Cause.TheVariants.{Epoch as ByEpoch}
use Rattle.mk_txn.specs.declared.Outcome.{Outcome}
use Rattle.mk_txn.specs.declared.Outcome.TheVariants.{Commit, Abort}
use Rattle.mk_txn.specs.Clashes.{conflict}
use Rattle.mk_txn.specs.MarkMaps.{MarkMap, joined_marks}
use Rattle.mk_txn.specs.Outcomes.{is_ok_vote, is_commit, highest}
use Rattle.mk_txn.specs.Transactions.{Transaction, same_id}
use Rattle.mk_words.specs.declared.Entry.{Entry}
use Rattle.mk_words.specs.Entries.{entry_of}
use Rattle.mk_quorum.specs.Counts.{count_below}
use Rattle.mk_quorum.specs.Sizes.{members, hint_of}
use Rattle.mk_quorum.specs.Slots.{passes}
use Rattle.mk_words.specs.declared.Fated.{Fated}
use Rattle.mk_words.specs.Bases.{BaseState, fated, fate_in, in_id_order, in_stamp_order}
use Rattle.mk_words.specs.Promises.{PromiseState, base_of, chosen, counting}

-- what the replica of this number reported of the attempt, in the promises that count
abbrev pub reported : List PromiseState → TxnId → ℕ → Option Entry
reported promises id r = option_and_then (λ p. entry_of id p.entries) (find (λ p. p.replica == r) promises)

-- the reports of the replicas from r on, by number
abbrev pub reports_from : List PromiseState → TxnId → ℕ → ℕ → List (Option Entry)
reports_from promises id r zero = []
reports_from promises id r (suc left) = reported promises id r ∷ reports_from promises id (r + 1) left

-- the reports of all replicas, by number
abbrev pub reports : ℕ → List PromiseState → TxnId → List (Option Entry)
reports f promises id = reports_from promises id 0 (members f)

-- the final outcome that the lowest-numbered replica reported
abbrev pub first_last : List (Option Entry) → Option Outcome
first_last [] = None
first_last (report ∷ rest) = option_or (option_and_then (λ e. e.last) report) (first_last rest)

-- the outcome that was accepted in the highest view
abbrev pub highest_accepted : List (Option Entry) → Option Outcome
highest_accepted all = option_map (λ a. a.outcome) (highest (map (λ report. option_and_then (λ e. e.accepted) report) all))

-- the first three rules: the base's outcome, else a final outcome, else the accepted outcome of the highest view
abbrev pub settled_fate : ℕ → List PromiseState → TxnId → Option Outcome
settled_fate f promises id =
    option_or (fate_in id (base_of promises).list)
    (option_or (first_last (reports f promises id)) (highest_accepted (reports f promises id)))

-- how many replicas reported an Ok vote
abbrev pub ok_reports : ℕ → List PromiseState → TxnId → ℕ
ok_reports f promises id = count_below (members f) (λ r. passes (λ e. passes is_ok_vote e.vote) (reported promises id r))

-- every transaction of the promises that count, in order of number
abbrev pub reported_txns : List PromiseState → List Transaction
reported_txns promises =
    in_id_order (map (λ x. x.txn) (base_of promises).list ++ flat_map (λ p. map (λ e. e.txn) p.entries) promises)

-- the commits by the first three rules
abbrev pub settled_commits : ℕ → List PromiseState → List Transaction
settled_commits f promises = filter (λ txn. passes is_commit (settled_fate f promises txn.id)) (reported_txns promises)

-- the fourth rule: without such an outcome a hint of Ok votes makes a candidate; they are taken in order of stamp
abbrev pub candidates : ℕ → List PromiseState → List Transaction
candidates f promises =
    in_stamp_order (filter (λ txn. is_none (settled_fate f promises txn.id) && nat_le (hint_of f) (ok_reports f promises txn.id)) (reported_txns promises))

-- each candidate in turn commits unless it conflicts with a commit taken so far
abbrev pub taken : List Transaction → List Transaction → List Transaction
taken commits [] = commits
taken commits (txn ∷ rest) = taken (if list_any (conflict txn) commits then commits else commits ++ txn ∷ []) rest

-- the fifth rule: whatever else was reported aborts by this epoch
abbrev pub fate_by : ℕ → Transaction → List Transaction → Option Outcome → Outcome
fate_by epoch txn commits (Some outcome) = outcome
fate_by epoch txn commits None = if list_any (λ c. same_id c.id txn.id) commits then Commit else Abort (ByEpoch epoch)

-- every reported transaction with its fate, given the commits that were taken
abbrev pub fates_by : ℕ → ℕ → List PromiseState → List Transaction → List Fated
fates_by f epoch promises commits =
    map (λ txn. fated txn (fate_by epoch txn commits (settled_fate f promises txn.id))) (reported_txns promises)

-- of each client the greatest mark, in the base and in the promises that count
abbrev pub merged_marks : List PromiseState → MarkMap
merged_marks promises = fold (λ marks p. joined_marks marks p.marks) (base_of promises).marks promises

-- the base of the promises that count
abbrev pub merged_from : ℕ → ℕ → List PromiseState → BaseState
merged_from f epoch promises =
    record {
      list = fates_by f epoch promises (taken (settled_commits f promises) (candidates f promises));
      marks = merged_marks promises;
    }

-- the base of an epoch: of the leader's promise and the first f others those of the highest adopted epoch count
abbrev pub merged : ℕ → ℕ → List PromiseState → BaseState
merged f epoch promises = merged_from f epoch (counting (chosen f epoch promises))
