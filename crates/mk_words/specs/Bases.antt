-- A base: transactions with their outcomes, in order of number, and the marks of clients. Covered transactions stay in it.
use Rattle.std.specs.Prelude.{◌≡◌, true, List, [], ◌∷◌, Option, find, map, option_map, if◌then◌else◌}
use Rattle.mk_lists.specs.Among.{Each}
use Rattle.mk_txn.specs.declared.TxnId.{TxnId}
use Rattle.mk_txn.specs.declared.Outcome.{Outcome}
use Rattle.mk_txn.specs.declared.Known.{Known}
use Rattle.mk_txn.specs.declared.Known.TheVariants.{Forgotten}
use Rattle.mk_txn.specs.Outcomes.{is_commit}
use Rattle.mk_txn.specs.MarkMaps.{MarkMap, IsMarkMap, covers}
use Rattle.mk_txn.specs.Stamps.{is_before}
use Rattle.mk_txn.specs.Transactions.{Transaction, same_id, id_before}
use Rattle.mk_words.specs.KeptOutcomes.{KeptOutcomes, Outcomes, known_outcome, not_covered}
use Rattle.mk_words.specs.declared.Fated.{Fated}

-- a list of transactions with their outcomes, and a map of marks
pub record BaseState : Type 0 where
  pub list : List Fated
  pub marks : MarkMap

-- the base of epoch 0
abbrev pub empty_base : BaseState
empty_base = record { list = []; marks = [] }

-- a transaction with its outcome
abbrev pub fated : Transaction → Outcome → Fated
fated txn outcome = record { txn = txn; outcome = outcome }

-- the outcome of this attempt in a list, covered or not
abbrev pub fate_in : TxnId → List Fated → Option Outcome
fate_in id list = option_map (λ f. f.outcome) (find (λ f. same_id f.txn.id id) list)

-- what a base knows of an attempt: a covered one is forgotten
abbrev pub known : BaseState → TxnId → Known
known base id = if covers base.marks id then Forgotten else known_outcome (fate_in id base.list)

-- the attempts of a list with their outcomes
abbrev pub fates_in : List Fated → Outcomes
fates_in list = map (λ f. (f.txn.id, f.outcome)) list

-- the outcomes that a base's marks do not cover
abbrev pub taught_by : BaseState → Outcomes
taught_by base = not_covered base.marks (fates_in base.list)

-- what is kept of a base beside its writes and reads
abbrev pub kept_of : BaseState → KeptOutcomes
kept_of base = record { outcomes = taught_by base; marks = base.marks }

-- the transactions that a list commits
abbrev pub commits_in : List Fated → List Transaction
commits_in [] = []
commits_in (f ∷ list) = if is_commit f.outcome then f.txn ∷ commits_in list else commits_in list

-- each number is before all that follow it
abbrev pub IsInIdOrder : List Fated → Type 0
IsInIdOrder [] = Unit {0}
IsInIdOrder (first ∷ rest) = Each (λ later. id_before first.txn.id later.txn.id ≡ true) rest × IsInIdOrder rest

-- what every base keeps
pub record IsBase (base : BaseState) : Type 0 where
  pub in_order : IsInIdOrder base.list
  pub marked : IsMarkMap base.marks

-- placed in order of number; one whose number is there already is left out
abbrev pub placed_by_id : Transaction → List Transaction → List Transaction
placed_by_id txn [] = txn ∷ []
placed_by_id txn (first ∷ rest) =
    if id_before first.id txn.id
    then first ∷ placed_by_id txn rest
    else if same_id first.id txn.id then first ∷ rest else txn ∷ (first ∷ rest)

-- each number once, in order
abbrev pub in_id_order : List Transaction → List Transaction
in_id_order [] = []
in_id_order (txn ∷ txns) = placed_by_id txn (in_id_order txns)

-- placed in order of stamp
abbrev pub placed_by_stamp : Transaction → List Transaction → List Transaction
placed_by_stamp txn [] = txn ∷ []
placed_by_stamp txn (first ∷ rest) =
    if is_before first.stamp txn.stamp then first ∷ placed_by_stamp txn rest else txn ∷ (first ∷ rest)

-- the same transactions in order of stamp
abbrev pub in_stamp_order : List Transaction → List Transaction
in_stamp_order [] = []
in_stamp_order (txn ∷ txns) = placed_by_stamp txn (in_stamp_order txns)
