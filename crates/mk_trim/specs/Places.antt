-- Places in a list of outcomes that stand in order of attempt.
use Rattle.std.specs.Prelude.{ℕ, suc, Bool, false, [], ◌∷◌, if◌then◌else◌}
use Rattle.mk_txn.specs.declared.TxnId.{TxnId}
use Rattle.mk_txn.specs.Transactions.{id_before, same_id}
use Rattle.mk_words.specs.KeptOutcomes.{Outcomes}

-- how many at the front are before this attempt
abbrev pub place_of : TxnId → Outcomes → ℕ
place_of id [] = 0
place_of id (first ∷ rest) = if id_before first.0 id then suc (place_of id rest) else 0

-- whether the attempt has an outcome, at its place
abbrev pub has_outcome : TxnId → Outcomes → Bool
has_outcome id [] = false
has_outcome id (first ∷ rest) = if id_before first.0 id then has_outcome id rest else same_id first.0 id
