-- Marks: for each client the place up to which its attempts are known to need no more telling, and 0 where there is none.
use Rattle.std.specs.Prelude.{◌<◌, ℕ, Bool, ◌==◌, nat_lt, nat_le, max, List, [], ◌∷◌, fold, if◌then◌else◌}
use Rattle.mk_lists.specs.Among.{Each}
use Rattle.mk_txn.specs.declared.TxnId.{TxnId}

-- from client to mark: the clients ascend, and no mark is 0
abbrev pub MarkMap : Type 0
MarkMap = List (ℕ × ℕ)

-- the mark of a client, 0 where it has none
abbrev pub mark_of : MarkMap → ℕ → ℕ
mark_of [] client = 0
mark_of (first ∷ rest) client = if first.0 == client then first.1 else mark_of rest client

-- the client's mark is at least this, and the others stay
abbrev pub placed : ℕ → ℕ → MarkMap → MarkMap
placed client seq [] = (client, seq) ∷ []
placed client seq (first ∷ rest) =
    if nat_lt first.0 client
    then first ∷ placed client seq rest
    else if first.0 == client then (client, max first.1 seq) ∷ rest else (client, seq) ∷ (first ∷ rest)

-- the greater of the two marks of this client stays, and the others stay as they are
abbrev pub raised : ℕ → ℕ → MarkMap → MarkMap
raised client seq marks = if seq == 0 then marks else placed client seq marks

-- of each client the greater of its two marks
abbrev pub joined_marks : MarkMap → MarkMap → MarkMap
joined_marks marks more = fold (λ all mark. raised mark.0 mark.1 all) marks more

-- whether the attempt is up to its client's mark
abbrev pub covers : MarkMap → TxnId → Bool
covers marks id = nat_le id.seq (mark_of marks id.client)

-- what every map of marks keeps, so that equal marks make equal maps
abbrev pub IsMarkMap : MarkMap → Type 0
IsMarkMap [] = Unit {0}
IsMarkMap (first ∷ rest) = (0 < first.1) × Each (λ later. first.0 < later.0) rest × IsMarkMap rest
