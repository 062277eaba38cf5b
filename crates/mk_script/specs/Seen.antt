-- What the code's borrowed items stand for, and what a call that reads a line leaves.
use Rattle.std.specs.Prelude.{◌≡◌, ◌<◌, nat_lt, nat_le, map, List, [], length, min, ℕ, Option, Some, None, Result, Ok, Err}
use Rattle.mk_spelling.specs.declared.fault.TextFault.{TextFault}
use Rattle.mk_spelling.specs.declared.fault.TextFault.TheVariants.{Many}
use Rattle.mk_spelling.specs.Fields.{◌>>◌, need}
use Rattle.mk_script.specs.declared.items.ItemShape.{ItemShape}
use Rattle.mk_script.specs.declared.items.ItemShape.TheVariants as shapes
use Rattle.mk_script.specs.declared.items.Named.{Named}
use Rattle.mk_script.specs.declared.items.Named.TheVariants as names
use Rattle.mk_script.specs.declared.error.LineError.{LineError}
use Rattle.mk_script.specs.declared.error.LineError.TheVariants as errors
use Rattle.mk_script.specs.Scripts.{State, txn_count, total}
use Rattle.mk_script.specs.Grammar.{Mention, keys_after, item_of, with_txn}
use Rattle.mk_script.specs.Grammar.Mention.{Reads, Writes, Computes, Deletes}
use Rattle.mk_script.specs.ItemShapes.{Shape, mentions_of}
use Rattle.mk_script.specs.ItemShapes.Shape.{ReadShape, WriteShape, ComputeShape, DeleteShape}

-- the parts of an item's word
abbrev pub shape_view : ItemShape → Shape
shape_view (shapes.Read key) = ReadShape key.now
shape_view (shapes.Write key n) = WriteShape key.now n.now
shape_view (shapes.Compute key proc n) = ComputeShape key.now proc.now n.now
shape_view (shapes.Delete key) = DeleteShape key.now

-- the same, where there are any
abbrev pub seen_shape : Option ItemShape → Option Shape
seen_shape None = None
seen_shape (Some sh) = Some (shape_view sh)

-- an item with its key's name
abbrev pub mention_view : Named → Mention
mention_view (names.Read key) = Reads key.now
mention_view (names.Write key n) = Writes key.now n
mention_view (names.Compute key proc n) = Computes key.now proc n
mention_view (names.Delete key) = Deletes key.now

-- the same, or the fault
abbrev pub seen_named : Result Named TextFault → Result Mention TextFault
seen_named (Ok m) = Ok (mention_view m)
seen_named (Err fault) = Err fault

-- how many items there are, up to 17, where each passes its tests
abbrev pub counted : Result (List Mention) TextFault → Result ℕ TextFault
counted (Ok ms) = Ok (min 17 (length ms))
counted (Err fault) = Err fault

-- none, where one does not pass
abbrev pub ok_or_nil : Result (List Mention) TextFault → List Mention
ok_or_nil (Ok ms) = ms
ok_or_nil (Err fault) = []

-- the items of words that pass their tests
abbrev pub mentioned : List (List ℕ) → List Mention
mentioned ws = ok_or_nil (mentions_of ws)

-- why keys were not numbered: memory, or more keys than there may be
abbrev pub IsFull : LineError → List (List ℕ) → Type 0
IsFull errors.Memory keys = Unit {0}
IsFull (errors.Fault fault) keys = (fault ≡ Many) × (256 < length keys)

-- a transaction of a known client, with items that pass their tests
abbrev pub added_txn : State → ℕ → ℕ → List Mention → Result State TextFault
added_txn s client clock ms = do
  need (nat_le (length (keys_after s.keys ms)) 256) Many
  need (nat_lt (total txn_count s) 4096) Many
  Ok (with_txn s (keys_after s.keys ms) (record { client = client; clock = clock; items = map (item_of (keys_after s.keys ms)) ms }))

-- a call left new, and answered what the definition answers, unless memory ran out
-- a fault is the one that the definition answers
abbrev pub Fails : LineError → Result State TextFault → Type 0
Fails errors.Memory answer = Unit {0}
Fails (errors.Fault fault) answer = answer ≡ Err fault

abbrev pub Meets : Result (Unit {0}) LineError → State → Result State TextFault → Type 0
Meets (Ok u) new answer = answer ≡ Ok new
Meets (Err e) new answer = Fails e answer
