-- The JSON of a run has no floats.
use Rattle.std.proofs.Common.{◌≡◌, ◌∙◌, ℕ, Bool, true, false, ◌||◌, refl, ap, List, [], ◌∷◌, Option, Some, None, map, if◌then◌else◌}
use Rattle.std.specs.List.{flat_map}
use Rattle.serde_json.specs.Data.{Data}
use Rattle.serde_json.specs.View.{items_of}
use Rattle.serde_json.specs.Written.{has_float, items_have_float}
use Rattle.mk_lists.specs.Among.{Each, Each-append}
use Rattle.mk_txn.specs.declared.Stamp.{Stamp}
use Rattle.mk_txn.specs.declared.Value.{Value}
use Rattle.mk_txn.specs.declared.Value.TheVariants.{Number, Absent}
use Rattle.mk_txn.specs.declared.ReadItem.{ReadItem}
use Rattle.mk_txn.specs.declared.WriteItem.{WriteItem}
use Rattle.mk_txn.specs.declared.Outcome.TheVariants.{Commit, Abort}
use Rattle.mk_model.specs.OneCopy.{Copy, version_in}
use Rattle.mk_history.specs.declared.RoundLog.{RoundLog}
use Rattle.mk_history.specs.declared.State.{State}
use Rattle.mk_history.specs.declared.State.TheVariants.{Learned, Left}
use Rattle.mk_run.specs.declared.line.AttemptLine.{AttemptLine}
use Rattle.mk_report.specs.StoreTexts.{is_written, by_name}
use Rattle.mk_report.specs.JsonValues.{list_data, value_data, read_data, write_data, stamp_data, cause_data, attempt_data, global_data, round_data, store_data, entry_data, stores_data}
use Rattle.mk_report.specs.WholeJson.{run_data}

-- ---- lists and objects

abbrev HasNone : Data → Type 0
HasNone d = has_float d ≡ false

neither : {a b : Bool} → a ≡ false → b ≡ false → (a || b) ≡ false
neither {a} {b} p q = ap (λ (x : Bool). x || b) p ∙ q

items-none : (values : List Data) → Each HasNone values → items_have_float (items_of values) ≡ false
items-none [] h = refl
items-none (d ∷ ds) h = neither {a = has_float d} {b = items_have_float (items_of ds)} h.0 (items-none ds h.1)

list-none : (values : List Data) → Each HasNone values → HasNone (list_data values)
list-none values h = items-none values h

-- the last of several that may have some
last : {a : Bool} → a ≡ false → (a || false) ≡ false
last {a} p = neither {a = a} {b = false} p refl

each-none : {X : Type 0} (f : X → Data) → ((x : X) → HasNone (f x)) → (xs : List X) → Each HasNone (map f xs)
each-none f h [] = tt
each-none f h (x ∷ xs) = (h x, each-none f h xs)

all-none : {X : Type 0} (f : X → List Data) → ((x : X) → Each HasNone (f x)) → (xs : List X) → Each HasNone (flat_map f xs)
all-none f h [] = tt
all-none f h (x ∷ xs) = Each-append HasNone (f x) (flat_map f xs) (h x) (all-none f h xs)

-- ---- attempts

value-none : (value : Value) → HasNone (value_data value)
value-none (Number n) = refl
value-none Absent = refl

read-none : (keys : List (List ℕ)) (item : ReadItem) → HasNone (read_data keys item)
read-none keys item = last {a = has_float (value_data item.value)} (value-none item.value)

write-none : (keys : List (List ℕ)) (item : WriteItem) → HasNone (write_data keys item)
write-none keys item = last {a = has_float (value_data item.value)} (value-none item.value)

stamp-none : (stamp : Option Stamp) → HasNone (stamp_data stamp)
stamp-none None = refl
stamp-none (Some stamp) = refl

cause-none : (keys : List (List ℕ)) (state : State) → HasNone (cause_data keys state)
cause-none keys (Learned Commit path) = refl
cause-none keys (Learned (Abort cause) path) = refl
cause-none keys (Left left) = refl

attempt-none : (clients keys : List (List ℕ)) (a : AttemptLine) → HasNone (attempt_data clients keys a)
attempt-none clients keys a =
    let reads = list_data (map (read_data keys) a.reads) in
    let writes = list_data (map (write_data keys) a.writes) in
    let read : HasNone reads = list-none (map (read_data keys) a.reads) (each-none (read_data keys) (read-none keys) a.reads) in
    let written : HasNone writes = list-none (map (write_data keys) a.writes) (each-none (write_data keys) (write-none keys) a.writes) in
    let behind : (has_float (stamp_data a.stamp) || (has_float writes || false)) ≡ false = neither (stamp-none a.stamp) (last written) in
    let lists : (has_float reads || (has_float (stamp_data a.stamp) || (has_float writes || false))) ≡ false = neither read behind in
    neither (cause-none keys a.state) lists

-- ---- global lines and stores

round-none : (round : RoundLog) → Each HasNone (round_data round)
round-none round = each-none global_data (λ entry. refl) round.globals

store-none : (name : List ℕ) (version : Stamp) (value : Value) → Each HasNone (store_data name version value)
store-none name version (Number n) = (refl, tt)
store-none name version Absent = tt

entry-none : (copy : Copy) (entry : List ℕ × ℕ) → Each HasNone (entry_data copy entry)
entry-none copy entry = by (is_written (version_in copy entry.1))
  where
    by : (b : Bool) → Each HasNone (if b then store_data entry.0 (version_in copy entry.1).version (version_in copy entry.1).value else [])
    by true = store-none entry.0 (version_in copy entry.1).version (version_in copy entry.1).value
    by false = tt

stores-none : (keys : List (List ℕ)) (copy : Copy) → Each HasNone (stores_data keys copy)
stores-none keys copy = all-none (entry_data copy) (entry-none copy) (by_name keys)

-- ---- the run

pub run-none : (clients keys : List (List ℕ)) (lines : List AttemptLine) (rounds : List RoundLog) (copy : Copy) → has_float (run_data clients keys lines rounds copy) ≡ false
run-none clients keys lines rounds copy =
    let attempts = list_data (map (attempt_data clients keys) lines) in
    let globals = list_data (flat_map round_data rounds) in
    let stores = list_data (stores_data keys copy) in
    let told : HasNone attempts = list-none (map (attempt_data clients keys) lines) (each-none (attempt_data clients keys) (attempt-none clients keys) lines) in
    let changed : HasNone globals = list-none (flat_map round_data rounds) (all-none round_data round-none rounds) in
    let stored : HasNone stores = list-none (stores_data keys copy) (stores-none keys copy) in
    let behind : (has_float globals || (has_float stores || false)) ≡ false = neither changed (last stored) in
    neither told behind
