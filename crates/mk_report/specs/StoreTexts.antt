-- What the one copy holds, as lines in byte order of the keys' names.
use Rattle.std.specs.Prelude.{ℕ, ◌+◌, ◌%◌, ◌^◌, Bool, List, [], ◌∷◌, length, sum, if◌then◌else◌}
use Rattle.std.specs.BTreeMap.{insert_entry}
use Rattle.std.specs.List.{flat_map}
use Rattle.std.specs.Cmp.Lexicographic.{slice_cmp}
use Rattle.std.specs.Ordering.{nat_cmp}
use Rattle.mk_txn.specs.declared.Value.{Value}
use Rattle.mk_txn.specs.declared.Value.TheVariants.{Number, Absent}
use Rattle.mk_txn.specs.Stamps.{is_before, zero_stamp}
use Rattle.mk_txn.specs.LatestWrites.{VersionedValue}
use Rattle.mk_model.specs.OneCopy.{Copy, version_in}
use Rattle.mk_report.specs.ReportTexts.{store_text, summed_text}

-- from each name to its number, the names ascending
abbrev pub NameTable : Type 0
NameTable = List (List ℕ × ℕ)

-- the table with these names, the first of which has this number
abbrev pub with_names : ℕ → List (List ℕ) → NameTable → NameTable
with_names number [] table = table
with_names number (name ∷ names) table = with_names (number + 1) names (insert_entry (slice_cmp nat_cmp) table name number)

-- the names by their bytes
abbrev pub by_name : List (List ℕ) → NameTable
by_name names = with_names 0 names []

-- it was written
abbrev pub is_written : VersionedValue → Bool
is_written held = is_before zero_stamp held.version

-- the line of what is held, where it was written
abbrev pub held_text : List ℕ → VersionedValue → List ℕ
held_text name held = if is_written held then store_text name held.version held.value else []

-- the line of a key in the copy
abbrev pub entry_text : Copy → List ℕ × ℕ → List ℕ
entry_text copy entry = held_text entry.0 (version_in copy entry.1)

-- a line for each key that was written and has a number
abbrev pub stores_text : List (List ℕ) → Copy → List ℕ
stores_text keys copy = flat_map (entry_text copy) (by_name keys)

-- the number of a line, where there is one
abbrev pub number_in : Value → List ℕ
number_in (Number n) = n ∷ []
number_in Absent = []

-- the number of what is held, where it was written
abbrev pub held_number : VersionedValue → List ℕ
held_number held = if is_written held then number_in held.value else []

-- the number of a key in the copy
abbrev pub entry_number : Copy → List ℕ × ℕ → List ℕ
entry_number copy entry = held_number (version_in copy entry.1)

-- the numbers of all lines
abbrev pub stored_numbers : List (List ℕ) → Copy → List ℕ
stored_numbers keys copy = flat_map (entry_number copy) (by_name keys)

-- how many lines there are, and what their numbers come to, modulo 2^64
abbrev pub sum_text : List (List ℕ) → Copy → List ℕ
sum_text keys copy = summed_text (length (stored_numbers keys copy)) (sum (stored_numbers keys copy) % 2 ^ 64)
