-- The items of a transaction as words: their parts, and the tests of these.
use Rattle.std.specs.Prelude.{ℕ, Bool, true, false, ◌&&◌, ◌==◌, ◌-◌, ◌^◌, nat_lt, slice_index, List, [], ◌∷◌, length, take, Option, Some, None, Result, Ok, Err, if◌then◌else◌}
use Rattle.mk_spelling.specs.declared.fault.TextFault.{TextFault}
use Rattle.mk_spelling.specs.declared.fault.TextFault.TheVariants as faults
use Rattle.mk_spelling.specs.Words.{cut, is_name, number}
use Rattle.mk_spelling.specs.Fields.{◌>>=◌, ◌>>◌, need, found, named}
use Rattle.mk_script.specs.LineWords.{proc_text, proc_list}
use Rattle.mk_script.specs.Grammar.{Mention}
use Rattle.mk_script.specs.Grammar.Mention.{Reads, Writes, Computes, Deletes}

-- the parts of an item
pub data Shape : Type 0 where
  ReadShape : List ℕ → Shape
  WriteShape : List ℕ → List ℕ → Shape
  ComputeShape : List ℕ → List ℕ → List ℕ → Shape
  DeleteShape : List ℕ → Shape

-- what stands before the bracket at the end
abbrev pub closed : List ℕ → Option (List ℕ)
closed text = if nat_lt 0 (length text) && slice_index text (length text - 1) == 41 then Some (take (length text - 1) text) else None

-- a computed write, where its bracket is closed
abbrev pub argument_shape : List ℕ → List ℕ → Option (List ℕ) → Option Shape
argument_shape key proc None = None
argument_shape key proc (Some n) = Some (ComputeShape key proc n)

-- a computed write, where its bracket is opened
abbrev pub call_shape : List ℕ → Option (List ℕ × List ℕ) → Option Shape
call_shape key None = None
call_shape key (Some p) = argument_shape key p.0 (closed p.1)

-- behind c: a key up to the first =, a procedure up to the first ( behind it, and an argument up to ) at the end
abbrev pub compute_shape : Option (List ℕ × List ℕ) → Option Shape
compute_shape None = None
compute_shape (Some p) = call_shape p.0 (cut 40 p.1)

-- behind w: a key up to the first =, and a value
abbrev pub write_shape : Option (List ℕ × List ℕ) → Option Shape
write_shape None = None
write_shape (Some p) = Some (WriteShape p.0 p.1)

-- what stands behind the colon, by the letter before it
abbrev pub shape_behind : ℕ → List ℕ → Option Shape
shape_behind mark rest =
    if mark == 114 then Some (ReadShape rest)
    else (if mark == 119 then write_shape (cut 61 rest)
    else (if mark == 99 then compute_shape (cut 61 rest)
    else (if mark == 100 then Some (DeleteShape rest) else None)))

-- a letter and a colon, and what stands behind them
abbrev pub shape : List ℕ → Option Shape
shape [] = None
shape (mark ∷ []) = None
shape (mark ∷ colon ∷ rest) = if colon == 58 then shape_behind mark rest else None

-- only version 2 has d:
abbrev pub fits_version : ℕ → Option Shape → Bool
fits_version version None = false
fits_version version (Some (DeleteShape key)) = version == 2
fits_version version (Some (ReadShape key)) = true
fits_version version (Some (WriteShape key n)) = true
fits_version version (Some (ComputeShape key proc n)) = true

-- each word has an item's form
abbrev pub are_items : ℕ → List (List ℕ) → Bool
are_items version [] = true
are_items version (word ∷ more) = fits_version version (shape word) && are_items version more

-- the mention that a shape stands for: its number first, then its key, then its procedure
abbrev pub mention_of : Option Shape → Result Mention TextFault
mention_of None = Err faults.Form
mention_of (Some (ReadShape key)) = do
  need (is_name key) faults.Name
  Ok (Reads key)
mention_of (Some (DeleteShape key)) = do
  need (is_name key) faults.Name
  Ok (Deletes key)
mention_of (Some (WriteShape key word)) = do
  n ← number 0 (2 ^ 64 - 1) word
  need (is_name key) faults.Name
  Ok (Writes key n)
mention_of (Some (ComputeShape key proc word)) = do
  n ← number 0 (2 ^ 64 - 1) word
  need (is_name key) faults.Name
  kind ← found faults.Unknown (named proc_text proc_list proc)
  Ok (Computes key kind n)

-- the mentions that words stand for, each tested before the next
abbrev pub mentions_of : List (List ℕ) → Result (List Mention) TextFault
mentions_of [] = Ok []
mentions_of (word ∷ more) = do
  first ← mention_of (shape word)
  others ← mentions_of more
  Ok (first ∷ others)
