-- A text as lines: the first faulty line and its fault.
use Rattle.std.specs.Prelude.{ℕ, ◌+◌, ◌-◌, ◌^◌, List, [], ◌∷◌, ◌==◌, nat_lt, length, Result, Ok, Err, if◌then◌else◌}
use Rattle.std.specs.List.{slice_split}
use Rattle.mk_spelling.specs.declared.fault.TextFault.{TextFault}
use Rattle.mk_spelling.specs.declared.fault.TextFault.TheVariants.{Cut}

-- a line's number and its fault
abbrev pub Refusal : Type 0
Refusal = ℕ × TextFault

-- the number of the line behind this one; at the end of 64 bits it stands still
abbrev pub next_number : ℕ → ℕ
next_number n = if nat_lt n (2 ^ 64 - 1) then n + 1 else n

-- the line of this number, and how to go on behind it
abbrev pub go_on : {S : Type 0} → ℕ → Result S TextFault → (S → Result S Refusal) → Result S Refusal
go_on n (Ok s) next = next s
go_on n (Err fault) next = Err (n, fault)

-- the parts of a text between line feeds, the last of which must be empty
abbrev pub read_parts : {S : Type 0} → (S → List ℕ → Result S TextFault) → (S → Result S TextFault) → S → ℕ → List (List ℕ) → Result S Refusal
read_parts line close s n [] = Ok s
read_parts line close s n (part ∷ []) = if length part == 0 then go_on n (close s) (λ t. Ok t) else Err (n, Cut)
read_parts line close s n (part ∷ next ∷ more) = go_on n (line s part) (λ t. read_parts line close t (next_number n) (next ∷ more))

-- line: what a line does to what was read above it; close: whether the text may end there
abbrev pub read_text : {S : Type 0} → (S → List ℕ → Result S TextFault) → (S → Result S TextFault) → S → List ℕ → Result S Refusal
read_text line close s bytes = read_parts line close s 1 (slice_split (λ b. b == 10) bytes)
