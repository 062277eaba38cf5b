-- Words of a line, names and numbers.
use Rattle.std.specs.Prelude.{◌^◌, ℕ, Bool, true, false, ◌&&◌, ◌||◌, ◌==◌, nat_lt, nat_le, List, [], ◌∷◌, length, Option, Some, None, Result, Ok, Err, if◌then◌else◌}
use Rattle.std.specs.List.{slice_split, list_all}
use Rattle.std.specs.Str.Parse.{digits_value}
use Rattle.std.specs.Borrow.{Bor}
use Rattle.mk_spelling.specs.declared.fault.TextFault.{TextFault}
use Rattle.mk_spelling.specs.declared.fault.TextFault.TheVariants.{Number, Large}

-- a cut with one byte more in front
abbrev pub longer : ℕ → Option (List ℕ × List ℕ) → Option (List ℕ × List ℕ)
longer b None = None
longer b (Some p) = Some (b ∷ p.0, p.1)

-- what stands before the first such byte, and what stands behind it
abbrev pub cut : ℕ → List ℕ → Option (List ℕ × List ℕ)
cut mark [] = None
cut mark (b ∷ bs) = if b == mark then Some ([], bs) else longer b (cut mark bs)

-- what a cut that borrows stands for
abbrev pub seen : Option (Bor (List ℕ) × Bor (List ℕ)) → Option (List ℕ × List ℕ)
seen None = None
seen (Some p) = Some (p.0.now, p.1.now)

-- the words of a line: its parts between spaces
abbrev pub words : List ℕ → List (List ℕ)
words line = slice_split (λ b. b == 32) line

-- the words of the text that is left, and none where no space follows
abbrev pub words_behind : Option (Bor (List ℕ)) → List (List ℕ)
words_behind None = []
words_behind (Some rest) = words rest.now

-- a first word, and the words behind it
abbrev pub first_and_rest : Bor (List ℕ) × Option (Bor (List ℕ)) → List (List ℕ)
first_and_rest p = p.0.now ∷ words_behind p.1

-- the words that borrowed parts stand for
abbrev pub seen_one : Option (Bor (List ℕ)) → Option (List ℕ)
seen_one None = None
seen_one (Some a) = Some a.now

abbrev pub seen_three : Option (Bor (List ℕ) × Bor (List ℕ) × Bor (List ℕ)) → Option (List ℕ × List ℕ × List ℕ)
seen_three None = None
seen_three (Some p) = Some (p.0.now, p.1.now, p.2.now)

abbrev pub seen_four : Option (Bor (List ℕ) × Bor (List ℕ) × Bor (List ℕ) × Bor (List ℕ)) → Option (List ℕ × List ℕ × List ℕ × List ℕ)
seen_four None = None
seen_four (Some p) = Some (p.0.now, p.1.now, p.2.now, p.3.now)

abbrev pub seen_five : Option (Bor (List ℕ) × Bor (List ℕ) × Bor (List ℕ) × Bor (List ℕ) × Bor (List ℕ)) → Option (List ℕ × List ℕ × List ℕ × List ℕ × List ℕ)
seen_five None = None
seen_five (Some p) = Some (p.0.now, p.1.now, p.2.now, p.3.now, p.4.now)

-- two borrowed words, and the words of the text behind them
abbrev pub seen_more : Option (Bor (List ℕ) × Bor (List ℕ) × Bor (List ℕ)) → Option (List ℕ × List ℕ × List (List ℕ))
seen_more None = None
seen_more (Some p) = Some (p.0.now, p.1.now, words p.2.now)

-- it has no bytes
abbrev pub is_empty : List ℕ → Bool
is_empty [] = true
is_empty (b ∷ bs) = false

-- no words are left
abbrev pub none_left : List (List ℕ) → Bool
none_left [] = true
none_left (w ∷ ws) = false

-- each byte is printable ASCII
abbrev pub is_printable : List ℕ → Bool
is_printable line = list_all (λ b. nat_le 32 b && nat_le b 126) line

-- ---- numbers

-- each byte is a decimal digit
abbrev pub are_digits : List ℕ → Bool
are_digits word = list_all (λ b. nat_le 48 b && nat_le b 57) word

-- 0, or digits that do not begin with 0
abbrev pub is_number : List ℕ → Bool
is_number [] = false
is_number (b ∷ bs) = if b == 48 then length bs == 0 else are_digits (b ∷ bs)

-- what decimal digits stand for
abbrev pub value : List ℕ → ℕ
value word = digits_value 10 word

-- the same, where it is below 2^64
abbrev pub small_value : List ℕ → Option ℕ
small_value word = if nat_lt (value word) (2 ^ 64) then Some (value word) else None

-- a value from low to high, else Large
abbrev pub ranged : ℕ → ℕ → ℕ → Result ℕ TextFault
ranged low high n = if nat_le low n && nat_le n high then Ok n else Err Large

-- the number from low to high that the word is, else Number or Large
abbrev pub number : ℕ → ℕ → List ℕ → Result ℕ TextFault
number low high word = if is_number word then ranged low high (value word) else Err Number

-- ---- names

-- a to z
abbrev pub is_letter : ℕ → Bool
is_letter b = nat_le 97 b && nat_le b 122

-- a to z, 0 to 9 and the underscore
abbrev pub is_name_byte : ℕ → Bool
is_name_byte b = is_letter b || (nat_le 48 b && nat_le b 57) || b == 95

-- each byte may stand in a name behind its first
abbrev pub are_name_bytes : List ℕ → Bool
are_name_bytes bytes = list_all is_name_byte bytes

-- a letter, and at most 15 letters, digits and underscores
abbrev pub is_name : List ℕ → Bool
is_name [] = false
is_name (b ∷ bs) = is_letter b && nat_le (length bs) 15 && are_name_bytes bs
