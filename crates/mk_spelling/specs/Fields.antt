-- Tests that follow one another, and the fields of a line.
use Rattle.std.specs.Prelude.{ℕ, suc, Bool, true, false, List, [], ◌∷◌, Option, Some, None, Result, Ok, Err, if◌then◌else◌}
use Rattle.std.specs.Str.{bytes_eq}
use Rattle.mk_spelling.specs.declared.fault.TextFault.{TextFault}

-- a test that passed, and what is made of its value
infixl 10 ◌>>=◌
abbrev pub ◌>>=◌ : {A B : Type 0} → Result A TextFault → (A → Result B TextFault) → Result B TextFault
(Ok x) >>= f = f x
(Err e) >>= f = Err e

-- a test that passed, and the next one
infixl 10 ◌>>◌
abbrev pub ◌>>◌ : {A B : Type 0} → Result A TextFault → Result B TextFault → Result B TextFault
(Ok x) >> r = r
(Err e) >> r = Err e

-- passes where the test does, and else has the fault
abbrev pub need : Bool → TextFault → Result (Unit {0}) TextFault
need true fault = Ok tt
need false fault = Err fault

-- a place in a list, seen from one member before it
abbrev pub one_on : Option ℕ → Option ℕ
one_on None = None
one_on (Some n) = Some (suc n)

-- the first place of a text in a list
abbrev pub place : List ℕ → List (List ℕ) → Option ℕ
place word [] = None
place word (x ∷ xs) = if bytes_eq word x then Some 0 else one_on (place word xs)

-- a value that has to be there, and else the fault
abbrev pub found : {A : Type 0} → TextFault → Option A → Result A TextFault
found fault None = Err fault
found fault (Some x) = Ok x

-- the value among these that is written so
abbrev pub named : {A : Type 0} → (A → List ℕ) → List A → List ℕ → Option A
named text [] word = None
named text (x ∷ xs) word = if bytes_eq (text x) word then Some x else named text xs word

-- just so many words
abbrev pub one_of : List (List ℕ) → Option (List ℕ)
one_of (a ∷ []) = Some a
one_of _ = None

abbrev pub two_of : List (List ℕ) → Option (List ℕ × List ℕ)
two_of (a ∷ b ∷ []) = Some (a, b)
two_of _ = None

abbrev pub three_of : List (List ℕ) → Option (List ℕ × List ℕ × List ℕ)
three_of (a ∷ b ∷ c ∷ []) = Some (a, b, c)
three_of _ = None

abbrev pub four_of : List (List ℕ) → Option (List ℕ × List ℕ × List ℕ × List ℕ)
four_of (a ∷ b ∷ c ∷ d ∷ []) = Some (a, b, c, d)
four_of _ = None

abbrev pub five_of : List (List ℕ) → Option (List ℕ × List ℕ × List ℕ × List ℕ × List ℕ)
five_of (a ∷ b ∷ c ∷ d ∷ e ∷ []) = Some (a, b, c, d, e)
five_of _ = None

-- two words, and at least one more
abbrev pub two_and_more : List (List ℕ) → Option (List ℕ × List ℕ × List (List ℕ))
two_and_more (a ∷ b ∷ c ∷ more) = Some (a, b, c ∷ more)
two_and_more _ = None
