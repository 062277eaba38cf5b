-- A name is text.
use Rattle.std.proofs.Common.{◌≡◌, ℕ, ◌<◌, true, leb, ◌&&◌, List, [], ◌∷◌, length, get_or, zero, suc, refl, arith}
use Rattle.std.specs.Str.{IsUtf8}
use Rattle.std.proofs.lemmas.Str.{IsUtf8-from_ascii}
use Rattle.std.proofs.lemmas.Bool.Decides.{nat_tests}
use Rattle.mk_spelling.specs.Words.{is_name, is_letter, is_name_byte, are_name_bytes}
use Rattle.std.proofs.lemmas.Bool.{and_parts}

name_byte_below : (b : ℕ) → is_name_byte b ≡ true → b < 128
name_byte_below b e = grind (arith, nat_tests)

IsAscii-name_bytes : (bs : List ℕ) (i : ℕ) → are_name_bytes bs ≡ true → get_or bs i 0 < 128
IsAscii-name_bytes [] i e = omega arith
IsAscii-name_bytes (b ∷ bs) zero e = name_byte_below b (and_parts (is_name_byte b) (are_name_bytes bs) e).0
IsAscii-name_bytes (b ∷ bs) (suc i) e = IsAscii-name_bytes bs i (and_parts (is_name_byte b) (are_name_bytes bs) e).1

IsAscii-name : (word : List ℕ) (i : ℕ) → is_name word ≡ true → get_or word i 0 < 128
IsAscii-name [] i e = omega arith
IsAscii-name (b ∷ bs) zero e =
    let h = and_parts (is_letter b && leb (length bs) 15) (are_name_bytes bs) e in
    let k = and_parts (is_letter b) (leb (length bs) 15) h.0 in
    name_byte_below b (rw k.0 refl)
IsAscii-name (b ∷ bs) (suc i) e = IsAscii-name_bytes bs i (and_parts (is_letter b && leb (length bs) 15) (are_name_bytes bs) e).1

pub IsUtf8-name : (word : List ℕ) → is_name word ≡ true → IsUtf8 word
IsUtf8-name word e = IsUtf8-from_ascii word (λ i. IsAscii-name word i e)
