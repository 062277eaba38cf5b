-- What several calls, one after another, took of the known bytes or added to them.
use Rattle.std.proofs.Common.{◌≡◌, ℕ, ◌+◌, ◌-◌, ◌<◌, ◌≤◌, min, List, ◌++◌, Option, None, Some, length, take, drop, refl, sym, ap, subst, ◌∙◌, arith, append_assoc, length-append, length-take, length-take-le, length-drop, take-append-drop, drop_of_length-le, take_at, drop_at}
use Rattle.std.proofs.lemmas.List.{take_rest}
use Rattle.std.specs.Io.KnownBytes.{Appends, Consumes, IsAtEnd, Keeps}
use Rattle.std.proofs.KnownBytes.{Appends-kept, Consumes-trans}
use Rattle.mk_io.specs.Wholes.{TakesCount, AppendsPart}

-- what was consumed was taken
pub TakesCount-from_consumed :
    (old new : Option (List ℕ)) (bytes : List ℕ) (count : ℕ) → length bytes ≡ count → Consumes old new bytes → TakesCount old new count
TakesCount-from_consumed None new bytes count n c = tt
TakesCount-from_consumed (Some left) None bytes count n c = absurd c
TakesCount-from_consumed (Some left) (Some rest) bytes count n c =
    let all : length left ≡ length bytes + length rest = ap length c ∙ length-append bytes rest in
    (omega arith, ap Some (sym (ap (drop count) c ∙ drop_at bytes rest count n)))

-- two readings, one after the other, took this many
pub TakesCount-after_two :
    (old mid new : Option (List ℕ)) (front part : List ℕ) (count : ℕ) → Consumes old mid front → Consumes mid new part
    → length front + length part ≡ count → TakesCount old new count
TakesCount-after_two old mid new front part count c d n =
    TakesCount-from_consumed _ _ (front ++ part) count (length-append front part ∙ n) (Consumes-trans _ _ _ _ _ c d)

-- after a front of the text was taken, the next call failed
pub AppendsPart-after_failure :
    (old mid new : Option (List ℕ)) (text taken rest : List ℕ) → text ≡ taken ++ rest → 0 < length rest
    → Appends old mid taken → Keeps mid new → AppendsPart old new text
AppendsPart-after_failure old mid new text taken rest split more a k =
    let all : length text ≡ length taken + length rest = ap length split ∙ length-append taken rest in
    let front : take (length taken) text ≡ taken = ap (take (length taken)) split ∙ take_at taken rest (length taken) refl in
    (length taken, omega arith, subst (Appends old new) (sym front) (Appends-kept _ _ _ _ a k))

-- the text is what was taken and the rest, of which the next part is taken now
pub split-more :
    (text taken rest : List ℕ) (n : ℕ) → text ≡ taken ++ rest → text ≡ (taken ++ take n rest) ++ take (length rest - n) (drop n rest)
split-more text taken rest n split =
    split ∙ ap (λ bytes. taken ++ bytes) (sym (take-append-drop n rest)) ∙ sym (append_assoc taken (take n rest) (drop n rest))
    ∙ ap (λ bytes. (taken ++ take n rest) ++ bytes) (sym (take_rest rest n))

-- a read of a known front takes it, and takes nothing only where no byte is left or there is no room
pub ReadConsumes-from_front :
    (left buf : List ℕ) (piece count : ℕ) → 0 < piece → count ≡ min (min piece (length buf)) (length left)
    → Consumes (Some left) (Some (drop count left)) (take count (take count left ++ drop count buf))
    × (count ≡ 0 → 0 < length (take count left ++ drop count buf) → IsAtEnd (Some (drop count left)))
ReadConsumes-from_front left buf piece count p e =
    let n : length (take count left) ≡ count = length-take-le count left (omega arith) in
    (sym (ap (λ bytes. bytes ++ drop count left) (take_at (take count left) (drop count buf) count n) ∙ take-append-drop count left), at_end)
  where
    at_end : count ≡ 0 → 0 < length (take count left ++ drop count buf) → IsAtEnd (Some (drop count left))
    at_end z room =
        let size : length (take count left ++ drop count buf) ≡ length buf = grind (arith, length-append, length-take, length-drop) in
        let none : length left ≤ count = omega arith in
        drop_of_length-le left {i = count} none
