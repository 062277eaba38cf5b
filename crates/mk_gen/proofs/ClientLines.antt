-- The lines of the clients fit, and each client has its number.
use Rattle.std.proofs.Common.{◌≡◌, ℕ, zero, suc, ◌%◌, ◌^◌, ◌<◌, ◌≤◌, Bool, true, false, cond, List, [], ◌∷◌, ◌++◌, length, Option, Some, None, ◌⊎◌, inl, inr, refl, sym, ap, subst, ◌∙◌, arith, length-append, append_assoc, mod-lt}
use Rattle.std.specs.Fmt.{decimal}
use Rattle.std.specs.Str.{bytes_eq}
use Rattle.std.proofs.lemmas.Fmt.{decimal_injective}
use Rattle.std.proofs.lemmas.List.{map-append}
use Rattle.std.proofs.lemmas.Slice.Eq.{bytes_eq-Decides}
use Rattle.mk_spelling.specs.Fields.{place, one_on}
use Rattle.mk_spelling.proofs.PlaceLaws.{place_new, place_stays}
use Rattle.mk_script.specs.declared.lines.ClientLine.{ClientLine}
use Rattle.mk_script.specs.Scripts.{name_of, names_of}
use Rattle.mk_script.specs.Whole.{Prefixed, IsClientBehind, IsOwned}
use Rattle.mk_gen.specs.Generated.{client_name, client_line, client_lines}
use Rattle.mk_gen.proofs.NumberNames.{number_name}

pub length-client_lines : (n : ℕ) → length (client_lines n) ≡ n
length-client_lines zero = refl
length-client_lines (suc n) = omega (arith, length-append (client_lines n) (client_line (suc n) ∷ []), length-client_lines n)

tail_same : (x y : ℕ) (xs ys : List ℕ) → x ∷ xs ≡ y ∷ ys → xs ≡ ys
tail_same x y xs ys e = cc

others : (m n : ℕ) → m < 2 ^ 64 → n < 2 ^ 64 → ¬ (m ≡ n) → bytes_eq (client_name m) (client_name n) ≡ false
others m n a b other = here (bytes_eq (client_name m) (client_name n)) refl
  where
    here : (t : Bool) → bytes_eq (client_name m) (client_name n) ≡ t → t ≡ false
    here true e = absurd (other (decimal_injective m n a b (tail_same 99 99 (decimal m) (decimal n) ((bytes_eq-Decides (client_name m) (client_name n)).0 e))))
    here false e = refl

place-push_other : (w x : List ℕ) (names : List (List ℕ)) → place w names ≡ None → bytes_eq w x ≡ false → place w (names ++ x ∷ []) ≡ None
place-push_other w x [] h e = rw e refl
place-push_other w x (y ∷ ys) h e = here (bytes_eq w y) refl (place w ys) (λ k. place-push_other w x ys k e) h
  where
    here : (t : Bool) → bytes_eq w y ≡ t → (o : Option ℕ) → (o ≡ None → place w (ys ++ x ∷ []) ≡ None) → cond t (Some 0) (one_on o) ≡ None
        → place w (y ∷ (ys ++ x ∷ [])) ≡ None
    here true b o ih k = absurd cc
    here false b (Some m) ih k = absurd cc
    here false b None ih k = rw (b, ih refl) refl

names_more : (n : ℕ) → names_of (client_lines (suc n)) ≡ names_of (client_lines n) ++ client_name (suc n) ∷ []
names_more n = map-append name_of (client_lines n) (client_line (suc n) ∷ [])

-- a later client's name is new
client_is_new : (n k : ℕ) → n < k → k < 2 ^ 32 → place (client_name k) (names_of (client_lines n)) ≡ None
client_is_new zero k above small = refl
client_is_new (suc n) k above small =
    let differ : bytes_eq (client_name k) (client_name (suc n)) ≡ false = others k (suc n) (omega arith) (omega arith) (λ e. omega arith) in
    ap (place (client_name k)) (names_more n) ∙ place-push_other (client_name k) (client_name (suc n)) (names_of (client_lines n)) (client_is_new n k (omega arith) small) differ

length-names : (n : ℕ) → length (names_of (client_lines n)) ≡ n
length-names zero = refl
length-names (suc n) = omega (arith, ap length (names_more n), length-append (names_of (client_lines n)) (client_name (suc n) ∷ []), length-names n)

below_or_last : (a b : ℕ) → a < suc b → (a < b) ⊎ (a ≡ b)
below_or_last a b h = grind arith

client_place : (clients i : ℕ) → i < clients → clients < 2 ^ 32 → place (client_name (suc i)) (names_of (client_lines clients)) ≡ Some i
client_place zero i below small = absurd (omega arith)
client_place (suc n) i below small = here (below_or_last i n below) (λ h. client_place n i h (omega arith))
  where
    last : place (client_name (suc n)) (names_of (client_lines (suc n))) ≡ Some n
    last =
        ap (place (client_name (suc n))) (names_more n) ∙ place_new (client_name (suc n)) (names_of (client_lines n)) (client_is_new n (suc n) (omega arith) small)
        ∙ ap (λ (k : ℕ). Some k) (length-names n)

    here : (i < n) ⊎ (i ≡ n) → (i < n → place (client_name (suc i)) (names_of (client_lines n)) ≡ Some i)
        → place (client_name (suc i)) (names_of (client_lines (suc n))) ≡ Some i
    here (inl h) earlier = ap (place (client_name (suc i))) (names_more n) ∙ place_stays (client_name (suc i)) (names_of (client_lines n)) (client_name (suc n) ∷ []) i (earlier h)
    here (inr e) earlier = subst (λ (k : ℕ). place (client_name (suc k)) (names_of (client_lines (suc n))) ≡ Some k) (sym e) last

-- a client counted from 1
pub client_owned : (clients i : ℕ) → 1 ≤ i → i ≤ clients → clients ≤ 64 → IsOwned (client_lines clients) i
client_owned clients zero low high few = absurd (omega arith)
client_owned clients (suc i) low high few = record {
  name = client_name (suc i);
  well_named = number_name 99 (suc i) refl (omega arith);
  number = ap one_on (client_place clients i (omega arith) (omega arith));
}

Prefixed-push : (size : ℕ) (before : List ClientLine) (lines : List ClientLine) (line : ClientLine) → Prefixed (IsClientBehind size) before lines
    → IsClientBehind size (before ++ lines) line → Prefixed (IsClientBehind size) before (lines ++ line ∷ [])
Prefixed-push size before [] line h k = (subst (λ (x : List ClientLine). IsClientBehind size x line) (append_empty before) k, tt)
  where
    append_empty : (xs : List ClientLine) → xs ++ [] ≡ xs
    append_empty [] = refl
    append_empty (x ∷ xs) = ap (λ (l : List ClientLine). x ∷ l) (append_empty xs)
Prefixed-push size before (x ∷ xs) line h k =
    (h.0, Prefixed-push size (before ++ x ∷ []) xs line h.1 (subst (λ (l : List ClientLine). IsClientBehind size l line) (sym (append_assoc before (x ∷ []) xs)) k))

pub clients_fit : (clients : ℕ) → clients ≤ 64 → Prefixed (IsClientBehind 1) [] (client_lines clients)
clients_fit zero few = tt
clients_fit (suc n) few =
    let column : n % 8 < 8 = mod-lt n (omega arith) in
    let home : suc n % 3 < 3 = mod-lt (suc n) (omega arith) in
    Prefixed-push 1 [] (client_lines n) (client_line (suc n)) (clients_fit n (omega arith)) (record {
      well_named = number_name 99 (suc n) refl (omega arith);
      column_fits = omega arith;
      home_fits = omega arith;
      fresh = client_is_new n (suc n) (omega arith) (omega arith);
    })
