-- Tables and sums with one member more.
use Rattle.std.proofs.Common.{◌≡◌, ℕ, zero, suc, ◌+◌, ◌≤◌, max, Bool, true, false, cond, not, List, [], ◌∷◌, ◌++◌, length, map, replicate, Option, Some, None, refl, sym, ap, ◌∙◌, arith, inl, inr}
use Rattle.std.specs.Prelude.{is_some, sum, count_by}
use Rattle.std.specs.List.{list_all}
use Rattle.std.specs.Str.{bytes_eq}
use Rattle.std.proofs.lemmas.Bool.{and_from, and_parts}
use Rattle.std.proofs.lemmas.List.{map-append}
use Rattle.std.proofs.lemmas.List.Folds.{list_all-append}
use Rattle.std.proofs.lemmas.List.Sums.{sum_by-append}
use Rattle.std.proofs.lemmas.Slice.Eq.{bytes_eq-Decides}
use Rattle.mk_lists.specs.Among.{Among, Each}
use Rattle.mk_spelling.specs.Fields.{place, one_on}
use Rattle.mk_words.specs.declared.Step.{Step}
use Rattle.mk_words.specs.declared.JournalEntry.{JournalEntry}
use Rattle.mk_history.specs.declared.RoundLog.{RoundLog}
use Rattle.mk_history.specs.Shape.{columns_of, begins_of}
use Rattle.mk_trace_text.specs.States.{extended, journaled}

-- ---- lists

pub columns-push : (columns : List ℕ) (c : ℕ) → columns_of (columns ++ c ∷ []) ≡ max (c + 1) (columns_of columns)
columns-push [] c = refl
columns-push (x ∷ xs) c = ap (max (x + 1)) (columns-push xs c) ∙ swap (x + 1) (c + 1) (columns_of xs)
  where
    swap : (a b d : ℕ) → max a (max b d) ≡ max b (max a d)
    swap a b d = omega arith

-- a new name does not stand among the others
pub not_among : (names : List (List ℕ)) (w : List ℕ) → not (is_some (place w names)) ≡ true → ¬ Among w names
not_among [] w e = λ a. a
not_among (x ∷ xs) w e = here (bytes_eq w x) refl (place w xs) (not_among xs w) e
  where
    here : (b : Bool) → bytes_eq w x ≡ b → (o : Option ℕ) → (not (is_some o) ≡ true → ¬ Among w xs) → not (is_some (cond b (Some 0) (one_on o))) ≡ true
        → ¬ Among w (x ∷ xs)
    here true b o ih k = absurd cc
    here false b (Some n) ih k = absurd cc
    here false b None ih k = λ a. elim a [ inl same ↦ other b same | inr c ↦ ih refl c ]
      where
        other : bytes_eq w x ≡ false → x ≡ w → ⊥
        other differs same = absurd (cc (differs, (bytes_eq-Decides w x).1 (sym same)))

pub each_replicate : {A : Type 0} (P : A → Type 0) (n : ℕ) (x : A) → P x → Each P (replicate n x)
each_replicate P zero x h = tt
each_replicate P (suc n) x h = (h, each_replicate P n x h)

pub all_replicate : {A : Type 0} (p : A → Bool) (n : ℕ) (x : A) → p x ≡ true → list_all p (replicate n x) ≡ true
all_replicate p zero x h = refl
all_replicate p (suc n) x h = and_from (p x) (list_all p (replicate n x)) h (all_replicate p n x h)

pub extended-length : {A : Type 0} (ls : List (List A)) (i : ℕ) (x : A) → length (extended ls i x) ≡ length ls
extended-length [] i x = refl
extended-length (l ∷ ls) zero x = refl
extended-length (l ∷ ls) (suc i) x = ap suc (extended-length ls i x)

pub all-push : {A : Type 0} (p : A → Bool) (xs : List A) (x : A) → list_all p xs ≡ true → p x ≡ true → list_all p (xs ++ x ∷ []) ≡ true
all-push p xs x h k = list_all-append p xs (x ∷ []) ∙ and_from (list_all p xs) (list_all p (x ∷ [])) h (and_from (p x) true k refl)

pub extended-all : {A : Type 0} (p : A → Bool) (ls : List (List A)) (i : ℕ) (x : A) → list_all (list_all p) ls ≡ true → p x ≡ true
    → list_all (list_all p) (extended ls i x) ≡ true
extended-all p [] i x h k = refl
extended-all p (l ∷ ls) zero x h k =
    let q = and_parts (list_all p l) (list_all (list_all p) ls) h in
    and_from (list_all p (l ++ x ∷ [])) (list_all (list_all p) ls) (all-push p l x q.0 k) q.1
extended-all p (l ∷ ls) (suc i) x h k =
    let q = and_parts (list_all p l) (list_all (list_all p) ls) h in
    and_from (list_all p l) (list_all (list_all p) (extended ls i x)) q.0 (extended-all p ls i x q.1 k)

pub journaled-length : (ls : List (List (List JournalEntry))) (i key : ℕ) (x : JournalEntry) → length (journaled ls i key x) ≡ length ls
journaled-length [] i key x = refl
journaled-length (l ∷ ls) zero key x = refl
journaled-length (l ∷ ls) (suc i) key x = ap suc (journaled-length ls i key x)

pub journaled-keys : (n : ℕ) (ls : List (List (List JournalEntry))) (i key : ℕ) (x : JournalEntry) → Each (λ replica. length replica ≡ n) ls
    → Each (λ replica. length replica ≡ n) (journaled ls i key x)
journaled-keys n [] i key x h = tt
journaled-keys n (l ∷ ls) zero key x h = (extended-length l key x ∙ h.0, h.1)
journaled-keys n (l ∷ ls) (suc i) key x h = (h.0, journaled-keys n ls i key x h.1)

pub journaled-all : (p : JournalEntry → Bool) (ls : List (List (List JournalEntry))) (i key : ℕ) (x : JournalEntry)
    → list_all (list_all (list_all p)) ls ≡ true → p x ≡ true → list_all (list_all (list_all p)) (journaled ls i key x) ≡ true
journaled-all p [] i key x h k = refl
journaled-all p (l ∷ ls) zero key x h k =
    let q = and_parts (list_all (list_all p) l) (list_all (list_all (list_all p)) ls) h in
    and_from (list_all (list_all p) (extended l key x)) (list_all (list_all (list_all p)) ls) (extended-all p l key x q.0 k) q.1
journaled-all p (l ∷ ls) (suc i) key x h k =
    let q = and_parts (list_all (list_all p) l) (list_all (list_all (list_all p)) ls) h in
    and_from (list_all (list_all p) l) (list_all (list_all (list_all p)) (journaled ls i key x)) q.0 (journaled-all p ls i key x q.1 k)

-- ---- sums over rounds

pub plus_zero : (a b : ℕ) → a + (0 + b) ≡ a + b
plus_zero a b = omega arith

pub sum-push : (f : RoundLog → ℕ) (rounds : List RoundLog) (round : RoundLog) → sum (map f (rounds ++ round ∷ [])) ≡ sum (map f rounds) + f round
sum-push f rounds round =
    ap sum (map-append f rounds (round ∷ [])) ∙ sum_by-append (λ (x : ℕ). x) (map f rounds) (f round ∷ []) ∙ plus_zero (sum (map f rounds)) (f round)

-- one where the test is passed
abbrev pub one_if : Bool → ℕ
one_if b = cond b 1 0

pub count-push : (p : Step → Bool) (xs : List Step) (x : Step) → count_by p (xs ++ x ∷ []) ≡ count_by p xs + one_if (p x)
count-push p xs x = sum_by-append (λ (y : Step). one_if (p y)) xs (x ∷ []) ∙ plus_zero (count_by p xs) (one_if (p x))

pub sum-cons : (n : ℕ) (ns : List ℕ) → sum (n ∷ ns) ≡ n + sum ns
sum-cons n ns = sum_by-append (λ (x : ℕ). x) (n ∷ []) ns ∙ front n (sum ns)
  where
    front : (a b : ℕ) → (0 + a) + b ≡ a + b
    front a b = omega arith

pub more_here : (x y s c d o : ℕ) → x ≡ d + s → y ≡ c + s → d ≡ c + o → x ≤ y + o
more_here x y s c d o a b e = omega (arith, a, b, e)

pub more_there : (x y s t c o : ℕ) → x ≡ c + t → y ≡ c + s → t ≤ s + o → x ≤ y + o
more_there x y s t c o a b h = omega (arith, a, b, h)

pub logs-push : (p : Step → Bool) (logs : List (List Step)) (i : ℕ) (x : Step)
    → sum (map (count_by p) (extended logs i x)) ≤ sum (map (count_by p) logs) + one_if (p x)
logs-push p [] i x = omega arith
logs-push p (l ∷ ls) zero x =
    let rest = map (count_by p) ls in
    more_here (sum (count_by p (l ++ x ∷ []) ∷ rest)) (sum (count_by p l ∷ rest)) (sum rest) (count_by p l) (count_by p (l ++ x ∷ [])) (one_if (p x))
    (sum-cons (count_by p (l ++ x ∷ [])) rest) (sum-cons (count_by p l) rest) (count-push p l x)
logs-push p (l ∷ ls) (suc i) x =
    let rest = map (count_by p) ls in
    let more = map (count_by p) (extended ls i x) in
    more_there (sum (count_by p l ∷ more)) (sum (count_by p l ∷ rest)) (sum rest) (sum more) (count_by p l) (one_if (p x))
    (sum-cons (count_by p l) more) (sum-cons (count_by p l) rest) (logs-push p ls i x)

pub fresh_none : (client n : ℕ) → sum (map (count_by (begins_of client)) (replicate n [])) ≡ 0
fresh_none client zero = refl
fresh_none client (suc n) = fresh_none client n
