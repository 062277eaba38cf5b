-- The key steps of logs, by replica and key.
use Rattle.std.proofs.Common.{◌≡◌, ◌<◌, ℕ, Bool, true, false, ◌&&◌, ◌==◌, refl, sym, ap, subst, ◌∙◌, arith, List, [], ◌∷◌, ◌++◌, length, inl, inr, if◌then◌else◌}
use Rattle.std.specs.Prelude.{slice_index_or}
use Rattle.std.proofs.lemmas.Bool.{cases_eq}
use Rattle.std.proofs.lemmas.Bool.Decides.{nat_tests}
use Rattle.std.proofs.lemmas.List.{append-nil, length-set, get_or-set_same, get_or-set_other}
use Rattle.mk_words.specs.declared.JournalEntry.{JournalEntry}
use Rattle.mk_words.specs.declared.Step.{Step}
use Rattle.mk_words.specs.declared.Step.TheVariants.{Key}
use Rattle.mk_history.specs.Matching.{turns_in_journal}
use Rattle.mk_whole.specs.Turns.{turns_at, with_turn, with_turn_at}

-- the entries of a column in two lists, one behind the other
pub turns-append : (c : ℕ) (xs ys : List JournalEntry) → turns_in_journal c (xs ++ ys) ≡ turns_in_journal c xs ++ turns_in_journal c ys
turns-append c [] ys = refl
turns-append c (x ∷ xs) ys = by (x.seat == c) (turns-append c xs ys)
  where
    by : (b : Bool) → turns_in_journal c (xs ++ ys) ≡ turns_in_journal c xs ++ turns_in_journal c ys →
        (if b then record { act = x.act; answer = x.answer } ∷ turns_in_journal c (xs ++ ys) else turns_in_journal c (xs ++ ys))
        ≡ (if b then record { act = x.act; answer = x.answer } ∷ turns_in_journal c xs else turns_in_journal c xs) ++ turns_in_journal c ys
    by true e = ap (λ ts. record { act = x.act; answer = x.answer } ∷ ts) e
    by false e = e

-- the table has so many replicas, each with so many keys
pub record HasPlaces (n keys : ℕ) (table : List (List (List JournalEntry))) : Type 0 where
  pub replicas : length table ≡ n
  pub keys_each : (r : ℕ) → r < n → length (slice_index_or table r []) ≡ keys

module _ (r key : ℕ) (turn : JournalEntry) (table : List (List (List JournalEntry))) where
  -- what stands at a key after one more was put to a key
  pub put-here : r < length table → key < length (slice_index_or table r []) → turns_at (with_turn_at r key turn table) r key ≡ turns_at table r key ++ turn ∷ []
  put-here there within =
      let row = slice_index_or table r [] in
      ap (λ (rows : List (List JournalEntry)). slice_index_or rows key []) (get_or-set_same table r (with_turn key turn row) [] there)
      ∙ get_or-set_same row key (slice_index_or row key [] ++ turn ∷ []) [] within

  pub put-other_key : (k : ℕ) → r < length table → (k ≡ key → ⊥) → turns_at (with_turn_at r key turn table) r k ≡ turns_at table r k
  put-other_key k there apart =
      let row = slice_index_or table r [] in
      ap (λ (rows : List (List JournalEntry)). slice_index_or rows k []) (get_or-set_same table r (with_turn key turn row) [] there)
      ∙ get_or-set_other row key k (slice_index_or row key [] ++ turn ∷ []) [] apart

  pub put-other_replica : (s k : ℕ) → (s ≡ r → ⊥) → turns_at (with_turn_at r key turn table) s k ≡ turns_at table s k
  put-other_replica s k apart =
      ap (λ (rows : List (List JournalEntry)). slice_index_or rows k []) (get_or-set_other table r s (with_turn key turn (slice_index_or table r [])) [] apart)

-- a key step is at a replica and a key that there are
abbrev pub StepWithin : ℕ → ℕ → Step → Type 0
StepWithin n keys (Key call answer) = (call.replica < n) × (call.key < keys)
StepWithin n keys _ = Unit {0}

same_number : (a b : ℕ) → a ≡ b → (a == b) ≡ true
same_number a b e = grind (arith, nat_tests, e)

other_number : (a b : ℕ) → (a ≡ b → ⊥) → (a == b) ≡ false
other_number a b apart = by (a == b) refl
  where
    by : (t : Bool) → (a == b) ≡ t → t ≡ false
    by true e = absurd (apart (grind (arith, nat_tests, e)))
    by false e = refl

module _ (n keys : ℕ) (table : List (List (List JournalEntry))) (places : HasPlaces n keys table) (r key : ℕ) (turn : JournalEntry) (there : r < n) (within : key < keys) where
  in_table : r < length table
  in_table = omega (arith, places.replicas)

  in_row : key < length (slice_index_or table r [])
  in_row = omega (arith, places.keys_each r there)

  pub put-places : HasPlaces n keys (with_turn_at r key turn table)
  put-places =
      record {
        replicas = length-set table r (with_turn key turn (slice_index_or table r [])) ∙ places.replicas;
        keys_each = λ s below. elim (cases_eq s r) [
          | inl same ↦
              subst (λ k. length (slice_index_or (with_turn_at r key turn table) k []) ≡ keys) (sym same)
              (ap (λ (row : List (List JournalEntry)). length row) (get_or-set_same table r (with_turn key turn (slice_index_or table r [])) [] in_table)
              ∙ length-set (slice_index_or table r []) key (slice_index_or (slice_index_or table r []) key [] ++ turn ∷ [])
              ∙ places.keys_each r there)
          | inr apart ↦
              ap (λ (row : List (List JournalEntry)). length row) (get_or-set_other table r s (with_turn key turn (slice_index_or table r [])) [] apart)
              ∙ places.keys_each s below
        ];
      }

  -- the turn stands at its key alone
  pub put-at : (s k : ℕ) → turns_at (with_turn_at r key turn table) s k ≡ turns_at table s k ++ (if r == s && key == k then turn ∷ [] else [])
  put-at s k = elim (cases_eq s r) [
    | inl same ↦ elim (cases_eq k key) [
      | inl here ↦
          subst (λ a. turns_at (with_turn_at r key turn table) a k ≡ turns_at table a k ++ (if r == a && key == k then turn ∷ [] else [])) (sym same)
          (subst (λ b. turns_at (with_turn_at r key turn table) r b ≡ turns_at table r b ++ (if r == r && key == b then turn ∷ [] else [])) (sym here)
          (put-here r key turn table in_table in_row
          ∙ ap (λ t. turns_at table r key ++ (if t then turn ∷ [] else [])) (sym (ap (λ t. t && key == key) (same_number r r refl) ∙ same_number key key refl))))
      | inr apart ↦
          subst (λ a. turns_at (with_turn_at r key turn table) a k ≡ turns_at table a k ++ (if r == a && key == k then turn ∷ [] else [])) (sym same)
          (put-other_key r key turn table k in_table apart
          ∙ sym (append-nil (turns_at table r k))
          ∙ ap (λ t. turns_at table r k ++ (if t then turn ∷ [] else [])) (sym (ap (λ t. t && key == k) (same_number r r refl) ∙ other_number key k (λ e. apart (sym e)))))
    ]
    | inr apart ↦
        put-other_replica r key turn table s k apart
        ∙ sym (append-nil (turns_at table s k))
        ∙ ap (λ t. turns_at table s k ++ (if t then turn ∷ [] else [])) (sym (ap (λ t. t && key == k) (other_number r s (λ e. apart (sym e)))))
  ]
