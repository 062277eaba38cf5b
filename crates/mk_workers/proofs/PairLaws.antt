-- Two lists place by place, with a pair more or less, or with one member changed.
use Rattle.std.proofs.Common.{◌≡◌, ◌∙◌, ℕ, zero, suc, ◌+◌, ◌<◌, ◌≤◌, List, [], ◌∷◌, ◌++◌, length, length-append, length-set, slice_get, Some, inl, inr, refl, sym, subst, arith}
use Rattle.std.specs.Prelude.{slice_set}
use mathlib.Core.Logic.{dite}
use native.Mathlib.Decide.{dec_lt}
use Rattle.std.proofs.lemmas.Option.{slice_get_within, same_Some}
use Rattle.mk_lists.proofs.Places.{slice_get-append_left, slice_get_push, slice_get-set}
use Rattle.mk_workers.specs.Pairs.{Pairs, Until}

-- the last of a list that one was put behind
last_same : {X : Type 0} (xs : List X) (x y : X) (k : ℕ) → k ≡ length xs → slice_get (xs ++ x ∷ []) k ≡ Some y → x ≡ y
last_same xs x y k here at = same_Some x y (sym (slice_get_push xs x k here) ∙ at)

-- what stands at a place inside of a list
pub slice_get-inside : {X : Type 0} (xs : List X) (k : ℕ) → k < length xs → (x : X) × (slice_get xs k ≡ Some x)
slice_get-inside [] k below = absurd (omega arith)
slice_get-inside (x ∷ xs) zero below = (x, refl)
slice_get-inside (x ∷ xs) (suc k) below = slice_get-inside xs k (omega arith)

module _ {X Y : Type 0} (R : ℕ → X → Y → Type 0) where
  pub pairs_none : Pairs R [] []
  pairs_none = record { all = refl; each = λ k x y at at'. absurd (cc at) }

  -- a pair more
  pub pairs_push : (xs : List X) (ys : List Y) (x : X) (y : Y) → Pairs R xs ys → R (length xs) x y → Pairs R (xs ++ x ∷ []) (ys ++ y ∷ [])
  pairs_push xs ys x y has new =
      record {
        all = let same = has.all in let more = length-append ys (y ∷ []) in let longer = length-append xs (x ∷ []) in omega arith;
        each = λ k x' y' at at'.
            let same = has.all in
            dite (dec_lt k (length xs))
            (λ below. has.each k x' y' (sym (slice_get-append_left xs (x ∷ []) k below) ∙ at) (sym (slice_get-append_left ys (y ∷ []) k (omega arith)) ∙ at'))
            (λ above.
            let inside = slice_get_within (xs ++ x ∷ []) k x' at in
            let longer = length-append xs (x ∷ []) in
            let here : k ≡ length xs = omega arith in
            subst (λ (z : ℕ × (X × Y)). R z.0 z.1.0 z.1.1) (λ i. (sym here i, (last_same xs x x' k here at i, last_same ys y y' k (omega arith) at' i))) new);
      }

  -- a pair less
  pub pairs_front : (xs : List X) (ys : List Y) (x : X) (y : Y) → Pairs R (xs ++ x ∷ []) (ys ++ y ∷ []) → Pairs R xs ys
  pairs_front xs ys x y has =
      record {
        all = let same = has.all in let more = length-append ys (y ∷ []) in let longer = length-append xs (x ∷ []) in omega arith;
        each = λ k x' y' at at'. has.each k x' y' (slice_get-append_left xs (x ∷ []) k (slice_get_within xs k x' at) ∙ at)
            (slice_get-append_left ys (y ∷ []) k (slice_get_within ys k y' at') ∙ at');
      }

  -- the last pair
  pub pairs_last : (xs : List X) (ys : List Y) (x : X) (y : Y) → Pairs R (xs ++ x ∷ []) (ys ++ y ∷ []) → R (length xs) x y
  pairs_last xs ys x y has =
      let same = has.all in
      let more = length-append ys (y ∷ []) in
      let longer = length-append xs (x ∷ []) in
      has.each (length xs) x y (slice_get_push xs x (length xs) refl) (slice_get_push ys y (length xs) (omega arith))

module _ {X Y : Type 0} (Before After : ℕ → X → Y → Type 0) where
  pub until_first : (xs : List X) (ys : List Y) → Pairs After xs ys → Pairs (Until 0 Before After) xs ys
  until_first xs ys has = record { all = has.all; each = λ k x y at at'. record { before = λ below. absurd (omega (arith, below)); after = λ _. has.each k x y at at' } }

  pub until_past : (xs : List X) (ys : List Y) (place : ℕ) → length xs ≤ place → Pairs (Until place Before After) xs ys → Pairs Before xs ys
  until_past xs ys place past has =
      record { all = has.all; each = λ k x y at at'. let one = has.each k x y at at' in one.before (let inside = slice_get_within xs k x at in omega arith) }

  pub until_whole : (xs : List X) (ys : List Y) (place : ℕ) → length xs ≤ place → Pairs Before xs ys → Pairs (Until place Before After) xs ys
  until_whole xs ys place past has =
      record {
        all = has.all;
        each = λ k x y at at'. record { before = λ _. has.each k x y at at'; after = λ beyond. absurd (let inside = slice_get_within xs k x at in omega (arith, beyond)) };
      }

  pub until_none : (xs : List X) (ys : List Y) → Pairs (Until 0 Before After) xs ys → Pairs After xs ys
  until_none xs ys has = record { all = has.all; each = λ k x y at at'. let one = has.each k x y at at' in one.after (omega arith) }

  -- the member at the place changes, and the place moves on
  pub until_more : (xs : List X) (ys : List Y) (place : ℕ) (x : X) (y t : Y) → Pairs (Until place Before After) xs ys → slice_get xs place ≡ Some x → slice_get ys place ≡ Some y →
      Before place x t → Pairs (Until (place + 1) Before After) xs (slice_set ys place t)
  until_more xs ys place x y t has at at' new =
      record {
        all = length-set ys place t ∙ has.all;
        each = λ k x' u there u_at. elim (slice_get-set ys place k y t u at' u_at) [
          | inl p ↦ record {
            before = λ _. subst (λ (z : ℕ × (X × Y)). Before z.0 z.1.0 z.1.1) (λ i. (sym p.0 i, (same_Some x x' (sym at ∙ subst (λ n. slice_get xs n ≡ Some x') p.0 there) i, p.1 i))) new;
            after = λ beyond. absurd (let here = p.0 in omega (arith, beyond));
          }
          | inr p ↦ let one = has.each k x' u there p.1 in record {
            before = λ below. one.before (not_here k place p.0 below);
            after = λ beyond. one.after (omega (arith, beyond));
          }
        ];
      }
    where
      not_here : (k place : ℕ) → (k ≡ place → ⊥) → k < place + 1 → k < place
      not_here k place apart below = dite (dec_lt k place) (λ b. b) (λ above. absurd (apart (omega (arith, above, below))))

  -- the place moves back, and the member there changes
  pub until_back : (xs : List X) (ys : List Y) (place : ℕ) (x : X) (y t : Y) → Pairs (Until (place + 1) Before After) xs ys → slice_get xs place ≡ Some x → slice_get ys place ≡ Some y →
      After place x t → Pairs (Until place Before After) xs (slice_set ys place t)
  until_back xs ys place x y t has at at' new =
      record {
        all = length-set ys place t ∙ has.all;
        each = λ k x' u there u_at. elim (slice_get-set ys place k y t u at' u_at) [
          | inl p ↦ record {
            before = λ below. absurd (let here = p.0 in omega (arith, below));
            after = λ _. subst (λ (z : ℕ × (X × Y)). After z.0 z.1.0 z.1.1) (λ i. (sym p.0 i, (same_Some x x' (sym at ∙ subst (λ n. slice_get xs n ≡ Some x') p.0 there) i, p.1 i))) new;
          }
          | inr p ↦ let one = has.each k x' u there p.1 in record {
            before = λ below. one.before (omega (arith, below));
            after = λ beyond. one.after (beyond_here k place p.0 beyond);
          }
        ];
      }
    where
      beyond_here : (k place : ℕ) → (k ≡ place → ⊥) → place ≤ k → place + 1 ≤ k
      beyond_here k place apart beyond = dite (dec_lt place k) (λ b. omega (arith, b)) (λ above. absurd (apart (omega (arith, above, beyond))))
