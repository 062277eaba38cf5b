-- A seat that was used is still a seat of its lock.
use Rattle.std.proofs.Common.{◌≡◌, ℕ, zero, suc, ◌⊎◌, List, [], ◌∷◌, set, length-set, slice_get, Some, refl, sym, ap, ◌∙◌, inl, inr, ⊎_elim}
use Rattle.atomic_table.specs.Seated.{TableId}
use Rattle.mk_lock.specs.Seats.{SeatView, AreSeatsOf}

get_set : {X : Type 0} (xs : List X) (k : ℕ) (t : X) (j : ℕ) (u : X) → slice_get (set xs k t) j ≡ Some u → ((j ≡ k) × (t ≡ u)) ⊎ (slice_get xs j ≡ Some u)
get_set [] k t j u e = inr e
get_set (x ∷ xs) zero t zero u e = inl (refl, cc)
get_set (x ∷ xs) zero t (suc j) u e = inr e
get_set (x ∷ xs) (suc k) t zero u e = inr e
get_set (x ∷ xs) (suc k) t (suc j) u e = ⊎_elim (λ p. inl (ap suc p.0, p.1)) inr (get_set xs k t j u e)

-- a seat that was used is still the same seat
pub seats_set : (name : TableId) (count : ℕ) (xs : List SeatView) (k : ℕ) (s t : SeatView) → AreSeatsOf name count xs → slice_get xs k ≡ Some s → t.lock ≡ s.lock → t.number ≡ s.number
    → AreSeatsOf name count (set xs k t)
seats_set name count xs k s t are at lock number = record {
  all = length-set xs k t ∙ are.all;
  each = λ j u e. ⊎_elim (λ p. let old = are.each k s at in (ap (λ (z : SeatView). z.lock) (sym p.1) ∙ (lock ∙ old.0), ap (λ (z : SeatView). z.number) (sym p.1) ∙ (number ∙ (old.1 ∙ sym p.0))))
      (λ g. are.each j u g) (get_set xs k t j u e);
}
