-- The first of what is found at numbers, as far as one has come.
use Rattle.std.proofs.Common.{◌≡◌, ◌<◌, ◌≤◌, ℕ, suc, ◌+◌, ◌-◌, sym, ap, ◌∙◌, arith, true, false, Option, None}
use Rattle.std.specs.Prelude.{is_some}
use Rattle.std.specs.Option.{option_or}
use Rattle.mk_verdict.specs.Flaws.{first_from}
use Rattle.mk_whole.proofs.PairLaws.{none-not_some, or-there}

pub record FromSoFar {X : Type 0} (f : ℕ → Option X) (n i : ℕ) : Type 0 where
  pub first : first_from f 0 n ≡ first_from f i (n - i)

module _ {X : Type 0} (f : ℕ → Option X) where
  module _ (n i : ℕ) (h : FromSoFar f n i) where
    here : i < n → first_from f 0 n ≡ option_or (f i) (first_from f (i + 1) (n - (i + 1)))
    here within = (let e : n - i ≡ suc (n - (i + 1)) = omega arith in h.first ∙ ap (first_from f i) e)

    pub from-found : i < n → (o : Option X) → true ≡ is_some o → o ≡ f i → o ≡ first_from f 0 n
    from-found within o some is =
        or-there o (first_from f (i + 1) (n - (i + 1))) some ∙ ap (λ z. option_or z (first_from f (i + 1) (n - (i + 1)))) is ∙ sym (here within)

    pub from-more : i < n → (o : Option X) → false ≡ is_some o → o ≡ f i → FromSoFar f n (i + 1)
    from-more within o none is =
        record { first = here within ∙ ap (λ z. option_or z (first_from f (i + 1) (n - (i + 1)))) (sym is ∙ none-not_some o none) }

    pub from-end : n ≤ i → first_from f 0 n ≡ None
    from-end over = (let e : n - i ≡ 0 = omega arith in h.first ∙ ap (first_from f i) e)
