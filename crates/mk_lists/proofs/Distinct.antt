-- Lists of which no two places have equal members.
use Rattle.std.proofs.Common.{◌≡◌, ◌∙◌, refl, sym, ap, subst, inl, inr, List, [], ◌∷◌, ◌++◌, map}
use Rattle.mk_lists.specs.Among.{Among, AllDistinct, Among-append, Among-append_left}
use Rattle.mk_lists.proofs.Members.{Among-map}

module _ {X : Type 0} where
  pub AllDistinct-append : (xs ys : List X) → AllDistinct xs → AllDistinct ys → ((x : X) → Among x xs → Among x ys → ⊥) → AllDistinct (xs ++ ys)
  AllDistinct-append [] ys d e apart = e
  AllDistinct-append (x ∷ xs) ys d e apart = (
    (λ a. elim (Among-append x xs ys a) [ inl b ↦ d.0 b | inr b ↦ apart x (inl refl) b ]),
    AllDistinct-append xs ys d.1 e (λ y a b. apart y (inr a) b),
  )

  pub AllDistinct-push : (xs : List X) (y : X) → AllDistinct xs → (Among y xs → ⊥) → AllDistinct (xs ++ y ∷ [])
  AllDistinct-push xs y d new = AllDistinct-append xs (y ∷ []) d ((λ a. a), tt) (λ x a b. elim b [
    | inl same ↦ new (subst (λ (z : X). Among z xs) (sym same) a)
    | inr none ↦ none
  ])

  pub AllDistinct-front : (xs : List X) (y : X) → AllDistinct (xs ++ y ∷ []) → AllDistinct xs
  AllDistinct-front [] y d = tt
  AllDistinct-front (x ∷ xs) y d = ((λ a. d.0 (Among-append_left x xs (y ∷ []) a)), AllDistinct-front xs y d.1)
