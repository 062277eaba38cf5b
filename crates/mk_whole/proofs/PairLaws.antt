-- Two lists gone through together, as far as one has come.
use Rattle.std.proofs.Common.{◌≡◌, ◌<◌, ◌≤◌, ℕ, ◌+◌, refl, sym, ap, subst, ◌∙◌, arith, List, [], ◌∷◌, ◌++◌, length, take, drop, map, get_or, append_assoc, true, false, Option, Some, None}
use Rattle.std.specs.Prelude.{slice_set, is_some}
use Rattle.std.specs.Option.{option_or}
use Rattle.std.proofs.lemmas.List.{length-set, drop-set-lt, drop_more, take_more_set, take-append-drop, drop_all, length-map, map-set, get_or-map}
use Rattle.std.proofs.lemmas.List.{get_or_default}
use Rattle.mk_lists.proofs.Places.{drop_read}
use Rattle.mk_whole.specs.Pairs.{each_done, first_in}

-- nothing is found where there is nothing to find
pub or-some : {Z : Type 0} (o p : Option Z) (z : Z) → o ≡ Some z → option_or o p ≡ Some z
or-some o p z e = ap (λ k. option_or k p) e

pub record PairsSoFar {X Y Z : Type 0} (f : X → Y → X) (g : ℕ → X → Y → Option Z) (old : List X) (ys : List Y) (i : ℕ) (xs : List X) : Type 0 where
  pub count : length xs ≡ length old
  pub done : each_done f old ys ≡ take i xs ++ each_done f (drop i xs) (drop i ys)
  pub first : first_in g 0 old ys ≡ first_in g i (drop i xs) (drop i ys)
  pub left : drop i xs ≡ drop i old

module _ {X Y Z : Type 0} (f : X → Y → X) (g : ℕ → X → Y → Option Z) (old : List X) (ys : List Y) where
  module _ (i : ℕ) (xs : List X) (h : PairsSoFar f g old ys i xs) where
    module _ (x : X) (y : Y) (within : i < length xs) (there : i < length ys) (x_is : x ≡ get_or xs i x) (y_is : y ≡ get_or ys i y) where
      here : first_in g 0 old ys ≡ option_or (g i x y) (first_in g (i + 1) (drop (i + 1) xs) (drop (i + 1) ys))
      here =
          h.first
          ∙ ap (λ zs. first_in g i zs (drop i ys)) (drop_read xs i x within x_is)
          ∙ ap (λ zs. first_in g i (x ∷ drop (i + 1) xs) zs) (drop_read ys i y there y_is)

      pub pairs-found : (z : Z) → g i x y ≡ Some z → first_in g 0 old ys ≡ Some z
      pairs-found z e = here ∙ or-some (g i x y) (first_in g (i + 1) (drop (i + 1) xs) (drop (i + 1) ys)) z e

      both : each_done f (drop i xs) (drop i ys) ≡ f x y ∷ each_done f (drop (i + 1) xs) (drop (i + 1) ys)
      both =
          ap (λ zs. each_done f zs (drop i ys)) (drop_read xs i x within x_is)
          ∙ ap (λ zs. each_done f (x ∷ drop (i + 1) xs) zs) (drop_read ys i y there y_is)

      in_old : i < length old
      in_old = omega (arith, h.count)

      -- what stands here is what stood here
      pub pairs-here : x ≡ get_or old i x
      pairs-here = ap (λ zs. get_or zs 0 x) (sym (drop_read xs i x within x_is) ∙ h.left ∙ drop_more old i x in_old)

      rest_same : drop (i + 1) xs ≡ drop (i + 1) old
      rest_same = ap (λ zs. drop 1 zs) (sym (drop_read xs i x within x_is) ∙ h.left ∙ drop_more old i x in_old)

      pub pairs-more : (new : X) → g i x y ≡ None → new ≡ f x y → PairsSoFar f g old ys (i + 1) (slice_set xs i new)
      pairs-more new none is =
          let after = each_done f (drop (i + 1) xs) (drop (i + 1) ys) in
          let taken : take (i + 1) (slice_set xs i new) ≡ take i xs ++ new ∷ [] = take_more_set xs i new within in
          let left : drop (i + 1) (slice_set xs i new) ≡ drop (i + 1) xs = drop-set-lt (i + 1) xs i new (omega arith) in
          record {
            count = length-set xs i new ∙ h.count;
            done =
                h.done
                ∙ ap (λ zs. take i xs ++ zs) (both ∙ ap (λ z. z ∷ after) (sym is))
                ∙ sym (append_assoc (take i xs) (new ∷ []) after)
                ∙ ap (λ zs. zs ++ after) (sym taken)
                ∙ ap (λ zs. take (i + 1) (slice_set xs i new) ++ each_done f zs (drop (i + 1) ys)) (sym left);
            first =
                here
                ∙ ap (λ o. option_or o (first_in g (i + 1) (drop (i + 1) xs) (drop (i + 1) ys))) none
                ∙ ap (λ zs. first_in g (i + 1) zs (drop (i + 1) ys)) (sym left);
            left = left ∙ rest_same;
          }

    each_done-nil : (zs : List X) → each_done f zs [] ≡ zs
    each_done-nil [] = refl
    each_done-nil (z ∷ zs) = refl

    first_in-nil : (k : ℕ) (zs : List X) → first_in g k zs [] ≡ None
    first_in-nil k [] = refl
    first_in-nil k (z ∷ zs) = refl

    module _ (over : length ys ≤ i) where
      none_left : drop i ys ≡ []
      none_left = drop_all i ys over

      pub pairs-end : xs ≡ each_done f old ys
      pairs-end =
          sym (h.done ∙ ap (λ zs. take i xs ++ each_done f (drop i xs) zs) none_left ∙ ap (λ zs. take i xs ++ zs) (each_done-nil (drop i xs)) ∙ take-append-drop i xs)

      pub pairs-none : first_in g 0 old ys ≡ None
      pairs-none = h.first ∙ ap (λ zs. first_in g i (drop i xs) zs) none_left ∙ first_in-nil i (drop i xs)

-- what there is not, and what there is
pub none-not_some : {Z : Type 0} (o : Option Z) → false ≡ is_some o → o ≡ None
none-not_some None e = refl
none-not_some (Some z) e = absurd (cc e)

pub or-there : {Z : Type 0} (o p : Option Z) → true ≡ is_some o → o ≡ option_or o p
or-there None p e = absurd (cc e)
or-there (Some z) p e = refl

-- the image of what stands at a place
pub mapped-at : {V W : Type 0} (f : V → W) (vs : List V) (i : ℕ) (v d : V) (e : W) → i < length vs → v ≡ get_or vs i d → get_or (map f vs) i e ≡ f v
mapped-at f vs i v d e within is = get_or-map f vs i d e within ∙ ap f (sym is)

-- the same with two lists of which images are gone through
module _ {V W X Y Z : Type 0} (view : V → X) (item : W → Y) (f : X → Y → X) (g : ℕ → X → Y → Option Z) (old : List V) (ws : List W) (i : ℕ) (vs : List V)
    (h : PairsSoFar f g (map view old) (map item ws) i (map view vs)) (same : length ws ≡ length old) (there : i < length ws) where
  pub views-within : i < length vs
  views-within = omega (arith, h.count, length-map vs view, length-map old view, same, there)

  module _ (v dv : V) (w dw : W) (v_is : v ≡ get_or vs i dv) (w_is : w ≡ get_or ws i dw) where
    x_is : view v ≡ get_or (map view vs) i (view v)
    x_is = sym (mapped-at view vs i v dv (view v) views-within v_is)

    y_is : item w ≡ get_or (map item ws) i (item w)
    y_is = sym (mapped-at item ws i w dw (item w) there w_is)

    in_views : i < length (map view vs)
    in_views = omega (arith, length-map vs view, views-within)

    in_items : i < length (map item ws)
    in_items = omega (arith, length-map ws item, there)

    pub views-here : view v ≡ get_or (map view old) i (view v)
    views-here = pairs-here f g (map view old) (map item ws) i (map view vs) h (view v) (item w) in_views in_items x_is y_is

    pub views-found : (o : Option Z) → true ≡ is_some o → o ≡ g i (view v) (item w) → o ≡ first_in g 0 (map view old) (map item ws)
    views-found o some is = by o some is
      where
        by : (o : Option Z) → true ≡ is_some o → o ≡ g i (view v) (item w) → o ≡ first_in g 0 (map view old) (map item ws)
        by None some is = absurd (cc some)
        by (Some z) some is = sym (pairs-found f g (map view old) (map item ws) i (map view vs) h (view v) (item w) in_views in_items x_is y_is z (sym is))

    pub views-more : (o : Option Z) (new : V) → false ≡ is_some o → o ≡ g i (view v) (item w) → (o ≡ None → view new ≡ f (view v) (item w)) →
        PairsSoFar f g (map view old) (map item ws) (i + 1) (map view (slice_set vs i new))
    views-more o new none is after =
        let none_here : o ≡ None = none-not_some o none in
        subst (λ (xs : List X). PairsSoFar f g (map view old) (map item ws) (i + 1) xs) (sym (map-set view vs i new))
        (pairs-more f g (map view old) (map item ws) i (map view vs) h (view v) (item w) in_views in_items x_is y_is (view new) (sym is ∙ none_here) (after none_here))

-- the same where only the second list is one of images
module _ {W X Y Z : Type 0} (item : W → Y) (f : X → Y → X) (g : ℕ → X → Y → Option Z) (old : List X) (ws : List W) (i : ℕ) (xs : List X)
    (h : PairsSoFar f g old (map item ws) i xs) (same : length ws ≡ length old) (there : i < length ws) where
  pub items-within : i < length xs
  items-within = omega (arith, h.count, same, there)

  module _ (x dx : X) (w dw : W) (x_is : x ≡ get_or xs i dx) (w_is : w ≡ get_or ws i dw) where
    x_here : x ≡ get_or xs i x
    x_here = x_is ∙ get_or_default xs i dx x items-within

    w_here : item w ≡ get_or (map item ws) i (item w)
    w_here = sym (mapped-at item ws i w dw (item w) there w_is)

    in_ws : i < length (map item ws)
    in_ws = omega (arith, length-map ws item, there)

    pub items-found : (o : Option Z) → true ≡ is_some o → o ≡ g i x (item w) → o ≡ first_in g 0 old (map item ws)
    items-found o some is = by o some is
      where
        by : (o : Option Z) → true ≡ is_some o → o ≡ g i x (item w) → o ≡ first_in g 0 old (map item ws)
        by None some is = absurd (cc some)
        by (Some z) some is = sym (pairs-found f g old (map item ws) i xs h x (item w) items-within in_ws x_here w_here z (sym is))

    pub items-more : (o : Option Z) (new : X) → false ≡ is_some o → o ≡ g i x (item w) → (o ≡ None → new ≡ f x (item w)) →
        PairsSoFar f g old (map item ws) (i + 1) (slice_set xs i new)
    items-more o new none is after =
        let none_here : o ≡ None = none-not_some o none in
        pairs-more f g old (map item ws) i xs h x (item w) items-within in_ws x_here w_here new (sym is ∙ none_here) (after none_here)
