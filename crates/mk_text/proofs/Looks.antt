-- What is seen of a line byte by byte.
use Rattle.std.proofs.Common.{◌≡◌, ℕ, Bool, true, false, cond, eqb, ◌&&◌, ◌||◌, List, [], ◌∷◌, refl, ◌∙◌}
use Rattle.std.specs.List.{onto_first, list_any}
use Rattle.mk_spelling.specs.Words.{words, is_empty}
use Rattle.mk_spelling.proofs.Cuts.{words_cons}

-- whether a word of these bytes is empty, where the first has bytes before them unless it is fresh
abbrev pub empty_within : Bool → List ℕ → Bool
empty_within fresh [] = fresh
empty_within fresh (b ∷ bs) = cond (eqb b 32) (fresh || empty_within true bs) (empty_within false bs)

-- the same of the words
abbrev among : Bool → List (List ℕ) → Bool
among fresh [] = false
among fresh (w ∷ ws) = (fresh && is_empty w) || list_any is_empty ws

among_fresh : (ws : List (List ℕ)) → among true ws ≡ list_any is_empty ws
among_fresh [] = refl
among_fresh (w ∷ ws) = refl

within_among : (fresh : Bool) (bs : List ℕ) → empty_within fresh bs ≡ among fresh (words bs)
within_among true [] = refl
within_among false [] = refl
within_among fresh (b ∷ bs) =
    let c = words_cons bs in
    here fresh (eqb b 32) (words bs) c.0 c.1 c.2 (within_among true bs) (within_among false bs)
  where
    here : (fresh t : Bool) (ws : List (List ℕ)) (v : List ℕ) (vs : List (List ℕ)) → ws ≡ v ∷ vs
        → empty_within true bs ≡ among true ws → empty_within false bs ≡ among false ws
        → cond t (fresh || empty_within true bs) (empty_within false bs) ≡ among fresh (cond t ([] ∷ ws) (onto_first b ws))
    here true true ws v vs e h k = refl
    here false true ws v vs e h k = h ∙ among_fresh ws
    here true false ws v vs e h k = rw (k, e) refl
    here false false ws v vs e h k = rw (k, e) refl

pub within_words : (bs : List ℕ) → empty_within true bs ≡ list_any is_empty (words bs)
within_words bs = within_among true bs ∙ among_fresh (words bs)
