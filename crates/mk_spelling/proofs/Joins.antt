-- Words joined by single spaces, and cut again.
use Rattle.std.proofs.Common.{◌≡◌, ℕ, List, [], ◌∷◌, sym, ap, ◌∙◌}
use Rattle.std.specs.List.{join_with_byte, AllByRecursion}
use Rattle.std.proofs.lemmas.List.Splits.{join_with_byte-slice_split}
use Rattle.mk_spelling.specs.Words.{words}
use Rattle.mk_spelling.proofs.Cuts.{Lacks, words-lacks, words-parts}

pub joined_words : (line : List ℕ) (ws : List (List ℕ)) → words line ≡ ws → line ≡ join_with_byte 32 ws
joined_words line ws e = sym (join_with_byte-slice_split 32 line) ∙ ap (join_with_byte 32) e

pub words_joined : (w : List ℕ) (ws : List (List ℕ)) → AllByRecursion (Lacks 32) (w ∷ ws) → words (join_with_byte 32 (w ∷ ws)) ≡ w ∷ ws
words_joined w [] h = words-lacks w h.0
words_joined w (v ∷ ws) h = words-parts w (join_with_byte 32 (v ∷ ws)) h.0 ∙ ap (λ (x : List (List ℕ)). w ∷ x) (words_joined v ws h.1)
