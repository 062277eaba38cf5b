-- The text of a transaction's line, piece by piece.
use Rattle.std.proofs.Common.{◌≡◌, ℕ, List, [], ◌∷◌, ◌++◌, map, sym, ap, ◌∙◌, append_assoc}
use Rattle.std.specs.List.{flat_map, join_with_byte}
use Rattle.std.proofs.lemmas.List.{append-nil}
use Rattle.std.proofs.lemmas.List.Concat.{flat_map-cons}
use Rattle.mk_proc.specs.declared.Item.{Item}
use Rattle.mk_script.specs.Grammar.{mention_text}
use Rattle.mk_script.specs.Printed.{mention_in, item_text}

-- words behind a first one, each with a space before it
pub join_items : (first : List ℕ) (keys : List (List ℕ)) (items : List Item)
    → join_with_byte 32 (first ∷ map mention_text (map (mention_in keys) items)) ≡ first ++ flat_map (item_text keys) items
join_items first keys [] = sym (append-nil first)
join_items first keys (item ∷ items) =
    ap (λ (x : List ℕ). first ++ 32 ∷ x) (join_items (mention_text (mention_in keys item)) keys items)
    ∙ ap (λ (x : List ℕ). first ++ x) (sym (flat_map-cons (item_text keys) item items))

-- the line is its head, its items and its line feed
pub txn_bytes : (out name clock : List ℕ) (keys : List (List ℕ)) (items : List Item) (a b c : List ℕ)
    → a ≡ out ++ (116 ∷ 120 ∷ 110 ∷ 32 ∷ (name ++ 32 ∷ clock)) → b ≡ a ++ flat_map (item_text keys) items → c ≡ b ++ 10 ∷ []
    → c ≡ out ++ ((116 ∷ 120 ∷ 110 ∷ 32 ∷ (name ++ 32 ∷ join_with_byte 32 (clock ∷ map mention_text (map (mention_in keys) items)))) ++ 10 ∷ [])
txn_bytes out name clock keys items a b c x y z =
    z ∙ ap (λ (w : List ℕ). w ++ 10 ∷ []) (y ∙ ap (λ (w : List ℕ). w ++ flat_map (item_text keys) items) x) ∙ regroup
  where
    regroup : ((out ++ (116 ∷ 120 ∷ 110 ∷ 32 ∷ (name ++ 32 ∷ clock))) ++ flat_map (item_text keys) items) ++ 10 ∷ [] ≡ out ++ ((116 ∷ 120 ∷ 110 ∷ 32 ∷ (name ++ 32 ∷ join_with_byte 32 (clock ∷ map mention_text (map (mention_in keys) items)))) ++ 10 ∷ [])
    regroup =
        let items_text = flat_map (item_text keys) items in
        let words : (name ++ 32 ∷ clock) ++ items_text ≡ name ++ 32 ∷ join_with_byte 32 (clock ∷ map mention_text (map (mention_in keys) items)) =
        append_assoc name (32 ∷ clock) items_text ∙ ap (λ (x : List ℕ). name ++ 32 ∷ x) (sym (join_items clock keys items)) in
        ap (λ (x : List ℕ). x ++ 10 ∷ []) (append_assoc out (116 ∷ 120 ∷ 110 ∷ 32 ∷ (name ++ 32 ∷ clock)) items_text)
        ∙ append_assoc out ((116 ∷ 120 ∷ 110 ∷ 32 ∷ (name ++ 32 ∷ clock)) ++ items_text) (10 ∷ [])
        ∙ ap (λ (x : List ℕ). out ++ ((116 ∷ 120 ∷ 110 ∷ 32 ∷ x) ++ 10 ∷ [])) words
