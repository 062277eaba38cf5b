-- A key that was named keeps its number, whatever is named behind it.
use Rattle.std.proofs.Common.{◌≡◌, ℕ, List, [], ◌∷◌, ◌++◌, map, refl, sym, ap, ◌∙◌, append_assoc}
use Rattle.mk_names.specs.NameLists.{with_name}
use Rattle.mk_proc.specs.declared.Item.{Item}
use Rattle.mk_script.specs.Grammar.{Mention, key_of, keys_after, item_of}
use Rattle.mk_script.specs.GrownKeys.{item_stays}

pub keys_after-append : (keys : List (List ℕ)) (a b : List Mention) → keys_after keys (a ++ b) ≡ keys_after (keys_after keys a) b
keys_after-append keys [] b = refl
keys_after-append keys (m ∷ a) b = keys_after-append (with_name keys (key_of m)) a b

-- what is named behind them leaves the items as they are
pub items_stay : (keys : List (List ℕ)) (ms more : List Mention) → map (item_of (keys_after keys ms)) ms ≡ map (item_of (keys_after keys (ms ++ more))) ms
items_stay keys [] more = refl
items_stay keys (m ∷ ms) more =
    let first : item_of (keys_after keys (m ∷ ms)) m ≡ item_of (keys_after keys (m ∷ (ms ++ more))) m = sym (item_stays m keys ms) ∙ item_stays m keys (ms ++ more) in
    let others = items_stay (with_name keys (key_of m)) ms more in
    ap (λ (x : Item). x ∷ map (item_of (keys_after keys (m ∷ ms))) ms) first
    ∙ ap (λ (xs : List Item). item_of (keys_after keys (m ∷ (ms ++ more))) m ∷ xs) others

-- one item more has its number
pub numbers_step : (made pushed : List Item) (item : Item) (m : Mention) (ms left : List Mention) (keys new all : List (List ℕ)) (target : List Item)
    → left ≡ m ∷ ms → new ≡ with_name keys (key_of m) → item ≡ item_of new m → pushed ≡ made ++ item ∷ [] → keys_after keys left ≡ all
    → made ++ map (item_of all) left ≡ target → (keys_after new ms ≡ all) × (pushed ++ map (item_of all) ms ≡ target)
numbers_step made pushed item m ms left keys new all target l n i p k t =
    let whole : keys_after keys (m ∷ ms) ≡ all = ap (keys_after keys) (sym l) ∙ k in
    let one : item ≡ item_of all m = i ∙ ap (λ (x : List (List ℕ)). item_of x m) n ∙ item_stays m keys ms ∙ ap (λ (x : List (List ℕ)). item_of x m) whole in
    let others : made ++ (item_of all m ∷ map (item_of all) ms) ≡ target = ap (λ (x : List Mention). made ++ map (item_of all) x) (sym l) ∙ t in (
      ap (λ (x : List (List ℕ)). keys_after x ms) n ∙ whole,
      ap (λ (x : List Item). x ++ map (item_of all) ms) p ∙ append_assoc made (item ∷ []) (map (item_of all) ms)
          ∙ ap (λ (x : Item). made ++ (x ∷ map (item_of all) ms)) one ∙ others,
    )
