-- What is drawn so far and what is still to come are all that is drawn.
use Rattle.std.proofs.Common.{◌≡◌, ℕ, suc, ◌-◌, ◌/◌, ◌%◌, ◌<◌, ◌≤◌, List, [], ◌∷◌, ◌++◌, sym, ap, ◌∙◌, arith, append_assoc, mod-lt}
use Rattle.std.proofs.Math.Nat.{mul-le-mul_left, mul-div-le}
use Rattle.rand_pcg.specs.Lcg.{Lcg}
use Rattle.mk_proc.specs.declared.Item.{Item}
use Rattle.mk_gen.specs.Drawn.{Share, keys_of, key_picked, item_drawn, after_item, items_drawn, after_items}

-- one more item
pub items_step : (s : Share) (made pushed target : List Item) (item : Item) (n m : ℕ) (words left : Lcg)
    → n ≡ suc m → item ≡ item_drawn s words → left ≡ after_item words → pushed ≡ made ++ item ∷ [] → made ++ items_drawn s n words ≡ target
    → pushed ++ items_drawn s m left ≡ target
items_step s made pushed target item n m words left e i l p t =
    ap (λ (x : List Item). x ++ items_drawn s m left) p
    ∙ ap (λ (w : Lcg). (made ++ item ∷ []) ++ items_drawn s m w) l
    ∙ append_assoc made (item ∷ []) (items_drawn s m (after_item words))
    ∙ ap (λ (x : Item). made ++ (x ∷ items_drawn s m (after_item words))) i
    ∙ ap (λ (k : ℕ). made ++ items_drawn s k words) (sym e) ∙ t

-- and the words behind it
pub after_step : (target : Lcg) (n m : ℕ) (words left : Lcg) → n ≡ suc m → left ≡ after_item words → after_items n words ≡ target → after_items m left ≡ target
after_step target n m words left e l t = ap (λ (w : Lcg). after_items m w) l ∙ ap (λ (k : ℕ). after_items k words) (sym e) ∙ t

-- a client's key is one of the keys
pub picked-below : (s : Share) (w : ℕ) → 1 ≤ s.client → s.client ≤ s.clients → s.clients ≤ s.keys → key_picked s w < s.keys
picked-below s w some few enough =
    let rest : w / 4 % keys_of s < keys_of s = mod-lt (w / 4) (omega arith) in
    let most = mul-le-mul_left {m = w / 4 % keys_of s} {n = (s.keys - s.client) / s.clients} s.clients (omega arith) in
    omega (arith, most, mul-div-le (s.keys - s.client) s.clients)
