-- The keys of a script only grow with each item, and a key that is there keeps its number.
use Rattle.std.proofs.Common.{◌≡◌, ℕ, ◌≤◌, Bool, true, false, cond, Option, Some, None, List, [], ◌∷◌, ◌++◌, length, refl, sym, ap, ◌∙◌, arith, append_assoc}
use Rattle.std.specs.Prelude.{is_some}
use Rattle.std.proofs.lemmas.List.{length-append, append-nil}
use Rattle.mk_spelling.specs.Fields.{place}
use Rattle.mk_spelling.proofs.PlaceLaws.{place_new, place_stays}
use Rattle.mk_names.specs.NameLists.{with_name}
use Rattle.mk_proc.specs.declared.Item.TheVariants as items
use Rattle.mk_script.specs.Scripts.{or_zero}
use Rattle.mk_script.specs.Grammar.{Mention, key_of, keys_after, number_of, item_of}
use Rattle.mk_script.specs.Grammar.Mention.{Reads, Writes, Computes, Deletes}

add_grows : (keys : List (List ℕ)) (w : List ℕ) → (more : List (List ℕ)) × (with_name keys w ≡ keys ++ more)
add_grows keys w = here (is_some (place w keys)) refl
  where
    here : (b : Bool) → is_some (place w keys) ≡ b → (more : List (List ℕ)) × (cond b keys (keys ++ w ∷ []) ≡ keys ++ more)
    here true e = ([], sym (append-nil keys))
    here false e = (w ∷ [], refl)

-- the keys only grow
pub keys_grow : (keys : List (List ℕ)) (ms : List Mention) → (more : List (List ℕ)) × (keys_after keys ms ≡ keys ++ more)
keys_grow keys [] = ([], sym (append-nil keys))
keys_grow keys (m ∷ ms) =
    let a = add_grows keys (key_of m) in
    let g = keys_grow (with_name keys (key_of m)) ms in
    (a.0 ++ g.0, g.1 ∙ ap (λ (x : List (List ℕ)). x ++ g.0) a.1 ∙ append_assoc keys a.0 g.0)

pub length_grows : (keys : List (List ℕ)) (ms : List Mention) → length keys ≤ length (keys_after keys ms)
length_grows keys ms =
    let g = keys_grow keys ms in
    omega (arith, ap length g.1, length-append keys g.0)

-- a key that is there keeps its number
pub number_stays : (w : List ℕ) (keys : List (List ℕ)) (ms : List Mention) (n : ℕ) → place w keys ≡ Some n → number_of (keys_after keys ms) w ≡ n
number_stays w keys ms n h =
    let g = keys_grow keys ms in
    rw (g.1, place_stays w keys g.0 n h) refl

pub added_place : (w : List ℕ) (keys : List (List ℕ)) → (n : ℕ) × (place w (with_name keys w) ≡ Some n)
added_place w keys = here (place w keys) refl
  where
    here : (o : Option ℕ) → place w keys ≡ o → (n : ℕ) × (place w (cond (is_some (place w keys)) keys (keys ++ w ∷ [])) ≡ Some n)
    here None e = (length keys, rw e (place_new w keys e))
    here (Some n) e = (n, rw (e) e)

pub item_stays : (m : Mention) (keys : List (List ℕ)) (ms : List Mention) → item_of (with_name keys (key_of m)) m ≡ item_of (keys_after keys (m ∷ ms)) m
item_stays m keys ms = here m same
  where
    same : number_of (with_name keys (key_of m)) (key_of m) ≡ number_of (keys_after keys (m ∷ ms)) (key_of m)
    same =
        let p = added_place (key_of m) keys in
        ap or_zero p.1 ∙ sym (number_stays (key_of m) (with_name keys (key_of m)) ms p.0 p.1)

    here : (x : Mention) → number_of (with_name keys (key_of m)) (key_of x) ≡ number_of (keys_after keys (m ∷ ms)) (key_of x)
        → item_of (with_name keys (key_of m)) x ≡ item_of (keys_after keys (m ∷ ms)) x
    here (Reads key) e = ap (λ (n : ℕ). items.Read n) e
    here (Writes key v) e = ap (λ (n : ℕ). items.Write n v) e
    here (Computes key proc v) e = ap (λ (n : ℕ). items.Compute n proc v) e
    here (Deletes key) e = ap (λ (n : ℕ). items.Delete n) e
