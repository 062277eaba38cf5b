-- Keys and items, one after the other.
use Rattle.std.proofs.Common.{◌≡◌, ℕ, ◌+◌, ◌≤◌, ◌-◌, ◌^◌, Bool, true, false, cond, List, [], ◌∷◌, ◌++◌, length, map, min, Option, Some, None, Result, Ok, Err, refl, sym, ap, subst, ◌∙◌, arith, append_assoc}
use Rattle.std.specs.Prelude.{is_some, IsOk}
use Rattle.std.proofs.lemmas.List.{length-append, append-nil}
use Rattle.mk_spelling.specs.declared.fault.TextFault.{TextFault}
use Rattle.mk_spelling.specs.declared.fault.TextFault.TheVariants as faults
use Rattle.mk_spelling.specs.Words.{is_name, number}
use Rattle.mk_spelling.specs.Fields.{◌>>=◌, ◌>>◌, need, found, named, place}
use Rattle.mk_spelling.proofs.FieldLaws.{bind_ok, need_ok, ok_is}
use Rattle.mk_proc.specs.declared.Item.{Item}
use Rattle.mk_proc.specs.declared.Item.TheVariants as items
use Rattle.mk_script.specs.declared.error.LineError.{LineError}
use Rattle.mk_script.specs.declared.error.LineError.TheVariants as errors
use Rattle.mk_names.specs.NameLists.{with_name}
use Rattle.mk_script.specs.Scripts.{or_zero}
use Rattle.mk_script.specs.Grammar.{Mention, key_of, keys_after, number_of, item_of}
use Rattle.mk_script.specs.LineWords.{proc_text, proc_list}
use Rattle.mk_script.specs.Grammar.Mention.{Reads, Writes, Computes, Deletes}
use Rattle.mk_script.specs.GrownKeys.{length_grows, item_stays}
use Rattle.mk_script.specs.ItemShapes.{Shape, shape, mention_of, mentions_of}
use Rattle.mk_script.specs.ItemShapes.Shape.{ReadShape, WriteShape, ComputeShape, DeleteShape}
use Rattle.mk_script.specs.Seen.{ok_or_nil, mentioned, IsFull}

pub full_stays : (e : LineError) (keys : List (List ℕ)) (ms : List Mention) → IsFull e keys → IsFull e (keys_after keys ms)
full_stays errors.Memory keys ms h = tt
full_stays (errors.Fault fault) keys ms h = (h.0, omega (arith, h.1, length_grows keys ms))

-- ---- items of words

pub is_named : (o : Option Shape) (m : Mention) → mention_of o ≡ Ok m → is_name (key_of m) ≡ true
is_named None m e = absurd cc
is_named (Some (ReadShape key)) m e =
    let a = need_ok (is_name key) faults.Name (Ok (Reads key)) m e in
    subst (λ (x : Mention). is_name (key_of x) ≡ true) (ok_is (Reads key) m a.1) a.0
is_named (Some (DeleteShape key)) m e =
    let a = need_ok (is_name key) faults.Name (Ok (Deletes key)) m e in
    subst (λ (x : Mention). is_name (key_of x) ≡ true) (ok_is (Deletes key) m a.1) a.0
is_named (Some (WriteShape key word)) m e =
    let a = bind_ok (number 0 (2 ^ 64 - 1) word) (λ n. need (is_name key) faults.Name >> Ok (Writes key n)) m e in
    let b = need_ok (is_name key) faults.Name (Ok (Writes key a.0)) m a.2 in
    subst (λ (x : Mention). is_name (key_of x) ≡ true) (ok_is (Writes key a.0) m b.1) b.0
is_named (Some (ComputeShape key proc word)) m e =
    let a = bind_ok (number 0 (2 ^ 64 - 1) word) (λ n. need (is_name key) faults.Name >> (found faults.Unknown (named proc_text proc_list proc) >>= λ kind. Ok (Computes key kind n))) m e in
    let b = need_ok (is_name key) faults.Name (found faults.Unknown (named proc_text proc_list proc) >>= λ kind. Ok (Computes key kind a.0)) m a.2 in
    let p = bind_ok (found faults.Unknown (named proc_text proc_list proc)) (λ kind. Ok (Computes key kind a.0)) m b.1 in
    subst (λ (x : Mention). is_name (key_of x) ≡ true) (ok_is (Computes key p.0 a.0) m p.2) b.0

-- a count so far, and the items that are left
abbrev pub counts : ℕ → Result (List Mention) TextFault → Result ℕ TextFault
counts n (Ok ms) = Ok (min 17 (n + length ms))
counts n (Err fault) = Err fault

-- the first of items that pass
pub first_mentioned : (word : List ℕ) (ws : List (List ℕ)) (m : Mention) → mention_of (shape word) ≡ Ok m → IsOk (mentions_of (word ∷ ws))
    → IsOk (mentions_of ws) × (mentioned (word ∷ ws) ≡ m ∷ mentioned ws)
first_mentioned word ws m e h = here (mentions_of ws) refl (mention_of (shape word)) e h
  where
    here : (r : Result (List Mention) TextFault) → mentions_of ws ≡ r → (o : Result Mention TextFault) → o ≡ Ok m
        → IsOk (o >>= λ first. r >>= λ others. Ok (first ∷ others))
        → IsOk r × (ok_or_nil (o >>= λ first. r >>= λ others. Ok (first ∷ others)) ≡ m ∷ ok_or_nil r)
    here (Ok ms) q (Ok x) c k = (refl, ap (λ (y : Mention). y ∷ ms) (ok_is x m c))
    here (Err fault) q (Ok x) c k = absurd cc
    here r q (Err fault) c k = absurd cc

pub no_fault : (A : Type 0) (word : List ℕ) (ws : List (List ℕ)) (fault : TextFault) → mention_of (shape word) ≡ Err fault → IsOk (mentions_of (word ∷ ws)) → A
no_fault A word ws fault e h = here (mention_of (shape word)) e h
  where
    here : (o : Result Mention TextFault) → o ≡ Err fault → IsOk (o >>= λ first. mentions_of ws >>= λ others. Ok (first ∷ others)) → A
    here (Ok x) c k = absurd cc
    here (Err f) c k = absurd cc

pub items_step : (made : List Item) (item : Item) (m : Mention) (ms left : List Mention) (keys new all : List (List ℕ)) (target : List Item)
    → left ≡ m ∷ ms → new ≡ with_name keys (key_of m) → item ≡ item_of new m → keys_after keys left ≡ all → made ++ map (item_of all) left ≡ target
    → (keys_after new ms ≡ all) × ((made ++ item ∷ []) ++ map (item_of all) ms ≡ target)
items_step made item m ms left keys new all target l n i k t =
    let whole : keys_after keys (m ∷ ms) ≡ all = ap (keys_after keys) (sym l) ∙ k in
    let one : item ≡ item_of all m = i ∙ ap (λ (x : List (List ℕ)). item_of x m) n ∙ item_stays m keys ms ∙ ap (λ (x : List (List ℕ)). item_of x m) whole in
    let rest : made ++ (item_of all m ∷ map (item_of all) ms) ≡ target = ap (λ (x : List Mention). made ++ map (item_of all) x) (sym l) ∙ t in (
      ap (λ (x : List (List ℕ)). keys_after x ms) n ∙ whole,
      append_assoc made (item ∷ []) (map (item_of all) ms) ∙ ap (λ (x : Item). made ++ (x ∷ map (item_of all) ms)) one ∙ rest,
    )
