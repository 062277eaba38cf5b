-- What was fetched are the first of the keys to fetch.
use Rattle.std.proofs.Common.{◌≡◌, ℕ, ◌+◌, ◌≤◌, List, [], ◌∷◌, ◌++◌, Some, length, take, sym, ap, ◌∙◌, arith, length-take}
use Rattle.std.specs.List.{slice_get}
use Rattle.std.proofs.lemmas.List.{take_more, map-append, length-map}
use Rattle.std.proofs.lemmas.Option.{slice_get_within, get_or_from_slice_get}
use Rattle.mk_txn.specs.declared.ReadItem.{ReadItem}
use Rattle.mk_txn.specs.Transactions.{read_keys}
use Rattle.mk_proc.specs.declared.Item.{Item}
use Rattle.mk_client.specs.Wanted.{wanted_keys}
use Rattle.mk_client.specs.DistinctKeys.{length-wanted_keys}

take-next : (keys : List ℕ) (n key : ℕ) → slice_get keys n ≡ Some key → take (n + 1) keys ≡ take n keys ++ key ∷ []
take-next keys n key e =
    take_more keys n 0 (slice_get_within keys n key e) ∙ ap (λ next. take n keys ++ next ∷ []) (get_or_from_slice_get keys n key 0 e)

-- after the next key was fetched too
pub read_keys-next : (keys : List ℕ) (reads : List ReadItem) (read : ReadItem) (n more : ℕ) → read_keys reads ≡ take n keys
    → slice_get keys n ≡ Some read.key → more ≡ n + 1 → read_keys (reads ++ read ∷ []) ≡ take more keys
read_keys-next keys reads read n more order e m =
    map-append (λ (item : ReadItem). item.key) reads (read ∷ []) ∙ ap (λ first. first ++ read.key ∷ []) order
    ∙ sym (take-next keys n read.key e) ∙ ap (λ k. take k keys) (sym m)

-- no more was fetched than there are items
pub length-fetched : (items : List Item) (reads : List ReadItem) (n : ℕ) → read_keys reads ≡ take n (wanted_keys items) → length reads ≤ length items
length-fetched items reads n order =
    let same : length reads ≡ length (take n (wanted_keys items)) =
    sym (length-map reads (λ (item : ReadItem). item.key)) ∙ ap length order
    in
    omega (arith, same, length-take n (wanted_keys items), length-wanted_keys items)
