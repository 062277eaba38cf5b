-- Commits by their keys: what is kept at each, and that all that conflict are found by it.
use Rattle.std.proofs.Common.{◌≡◌, ℕ, ◌<◌, ◌+◌, Bool, true, false, refl, sym, ap, ◌∙◌, List, [], ◌∷◌, length, get_or, drop, subst, add-one, ◌&&◌, ◌||◌, ◌==◌}
use Rattle.std.specs.List.{list_any}
use Rattle.mk_txn.specs.declared.Stamp.{Stamp}
use Rattle.mk_txn.specs.declared.ReadItem.{ReadItem}
use Rattle.mk_txn.specs.declared.WriteItem.{WriteItem}
use Rattle.mk_txn.specs.Transactions.{Transaction}
use Rattle.mk_txn.specs.Clashes.{conflict, clashes, writes_key, is_between}
use Rattle.mk_merge.specs.Clashing.{reads_over}
use Rattle.mk_merge.specs.Spanning.{spans_over}
use Rattle.std.proofs.Math.Seq.{drop-cons}

-- ---- one more for each item

or_grouped : (a b c : Bool) → ((a || b) || c) ≡ (a || (b || c))
or_grouped true b c = refl
or_grouped false b c = refl

-- what is kept, with the items that are left, comes to all of them
kept-next : {X : Type 0} (hit : X → Bool) (items : List X) (i : ℕ) (d : X) (begun old new : Bool) → i < length items
    → new ≡ (old || hit (get_or items i d)) → (old || list_any hit (drop i items)) ≡ begun → (new || list_any hit (drop (i + 1) items)) ≡ begun
kept-next {X} hit items i d begun old new within made h =
    ap (λ (b : Bool). b || list_any hit (drop (i + 1) items)) made
    ∙ or_grouped old (hit (get_or items i d)) (list_any hit (drop (i + 1) items))
    ∙ sym (ap (λ (xs : List X). old || list_any hit xs) (subst (λ (k : ℕ). drop i items ≡ get_or items i d ∷ drop k items) (sym (add-one i)) (drop-cons items i d within)))
    ∙ h

-- the span of one more read
pub read-next : (key : ℕ) (stamp reader stamped : Stamp) (items reads : List ReadItem) (i : ℕ) (d : ReadItem) (begun old new : Bool) → items ≡ reads → stamped ≡ reader → i < length items
    → new ≡ (old || (key == (get_or items i d).key && spans_over stamp (record { version = (get_or items i d).version; reader = stamped })))
    → (old || list_any (λ item. key == item.key && is_between item.version stamp reader) (drop i reads)) ≡ begun
    → (new || list_any (λ item. key == item.key && is_between item.version stamp reader) (drop (i + 1) reads)) ≡ begun
read-next key stamp reader stamped items reads i d begun old new same own within made h =
    kept-next (λ (item : ReadItem). key == item.key && is_between item.version stamp reader) reads i d begun old new
    (subst (λ (xs : List ReadItem). i < length xs) same within)
    (made ∙ ap (λ (s : Stamp). old || (key == (get_or items i d).key && is_between (get_or items i d).version stamp s)) own ∙ ap (λ (xs : List ReadItem). old || (key == (get_or xs i d).key && is_between (get_or xs i d).version stamp reader)) same)
    h

-- ---- tests under tests

any-same : {X : Type 0} (p q : X → Bool) → ((x : X) → p x ≡ q x) → (xs : List X) → list_any p xs ≡ list_any q xs
any-same p q h [] = refl
any-same p q h (x ∷ xs) = ap (λ (b : Bool). b || list_any p xs) (h x) ∙ ap (λ (b : Bool). q x || b) (any-same p q h xs)

or_crossed : (a b c d : Bool) → ((a || b) || (c || d)) ≡ ((a || c) || (b || d))
or_crossed true b c d = refl
or_crossed false true true d = refl
or_crossed false true false d = refl
or_crossed false false c d = refl

any-either : {X : Type 0} (p q : X → Bool) (xs : List X) → (list_any p xs || list_any q xs) ≡ list_any (λ x. p x || q x) xs
any-either p q [] = refl
any-either p q (x ∷ xs) = or_crossed (p x) (list_any p xs) (q x) (list_any q xs) ∙ ap (λ (b : Bool). (p x || q x) || b) (any-either p q xs)

any-nothing : {X : Type 0} (xs : List X) → false ≡ list_any (λ (x : X). false) xs
any-nothing [] = refl
any-nothing (x ∷ xs) = any-nothing xs

-- which list is gone through first makes no difference
any-turned : {X Y : Type 0} (f : X → Y → Bool) (xs : List X) (ys : List Y) → list_any (λ x. list_any (f x) ys) xs ≡ list_any (λ y. list_any (λ x. f x y) xs) ys
any-turned f [] ys = any-nothing ys
any-turned f (x ∷ xs) ys = ap (λ (b : Bool). list_any (f x) ys || b) (any-turned f xs ys) ∙ any-either (f x) (λ y. list_any (λ z. f z y) xs) ys

any-and : {X : Type 0} (p : X → Bool) (b : Bool) (xs : List X) → list_any (λ x. p x && b) xs ≡ (list_any p xs && b)
any-and p b [] = refl
any-and p b (x ∷ xs) = ap (λ (c : Bool). (p x && b) || c) (any-and p b xs) ∙ spread (p x) (list_any p xs) b
  where
    spread : (a c b : Bool) → ((a && b) || (c && b)) ≡ ((a || c) && b)
    spread true true true = refl
    spread true true false = refl
    spread true false true = refl
    spread true false false = refl
    spread false c b = refl

-- ---- who clashes

-- those that write what the transaction read
pub reads-clash : (txn : Transaction) (commits : List Transaction) → list_any (λ item. list_any (λ c. writes_key item.key c && is_between item.version c.stamp txn.stamp) commits) txn.reads ≡ list_any (clashes txn) commits
reads-clash txn commits = any-turned (λ (item : ReadItem) (c : Transaction). writes_key item.key c && is_between item.version c.stamp txn.stamp) txn.reads commits

-- those that read what it writes
pub writes-clash : (txn : Transaction) (commits : List Transaction) → list_any (λ item. list_any (reads_over item.key txn.stamp) commits) txn.writes ≡ list_any (λ c. clashes c txn) commits
writes-clash txn commits =
    any-turned (λ (item : WriteItem) (c : Transaction). reads_over item.key txn.stamp c) txn.writes commits
    ∙ any-same (λ (c : Transaction). list_any (λ item. reads_over item.key txn.stamp c) txn.writes) (λ c. clashes c txn) of_one commits
  where
    of_one : (c : Transaction) → list_any (λ item. reads_over item.key txn.stamp c) txn.writes ≡ clashes c txn
    of_one c =
        any-turned (λ (w : WriteItem) (r : ReadItem). w.key == r.key && is_between r.version txn.stamp c.stamp) txn.writes c.reads
        ∙ any-same (λ (r : ReadItem). list_any (λ (w : WriteItem). w.key == r.key && is_between r.version txn.stamp c.stamp) txn.writes) (λ r. writes_key r.key txn && is_between r.version txn.stamp c.stamp)
        (λ r. any-and (λ (w : WriteItem). w.key == r.key) (is_between r.version txn.stamp c.stamp) txn.writes) c.reads

-- the answer where what it reads settles it, and where it does not
pub clash-then : (txn : Transaction) (commits : List Transaction) (r : Bool) → r ≡ list_any (clashes txn) commits → r ≡ true → r ≡ list_any (conflict txn) commits
clash-then txn commits r is e = e ∙ sym (ap (λ (x : Bool). x || list_any (λ c. clashes c txn) commits) (sym is ∙ e)) ∙ any-either (clashes txn) (λ c. clashes c txn) commits

pub clash-else : (txn : Transaction) (commits : List Transaction) (r w : Bool) → r ≡ list_any (clashes txn) commits → r ≡ false → w ≡ list_any (λ c. clashes c txn) commits → w ≡ list_any (conflict txn) commits
clash-else txn commits r w is e found = found ∙ sym (ap (λ (x : Bool). x || list_any (λ c. clashes c txn) commits) (sym is ∙ e)) ∙ any-either (clashes txn) (λ c. clashes c txn) commits
