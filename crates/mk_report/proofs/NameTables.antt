-- A table of names is built one name at a time.
use Rattle.std.proofs.Common.{◌≡◌, ℕ, zero, suc, ◌+◌, ◌<◌, List, [], ◌∷◌, length, map, drop, refl, sym, ap, subst, ◌∙◌, arith, Ordering, Less, Equal, Greater}
use Rattle.std.specs.Borrow.{Bor}
use Rattle.std.specs.BTreeMap.{insert_entry}
use Rattle.std.specs.Cmp.Lexicographic.{slice_cmp}
use Rattle.std.specs.Ordering.{nat_cmp, match_ordering}
use Rattle.mk_script.specs.Printed.{key_name}
use Rattle.mk_report.specs.Seen.{seen_entry}
use Rattle.mk_report.specs.StoreTexts.{NameTable, with_names}

abbrev pub borrowed_cmp : Bor (List ℕ) → Bor (List ℕ) → Ordering
borrowed_cmp x y = slice_cmp nat_cmp x.now y.now

seen-insert : (entries : List (Bor (List ℕ) × ℕ)) (name : Bor (List ℕ)) (number : ℕ)
    → map seen_entry (insert_entry borrowed_cmp entries name number) ≡ insert_entry (slice_cmp nat_cmp) (map seen_entry entries) name.now number
seen-insert [] name number = refl
seen-insert (e ∷ es) name number = here (slice_cmp nat_cmp name.now e.0.now) (seen-insert es name number)
  where
    here : (o : Ordering) → map seen_entry (insert_entry borrowed_cmp es name number) ≡ insert_entry (slice_cmp nat_cmp) (map seen_entry es) name.now number
        → map seen_entry (match_ordering o ((name, number) ∷ e ∷ es) ((e.0, number) ∷ es) (e ∷ insert_entry borrowed_cmp es name number))
        ≡ match_ordering o ((name.now, number) ∷ seen_entry e ∷ map seen_entry es) ((e.0.now, number) ∷ map seen_entry es) (seen_entry e ∷ insert_entry (slice_cmp nat_cmp) (map seen_entry es) name.now number)
    here Less more = refl
    here Equal more = refl
    here Greater more = ap (λ (l : NameTable). seen_entry e ∷ l) more

drop_named : (names : List (List ℕ)) (i : ℕ) → i < length names → drop i names ≡ key_name names i ∷ drop (i + 1) names
drop_named [] i h = absurd (omega arith)
drop_named (x ∷ xs) zero h = refl
drop_named (x ∷ xs) (suc i) h =
    let e : suc i + 1 ≡ suc (i + 1) = omega arith in
    subst (λ (n : ℕ). drop i xs ≡ key_name xs i ∷ drop n (x ∷ xs)) (sym e) (drop_named xs i (omega arith))

-- one name more
pub table_step : (names : List (List ℕ)) (i : ℕ) (entries new : List (Bor (List ℕ) × ℕ)) (name : Bor (List ℕ)) (target : NameTable) → i < length names
    → name.now ≡ key_name names i → new ≡ insert_entry borrowed_cmp entries name i → with_names i (drop i names) (map seen_entry entries) ≡ target
    → with_names (i + 1) (drop (i + 1) names) (map seen_entry new) ≡ target
table_step names i entries new name target within is put t =
    ap (λ (x : List (Bor (List ℕ) × ℕ)). with_names (i + 1) (drop (i + 1) names) (map seen_entry x)) put
    ∙ ap (with_names (i + 1) (drop (i + 1) names)) (seen-insert entries name i)
    ∙ ap (λ (w : List ℕ). with_names (i + 1) (drop (i + 1) names) (insert_entry (slice_cmp nat_cmp) (map seen_entry entries) w i)) is
    ∙ ap (λ (x : List (List ℕ)). with_names i x (map seen_entry entries)) (sym (drop_named names i within)) ∙ t
