-- The names that a script declares and mentions, and its columns.
use Rattle.std.proofs.Common.{◌≡◌, ◌∙◌, ◌≤◌, ◌<◌, ◌+◌, ℕ, zero, suc, Bool, true, false, cond, max, List, [], ◌∷◌, ◌++◌, length, map, take, get_or, Option, Some, None, refl, sym, ap, subst, append_assoc, arith, inl, inr, if◌then◌else◌}
use Rattle.std.specs.Prelude.{is_some, slice_get}
use Rattle.std.specs.List.{AllByRecursion}
use Rattle.std.specs.Str.{bytes_eq}
use Rattle.std.proofs.Math.Seq.{take-suc}
use Rattle.std.proofs.lemmas.List.{append-nil, map-append}
use Rattle.std.proofs.lemmas.Option.{same_Some, get_or_from_slice_get, slice_get-get_or}
use Rattle.std.proofs.lemmas.Slice.Eq.{bytes_eq-Decides}
use Rattle.mk_lists.specs.Among.{Among, Each, Each-append, AllDistinct}
use Rattle.mk_lists.proofs.Distinct.{AllDistinct-push}
use Rattle.mk_spelling.specs.Words.{is_name}
use Rattle.mk_spelling.specs.Fields.{place, one_on}
use Rattle.mk_names.specs.NameLists.{with_name}
use Rattle.mk_history.specs.Shape.{columns_of}
use Rattle.mk_script.specs.declared.lines.ClientLine.{ClientLine}
use Rattle.mk_script.specs.declared.lines.TxnLine.{TxnLine}
use Rattle.mk_script.specs.declared.lines.Round.{Round}
use Rattle.mk_script.specs.Grammar.{Mention, IsMention, key_of, keys_after}
use Rattle.mk_script.specs.Scripts.{ScriptParts, name_of, names_of}
use Rattle.mk_script.specs.Whole.{Prefixed, IsClientBehind, TxnsAt, RoundsAt, IsWhole}

-- names, no two alike
pub record AreNames (names : List (List ℕ)) : Type 0 where
  pub named : Each (λ name. is_name name ≡ true) names
  pub distinct : AllDistinct names

-- a name without a place is none of them
not_among : (names : List (List ℕ)) (w : List ℕ) → place w names ≡ None → ¬ Among w names
not_among [] w e = λ a. a
not_among (x ∷ xs) w e = here (bytes_eq w x) refl (place w xs) (not_among xs w) e
  where
    other : bytes_eq w x ≡ false → x ≡ w → ⊥
    other differs same = absurd (cc (differs, (bytes_eq-Decides w x).1 (sym same)))

    here : (b : Bool) → bytes_eq w x ≡ b → (o : Option ℕ) → (o ≡ None → ¬ Among w xs) → cond b (Some 0) (one_on o) ≡ None → ¬ Among w (x ∷ xs)
    here true b o ih k = absurd cc
    here false b (Some n) ih k = absurd cc
    here false b None ih k = λ a. elim a [ inl same ↦ other b same | inr c ↦ ih refl c ]

pushed : (names : List (List ℕ)) (w : List ℕ) → AreNames names → is_name w ≡ true → place w names ≡ None → AreNames (names ++ w ∷ [])
pushed names w h well fresh =
    record {
      named = Each-append (λ name. is_name name ≡ true) names (w ∷ []) h.named (well, tt);
      distinct = AllDistinct-push names w h.distinct (not_among names w fresh);
    }

with_name-keeps : (names : List (List ℕ)) (w : List ℕ) → AreNames names → is_name w ≡ true → AreNames (with_name names w)
with_name-keeps names w h well = by (place w names) refl
  where
    by : (o : Option ℕ) → place w names ≡ o → AreNames (if is_some o then names else names ++ w ∷ [])
    by (Some n) e = h
    by None e = pushed names w h well e

-- ---- keys

mentions-keep : (version : ℕ) (names : List (List ℕ)) (mentions : List Mention) → AreNames names → AllByRecursion (IsMention version) mentions → AreNames (keys_after names mentions)
mentions-keep version names [] h fit = h
mentions-keep version names (m ∷ ms) h fit = mentions-keep version (with_name names (key_of m)) ms (with_name-keeps names (key_of m) h fit.0.well_named) fit.1

txns-keep : (version : ℕ) (clients : List ClientLine) (keys : List (List ℕ)) (txns : List TxnLine) (after : List (List ℕ)) → AreNames keys →
    TxnsAt version clients keys txns after → AreNames after
txns-keep version clients keys [] after h fit = subst AreNames (sym fit) h
txns-keep version clients keys (txn ∷ txns) after h fit =
    let here = fit.1 in
    txns-keep version clients fit.0 txns after (subst AreNames (sym here.grown) (mentions-keep version keys here.mentions h here.fit)) fit.2

rounds-keep : (version size : ℕ) (clients : List ClientLine) (keys : List (List ℕ)) (rounds : List Round) (after : List (List ℕ)) → AreNames keys →
    RoundsAt version size clients keys rounds after → AreNames after
rounds-keep version size clients keys [] after h fit = subst AreNames (sym fit) h
rounds-keep version size clients keys (round ∷ rounds) after h fit =
    let here = fit.1 in
    rounds-keep version size clients fit.0 rounds after (txns-keep version clients keys round.txns fit.0 h here.txns) fit.2

no_names : AreNames []
no_names = record { named = tt; distinct = tt }

-- the keys of a script
pub keys-named : (script : ScriptParts) → IsWhole script → AreNames script.keys
keys-named script whole = rounds-keep script.version script.size script.clients [] script.rounds script.keys no_names whole.rounds.numbered

-- ---- clients

clients-keep : (size : ℕ) (before clients : List ClientLine) → AreNames (names_of before) → Prefixed (IsClientBehind size) before clients → AreNames (names_of (before ++ clients))
clients-keep size before [] h fit = subst (λ (ls : List ClientLine). AreNames (names_of ls)) (sym (append-nil before)) h
clients-keep size before (client ∷ clients) h fit =
    let all : names_of (before ++ client ∷ []) ≡ names_of before ++ client.name ∷ [] = map-append name_of before (client ∷ []) in
    let next = subst AreNames (sym all) (pushed (names_of before) client.name h fit.0.well_named fit.0.fresh) in
    subst (λ (ls : List ClientLine). AreNames (names_of ls)) (append_assoc before (client ∷ []) clients) (clients-keep size (before ++ client ∷ []) clients next fit.1)

-- the clients of a script
pub clients-named : (script : ScriptParts) → IsWhole script → AreNames (names_of script.clients)
clients-named script whole = clients-keep script.size [] script.clients no_names whole.prelude.clients_fit

columns-below : (size : ℕ) (before clients : List ClientLine) → Prefixed (IsClientBehind size) before clients → columns_of (map (λ line. line.column) clients) ≤ 8
columns-below size before [] fit = omega arith
columns-below size before (client ∷ clients) fit =
    let here : client.column ≤ 7 = fit.0.column_fits in
    let rest = columns-below size (before ++ client ∷ []) clients fit.1 in
    omega (arith, here, rest)

-- at most eight columns
pub columns-few : (script : ScriptParts) → IsWhole script → columns_of (map (λ line. line.column) script.clients) ≤ 8
columns-few script whole = columns-below script.size [] script.clients whole.prelude.clients_fit

-- ---- one after the other

-- before its first place a name does not stand
pub place-take : (names : List (List ℕ)) (k : ℕ) (w : List ℕ) → place w names ≡ Some k → place w (take k names) ≡ None
place-take [] k w e = absurd cc
place-take (x ∷ xs) zero w e = refl
place-take (x ∷ xs) (suc k) w e = here (bytes_eq w x) refl (place w xs) (place-take xs k w) e
  where
    here : (b : Bool) → bytes_eq w x ≡ b → (o : Option ℕ) → (o ≡ Some k → place w (take k xs) ≡ None) → cond b (Some 0) (one_on o) ≡ Some (suc k)
        → place w (x ∷ take k xs) ≡ None
    here true b o ih h = absurd cc
    here false b None ih h = absurd cc
    here false b (Some n) ih h =
        let same : n ≡ k = cc in
        rw (b, ih (ap Some same)) refl

-- one more of them
pub take-next : {X : Type 0} (xs : List X) (k : ℕ) (x : X) → slice_get xs k ≡ Some x → k < length xs → take (k + 1) xs ≡ take k xs ++ x ∷ []
take-next xs k x e within =
    let one_more : k + 1 ≡ suc k = omega arith in
    ap (λ (n : ℕ). take n xs) one_more ∙ take-suc xs k x within ∙ ap (λ y. take k xs ++ y ∷ []) (get_or_from_slice_get xs k x x e)

with-fresh : (names : List (List ℕ)) (w : List ℕ) → place w names ≡ None → with_name names w ≡ names ++ w ∷ []
with-fresh names w e = ap (λ (o : Option ℕ). if is_some o then names else names ++ w ∷ []) e

-- the next of names that are distinct is put behind those before it
pub named-next : (names : List (List ℕ)) (k : ℕ) (w : List ℕ) → slice_get names k ≡ Some w → k < length names → place w names ≡ Some k →
    with_name (take k names) w ≡ take (k + 1) names
named-next names k w e within first = with-fresh (take k names) w (place-take names k w first) ∙ sym (take-next names k w e within)

fresh-at : (size : ℕ) (before clients : List ClientLine) (k : ℕ) (client : ClientLine) → Prefixed (IsClientBehind size) before clients → slice_get clients k ≡ Some client →
    place client.name (names_of (before ++ take k clients)) ≡ None
fresh-at size before [] k client fit e = absurd cc
fresh-at size before (x ∷ xs) zero client fit e =
    let same : x ≡ client = same_Some x client e in
    subst (λ (ls : List ClientLine). place client.name (names_of ls) ≡ None) (sym (append-nil before))
    (subst (λ (y : ClientLine). place y.name (names_of before) ≡ None) same fit.0.fresh)
fresh-at size before (x ∷ xs) (suc k) client fit e =
    subst (λ (ls : List ClientLine). place client.name (names_of ls) ≡ None) (append_assoc before (x ∷ []) (take k xs)) (fresh-at size (before ++ x ∷ []) xs k client fit.1 e)

-- so is the name of the next client
pub client-next : (size : ℕ) (clients : List ClientLine) (k : ℕ) (client : ClientLine) → Prefixed (IsClientBehind size) [] clients → slice_get clients k ≡ Some client → k < length clients →
    with_name (names_of (take k clients)) client.name ≡ names_of (take (k + 1) clients)
client-next size clients k client fit e within =
    with-fresh (names_of (take k clients)) client.name (fresh-at size [] clients k client fit e)
    ∙ sym (ap names_of (take-next clients k client e within) ∙ map-append name_of (take k clients) (client ∷ []))

-- ---- how many columns

columns-push : (columns : List ℕ) (c : ℕ) → columns_of (columns ++ c ∷ []) ≡ max (c + 1) (columns_of columns)
columns-push [] c = refl
columns-push (x ∷ xs) c = ap (max (x + 1)) (columns-push xs c) ∙ swap (x + 1) (c + 1) (columns_of xs)
  where
    swap : (a b d : ℕ) → max a (max b d) ≡ max b (max a d)
    swap a b d = omega arith

-- one more of them
pub columns-next : (columns : List ℕ) (k : ℕ) → k < length columns → columns_of (take (k + 1) columns) ≡ max (columns_of (take k columns)) (get_or columns k 0 + 1)
columns-next columns k within =
    let c = get_or columns k 0 in
    let swap : max (c + 1) (columns_of (take k columns)) ≡ max (columns_of (take k columns)) (c + 1) = omega arith in
    ap columns_of (take-next columns k c (slice_get-get_or columns k 0 within) within) ∙ columns-push (take k columns) c ∙ swap

-- a column is below their number
pub column-below : (columns : List ℕ) (k : ℕ) → k < length columns → get_or columns k 0 + 1 ≤ columns_of columns
column-below [] k within = absurd (omega (arith, within))
column-below (x ∷ xs) zero within = omega arith
column-below (x ∷ xs) (suc k) within = let rest = column-below xs k (omega (arith, within)) in omega (arith, rest)
