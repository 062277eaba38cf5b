-- What a script's transactions ask for: at least one item and at most 16, of keys that there are, and a clock that is not too late.
use Rattle.std.proofs.Common.{◌≡◌, ◌<◌, ◌≤◌, ℕ, zero, suc, ◌^◌, refl, sym, subst, ap, arith, List, [], ◌∷◌, ◌++◌, map, length, Option, Some, None, if◌then◌else◌}
use Rattle.std.specs.Prelude.{is_some, slice_index_or}
use Rattle.std.proofs.lemmas.List.{length-append, length-map}
use Rattle.mk_lists.specs.Among.{Each}
use Rattle.mk_spelling.specs.Fields.{place}
use Rattle.mk_spelling.proofs.PlaceLaws.{place_below}
use Rattle.mk_names.specs.NameLists.{with_name}
use Rattle.mk_proc.specs.declared.Item.{Item}
use Rattle.mk_proc.specs.Items.{key_of}
use Rattle.mk_script.specs.declared.lines.ClientLine.{ClientLine}
use Rattle.mk_script.specs.declared.lines.TxnLine.{TxnLine}
use Rattle.mk_script.specs.declared.lines.Round.{Round}
use Rattle.mk_script.specs.Scripts.{ScriptParts, or_zero}
use Rattle.mk_script.specs.Grammar.{Mention, key_of as name_of, keys_after, item_of, number_of}
use Rattle.mk_script.specs.Grammar.Mention.{Reads, Writes, Computes, Deletes}
use Rattle.mk_script.specs.GrownKeys.{length_grows}
use Rattle.mk_script.specs.Whole.{IsWhole, IsTxnAt, TxnsAt, RoundsAt}
use Rattle.mk_driver.specs.declared.Request.{Request}
use Rattle.mk_driver.specs.declared.Submission.{Submission}
use Rattle.mk_driver.specs.Driven.{empty_round, lines_of_round, round_at, submitted_by}

-- the item's key is one of so many
abbrev pub IsKnown : ℕ → Item → Type 0
IsKnown keys item = key_of item < keys

-- what a transaction asks for
pub record AskFits (keys clock : ℕ) (items : List Item) : Type 0 where
  pub some : 0 < length items
  pub few : length items ≤ 16
  pub known : Each (IsKnown keys) items
  pub early : clock ≤ 2 ^ 61

abbrev pub RequestFits : ℕ → Request → Type 0
RequestFits keys request = AskFits keys request.clock request.items

abbrev pub SubmissionFits : ℕ → Submission → Type 0
SubmissionFits keys submission = RequestFits keys submission.request

abbrev LineFits : ℕ → TxnLine → Type 0
LineFits keys line = AskFits keys line.clock line.items

abbrev RoundFits : ℕ → Round → Type 0
RoundFits keys round = Each (LineFits keys) round.txns

-- ---- keys

-- a name is there, and none goes
name_grows : (keys : List (List ℕ)) (name : List ℕ) → (length keys ≤ length (with_name keys name)) × (0 < length (with_name keys name))
name_grows keys name = by (place name keys) refl
  where
    Grows : List (List ℕ) → Type 0
    Grows after = (length keys ≤ length after) × (0 < length after)

    by : (o : Option ℕ) → place name keys ≡ o → Grows (if is_some (place name keys) then keys else keys ++ name ∷ [])
    by None e =
        let all = length-append keys (name ∷ []) in
        subst (λ (o : Option ℕ). Grows (if is_some o then keys else keys ++ name ∷ [])) (sym e) (omega (arith, all), omega (arith, all))
    by (Some n) e =
        let within = place_below name keys n e in
        subst (λ (o : Option ℕ). Grows (if is_some o then keys else keys ++ name ∷ [])) (sym e) (omega arith, omega (arith, within))

names_some : (keys : List (List ℕ)) (mentions : List Mention) → 0 < length mentions → 0 < length (keys_after keys mentions)
names_some keys [] h = absurd (omega (arith, h))
names_some keys (m ∷ mentions) h =
    let one = name_grows keys (name_of m) in
    let first = one.1 in
    let rest = length_grows (with_name keys (name_of m)) mentions in
    omega (arith, first, rest)

number_below : (keys : List (List ℕ)) (name : List ℕ) → 0 < length keys → number_of keys name < length keys
number_below keys name h = by (place name keys) refl
  where
    by : (o : Option ℕ) → place name keys ≡ o → or_zero (place name keys) < length keys
    by None e = subst (λ (o : Option ℕ). or_zero o < length keys) (sym e) h
    by (Some n) e = subst (λ (o : Option ℕ). or_zero o < length keys) (sym e) (place_below name keys n e)

items_known : (keys : List (List ℕ)) (n : ℕ) (mentions : List Mention) → 0 < length keys → length keys ≤ n → Each (IsKnown n) (map (item_of keys) mentions)
items_known keys n [] h g = tt
items_known keys n (m ∷ mentions) h g = (one m, items_known keys n mentions h g)
  where
    one : (m : Mention) → key_of (item_of keys m) < n
    one (Reads name) = let low = number_below keys name h in omega (arith, low, g)
    one (Writes name number) = let low = number_below keys name h in omega (arith, low, g)
    one (Computes name proc number) = let low = number_below keys name h in omega (arith, low, g)
    one (Deletes name) = let low = number_below keys name h in omega (arith, low, g)

-- ---- lines

module _ (version : ℕ) (clients : List ClientLine) (n : ℕ) where
  line_fits : (keys : List (List ℕ)) (txn : TxnLine) (after : List (List ℕ)) → IsTxnAt version clients keys txn after → length after ≤ n → LineFits n txn
  line_fits keys txn after h g =
      subst (λ (items : List Item). AskFits n txn.clock items) (sym h.items) (record {
        some = (let some = h.some in omega (arith, count, some));
        few = (let few = h.few in omega (arith, count, few));
        known = items_known (keys_after keys h.mentions) n h.mentions (names_some keys h.mentions h.some) (subst (λ (names : List (List ℕ)). length names ≤ n) h.grown g);
        early = h.clock_fits;
      })
    where
      count : length (map (item_of (keys_after keys h.mentions)) h.mentions) ≡ length h.mentions
      count = length-map h.mentions (item_of (keys_after keys h.mentions))

  txns_grow : (keys : List (List ℕ)) (txns : List TxnLine) (after : List (List ℕ)) → TxnsAt version clients keys txns after → length keys ≤ length after
  txns_grow keys [] after h = let same : length after ≡ length keys = ap length h in omega (arith, same)
  txns_grow keys (txn ∷ txns) after h =
      let line = h.1 in
      let same : length h.0 ≡ length (keys_after keys line.mentions) = ap length line.grown in
      let first = length_grows keys line.mentions in
      let rest = txns_grow h.0 txns after h.2 in
      omega (arith, same, first, rest)

  txns_fit : (keys : List (List ℕ)) (txns : List TxnLine) (after : List (List ℕ)) → TxnsAt version clients keys txns after → length after ≤ n → Each (LineFits n) txns
  txns_fit keys [] after h g = tt
  txns_fit keys (txn ∷ txns) after h g =
      let rest = txns_grow h.0 txns after h.2 in
      (line_fits keys txn h.0 h.1 (omega (arith, rest, g)), txns_fit h.0 txns after h.2 g)

  rounds_grow : (size : ℕ) (keys : List (List ℕ)) (rounds : List Round) (after : List (List ℕ)) → RoundsAt version size clients keys rounds after → length keys ≤ length after
  rounds_grow size keys [] after h = let same : length after ≡ length keys = ap length h in omega (arith, same)
  rounds_grow size keys (round ∷ rounds) after h =
      let lines = h.1 in
      let first = txns_grow keys round.txns h.0 lines.txns in
      let rest = rounds_grow size h.0 rounds after h.2 in
      omega (arith, first, rest)

  rounds_fit : (size : ℕ) (keys : List (List ℕ)) (rounds : List Round) (after : List (List ℕ)) → RoundsAt version size clients keys rounds after → length after ≤ n → Each (RoundFits n) rounds
  rounds_fit size keys [] after h g = tt
  rounds_fit size keys (round ∷ rounds) after h g =
      let lines = h.1 in
      let rest = rounds_grow size h.0 rounds after h.2 in
      (txns_fit keys round.txns h.0 lines.txns (omega (arith, rest, g)), rounds_fit size h.0 rounds after h.2 g)

-- ---- rounds

-- what holds of each and of d holds at every place
pub each_at : {X : Type 0} (P : X → Type 0) (xs : List X) (place : ℕ) (d : X) → Each P xs → P d → P (slice_index_or xs place d)
each_at P [] place d h k = k
each_at P (x ∷ xs) zero d h k = h.0
each_at P (x ∷ xs) (suc place) d h k = each_at P xs place d h.1 k

submitted_fit : (keys retry : ℕ) (txns : List TxnLine) → Each (LineFits keys) txns → Each (SubmissionFits keys) (map (submitted_by retry) txns)
submitted_fit keys retry [] h = tt
submitted_fit keys retry (txn ∷ txns) h = (h.0, submitted_fit keys retry txns h.1)

-- what a round of a script asks for
pub round_asks : (script : ScriptParts) → IsWhole script → (number : ℕ) →
    Each (SubmissionFits (length script.keys)) (let lines = lines_of_round script (round_at script number) in lines.submissions)
round_asks script whole number =
    let rounds = whole.rounds in
    let round = round_at script number in
    submitted_fit (length script.keys) script.retry round.txns
    (each_at (RoundFits (length script.keys)) script.rounds number empty_round
    (rounds_fit script.version script.clients (length script.keys) script.size [] script.rounds script.keys rounds.numbered (omega arith)) tt)
