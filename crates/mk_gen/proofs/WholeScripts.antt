-- A generated script keeps the rules of the format.
use Rattle.std.proofs.Common.{◌≡◌, ℕ, zero, suc, ◌+◌, ◌%◌, ◌^◌, ◌<◌, ◌≤◌, Bool, true, false, cond, eqb, List, [], ◌∷◌, ◌++◌, length, map, refl, sym, ap, ◌∙◌, arith, mod-lt, append_assoc}
use Rattle.std.specs.List.{flat_map, AllByRecursion}
use Rattle.std.proofs.lemmas.List.{length-map}
use Rattle.std.proofs.lemmas.List.Concat.{flat_map-cons}
use Rattle.rand_pcg.specs.Lcg.{Lcg}
use Rattle.mk_lists.specs.Among.{Each}
use Rattle.mk_proc.specs.declared.Item.{Item}
use Rattle.mk_proc.specs.declared.Item.TheVariants as items
use Rattle.mk_proc.specs.declared.ProcKind.TheVariants as procs
use Rattle.mk_script.specs.declared.lines.TxnLine.{TxnLine}
use Rattle.mk_script.specs.Grammar.{IsMention, keys_after, item_of}
use Rattle.mk_script.specs.Whole.{TxnsAt, IsWhole}
use Rattle.mk_gen.specs.WordStream.{word, rest}
use Rattle.mk_gen.specs.Drawn.{Share, key_picked, item_of_kind, after_item, items_drawn, item_count, share_of, txn_drawn, after_txn, txns_drawn}
use Rattle.mk_gen.specs.Generated.{mention, mentions, keys_of_txns, numbered, client_lines, script_of_txns}
use Rattle.mk_gen.proofs.WordRanges.{word-below}
use Rattle.mk_gen.proofs.DrawSteps.{picked-below}
use Rattle.mk_gen.proofs.NumberNames.{number_name}
use Rattle.mk_gen.proofs.KeyNumbers.{keys_after-append, items_stay}
use Rattle.mk_gen.proofs.ClientLines.{length-client_lines, client_owned, clients_fit}

-- an item of a script of version 1, whose key has 32 bits
abbrev IsPlain : Item → Type 0
IsPlain item = IsMention 1 (mention item)

plain_kind : (kind key value : ℕ) → key < 2 ^ 32 → value < 2 ^ 64 → IsPlain (item_of_kind kind key value)
plain_kind kind key value k v = here (eqb kind 2) (eqb kind 3)
  where
    here : (a b : Bool) → IsPlain (cond a (items.Write key value) (cond b (items.Compute key procs.Add 1) (items.Read key)))
    here true b = record { well_named = number_name 107 key refl k; fits = v }
    here false true = record { well_named = number_name 107 key refl k; fits = omega arith }
    here false false = record { well_named = number_name 107 key refl k; fits = tt }

-- one of the clients that share the keys
record IsShare (s : Share) : Type 0 where
  some : 1 ≤ s.client
  few : s.client ≤ s.clients
  enough : s.clients ≤ s.keys
  within : s.keys ≤ 256

plain_items : (s : Share) (n : ℕ) (words : Lcg) → IsShare s → AllByRecursion (IsMention 1) (map mention (items_drawn s n words))
plain_items s zero words h = tt
plain_items s (suc n) words h =
    let below = picked-below s (word words) h.some h.few h.enough in
    let within : s.keys ≤ 256 = h.within in
    let value = word-below (rest words) in
    (plain_kind (word words % 4) (key_picked s (word words)) (word (rest words)) (omega (arith, below, within)) (omega (arith, value)), plain_items s n (after_item words) h)

length-items_drawn : (s : Share) (n : ℕ) (words : Lcg) → length (map mention (items_drawn s n words)) ≡ n
length-items_drawn s zero words = refl
length-items_drawn s (suc n) words = ap suc (length-items_drawn s n (after_item words))

-- what holds of a drawn transaction
record IsDrawn (clients : ℕ) (txn : TxnLine) : Type 0 where
  client_low : 1 ≤ txn.client
  client_high : txn.client ≤ clients
  clock_fits : txn.clock ≤ 2 ^ 61
  fit : AllByRecursion (IsMention 1) (mentions txn)
  some : 0 < length (mentions txn)
  few : length (mentions txn) ≤ 16

txn_is_drawn : (clients keys t : ℕ) (words : Lcg) → 1 ≤ clients → clients ≤ keys → keys ≤ 256 → t < 4096 → IsDrawn clients (txn_drawn clients keys t words)
txn_is_drawn clients keys t words some enough few early =
    let turn : t % clients < clients = mod-lt t (omega arith) in
    let share : IsShare (share_of clients keys t) = record { some = omega arith; few = omega (arith, turn); enough = enough; within = few } in
    let count = length-items_drawn (share_of clients keys t) (item_count words) (rest words) in
    let size : word words % 4 < 4 = mod-lt (word words) (omega arith) in
    record {
      client_low = omega arith;
      client_high = omega (arith, turn);
      clock_fits = omega (arith, early);
      fit = plain_items (share_of clients keys t) (item_count words) (rest words) share;
      some = omega (arith, count);
      few = omega (arith, count, size);
    }

txns_are_drawn : (clients keys n t : ℕ) (words : Lcg) → 1 ≤ clients → clients ≤ keys → keys ≤ 256 → t + n ≤ 4096 → Each (IsDrawn clients) (txns_drawn clients keys n t words)
txns_are_drawn clients keys zero t words some enough few within = tt
txns_are_drawn clients keys (suc n) t words some enough few within =
    (txn_is_drawn clients keys t words some enough few (omega (arith, within)), txns_are_drawn clients keys n (t + 1) (after_txn words) some enough few (omega (arith, within)))

length-txns_drawn : (clients keys n t : ℕ) (words : Lcg) → length (txns_drawn clients keys n t words) ≡ n
length-txns_drawn clients keys zero t words = refl
length-txns_drawn clients keys (suc n) t words = ap suc (length-txns_drawn clients keys n (t + 1) (after_txn words))

-- the transactions stand one behind the other, and name their keys by the numbers of all
txns_stand : (clients : ℕ) (before all : List (List ℕ)) (txns : List TxnLine) → clients ≤ 64 → Each (IsDrawn clients) txns
    → keys_after before (flat_map mentions txns) ≡ all → TxnsAt 1 (client_lines clients) before (map (numbered all) txns) all
txns_stand clients before all [] few h e = sym e
txns_stand clients before all (txn ∷ txns) few h e =
    let mid = keys_after before (mentions txn) in
    let split : flat_map mentions (txn ∷ txns) ≡ mentions txn ++ flat_map mentions txns = flat_map-cons mentions txn txns in
    let whole : keys_after before (mentions txn ++ flat_map mentions txns) ≡ all = ap (keys_after before) (sym split) ∙ e in
    let left : keys_after mid (flat_map mentions txns) ≡ all = sym (keys_after-append before (mentions txn) (flat_map mentions txns)) ∙ whole in
    let stay : map (item_of all) (mentions txn) ≡ map (item_of mid) (mentions txn) =
    ap (λ (x : List (List ℕ)). map (item_of x) (mentions txn)) (sym whole) ∙ sym (items_stay before (mentions txn) (flat_map mentions txns)) in (
      mid,
      record {
        owner = client_owned clients txn.client h.0.client_low h.0.client_high few;
        clock_fits = h.0.clock_fits;
        mentions = mentions txn;
        fit = h.0.fit;
        some = h.0.some;
        few = h.0.few;
        items = stay;
        grown = refl;
      },
      txns_stand clients mid all txns few h.1 left,
    )

-- the script of transactions that are drawn is a script
pub drawn_whole : (clients keys txns : ℕ) (words : Lcg) → 1 ≤ clients → clients ≤ 64 → txns ≤ 4096 → clients ≤ keys → keys ≤ 256
    → length (keys_of_txns (txns_drawn clients keys txns 0 words)) ≤ 256 → IsWhole (script_of_txns clients (txns_drawn clients keys txns 0 words))
drawn_whole clients keys txns words some few_clients few_txns enough few_keys few_names =
    let drawn = txns_drawn clients keys txns 0 words in
    let all = keys_of_txns drawn in
    let count : length (map (numbered all) drawn) ≡ txns = length-map drawn (numbered all) ∙ length-txns_drawn clients keys txns 0 words in
    let clients_count = length-client_lines clients in
    record {
      head = record { version_low = omega arith; version_high = omega arith; size_low = omega arith; size_high = omega arith; retry_high = omega arith };
      prelude = record { clients_fit = clients_fit clients few_clients; clients_few = omega (arith, clients_count); faults_fit = tt; stops_fit = tt; few = omega arith };
      rounds = record {
        numbered = (all, record { txns = txns_stand clients [] all drawn few_clients (txns_are_drawn clients keys txns 0 words some enough few_keys (omega arith)) refl; takeovers = tt; globals = tt }, refl);
        some = omega arith;
        few = omega arith;
        keys_few = few_names;
        txns_few = omega (arith, count);
        takeovers_few = omega arith;
        globals_few = omega arith;
      };
    }

-- ---- one transaction after the other

-- one transaction more
pub txns_step : (clients keys n m t : ℕ) (words left : Lcg) (made pushed : List TxnLine) (line : TxnLine) (names new all : List (List ℕ)) (target : List TxnLine)
    → n ≡ suc m → left ≡ after_txn words → new ≡ keys_after names (mentions (txn_drawn clients keys t words)) → line ≡ numbered new (txn_drawn clients keys t words)
    → pushed ≡ made ++ line ∷ [] → keys_after names (flat_map mentions (txns_drawn clients keys n t words)) ≡ all
    → made ++ map (numbered all) (txns_drawn clients keys n t words) ≡ target
    → (keys_after new (flat_map mentions (txns_drawn clients keys m (t + 1) left)) ≡ all) × (pushed ++ map (numbered all) (txns_drawn clients keys m (t + 1) left) ≡ target)
txns_step clients keys n m t words left made pushed line names new all target e l k i p named lines =
    let txn = txn_drawn clients keys t words in
    let more = txns_drawn clients keys m (t + 1) (after_txn words) in
    let unrolled : txns_drawn clients keys n t words ≡ txn ∷ more = ap (λ (x : ℕ). txns_drawn clients keys x t words) e in
    let split : flat_map mentions (txns_drawn clients keys n t words) ≡ mentions txn ++ flat_map mentions more = ap (flat_map mentions) unrolled ∙ flat_map-cons mentions txn more in
    let whole : keys_after names (mentions txn ++ flat_map mentions more) ≡ all = ap (keys_after names) (sym split) ∙ named in
    let behind : keys_after new (flat_map mentions more) ≡ all =
    ap (λ (x : List (List ℕ)). keys_after x (flat_map mentions more)) k ∙ sym (keys_after-append names (mentions txn) (flat_map mentions more)) ∙ whole in
    let stay : map (item_of new) (mentions txn) ≡ map (item_of all) (mentions txn) =
    ap (λ (x : List (List ℕ)). map (item_of x) (mentions txn)) k ∙ items_stay names (mentions txn) (flat_map mentions more) ∙ ap (λ (x : List (List ℕ)). map (item_of x) (mentions txn)) whole in
    let same : numbered new txn ≡ numbered all txn = λ j. record { client = txn.client; clock = txn.clock; items = stay j } in (
      ap (λ (w : Lcg). keys_after new (flat_map mentions (txns_drawn clients keys m (t + 1) w))) l ∙ behind,
      ap (λ (x : List TxnLine). x ++ map (numbered all) (txns_drawn clients keys m (t + 1) left)) p
          ∙ ap (λ (w : Lcg). (made ++ line ∷ []) ++ map (numbered all) (txns_drawn clients keys m (t + 1) w)) l ∙ append_assoc made (line ∷ []) (map (numbered all) more)
          ∙ ap (λ (x : TxnLine). made ++ (x ∷ map (numbered all) more)) (i ∙ same) ∙ ap (λ (x : List TxnLine). made ++ map (numbered all) x) (sym unrolled) ∙ lines,
    )
