-- A generated script is quiet: a client draws keys of its own remainder alone, so no two clients name one key.
use Rattle.std.proofs.Common.{◌≡◌, ◌∙◌, ℕ, zero, suc, ◌+◌, ◌-◌, ◌*◌, ◌/◌, ◌%◌, ◌<◌, ◌≤◌, Bool, true, false, cond, eqb, Some, List, [], ◌∷◌, map, drop, refl, sym, ap, subst, inl, inr, arith, mod-lt, add_comm, mul_comm}
use Rattle.std.specs.Prelude.{slice_get}
use Rattle.std.specs.List.{flat_map}
use Rattle.std.proofs.lemmas.Fmt.{decimal_injective}
use Rattle.std.proofs.lemmas.Nat.{mod-mul-add}
use Rattle.std.proofs.lemmas.Option.{same_Some}
use Rattle.rand_pcg.specs.Lcg.{Lcg}
use Rattle.mk_lists.specs.Among.{Among}
use Rattle.mk_lists.proofs.Members.{Among-from_map, Among-flat_map}
use Rattle.mk_spelling.specs.Fields.{place}
use Rattle.mk_spelling.proofs.PlaceLaws.{place_stays, place-get}
use Rattle.mk_names.specs.NameLists.{with_name}
use Rattle.mk_proc.specs.Items.{key_of as item_key}
use Rattle.mk_proc.specs.declared.Item.{Item}
use Rattle.mk_proc.specs.declared.Item.TheVariants as items
use Rattle.mk_proc.specs.declared.ProcKind.TheVariants as procs
use Rattle.mk_script.specs.declared.lines.TxnLine.{TxnLine}
use Rattle.mk_script.specs.Scripts.{or_zero}
use Rattle.mk_script.specs.Grammar.{Mention, key_of, keys_after, number_of, item_of}
use Rattle.mk_script.specs.Grammar.Mention.{Reads, Writes, Computes, Deletes}
use Rattle.mk_script.specs.GrownKeys.{keys_grow, added_place}
use Rattle.mk_script.specs.Quiet.{NamesKey, AreApart, IsQuiet}
use Rattle.mk_gen.specs.WordStream.{word, rest, words_of}
use Rattle.mk_gen.specs.Drawn.{Share, keys_of, key_picked, item_of_kind, after_item, items_drawn, item_count, share_of, after_txn, txns_drawn}
use Rattle.mk_gen.specs.Generated.{key_name, mention, mentions, keys_of_txns, numbered, generated}
use Rattle.mk_gen.proofs.DrawSteps.{picked-below}

-- ---- each key that is named has its place

stays : (w : List ℕ) (keys : List (List ℕ)) (ms : List Mention) (n : ℕ) → place w keys ≡ Some n → place w (keys_after keys ms) ≡ Some n
stays w keys ms n h =
    let g = keys_grow keys ms in
    ap (place w) g.1 ∙ place_stays w keys g.0 n h

placed : (keys : List (List ℕ)) (ms : List Mention) (m : Mention) → Among m ms → (n : ℕ) × (place (key_of m) (keys_after keys ms) ≡ Some n)
placed keys [] m a = absurd a
placed keys (x ∷ ms) m (inl e) =
    let p = added_place (key_of x) keys in
    let here = stays (key_of x) (with_name keys (key_of x)) ms p.0 p.1 in
    (p.0, subst (λ (y : Mention). place (key_of y) (keys_after keys (x ∷ ms)) ≡ Some p.0) e here)
placed keys (x ∷ ms) m (inr a) = placed (with_name keys (key_of x)) ms m a

-- two names of one number are one name
same_name : (names : List (List ℕ)) (v w : List ℕ) (i j : ℕ) → place v names ≡ Some i → place w names ≡ Some j → number_of names v ≡ number_of names w → v ≡ w
same_name names v w i j p q e =
    let same : i ≡ j = sym (ap or_zero p) ∙ e ∙ ap or_zero q in
    same_Some v w (sym (place-get v names i p) ∙ subst (λ (k : ℕ). slice_get names k ≡ Some w) (sym same) (place-get w names j q))

same_number : (a b : ℕ) → a < 256 → b < 256 → key_name a ≡ key_name b → a ≡ b
same_number a b p q e = decimal_injective a b (omega (arith, p)) (omega (arith, q)) (ap (λ (w : List ℕ). drop 1 w) e)

item-number : (names : List (List ℕ)) (m : Mention) → item_key (item_of names m) ≡ number_of names (key_of m)
item-number names (Reads key) = refl
item-number names (Writes key n) = refl
item-number names (Computes key proc n) = refl
item-number names (Deletes key) = refl

item-named : (item : Item) → key_of (mention item) ≡ key_name (item_key item)
item-named (items.Read key) = refl
item-named (items.Write key value) = refl
item-named (items.Compute key proc arg) = refl
item-named (items.Delete key) = refl

-- ---- a client draws keys of its own

record IsOwn (client clients key : ℕ) : Type 0 where
  remainder : key % clients + 1 ≡ client
  below : key < 256

-- one of the clients that share the keys
record IsOne (s : Share) : Type 0 where
  some : 1 ≤ s.client
  few : s.client ≤ s.clients
  enough : s.clients ≤ s.keys
  within : s.keys ≤ 256

kind-key : (kind key value : ℕ) → item_key (item_of_kind kind key value) ≡ key
kind-key kind key value = here (eqb kind 2) (eqb kind 3)
  where
    here : (a b : Bool) → item_key (cond a (items.Write key value) (cond b (items.Compute key procs.Add 1) (items.Read key))) ≡ key
    here true b = refl
    here false true = refl
    here false false = refl

picked-own : (s : Share) (w : ℕ) → IsOne s → IsOwn s.client s.clients (key_picked s w)
picked-own s w h =
    let q = w / 4 % keys_of s in
    let some = h.some in
    let few = h.few in
    let within = h.within in
    let turned : key_picked s w ≡ q * s.clients + (s.client - 1) = add_comm (s.client - 1) (s.clients * q) ∙ ap (λ (x : ℕ). x + (s.client - 1)) (mul_comm s.clients q) in
    let left : key_picked s w % s.clients ≡ s.client - 1 = ap (λ (x : ℕ). x % s.clients) turned ∙ mod-mul-add q s.clients (s.client - 1) (omega (arith, some, few)) in
    let below = picked-below s w h.some h.few h.enough in
    record { remainder = omega (arith, left, some); below = omega (arith, below, within) }

items-own : (s : Share) (n : ℕ) (words : Lcg) → IsOne s → (item : Item) → Among item (items_drawn s n words) → IsOwn s.client s.clients (item_key item)
items-own s zero words h item a = absurd a
items-own s (suc n) words h item (inl e) =
    let key = key_picked s (word words) in
    let drawn = subst (IsOwn s.client s.clients) (sym (kind-key (word words % 4) key (word (rest words)))) (picked-own s (word words) h) in
    subst (λ (i : Item). IsOwn s.client s.clients (item_key i)) e drawn
items-own s (suc n) words h item (inr a) = items-own s n (after_item words) h item a

abbrev OwnsKeys : ℕ → TxnLine → Type 0
OwnsKeys clients txn = (item : Item) → Among item txn.items → IsOwn txn.client clients (item_key item)

txns-own : (clients keys n t : ℕ) (words : Lcg) → 1 ≤ clients → clients ≤ keys → keys ≤ 256 → (txn : TxnLine) → Among txn (txns_drawn clients keys n t words) → OwnsKeys clients txn
txns-own clients keys zero t words some enough few txn a = absurd a
txns-own clients keys (suc n) t words some enough few txn (inl e) =
    let lt : t % clients < clients = mod-lt t (omega (arith, some)) in
    let one : IsOne (share_of clients keys t) = record { some = omega arith; few = omega (arith, lt); enough = enough; within = few } in
    subst (OwnsKeys clients) e (items-own (share_of clients keys t) (item_count words) (rest words) one)
txns-own clients keys (suc n) t words some enough few txn (inr a) = txns-own clients keys n (t + 1) (after_txn words) some enough few txn a

-- ---- so no two clients name one key

-- a key that a transaction names, by its own number and by its name's place
record Named (names : List (List ℕ)) (clients key : ℕ) (txn : TxnLine) : Type 0 where
  number : ℕ
  at : ℕ
  own : IsOwn txn.client clients number
  there : place (key_name number) names ≡ Some at
  is : number_of names (key_name number) ≡ key

named-key : (all : List TxnLine) (clients key : ℕ) (txn : TxnLine) → Among txn all → OwnsKeys clients txn → NamesKey (numbered (keys_of_txns all) txn) key → Named (keys_of_txns all) clients key txn
named-key all clients key txn among own names =
    let ns = keys_of_txns all in
    let k = Among-from_map item_key key (map (item_of ns) (mentions txn)) names in
    let m = Among-from_map (item_of ns) k.0 (mentions txn) k.1 in
    let i = Among-from_map mention m.0 txn.items m.1 in
    let p = placed [] (flat_map mentions all) m.0 (Among-flat_map mentions m.0 txn all among m.1) in
    let text : key_of m.0 ≡ key_name (item_key i.0) = ap key_of (sym i.2) ∙ item-named i.0 in
    record {
      number = item_key i.0;
      at = p.0;
      own = own i.0 i.1;
      there = subst (λ (w : List ℕ). place w ns ≡ Some p.0) text p.1;
      is = ap (number_of ns) (sym text) ∙ sym (item-number ns m.0) ∙ ap item_key m.2 ∙ k.2;
    }

drawn-apart : (clients : ℕ) (all : List TxnLine) → ((txn : TxnLine) → Among txn all → OwnsKeys clients txn) → (a b : TxnLine) →
    Among a (map (numbered (keys_of_txns all)) all) → Among b (map (numbered (keys_of_txns all)) all) → AreApart a b
drawn-apart clients all own a b at_a at_b key names_a names_b =
    let ns = keys_of_txns all in
    let t = Among-from_map (numbered ns) a all at_a in
    let u = Among-from_map (numbered ns) b all at_b in
    let m = named-key all clients key t.0 t.1 (own t.0 t.1) (subst (λ (x : TxnLine). NamesKey x key) (sym t.2) names_a) in
    let n = named-key all clients key u.0 u.1 (own u.0 u.1) (subst (λ (x : TxnLine). NamesKey x key) (sym u.2) names_b) in
    let same = same_number m.number n.number m.own.below n.own.below (same_name ns (key_name m.number) (key_name n.number) m.at n.at m.there n.there (m.is ∙ sym n.is)) in
    let clients_same : (t.0).client ≡ (u.0).client = sym m.own.remainder ∙ ap (λ (k : ℕ). k % clients + 1) same ∙ n.own.remainder in
    sym (ap (λ (x : TxnLine). x.client) t.2) ∙ clients_same ∙ ap (λ (x : TxnLine). x.client) u.2

pub generated-quiet : (number clients txns keys : ℕ) → 1 ≤ clients → clients ≤ keys → keys ≤ 256 → IsQuiet (generated number clients txns keys)
generated-quiet number clients txns keys some enough few =
    let all = txns_drawn clients keys txns 0 (words_of number) in
    record {
      untried = refl;
      faultless = refl;
      unstopped = refl;
      txns = map (numbered (keys_of_txns all)) all;
      one_round = refl;
      apart = drawn-apart clients all (txns-own clients keys txns 0 (words_of number) some enough few);
    }
