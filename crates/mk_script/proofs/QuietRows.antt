-- Quiet scripts, and scripts that are not, shown by computing.
use Rattle.std.proofs.Common.{◌≡◌, ℕ, Bool, true, false, not, eqb, ◌||◌, List, [], ◌∷◌, map, refl, sym, ap, inl, inr, subst, arith}
use Rattle.std.specs.Prelude.{codes}
use Rattle.std.specs.List.{list_any, list_all}
use Rattle.std.proofs.lemmas.Bool.{eqb-true, eq-eqb}
use Rattle.mk_lists.specs.Among.{Among}
use Rattle.mk_lists.proofs.Tests.{list_any-from_Among, list_all-among}
use Rattle.mk_proc.specs.declared.Item.TheVariants.{Read, Write}
use Rattle.mk_proc.specs.Items.{key_of}
use Rattle.mk_script.specs.declared.lines.TxnLine.{TxnLine}
use Rattle.mk_script.specs.declared.lines.Round.{Round}
use Rattle.mk_script.specs.declared.lines.Point.TheVariants as points
use Rattle.mk_script.specs.Scripts.{ScriptParts}
use Rattle.mk_script.specs.Quiet.{AreApart, IsQuiet}

-- ---- a test for it

abbrev keys_of : TxnLine → List ℕ
keys_of txn = map key_of txn.items

abbrev meet : List ℕ → List ℕ → Bool
meet keys others = list_any (λ key. list_any (eqb key) others) keys

abbrev are_apart : TxnLine → TxnLine → Bool
are_apart a b = eqb a.client b.client || not (meet (keys_of a) (keys_of b))

abbrev all_apart : List TxnLine → Bool
all_apart txns = list_all (λ a. list_all (are_apart a) txns) txns

meet-at : (keys others : List ℕ) (key : ℕ) → Among key keys → Among key others → meet keys others ≡ true
meet-at keys others key a b =
    list_any-from_Among (λ k. list_any (eqb k) others) keys key a (list_any-from_Among (eqb key) others key b ((eq-eqb key key refl)))

are_apart-holds : (a b : TxnLine) → are_apart a b ≡ true → AreApart a b
are_apart-holds a b e key at_a at_b = here (eqb a.client b.client) refl e
  where
    here : (c : Bool) → eqb a.client b.client ≡ c → (c || not (meet (keys_of a) (keys_of b))) ≡ true → a.client ≡ b.client
    here true c e = eqb-true a.client b.client c
    here false c e = let met = meet-at (keys_of a) (keys_of b) key at_a at_b in absurd (cc (e, met))

apart : (txns : List TxnLine) → all_apart txns ≡ true → (a b : TxnLine) → Among a txns → Among b txns → AreApart a b
apart txns e a b at_a at_b =
    are_apart-holds a b (list_all-among (are_apart a) txns b (list_all-among (λ x. list_all (are_apart x) txns) txns a e at_a) at_b)

-- ---- the cases

-- txn a 10 r:x w:x=5, and the same of client b at the key y and at x
abbrev first : TxnLine
first = record { client = 1; clock = 10; items = Read 0 ∷ Write 0 5 ∷ [] }

abbrev elsewhere : TxnLine
elsewhere = record { client = 2; clock = 11; items = Read 1 ∷ Write 1 6 ∷ [] }

abbrev there : TxnLine
there = record { client = 2; clock = 11; items = Read 1 ∷ Read 0 ∷ [] }

-- two clients, and these transactions in one round
abbrev with_txns : List TxnLine → ScriptParts
with_txns txns = record {
  version = 1;
  size = 1;
  clients = record { name = codes "a"; column = 0; home = 0 } ∷ record { name = codes "b"; column = 0; home = 0 } ∷ [];
  keys = codes "x" ∷ codes "y" ∷ [];
  retry = 0;
  faults = [];
  stops = [];
  rounds = record { txns = txns; takeovers = []; globals = [] } ∷ [];
}

quiet : (txns : List TxnLine) → all_apart txns ≡ true → IsQuiet (with_txns txns)
quiet txns e = record { untried = refl; faultless = refl; unstopped = refl; txns = txns; one_round = refl; apart = apart txns e }

no_transaction : IsQuiet (with_txns [])
no_transaction = quiet [] refl

-- a client may come to a key again
one_client : IsQuiet (with_txns (first ∷ first ∷ elsewhere ∷ []))
one_client = quiet (first ∷ first ∷ elsewhere ∷ []) refl

-- the one round of these transactions
abbrev one_round : List TxnLine → List Round
one_round txns = record { txns = txns; takeovers = []; globals = [] } ∷ []

abbrev txns_in : List Round → List TxnLine
txns_in [] = []
txns_in (round ∷ rounds) = round.txns

two_at_a_key : ¬ (IsQuiet (with_txns (first ∷ there ∷ [])))
two_at_a_key h = here h.txns h.one_round h.apart
  where
    here : (txns : List TxnLine) → one_round (first ∷ there ∷ []) ≡ one_round txns → ((a b : TxnLine) → Among a txns → Among b txns → AreApart a b) → ⊥
    here txns e all =
        let same : (first ∷ there ∷ []) ≡ txns = ap txns_in e in
        let one : 1 ≡ 2 =
        subst (λ (x : List TxnLine). (a b : TxnLine) → Among a x → Among b x → AreApart a b) (sym same) all first there (inl refl) (inr (inl refl)) 0 (inl refl) (inr (inl refl)) in
        absurd (cc one)

retried : ¬ (IsQuiet (record (with_txns []) { retry = 1 }))
retried h = absurd (cc h.untried)

stopped : ¬ (IsQuiet (record (with_txns []) { stops = record { id = record { client = 1; seq = 1 }; point = points.Read } ∷ [] }))
stopped h = absurd (cc h.unstopped)

two_rounds : ¬ (IsQuiet (record (with_txns []) { rounds = record { txns = []; takeovers = []; globals = [] } ∷ record { txns = []; takeovers = []; globals = [] } ∷ [] }))
two_rounds h = absurd (cc h.one_round)
