-- The end of a txn line.
use Rattle.std.proofs.Common.{◌≡◌, ℕ, ◌≤◌, ◌^◌, Bool, true, false, leb, ltb, List, length, min, Some, Result, Ok, Err, refl, arith, map}
use Rattle.std.proofs.lemmas.Bool.Decides.{nat_tests}
use Rattle.mk_spelling.specs.declared.fault.TextFault.{TextFault}
use Rattle.mk_spelling.specs.declared.fault.TextFault.TheVariants as faults
use Rattle.mk_spelling.specs.Words.{is_name, number}
use Rattle.mk_spelling.specs.Fields.{◌>>=◌, ◌>>◌, need, found, two_and_more}
use Rattle.mk_spelling.proofs.FieldLaws.{found_ok}
use Rattle.mk_script.specs.Scripts.{State, client_number, txn_count, total}
use Rattle.mk_script.specs.Grammar.{Mention, keys_after, item_of, with_txn}
use Rattle.mk_script.specs.ItemShapes.{are_items, mentions_of}
use Rattle.mk_script.specs.Faults.{in_rounds, txn_result}
use Rattle.mk_script.specs.Seen.{counted, ok_or_nil, mentioned, added_txn}

pub txn_is : (s : State) (ws : List (List ℕ)) (name clock : List ℕ) (items : List (List ℕ)) (client time many : ℕ)
    → Some (name, clock, items) ≡ two_and_more ws → are_items s.version items ≡ true → in_rounds s.section ≡ true → is_name name ≡ true
    → found faults.Unknown (client_number s name) ≡ Ok client → number 0 (2 ^ 61) clock ≡ Ok time → counted (mentions_of items) ≡ Ok many → many ≤ 16
    → txn_result s ws ≡ added_txn s client time (mentioned items)
txn_is s ws name clock items client time many w f r n c t k few =
    let cn : client_number s name ≡ Some client = found_ok faults.Unknown (client_number s name) client c in
    rw (← w, f, r, n, cn, t) (here (mentions_of items) k)
  where
    here : (o : Result (List Mention) TextFault) → counted o ≡ Ok many
        → (o >>= λ mentions. need (leb (length mentions) 16) faults.Many >> (need (leb (length (keys_after s.keys mentions)) 256) faults.Many >> (need (ltb (total txn_count s) 4096) faults.Many >> Ok (with_txn s (keys_after s.keys mentions) (record { client = client; clock = time; items = map (item_of (keys_after s.keys mentions)) mentions })))))
        ≡ added_txn s client time (ok_or_nil o)
    here (Ok ms) h =
        let e : min 17 (length ms) ≡ many = cc in
        let small : leb (length ms) 16 ≡ true = grind (arith, nat_tests) in
        rw small refl
    here (Err fault) h = absurd cc

pub need_true : (b : Bool) (fault : TextFault) (u : Unit {0}) → Ok u ≡ need b fault → b ≡ true
need_true true fault u e = refl
need_true false fault u e = absurd cc
