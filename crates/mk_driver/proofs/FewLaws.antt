-- The transactions of a script have at most 16 items.
use Rattle.std.proofs.Common.{◌≡◌, ◌<◌, ℕ, zero, suc, List, [], ◌∷◌, arith, length, map, refl, ap}
use Rattle.std.specs.Prelude.{slice_index_or}
use Rattle.std.proofs.lemmas.List.{length-map}
use Rattle.mk_lists.specs.Among.{Each}
use Rattle.mk_script.specs.declared.lines.ClientLine.{ClientLine}
use Rattle.mk_script.specs.declared.lines.TxnLine.{TxnLine}
use Rattle.mk_script.specs.declared.lines.Round.{Round}
use Rattle.mk_script.specs.Scripts.{ScriptParts}
use Rattle.mk_script.specs.Whole.{IsWhole, TxnsAt, RoundsAt}
use Rattle.mk_driver.specs.Keeping.{HasFew, HaveFew}

txns_few : (version : ℕ) (clients : List ClientLine) (keys : List (List ℕ)) (txns : List TxnLine) (after : List (List ℕ)) → TxnsAt version clients keys txns after → Each HasFew txns
txns_few version clients keys [] after h = tt
txns_few version clients keys (txn ∷ txns) after h =
    let fits = h.1 in
    let long : length txn.items ≡ length fits.mentions = rw fits.items (length-map fits.mentions _) in
    (omega (arith, long, fits.few), txns_few version clients h.0 txns after h.2)

rounds_few : (version size : ℕ) (clients : List ClientLine) (keys : List (List ℕ)) (rounds : List Round) (after : List (List ℕ)) → RoundsAt version size clients keys rounds after → Each HaveFew rounds
rounds_few version size clients keys [] after h = tt
rounds_few version size clients keys (round ∷ rounds) after h =
    let fits = h.1 in
    (txns_few version clients keys round.txns h.0 fits.txns, rounds_few version size clients h.0 rounds after h.2)

pub whole_few : (script : ScriptParts) → IsWhole script → Each HaveFew script.rounds
whole_few script h = let rounds = h.rounds in rounds_few script.version script.size script.clients [] script.rounds script.keys rounds.numbered

-- what holds of each holds of the one at a place
pub each_at : {X : Type 0} (P : X → Type 0) (xs : List X) (place : ℕ) (d : X) → Each P xs → place < length xs → P (slice_index_or xs place d)
each_at P [] place d h l = absurd (omega (arith, l))
each_at P (x ∷ xs) zero d h l = h.0
each_at P (x ∷ xs) (suc place) d h l = each_at P xs place d h.1 (omega (arith, l))
