-- What is kept of a base knows what the base knows.
use Rattle.std.proofs.Common.{◌≡◌, Bool, true, false, refl, arith, sym, ap, ◌∙◌, List, [], ◌∷◌}
use Rattle.std.specs.Prelude.{if◌then◌else◌}
use Rattle.mk_txn.specs.declared.TxnId.{TxnId}
use Rattle.mk_txn.specs.declared.Known.TheVariants.{Forgotten}
use Rattle.mk_txn.specs.MarkMaps.{MarkMap, covers}
use Rattle.mk_txn.specs.Transactions.{same_id}
use Rattle.mk_txn.proofs.IdOrder.{same_id-tells}
use Rattle.mk_words.specs.KeptOutcomes.{Outcomes, known_of, known_outcome, not_covered, outcome_of}
use Rattle.mk_words.specs.declared.Fated.{Fated}
use Rattle.mk_words.specs.Bases.{BaseState, known, kept_of, taught_by, fate_in, fates_in}

pub fate_in-fates_in : (id : TxnId) (list : List Fated) → outcome_of id (fates_in list) ≡ fate_in id list
fate_in-fates_in id [] = refl
fate_in-fates_in id (f ∷ list) = grind (arith, fate_in-fates_in id list)

-- where a mark covers one of two equal numbers, it covers the other
apart : (marks : MarkMap) (a id : TxnId) → covers marks id ≡ false → covers marks a ≡ true → same_id a id ≡ false
apart marks a id n c = head (same_id a id) refl
  where
    head : (b : Bool) → same_id a id ≡ b → same_id a id ≡ false
    head false e = e
    head true e = absurd (cc (sym n ∙ (ap (covers marks) (sym (same_id-tells a id e)) ∙ c)))

pub outcome_of-not_covered : (marks : MarkMap) (outcomes : Outcomes) (id : TxnId) → covers marks id ≡ false →
    outcome_of id (not_covered marks outcomes) ≡ outcome_of id outcomes
outcome_of-not_covered marks [] id n = refl
outcome_of-not_covered marks (fate ∷ outcomes) id n = grind (arith, outcome_of-not_covered marks outcomes id n, apart marks fate.0 id n)

-- the outcome that is kept tells the same as the whole list, since covered attempts are forgotten either way
pub known-kept : (base : BaseState) (id : TxnId) → known_of (kept_of base) id ≡ known base id
known-kept base id = head (covers base.marks id) (λ n. outcome_of-not_covered base.marks (fates_in base.list) id n ∙ fate_in-fates_in id base.list) refl
  where
    head : (b : Bool) → (covers base.marks id ≡ false → outcome_of id (taught_by base) ≡ fate_in id base.list) → covers base.marks id ≡ b →
        (if b then Forgotten else known_outcome (outcome_of id (taught_by base))) ≡ (if b then Forgotten else known_outcome (fate_in id base.list))
    head true same e = refl
    head false same e = ap known_outcome (same e)
