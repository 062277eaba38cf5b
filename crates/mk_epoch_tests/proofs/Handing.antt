-- Entries that fit a base, one after another.
use Rattle.std.proofs.Common.{◌≡◌, ◌<◌, ℕ, zero, suc, Bool, true, false, refl, ap, ◌∙◌, List, [], ◌∷◌, subst, length, take, get_or, cond, arith}
use Rattle.mk_lists.specs.Among.{Each}
use Rattle.mk_txn.specs.MarkMaps.{covers}
use Rattle.mk_txn.specs.declared.TxnId.{TxnId}
use Rattle.mk_txn.specs.declared.Known.{Known}
use Rattle.mk_txn.specs.declared.Known.TheVariants.{Forgotten}
use Rattle.mk_words.specs.KeptOutcomes.{KeptOutcomes, known_of, known_outcome, outcome_of}
use Rattle.mk_words.specs.declared.Entry.{Entry}
use Rattle.mk_words.specs.Bases.{BaseState, kept_of, taught_by}
use Rattle.mk_words.specs.Rebuilding.{fits_base}
use Rattle.mk_words.specs.Promises.{EntryFits}

-- what is known and not forgotten is not covered
uncovered : (base : BaseState) (id : TxnId) (known : Known) → known ≡ known_of (kept_of base) id → (known ≡ Forgotten → ⊥) → covers base.marks id ≡ false
uncovered base id known is n = by (covers base.marks id) is
  where
    by : (b : Bool) → known ≡ cond b Forgotten (known_outcome (outcome_of id (taught_by base))) → b ≡ false
    by false e = refl
    by true e = absurd (n e)

pub entry_fits : (base : BaseState) (entry : Entry) (kept : KeptOutcomes) (known : Known) → known ≡ known_of kept entry.txn.id → kept ≡ kept_of base → (known ≡ Forgotten → ⊥) → fits_base base entry.txn ≡ true → EntryFits base entry
entry_fits base entry kept known is same n fit =
    record { voted = λ ok. fit; uncovered = uncovered base entry.txn.id known (is ∙ ap (λ (k : KeptOutcomes). known_of k entry.txn.id) same) n }
