-- Turns of a worker, one after another, to the end of its round.
use Rattle.std.proofs.Common.{◌≡◌, Bool, true, false, List, [], ◌∷◌, ◌++◌, sym, subst}
use Rattle.std.specs.Prelude.{Result, Ok, Err, OnOk}
use Rattle.mk_words.specs.declared.Step.{Step}
use Rattle.mk_faults.specs.Fates.{RuleLines}
use Rattle.mk_column.specs.ColumnByCode.{ColumnView}
use Rattle.mk_driver.specs.Drivers.{DriverView}
use Rattle.mk_workers.specs.Going.{HasEnded, HasGone}
use Rattle.mk_workers.specs.Turns.{HasTurned}
use Rattle.mk_workers.proofs.Goings.{gone_more, gone_to_end}

-- both facts of what was done
pub on_ok_both : {T E : Type 0} (P Q : Type 0) (r : Result T E) → OnOk r P → OnOk r Q → OnOk r (P × Q)
on_ok_both P Q (Ok x) p q = (p, q)
on_ok_both P Q (Err e) p q = tt

module _ (rules : RuleLines) (first driver next : DriverView) (start column after : ColumnView) where
  -- one turn more
  pub turned_more : (goes_on : Bool) → ((more : List Step) × HasGone rules first driver start column more) → goes_on ≡ true → HasTurned rules goes_on driver next column after →
      (more : List Step) × HasGone rules first next start after more
  turned_more true gone is stepped = (gone.0 ++ stepped.step ∷ [], gone_more rules first driver next start column after gone.0 gone.1 stepped)
  turned_more false gone is over = absurd (cc is)

  -- the last turn
  pub turned_to_end : (goes_on : Bool) → ((more : List Step) × HasGone rules first driver start column more) → goes_on ≡ false → HasTurned rules goes_on driver next column after →
      HasEnded rules first next start after
  turned_to_end true gone is stepped = absurd (cc is)
  turned_to_end false gone is over = subst (HasEnded rules first next start) (sym over.0) (gone_to_end rules first driver next start column column gone.0 gone.1 over.1)
