use Rattle.std.proofs.Common.{◌≡◌, false, take}
use Rattle.std.specs.List.{list_any}
use Rattle.mk_model.specs.Conditions.{serves_from}
use Rattle.mk_column.proofs.conditions.none_serves.Given as goal

-- none so far serves
abbrev pub invariant-loop-view : goal.invariant-loop-view
invariant-loop-view l = list_any (serves_from l.epoch) (take l.view-index l.views) ≡ false
