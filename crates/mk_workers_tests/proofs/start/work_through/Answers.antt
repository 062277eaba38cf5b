use Rattle.std.proofs.Common.{◌≡◌, ◌∙◌, ℕ, length, ap, subst}
use Rattle.std.specs.Global.{Vec}
use Rattle.mk_lists.specs.Among.{Each}
use Rattle.mk_quorum.specs.Sizes.{members}
use Rattle.mk_script.specs.Scripts.{ScriptParts}
use Rattle.mk_words.specs.Cells.{CellView}
use Rattle.mk_workers_tests.proofs.Beginning.{are_begun}
use Rattle.mk_workers_tests.proofs.start.work_through.Goals as goal

pub work-requires-clause-begun : goal.work-requires-clause-begun
work-requires-clause-begun g c κs within =
    let cells = c.in_ok-cells.cells.items in
    are_begun c.stands_at_first.ensures c.has_come_goes_on.ensures.at_first c.args.rules.now c.args.script.now c.requires.rules c.requires.whole c.args.lanes.drivers.items c.args.lanes.columns.items
    c.requires.lanes cells (c.in_ok-cells.ensures.all ∙ (c.n.ensures ∙ ap (λ (s : ScriptParts). members s.size) c.script.view_is))
    (subst (λ (keys : ℕ). Each (λ (row : Vec CellView). length row.items ≡ keys) cells) (c.len.ensures.count ∙ ap (λ (s : ScriptParts). length s.keys) c.script.view_is) c.in_ok-cells.ensures.each)

pub work-requires-clause-suited : goal.work-requires-clause-suited
work-requires-clause-suited g c κs within = record { all = c.requires.told; each = λ number outlet column at at'. tt }
