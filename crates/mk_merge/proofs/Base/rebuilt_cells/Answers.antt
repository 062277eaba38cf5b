use Rattle.std.proofs.Common.{List, subst, sym}
use Rattle.mk_words.specs.declared.Fated.{Fated}
use Rattle.mk_words.specs.Bases.{commits_in}
use Rattle.mk_merge_laws.specs.Lefts.{LeftState, AreLeft}
use Rattle.mk_merge.proofs.CellsMade.{made-all}
use Rattle.mk_merge.proofs.Base.rebuilt_cells.Goals as goal

pub returns : goal.returns
returns c =
    let lefts = c.deref-left-items.result.now in
    let of_base : AreLeft (commits_in c.args.self.now.list) c.args.keys lefts =
    subst (λ (xs : List LeftState). AreLeft (commits_in c.args.self.now.list) c.args.keys xs) (sym c.deref-left-items.ensures.value)
    (subst (λ (list : List Fated). AreLeft (commits_in list) c.args.keys c.in_ok-lefts.lefts.items) c.list.ensures.value c.in_ok-lefts.ensures) in
    made-all c.args.self.now c.args.keys lefts c.loop-left.left-index c.loop-left.cells.items c.loop-left-test.false c.loop-left.auto.left-index-end of_base c.loop-left.invariant
