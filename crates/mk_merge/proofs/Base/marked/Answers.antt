use Rattle.std.proofs.Common.{◌∙◌, ap, subst, sym}
use Rattle.mk_words.specs.KeptOutcomes.{covered_by}
use Rattle.mk_words.specs.Bases.{IsInIdOrder}
use Rattle.mk_merge.proofs.KeptLaws.{kept-begins}
use Rattle.mk_merge.proofs.Base.marked.Goals as goal

pub loop-fated-init : goal.loop-fated-init
loop-fated-init c = kept-begins _ _ _ (subst IsInIdOrder (sym c.deref-fated-items.ensures.value) c.requires.ordered) c.requires.marked (c.in_ok-cover.ensures.ok ∙ ap (covered_by c.args.marks.now) c.new-kept.ensures)
