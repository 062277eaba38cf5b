use Rattle.std.proofs.Common.{map, ap, ◌∙◌}
use Rattle.mk_merge.specs.Keepings.{handed_in}
use Rattle.mk_words.specs.KeptOutcomes.{KeptOutcomes}
use Rattle.mk_merge_laws.specs.Adding.{additions, raised_marks}
use Rattle.mk_merge_laws.proofs.Adding.{entered-coherent}
use Rattle.mk_snap.proofs.SnapLaws.{ok-both, handed-are, first-stands, stands-with}
use Rattle.mk_snap.proofs.merging.merge_counting.Goals as goal

pub added-requires : goal.added-requires
added-requires c = entered-coherent _ c.requires.0 (handed-are c.args.promises.now c.requires.0 c.requires.1) c.requires.2

pub returns : goal.returns
returns c =
    let first = c.in-Some.ensures.value in
    let more = c.in_ok-more.ensures in
    ok-both c.with.result _ _ _ (λ snap kept lefts ss stand counted.
    stands-with c.args.size c.args.epoch (map (λ p. handed_in p.now) c.args.promises.now) ss c.in-Some.first.now.now.base snap c.in_ok-more.more.list.items c.in_ok-more.more.marks
    (handed-are c.args.promises.now ss stand) counted (first-stands c.args.promises.now c.in-Some.first.now ss first stand)
    (more.list ∙ ap (λ (k : KeptOutcomes). additions c.args.size c.args.epoch k (map (λ p. handed_in p.now) c.args.promises.now)) c.kept.ensures)
    (more.marks ∙ ap (λ (k : KeptOutcomes). raised_marks k.marks (map (λ p. handed_in p.now) c.args.promises.now)) c.kept.ensures) more.fits kept lefts) c.with.ensures.kept c.with.ensures.lefts
