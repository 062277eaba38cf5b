use Rattle.std.proofs.Common.{◌≡◌, map, ap, sym, ◌∙◌, subst}
use Rattle.mk_words.specs.Promises.{chosen, counting}
use Rattle.mk_words.specs.Merging.{merged_from}
use Rattle.mk_merge_laws.specs.Adding.{AreCounted}
use Rattle.mk_merge.specs.Keepings.{listed}
use Rattle.mk_merge_laws.proofs.Counting.{counting-asked}
use Rattle.mk_merge.proofs.StandLaws.{counting-listed, listed-now, listed-enough}
use Rattle.mk_merge.proofs.joining.merge_listed.Goals as goal

pub merge_counting-requires : goal.merge_counting-requires
merge_counting-requires c =
    let all = map listed c.args.promises.now in
    let is : map (λ p. listed p.now) c.as_slice.result.now ≡ counting (chosen c.args.size c.args.epoch all) =
    ap (map (λ p. listed p.now)) c.as_slice.ensures.value ∙ listed-now c.in-Ok.counting.items ∙ ap (map listed) c.in-Ok.ensures.ok ∙ counting-listed c.args.size c.args.epoch c.args.promises.now in
    subst AreCounted (sym is) (counting-asked c.args.size c.args.epoch all c.requires)

pub returns-in-Err-clause-short : goal.returns-in-Err-clause-short
returns-in-Err-clause-short c few = let is = c.in-Err.ensures.short (listed-enough c.args.size c.args.epoch c.args.promises.now ∙ few) in cc is

pub returns-in-Err-clause-enough : goal.returns-in-Err-clause-enough
returns-in-Err-clause-enough c enough = c.in-Err.ensures.enough (listed-enough c.args.size c.args.epoch c.args.promises.now ∙ enough)

pub returns-in_err-base-clause-short : goal.returns-in_err-base-clause-short
returns-in_err-base-clause-short c few = let is = c.in-Ok.ensures.short (listed-enough c.args.size c.args.epoch c.args.promises.now ∙ few) in absurd (cc is)

pub returns-clause-ok : goal.returns-clause-ok
returns-clause-ok c =
    c.in_ok-base.ensures
    ∙ ap (merged_from c.args.size c.args.epoch) (ap (map (λ p. listed p.now)) c.as_slice.ensures.value ∙ listed-now c.in-Ok.counting.items ∙ ap (map listed) c.in-Ok.ensures.ok ∙ counting-listed c.args.size c.args.epoch c.args.promises.now)

pub returns-clause-short : goal.returns-clause-short
returns-clause-short c few = let is = c.in-Ok.ensures.short (listed-enough c.args.size c.args.epoch c.args.promises.now ∙ few) in absurd (cc is)
