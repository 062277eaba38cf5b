use Rattle.std.proofs.Common.{◌≡◌, ℕ, List, map, ap, sym, ◌∙◌, subst}
use Rattle.mk_merge.specs.declared.Promise.{Promise}
use Rattle.mk_words.specs.Promises.{PromiseState, chosen, counting}
use Rattle.mk_merge.specs.Keepings.{Stand, counting_of, chosen_of}
use Rattle.mk_merge.specs.Standing.{stand-counting, stand-enough}
use Rattle.mk_merge_laws.proofs.Counting.{counting-asked}
use Rattle.mk_snap.specs.Snapshots.{SnapState, SnapStands}
use Rattle.mk_snap.proofs.merging.merge_snaps.Goals as goal

stands : (f epoch : ℕ) (all found items : List (Promise SnapState)) (ss : List PromiseState) → found ≡ items → items ≡ counting_of (chosen_of f epoch all) → Stand SnapState SnapStands all ss
    → Stand SnapState SnapStands found (counting (chosen f epoch ss))
stands f epoch all found items ss same is h = subst (λ (ps : List (Promise SnapState)). Stand SnapState SnapStands ps (counting (chosen f epoch ss))) (sym (same ∙ is)) (stand-counting SnapStands f epoch all ss h)

pub merge_counting-requires : goal.merge_counting-requires
merge_counting-requires c = (
  counting (chosen c.args.size c.args.epoch c.requires.0),
  stands c.args.size c.args.epoch c.args.promises.now _ _ c.requires.0 (ap (map (λ p. p.now)) c.as_slice.ensures.value) c.in-Ok.ensures.ok c.requires.1,
  counting-asked c.args.size c.args.epoch c.requires.0 c.requires.2,
)

pub returns-in-Err-clause-short : goal.returns-in-Err-clause-short
returns-in-Err-clause-short c ss stand few = let is = c.in-Err.ensures.short (stand-enough SnapStands c.args.size c.args.epoch c.args.promises.now ss stand ∙ few) in cc is

pub returns-in-Err-clause-enough : goal.returns-in-Err-clause-enough
returns-in-Err-clause-enough c ss stand enough = c.in-Err.ensures.enough (stand-enough SnapStands c.args.size c.args.epoch c.args.promises.now ss stand ∙ enough)

pub returns-in_err-snap-clause-short : goal.returns-in_err-snap-clause-short
returns-in_err-snap-clause-short c ss stand few = let is = c.in-Ok.ensures.short (stand-enough SnapStands c.args.size c.args.epoch c.args.promises.now ss stand ∙ few) in absurd (cc is)

pub returns-clause-ok : goal.returns-clause-ok
returns-clause-ok c ss stand asked =
    c.in_ok-snap.ensures (counting (chosen c.args.size c.args.epoch ss))
    (stands c.args.size c.args.epoch c.args.promises.now _ _ ss (ap (map (λ p. p.now)) c.as_slice.ensures.value) c.in-Ok.ensures.ok stand)
    (counting-asked c.args.size c.args.epoch ss asked)

pub returns-clause-short : goal.returns-clause-short
returns-clause-short c ss stand few = let is = c.in-Ok.ensures.short (stand-enough SnapStands c.args.size c.args.epoch c.args.promises.now ss stand ∙ few) in absurd (cc is)
