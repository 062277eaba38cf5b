use Rattle.std.proofs.Common.{ℕ, subst, sym}
use Rattle.mk_merge.specs.Keepings.{Stand}
use Rattle.mk_words.specs.Merging.{merged}
use Rattle.mk_merge_tests.proofs.tests.building.made.Goals as goal

pub merge-requires : goal.merge-requires
merge-requires g c = (c.requires.0, subst (λ ps. Stand _ g.K.Keeping.stands ps c.requires.0) (sym c.as_slice.ensures.value) c.requires.1, c.requires.2)

pub returns : goal.returns
returns g c states stand asked =
    subst (λ (f : ℕ). g.K.Keeping.stands c.in_ok-base.base (merged f c.args.epoch states)) c.in_ok-size.ensures
    (c.in_ok-base.ensures.ok states (subst (λ ps. Stand _ g.K.Keeping.stands ps states) (sym c.as_slice.ensures.value) stand) asked)
