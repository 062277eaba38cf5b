use Rattle.std.proofs.Common.{◌≡◌, ◌∙◌, sym, ap, subst, arith}
use Rattle.std.specs.Ordering.{nat_cmp}
use Rattle.std.specs.BTreeMap.{insert_entry}
use Rattle.mk_txn.specs.MarkMaps.{IsMarkMap, raised}
use Rattle.mk_txn.proofs.MarkLaws.{IsMarkMap-raised, insert_entry-raised, raised-low}
use Rattle.mk_txn.proofs.marking.Marks.raise.Goals as goal

entries-raised : (c : goal.In_ok-insert) → c.insert.new.self.entries ≡ raised c.args.client c.args.seq c.args.self.now
entries-raised c =
    c.in_ok-insert.ensures.entries
    ∙ ap (λ marks. insert_entry nat_cmp marks c.args.client c.args.seq) c.self.view_is
    ∙ insert_entry-raised c.args.self.now c.args.client c.args.seq c.get.ensures.fits (omega (arith, c.get.ensures.value, c.if-get-seq.true))

pub invariant_of-self : goal.invariant_of-self
invariant_of-self c = subst IsMarkMap (sym (entries-raised c)) (IsMarkMap-raised c.args.client c.args.seq c.args.self.now c.get.ensures.fits)

pub returns-in_ok-insert-clause-ok : goal.returns-in_ok-insert-clause-ok
returns-in_ok-insert-clause-ok c = entries-raised c

pub returns-else-get-seq-clause-ok : goal.returns-else-get-seq-clause-ok
returns-else-get-seq-clause-ok c =
    sym (raised-low c.args.self.now c.args.client c.args.seq c.get.ensures.fits (omega (arith, c.get.ensures.value, c.if-get-seq.false)))
