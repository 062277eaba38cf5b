use Rattle.std.proofs.Common.{◌≡◌, ◌<◌, ap, sym, ◌∙◌, subst, arith, true, false, length, get_or, drop, ◌++◌, ◌∷◌, []}
use native.Mathlib.Decide.{dec_lt}
use mathlib.Core.Logic.{dite}
use Rattle.mk_lists.specs.Among.{Each}
use Rattle.mk_txn.specs.Transactions.{id_before}
use Rattle.mk_words.specs.declared.Fated.{Fated}
use Rattle.mk_merge_laws.specs.Adding.{put_fated}
use Rattle.mk_merge.proofs.JoiningLaws.{joined-more, joined-list, first-more, first-end, before-more, before-end}
use Rattle.mk_merge.proofs.joining.joined.Goals as goal
use Rattle.mk_merge.proofs.joining.joined.Goals.{then-at-list, else-at-list+then-next-more}

pub loop-at-preserved-then-takes_added : goal.loop-at-preserved-then-takes_added
loop-at-preserved-then-takes_added c =
    let f = c.index-more-next.result in
    let e = c.takes_added.ensures in
    let within : c.loop-at.next < length c.args.more.now = e.more_within c.if-takes_added.true in
    let first : put_fated f (drop c.loop-at.at c.args.list.now) ≡ f ∷ drop c.loop-at.at c.args.list.now =
    dite (dec_lt c.loop-at.at (length c.args.list.now))
    (λ lt. first-more c.args.list.now c.loop-at.at f lt (subst (λ (x : Fated). id_before (get_or c.args.list.now c.loop-at.at f).txn.id x.txn.id ≡ false) (sym c.index-more-next.is) (e.more_first f c.if-takes_added.true lt)))
    (λ ge. first-end c.args.list.now c.loop-at.at f (omega (arith, ge))) in (
      c.loop-at.invariant.0,
      omega (arith, within),
      joined-more c.args.list.now c.loop-at.at c.args.more.now c.loop-at.next f _ _ c.requires within c.index-more-next.is
          (c.in_ok-push.ensures.items ∙ ap (λ x. c.loop-at.all.items ++ x ∷ []) c.in_ok-copy.ensures) first c.loop-at.invariant.2,
    )

pub loop-at-preserved : goal.loop-at-preserved
loop-at-preserved c =
    let g = c.index-list-at.result in
    let e = c.takes_added.ensures in
    let within : c.loop-at.at < length c.args.list.now = elim c.if-at-list.branch [
      | then-at-list w ↦ w.if-at-list.true
      | else-at-list+then-next-more w ↦ e.list_within c.if-takes_added.false w.if-next-more.true
    ] in
    let first : Each (λ (f : Fated). id_before g.txn.id f.txn.id ≡ true) (drop c.loop-at.next c.args.more.now) =
    dite (dec_lt c.loop-at.next (length c.args.more.now))
    (λ lt. before-more c.args.more.now c.loop-at.next g c.requires lt (subst (λ (x : Fated). id_before x.txn.id (get_or c.args.more.now c.loop-at.next g).txn.id ≡ true) (sym c.index-list-at.is) (e.list_first g c.if-takes_added.false lt)))
    (λ ge. before-end c.args.more.now c.loop-at.next g (omega (arith, ge))) in (
      omega (arith, within),
      c.loop-at.invariant.1,
      joined-list c.args.list.now c.loop-at.at c.args.more.now c.loop-at.next g _ _ within c.index-list-at.is
          (c.in_ok-push-2.ensures.items ∙ ap (λ x. c.loop-at.all.items ++ x ∷ []) c.in_ok-copy-2.ensures) first c.loop-at.invariant.2,
    )
