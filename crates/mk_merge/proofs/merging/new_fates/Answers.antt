use Rattle.std.proofs.Common.{◌≡◌, List, Bool, ap, sym, ◌∙◌, subst, filter}
use Rattle.std.specs.Prelude.{is_none, nat_le, ◌&&◌}
use Rattle.mk_lists.specs.Among.{AllDistinct}
use Rattle.mk_txn.specs.Transactions.{Transaction}
use Rattle.mk_quorum.specs.Sizes.{hint_of}
use Rattle.mk_words.specs.Merging.{ok_reports}
use Rattle.mk_merge_laws.specs.Adding.{entered_fate, new_txns}
use Rattle.mk_merge.proofs.FateLaws.{nows}
use Rattle.mk_words.proofs.StampOrdering.{stamps_in}
use Rattle.mk_words.proofs.StampTables.{stamps-now}
use Rattle.mk_merge.proofs.StandLaws.{ok-each}
use Rattle.mk_merge_laws.proofs.Adding.{new-distinct, additions-are}
use Rattle.mk_merge.proofs.merging.new_fates.Goals as goal

pub in_stamp_order-requires : goal.in_stamp_order-requires
in_stamp_order-requires c =
    let ps = c.args.promises.now in
    let test : Transaction → Bool = λ txn. is_none (entered_fate c.args.size ps txn.id) && nat_le (hint_of c.args.size) (ok_reports c.args.size ps txn.id) in
    let is : nows c.as_slice-3.result.now ≡ filter test (new_txns c.args.kept.now ps) =
    ap nows c.as_slice-3.ensures.value ∙ c.in_ok-waiting.ensures ∙ ap (filter test) (ap nows c.as_slice-2.ensures.value ∙ c.in_ok-txns.ensures) in
    subst AllDistinct (sym (stamps-now c.as_slice-3.result.now)) (subst (λ (ts : List Transaction). AllDistinct (stamps_in ts)) (sym is) (new-distinct c.args.kept.now ps test c.requires))

pub returns : goal.returns
returns c =
    let ps = c.args.promises.now in
    let first = ap nows c.as_slice.ensures.value ∙ c.in_ok-txns.ensures in
    let second = ap nows c.as_slice-2.ensures.value ∙ c.in_ok-txns.ensures in
    let last = ap nows c.as_slice-5.ensures.value ∙ c.in_ok-txns.ensures in
    ok-each c.fates.result _ _ (λ list is.
    additions-are c.args.size c.args.epoch c.args.kept.now ps (nows c.as_slice-5.result.now) c.in_ok-entered.entered (nows c.as_slice-3.result.now) (nows c.as_slice-4.result.now) c.in_ok-commits.commits list.items
    last
    (c.in_ok-entered.ensures ∙ ap (filter _) (first ∙ sym last))
    (ap nows c.as_slice-3.ensures.value ∙ c.in_ok-waiting.ensures ∙ ap (filter _) (second ∙ sym last))
    (ap nows c.as_slice-4.ensures.value ∙ c.in_ok-waiting-2.ensures)
    c.in_ok-commits.ensures
    is) c.fates.ensures
