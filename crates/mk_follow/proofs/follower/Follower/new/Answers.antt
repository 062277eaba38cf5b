use Rattle.std.proofs.Common.{◌≡◌, [], List, replicate, sym, ap, subst, ◌∙◌, rules}
use Rattle.mk_txn.specs.declared.Stamp.{Stamp}
use Rattle.mk_txn.specs.declared.Value.{Value}
use Rattle.mk_txn.specs.Stamps.{zero_stamp}
use Rattle.mk_txn.specs.Transactions.{initial_value}
use Rattle.mk_feed_words.specs.declared.Received.{Received as Commit}
use Rattle.mk_feed_words.specs.declared.Mark.{Mark}
use Rattle.mk_follow.specs.Commits.{CommitsState}
use Rattle.mk_follow.specs.Kept.{Kept}
use Rattle.mk_follow.proofs.Keeps.{lanes-new, rows-new}
use Rattle.mk_follow.proofs.Taking.{watermark-none}
use Rattle.mk_follow.proofs.follower.Follower.new.Goals as goal

pub invariant_of-result : goal.invariant_of-result
invariant_of-result c =
    let columns = c.args.columns in
    let rule = c.args.subscription in
    let lanes = c.in_ok-lanes.lanes.items in
    let rows : List (Stamp × Value) = c.in_ok-rows.rows.items in
    let rows_are : rows ≡ replicate 256 (zero_stamp, initial_value) = c.in_ok-rows.ensures.items_if_clones_equal (λ y h. search rules) in
    let kept : Kept columns rule [] [] lanes rows zero_stamp = record {
      some_column = c.requires.0;
      stand = record { apart = tt; keys = tt };
      lanes_fit = lanes-new columns lanes c.in_ok-lanes.ensures.0 c.in_ok-lanes.ensures.1;
      stamp_is = sym (watermark-none columns);
      wide = sym c.in_ok-rows.rows.ok.0 ∙ c.in_ok-rows.ensures.len;
      shows = rows-new rule rows rows_are;
    } in (
      ap (λ (v : CommitsState). v.columns) c.in_ok-commits.ensures,
      subst (λ (t : List Commit × List Mark). Kept columns rule t.0 t.1 lanes rows zero_stamp)
          (λ i. (ap (λ (v : CommitsState). v.commits) (sym c.in_ok-commits.ensures) i, sym c.new-2.ensures.items i))
          kept,
    )
