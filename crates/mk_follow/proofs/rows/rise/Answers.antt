use Rattle.std.proofs.Common.{◌≡◌, ◌+◌, ◌<◌, List, false, true, not, count_by, sym, ap, subst, ◌∙◌, arith}
use Rattle.std.proofs.lemmas.Bool.{false≢true}
use Rattle.mk_lists.specs.Among.{Each-among}
use Rattle.mk_txn.specs.declared.Stamp.{Stamp}
use Rattle.mk_txn.specs.Stamps.{is_before}
use Rattle.mk_feed_words.specs.declared.Received.{Received as Commit}
use Rattle.mk_feed_words.specs.Feed.{is_upto, txns_upto}
use Rattle.mk_follow.specs.Orders.{IsNext}
use Rattle.mk_follow.specs.Rows.{HasKeys, Shows}
use Rattle.mk_follow.proofs.Passing.{above-fewer}
use Rattle.mk_follow.proofs.Showing.{shows-next, shows-end, none-left}
use Rattle.mk_follow.proofs.rows.rise.Goals as goal

pub returns-then-precedes-clause-shows : goal.returns-then-precedes-clause-shows
returns-then-precedes-clause-shows c =
    let commits : List Commit = c.args.commits.now.commits in
    let r : Commit = c.in-Some.next.now in
    let next : IsNext c.loop-next.shown commits r = c.in-Some.ensures in
    let above : is_before c.args.high r.txn.stamp ≡ true = ap (is_before c.args.high) (sym c.stamp.ensures) ∙ sym c.precedes.ensures ∙ c.if-precedes.true in
    shows-end c.args.subscription.now commits c.loop-next.shown c.args.high c.loop-next.rows.items c.loop-next.invariant.order
    (none-left commits c.loop-next.shown c.args.high r next above) c.loop-next.invariant.shows

pub write_txn-requires : goal.write_txn-requires
write_txn-requires c =
    let commits : List Commit = c.args.commits.now.commits in
    let r : Commit = c.in-Some.next.now in
    let next : IsNext c.loop-next.shown commits r = c.in-Some.ensures in
    (c.loop-next.invariant.wide, Each-among (λ (x : Commit). HasKeys x.txn.writes) r commits c.requires.stand.keys next.among)

pub loop-next-smaller : goal.loop-next-smaller
loop-next-smaller c =
    let commits : List Commit = c.args.commits.now.commits in
    let r : Commit = c.in-Some.next.now in
    let next : IsNext c.loop-next.shown commits r = c.in-Some.ensures in
    let new : Stamp = c.stamp-shown.result in
    let fewer : count_by (λ x. not (is_upto c.loop-next.shown x)) commits ≡ 1 + count_by (λ x. not (is_upto new x)) commits =
    above-fewer c.loop-next.shown commits r c.requires.stand.apart next
    ∙ ap (λ (s : Stamp). 1 + count_by (λ x. not (is_upto s x)) commits) (sym c.stamp-shown.ensures) in
    let less : count_by (λ x. not (is_upto new x)) commits < count_by (λ x. not (is_upto c.loop-next.shown x)) commits = omega (arith, fewer) in
    less

pub loop-next-preserved : goal.loop-next-preserved
loop-next-preserved c =
    let commits : List Commit = c.args.commits.now.commits in
    let r : Commit = c.in-Some.next.now in
    let next : IsNext c.loop-next.shown commits r = c.in-Some.ensures in
    let order : is_before c.args.high r.txn.stamp ≡ false = ap (is_before c.args.high) (sym c.stamp.ensures) ∙ sym c.precedes.ensures ∙ c.if-precedes.false in
    let shows : Shows c.args.subscription.now (txns_upto r.txn.stamp commits) c.write_txn.new.rows.items =
    shows-next c.latest_commits_stand.ensures.copy_holds c.args.subscription.now commits c.loop-next.shown r c.loop-next.rows.items c.write_txn.new.rows.items
    c.requires.stand next c.loop-next.invariant.shows c.write_txn.ensures.row in
    record {
      wide = c.write_txn.ensures.len;
      order = subst (λ (s : Stamp). is_before c.args.high s ≡ false) (sym c.stamp-shown.ensures) order;
      shows = subst (λ (s : Stamp). Shows c.args.subscription.now (txns_upto s commits) c.write_txn.new.rows.items) (sym c.stamp-shown.ensures) shows;
    }

pub returns-clause-shows : goal.returns-clause-shows
returns-clause-shows c =
    let commits : List Commit = c.args.commits.now.commits in
    shows-end c.args.subscription.now commits c.loop-next.shown c.args.high c.loop-next.rows.items c.loop-next.invariant.order
    (λ x a e. absurd (false≢true (sym (c.in_default.ensures x a) ∙ e))) c.loop-next.invariant.shows
