use Rattle.std.proofs.Common.{◌≡◌, List, sym, subst}
use Rattle.std.proofs.lemmas.Option.{same_Some}
use Rattle.mk_lists.specs.Among.{Each-among}
use Rattle.mk_feed_words.specs.declared.Received.{Received as Commit}
use Rattle.mk_feed_words.specs.Feed.{txns_upto}
use Rattle.mk_follow.specs.Rows.{HasKeys, Shows}
use Rattle.mk_follow.proofs.Showing.{shows-admitted, IsAdmitted}
use Rattle.mk_follow.proofs.rows.admit_last.Goals as goal

pub admit-requires : goal.admit-requires
admit-requires c =
    (c.requires.wide, Each-among (λ (x : Commit). HasKeys x.txn.writes) c.in-Some.last.now c.args.commits.now.commits c.requires.keys c.in-Some.ensures.among)

pub returns-in-Some-clause-shows : goal.returns-in-Some-clause-shows
returns-in-Some-clause-shows c all r is shows =
    let rule = c.args.subscription.now in
    let stamp = c.args.stamp in
    let rows = c.args.rows.now.items in
    let same : c.in-Some.last.now ≡ r = same_Some c.in-Some.last.now r (c.in-Some.ensures.last all r is) in
    let row : IsAdmitted rule stamp r rows c.admit.new.rows.items = subst (λ (x : Commit). IsAdmitted rule stamp x rows c.admit.new.rows.items) same c.admit.ensures.row in
    subst (λ (l : List Commit). Shows rule (txns_upto stamp l) c.admit.new.rows.items) (sym is) (shows-admitted rule stamp all r rows c.admit.new.rows.items shows row)
