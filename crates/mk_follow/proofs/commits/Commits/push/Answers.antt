use Rattle.std.proofs.Common.{◌≡◌, ◌<◌, ◌++◌, ◌∷◌, [], ℕ, List, false, cond, length, sym, ap, subst, ◌∙◌}
use Rattle.std.specs.List.{list_any}
use Rattle.std.specs.Prelude.{slice_set, slice_index_or}
use Rattle.mk_txn.specs.declared.Stamp.{Stamp}
use Rattle.mk_txn.specs.declared.TxnId.{TxnId}
use Rattle.mk_txn.specs.Transactions.{same_id}
use Rattle.mk_feed_words.specs.declared.Received.{Received as Commit}
use Rattle.mk_follow.specs.Commits.{CommitsState, CommitsKept, entries_in}
use Rattle.mk_follow.specs.Following.{has_id}
use Rattle.mk_follow.specs.Orders.{placed}
use Rattle.mk_follow.proofs.CommitLaws.{has-ids, kept-more}
use Rattle.mk_follow.proofs.Entries.{entries-within}
use Rattle.mk_follow.proofs.commits.Commits.push.Goals as goal

pub invariant_of-self-2 : goal.invariant_of-self-2
invariant_of-self-2 c =
    let s = c.self.inside in
    let commits : List Commit = s.received.items in
    let ids : List TxnId = s.ids.keys in
    let order : List (Stamp × ℕ) = s.order.items in
    let columns : List (List (Stamp × ℕ)) = entries_in s.columns.items in
    let id : TxnId = c.args.txn.id in
    let n : ℕ = length commits in
    let r : Commit = record { column = c.args.column; txn = c.args.txn } in
    let column : List (Stamp × ℕ) = slice_index_or columns c.args.column [] in
    let none : has_id id commits ≡ false = ap (λ (v : CommitsState). has_id id v.commits) c.self.view_is ∙ c.requires.new in
    let within : c.args.column < length s.columns.items = subst (λ (v : CommitsState). c.args.column < v.columns) (sym c.self.view_is) c.requires.column in
    let kept = kept-more commits ids order columns r column c.self.invariant none (entries-within s.columns.items c.args.column within) in
    let place : c.len-place.result ≡ n = c.len-place.ensures ∙ s.received.ok.0 in
    let entry : (c.stamp-stamp.result, c.len-place.result) ≡ (c.args.txn.stamp, n) = λ i. (c.stamp-stamp.ensures i, place i) in
    let new_commits : c.push_reserved.new.self.items ≡ commits ++ r ∷ [] = c.push_reserved.ensures.items ∙ ap (λ (l : List Commit). l ++ r ∷ []) c.reserve.ensures.items in
    let fresh : list_any (same_id id) ids ≡ false = has-ids commits ids id c.self.invariant.index ∙ none in
    let new_ids : c.insert.new.self.keys ≡ ids ++ id ∷ [] =
    c.in_ok-insert.ensures.keys
    ∙ ap (λ b. cond b ids (ids ++ c.id.result ∷ [])) (ap (λ i. list_any (same_id i) ids) c.id.ensures ∙ fresh)
    ∙ ap (λ i. ids ++ i ∷ []) c.id.ensures in
    let new_order : c.put.new.order.items ≡ placed (c.args.txn.stamp, n) order =
    c.put.ensures ∙ (λ i. placed (entry i) (c.reserve-2.ensures.items i)) in
    let new_columns : entries_in c.put_in.new.columns.items ≡ slice_set columns c.args.column (placed (c.args.txn.stamp, n) column) =
    c.put_in.ensures
    ∙ (λ i. slice_set (c.reserve_in.ensures.same i) c.args.column (placed (entry i) (slice_index_or (c.reserve_in.ensures.same i) c.args.column []))) in
    subst (λ (t : List Commit × List TxnId × List (Stamp × ℕ) × List (List (Stamp × ℕ))). CommitsKept t.0 t.1 t.2 t.3)
    (λ i. (sym new_commits i, sym new_ids i, sym new_order i, sym new_columns i))
    kept
