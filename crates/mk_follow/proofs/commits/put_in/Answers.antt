use Rattle.std.proofs.Common.{ℕ, List, ap, refl, sym, ◌∙◌}
use Rattle.std.specs.Prelude.{slice_set}
use Rattle.std.proofs.lemmas.Option.{slice_get_read}
use Rattle.mk_lists.specs.Among.{Each-among}
use Rattle.mk_lists.proofs.Members.{Among-slice_get}
use Rattle.mk_txn.specs.declared.Stamp.{Stamp}
use Rattle.mk_follow.specs.Orders.{IsAscending, placed}
use Rattle.mk_follow.specs.Commits.{entries_in}
use Rattle.mk_follow.proofs.Entries.{entries-at, entries-read, entries-set}
use Rattle.mk_follow.proofs.commits.put_in.Goals as goal

pub put-requires-clause-ascending : goal.put-requires-clause-ascending
put-requires-clause-ascending c =
    let column = c.index_mut.result.now in
    let entries : List (List (Stamp × ℕ)) = entries_in c.args.columns.now.items in
    Each-among IsAscending column.items entries c.requires.ascending
    (Among-slice_get entries c.args.column column.items (entries-at c.args.columns.now.items c.args.column column c.requires.column c.index_mut.ensures.value))

pub put-requires-clause-room : goal.put-requires-clause-room
put-requires-clause-room c =
    let columns = c.args.columns.now.items in
    c.requires.room c.index_mut.result.now (slice_get_read columns _ c.args.column c.index_mut.result.now refl c.requires.column c.index_mut.ensures.value)

pub returns : goal.returns
returns c =
    let columns = c.args.columns.now.items in
    let entries : List (List (Stamp × ℕ)) = entries_in columns in
    entries-set columns c.args.column c.put.new.order
    ∙ ap (slice_set entries c.args.column)
    (c.put.ensures ∙ ap (placed (c.args.stamp, c.args.place)) (sym (entries-read columns c.args.column c.index_mut.result.now c.requires.column c.index_mut.ensures.value)))
