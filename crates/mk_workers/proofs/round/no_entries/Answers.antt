use Rattle.std.proofs.Common.{[], List, length, take, refl, sym, subst, arith}
use Rattle.std.specs.Global.{Vec}
use Rattle.std.proofs.lemmas.Option.{slice_get_read}
use Rattle.mk_words.specs.Cells.{CellView}
use Rattle.mk_words.specs.declared.JournalEntry.{JournalEntry}
use Rattle.mk_workers.specs.ByKey.{keys_of, states_of}
use Rattle.mk_workers.specs.Closing.{HasNoEntries}
use Rattle.mk_workers.specs.Pairs.{Pairs}
use Rattle.mk_workers.specs.Worked.{AreWorked}
use Rattle.mk_workers.proofs.Dealings.{take_more, take_past}
use Rattle.mk_workers.proofs.NoEntries.{no_turns}
use Rattle.mk_workers.proofs.PairLaws.{pairs_push}
use Rattle.mk_workers.proofs.round.no_entries.Goals as goal

abbrev AreEmpty : List (Vec CellView) → List (Vec (Vec JournalEntry)) → Type 0
AreEmpty rows lists = Pairs (λ _ (row : Vec CellView) (listed : Vec (Vec JournalEntry)). HasNoEntries row.items listed) rows lists

pub loop-row-preserved : goal.loop-row-preserved
loop-row-preserved c =
    let cells = c.args.cells.now in
    let place = c.loop-row.row-index in
    let row = c.row-item.result in
    let listed = c.in_ok-no_entries_at.field-0 in
    let here = slice_get_read cells (length cells) place row refl (omega arith) c.row-item.is in
    let new : HasNoEntries row.items listed = subst (λ items. HasNoEntries items listed) c.deref.ensures.value c.in_ok-no_entries_at.ensures in
    record {
      empty = subst (λ (z : List (Vec CellView) × List (Vec (Vec JournalEntry))). AreEmpty z.0 z.1) (λ i. (sym (take_more place cells row here) i, sym c.in_ok-push.ensures.items i))
          (pairs_push (λ _ (row : Vec CellView) (listed : Vec (Vec JournalEntry)). HasNoEntries row.items listed) (take place cells) c.loop-row.replicas.items row listed c.loop-row.invariant.empty new);
    }

pub returns : goal.returns
returns c =
    let cells = c.args.cells.now in
    let lists = c.loop-row.replicas.items in
    subst (AreWorked (length cells) (keys_of cells) [] (states_of cells) (states_of cells)) (sym c.of.ensures)
    (no_turns cells lists c.requires (subst (λ rows. AreEmpty rows lists) (take_past c.loop-row.row-index cells (omega arith)) c.loop-row.invariant.empty))
