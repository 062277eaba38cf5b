-- Where no column did anything, no list has an entry.
use Rattle.std.proofs.Common.{◌≡◌, ◌∙◌, ℕ, zero, suc, ◌<◌, List, [], ◌∷◌, length, map, slice_get, slice_index_or, Some, refl, sym, ap, subst, arith}
use Rattle.std.specs.Global.{Vec}
use Rattle.std.proofs.lemmas.List.{length-map}
use Rattle.std.proofs.lemmas.Option.{same_Some}
use Rattle.mk_lists.specs.Among.{Each}
use Rattle.mk_words.specs.declared.JournalEntry.{JournalEntry}
use Rattle.mk_words.specs.Cells.{CellState, CellView, first_cell}
use Rattle.mk_workers.specs.ByKey.{IsByKey, cell_at, keys_of, states_in, states_of}
use Rattle.mk_workers.specs.Closing.{HasNoEntries}
use Rattle.mk_workers.specs.Pairs.{Pairs}
use Rattle.mk_workers.specs.Worked.{AreWorked, IsWorkedAt}
use Rattle.mk_workers.proofs.Closings.{all_worked, at_map, journals_in}

each_at : {X Y : Type 0} (P : Y → Type 0) (f : X → Y) (xs : List X) (k : ℕ) (x : X) → Each P (map f xs) → slice_get xs k ≡ Some x → P (f x)
each_at P f [] k x each at = absurd (cc at)
each_at P f (y ∷ ys) zero x each at = subst (λ z. P (f z)) (same_Some y x at) each.0
each_at P f (y ∷ ys) (suc k) x each at = each_at P f ys k x each.1 at

pub each_here : {X : Type 0} (P : X → Type 0) (xs : List X) (k : ℕ) (x : X) → Each P xs → slice_get xs k ≡ Some x → P x
each_here P [] k x each at = absurd (cc at)
each_here P (y ∷ ys) zero x each at = subst P (same_Some y x at) each.0
each_here P (y ∷ ys) (suc k) x each at = each_here P ys k x each.1 at

nobody : (c : ℕ) → c < 0 → ⊥
nobody c below = omega (arith, below)

none_at : (r key : ℕ) (state : CellState) → IsWorkedAt r key [] state state []
none_at r key state = record { matched = λ c below. absurd (nobody c below); owned = tt; replayed = record { answered = tt; closes = refl } }

-- what no column leaves
pub no_turns : (cells : List (Vec CellView)) (journals : List (Vec (Vec JournalEntry))) → IsByKey (length cells) (keys_of cells) (states_of cells) →
    Pairs (λ _ (row : Vec CellView) listed. HasNoEntries row.items listed) cells journals →
    AreWorked (length cells) (keys_of cells) [] (states_of cells) (states_of cells) (map journals_in journals)
no_turns cells journals by_key has =
    all_worked (length cells) (keys_of cells) [] (states_of cells) cells journals refl record {
      all = has.all;
      each = λ r row listed at at'. let none = has.each r row listed at at' in record {
        all = sym (length-map row.items (λ (cell : CellView). cell.state)) ∙ each_at (λ (states : List CellState). length states ≡ keys_of cells) states_in cells r row by_key.each at;
        each = record {
          all = none.all;
          each = λ key cell journal here here'.
              let empty = each_here (λ (journal : Vec JournalEntry). journal.items ≡ []) listed.items key journal none.empty here' in
              let is : cell_at (states_of cells) r key ≡ cell.state =
              ap (λ (states : List CellState). slice_index_or states key first_cell) (at_map states_in cells r row [] at) ∙ at_map (λ (c : CellView). c.state) row.items key cell first_cell here in
              subst (λ (z : CellState × List JournalEntry). IsWorkedAt r key [] z.0 cell.state z.1) (λ i. (sym is i, sym empty i)) (none_at r key cell.state);
        };
      };
    }
