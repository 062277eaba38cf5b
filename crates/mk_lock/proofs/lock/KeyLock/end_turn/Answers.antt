use Rattle.std.proofs.Common.{rules, ℕ, ◌+◌, ◌%◌, ◌^◌, sym, subst}
use mathlib.Core.Option.{none}
use Rattle.atomic_table.specs.Table.{Me, step, Allows}
use Rattle.mk_lock.specs.declared.view.View.{View}
use Rattle.mk_lock.specs.Entries.{JournalState}
use Rattle.mk_lock.specs.Turns.{IsKept, MayEnd, Ended, taken}
use Rattle.mk_lock.specs.declared.view.Origin.{Origin}
use Rattle.mk_lock.proofs.StepLaws.{ends}
use Rattle.mk_lock.proofs.lock.KeyLock.end_turn.Goals as goal

may_end : (key : Origin) (slots id : ℕ) (me : Me JournalState View) → MayEnd me → Allows (IsKept key) slots id me 1 (λ n. (n + 1) % 2 ^ 64) (Ended (step slots 1 1 0 none) me)
may_end key slots id me (h, ticket, x, y, more, is, opening, entries, by) =
    subst (λ (m : Me JournalState View). Allows (IsKept key) slots id m 1 (λ n. (n + 1) % 2 ^ 64) (Ended (step slots 1 1 0 none) m)) (sym is) (ends key slots id h ticket (taken x) y more opening entries by)

pub fetch_add-requires : goal.fetch_add-requires
fetch_add-requires c = (search rules, search rules, may_end _ _ _ _ c.requires.token.1)
