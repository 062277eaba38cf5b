use Rattle.std.proofs.Common.{ap, sym, ◌∙◌, subst}
use Rattle.mk_lock.specs.Seats.{LockView, IsJournalOf}
use Rattle.mk_lock.proofs.SeatLaws.{journal_after}
use Rattle.mk_lock.proofs.lock.KeyLock.close.Goals as goal

pub returns : goal.returns
returns c =
    let count = c.requires.all ∙ (ap (λ (l : LockView). l.seats) (sym c.self.view_is) ∙ sym c.self.invariant.2) in
    subst (λ (l : LockView). IsJournalOf l.opening c.into_parts.result.0.state c.args.seats.items c.into_parts.result.1.items) c.self.view_is
    (journal_after c.self.inside.table.shared.key _ _ _ _ _ _ _ _ _ c.gather-token.ensures.1 c.close_with-closed.ensures.values.2 c.take-journal.ensures.value count c.requires.each
    c.into_parts.ensures.journal c.into_parts.ensures.cell)
