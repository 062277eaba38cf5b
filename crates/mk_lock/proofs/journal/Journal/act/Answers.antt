use Rattle.std.proofs.Common.{ap, sym, ◌∙◌}
use Rattle.mk_words.specs.Cells.{CellState, cell_answer}
use Rattle.mk_words.proofs.JournalLaws.{Replays-pushed}
use Rattle.mk_lock.proofs.journal.Journal.act.Goals as goal

pub invariant_of-self-2 : goal.invariant_of-self-2
invariant_of-self-2 c =
    let answered = sym (c.act-answer.ensures.answer ∙ ap (λ (s : CellState). cell_answer s c.args.act) c.reserve.ensures.same) in
    rw (c.push_reserved.ensures.items, c.reserve-2.ensures.items, c.act-answer.ensures.after, c.reserve.ensures.same) (Replays-pushed _ _ _ _ c.self.invariant answered)
