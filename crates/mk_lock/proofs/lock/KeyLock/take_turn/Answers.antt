use Rattle.std.proofs.Common.{rules, sym, ap, ◌∙◌, subst}
use Rattle.atomic_table.specs.Table.{Me}
use Rattle.mk_lock.specs.declared.view.View.{View}
use Rattle.mk_lock.specs.Entries.{JournalState}
use Rattle.mk_lock.specs.Turns.{HasTicket, HasTurn}
use Rattle.mk_lock.proofs.StepLaws.{awaits}
use Rattle.mk_lock.proofs.TurnLaws.{turn_comes, turn_waits}
use Rattle.mk_lock.proofs.lock.KeyLock.take_turn.Goals as goal

pub load-requires : goal.load-requires
load-requires g c = (
  search rules,
  search rules,
  awaits _ _ _ _ c.requires.token.1.0 (ap (λ (m : Me JournalState View). m.0.stage) c.loop.invariant.2 ∙ c.requires.token.1.2),
)

pub loop-preserved : goal.loop-preserved
loop-preserved g c =
    let has : HasTicket c.args.ticket c.loop.token.me = subst (HasTicket c.args.ticket) (sym c.loop.invariant.2) c.requires.token.1 in (
      c.load.ensures.0 ∙ c.loop.invariant.0,
      c.load.ensures.1 ∙ c.loop.invariant.1,
      turn_waits _ _ _ _ has c.if-load-ticket.false c.load.ensures.2 ∙ c.loop.invariant.2,
    )

pub returns-then-load-ticket : goal.returns-then-load-ticket
returns-then-load-ticket g c =
    let has : HasTicket c.args.ticket c.loop.token.me = subst (HasTicket c.args.ticket) (sym c.loop.invariant.2) c.requires.token.1 in
    let turn : HasTurn c.loop.token.me c.load.new.seat.me = turn_comes _ _ _ _ has c.if-load-ticket.true c.load.ensures.2 in record {
      same = (c.load.ensures.0 ∙ c.loop.invariant.0, c.load.ensures.1 ∙ c.loop.invariant.1);
      turn = subst (λ (m : Me JournalState View). HasTurn m c.load.new.seat.me) c.loop.invariant.2 turn;
    }
