use Rattle.std.proofs.Common.{◌≡◌, sym, subst}
use Rattle.mk_driver.specs.Agenda.{in_order}
use Rattle.mk_driver.specs.Keeping.{IsAscending}
use Rattle.mk_driver.proofs.InOrder.{in_order_at, in_order-ascending}
use Rattle.mk_driver.proofs.Numbers.insert.Goals as goal

pub invariant_of-self-2 : goal.invariant_of-self-2
invariant_of-self-2 c =
    let put : in_order c.args.number c.args.self.now ≡ _ = in_order_at c.args.number c.place_of-at.result c.args.self.now c.place_of-at.ensures.before c.place_of-at.ensures.within c.place_of-at.ensures.at in
    let now : IsAscending c.args.self.now = subst (λ xs. IsAscending xs) c.self.view_is c.self.invariant in
    rw (c.in_ok-insert.ensures.items, c.self.view_is, ← put) (in_order-ascending c.args.number c.args.self.now now)

pub returns-clause-ok : goal.returns-clause-ok
returns-clause-ok c =
    let put = in_order_at c.args.number c.place_of-at.result c.args.self.now c.place_of-at.ensures.before c.place_of-at.ensures.within c.place_of-at.ensures.at in
    rw (c.in_ok-insert.ensures.items, c.self.view_is) (sym put)
