use Rattle.std.proofs.Common.{◌≡◌, sym, subst, rules}
use Rattle.mk_words.specs.Pending.{IsAscending, without}
use Rattle.mk_words.proofs.PendingLaws.{IsAscending-without}
use Rattle.mk_cell.proofs.pending.Pending.leave.Goals as goal

pub invariant_of-self : goal.invariant_of-self
invariant_of-self g c =
    let ascending = subst (λ v. IsAscending v.stamps) c.self.view_is c.self.invariant in
    let items : c.remove.new.self.items ≡ without c.args.stamp c.args.self.now.stamps = search rules in
    subst IsAscending (sym items) (IsAscending-without c.args.stamp c.args.self.now.stamps ascending)
