use Rattle.std.proofs.Common.{[], sym, subst}
use Rattle.std.proofs.lemmas.Result.{on_ok_weaker}
use Rattle.mk_round.specs.Pasts.{run_of, state_behind}
use Rattle.mk_round.specs.Stores.{StoreView, MayWork}
use Rattle.mk_round.proofs.BeginLaws.{may_begin, at_work}
use Rattle.mk_round.proofs.store.Store.begin_round.Goals as goal

pub begin_drivers-requires : goal.begin_drivers-requires
begin_drivers-requires c =
    may_begin c.requires.0 c.requires.1 c.requires.2 _
    (subst (λ (v : StoreView). MayWork c.requires.0 c.requires.1 c.requires.2 v) (sym c.self.view_is) c.requires.3)

pub returns : goal.returns
returns c =
    on_ok_weaker c.begin_drivers.result
    (λ have rules script done may.
    let here = subst (λ (v : StoreView). MayWork rules script done v) (sym c.self.view_is) may in
    at_work rules script done _ c.begin_round.new.self c.begin_drivers.new.drivers.items here
    (c.in_ok-begin_round.ensures.begun (run_of script []) (state_behind script done) here.between.at)
    (c.in_ok-begin_round.ensures.after (run_of script []) (state_behind script done) here.between.at) have)
    c.begin_drivers.ensures
