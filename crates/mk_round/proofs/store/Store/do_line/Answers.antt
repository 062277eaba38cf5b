use Rattle.std.proofs.Common.{ap}
use Rattle.mk_round.specs.Stores.{StoreView}
use Rattle.mk_round.proofs.HandLaws.{line_done}
use Rattle.mk_round.proofs.store.Store.do_line.Goals as goal

pub returns-clause-done : goal.returns-clause-done
returns-clause-done g c = line_done c.do_line.result c.args.line _ _ c.do_line.new.self (ap (λ (v : StoreView). v.whole) c.self.view_is) c.do_line.ensures.done
