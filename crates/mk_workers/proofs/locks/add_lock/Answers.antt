use Rattle.std.proofs.Common.{◌∙◌, ◌∷◌, ◌++◌, [], ap}
use Rattle.mk_workers.proofs.Makings.{locks_more, fresh_columns}
use Rattle.mk_workers.proofs.locks.add_lock.Goals as goal

pub returns : goal.returns
returns c =
    let made = c.in_ok-lock.ensures in
    record {
      lock = c.in_ok-lock.lock;
      row = c.in_ok-lock.seats;
      locks = locks_more c.args.made.now.locks.items c.reserve.new.self.items c.push_reserved.new.self.items c.new-2.result c.in_ok-lock.lock
          c.push_reserved.ensures.items c.in_ok-reserve.ensures.items c.new-2.ensures;
      rows = c.push_reserved-2.ensures.items ∙ ap (λ rows. rows ++ c.in_ok-lock.seats ∷ []) c.in_ok-reserve-2.ensures.items;
      replica_is = made.lock.2;
      key_is = made.lock.3;
      seats = made.lock.0;
      opening = made.lock.1;
      fresh = fresh_columns c.in_ok-lock.lock c.args.columns c.in_ok-lock.seats.items made.seats made.fresh;
    }
