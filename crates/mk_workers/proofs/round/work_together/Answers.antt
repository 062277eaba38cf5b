use Rattle.std.proofs.Common.{◌≡◌, ◌∙◌, ℕ, List, length, drop, sym, ap, subst, arith}
use Rattle.mk_words.specs.declared.Step.{Step}
use Rattle.mk_workers.specs.declared.worker.Worker.{Worker}
use Rattle.mk_workers.specs.Begun.{AreBegun}
use Rattle.mk_workers.specs.ByKey.{keys_of, states_of}
use Rattle.mk_workers.specs.Crews.{AreAtPlace, AreStarted, AllEnded, AllHaveSeats, IsCrew}
use Rattle.mk_workers.specs.Seating.{locks_of}
use Rattle.mk_workers.specs.Worked.{AreWorked, logs_of}
use Rattle.mk_workers.proofs.Together.{all_ran, are_few, are_told, at_places, at_work, have_ended, have_seats, whole_again}
use Rattle.mk_workers.proofs.round.work_together.Goals as goal

pub make_locks-requires-clause-few : goal.make_locks-requires-clause-few
make_locks-requires-clause-few g c =
    let cells = c.args.cells.items in
    are_few c.args.rules.now (length cells) (keys_of cells) c.args.crew.drivers.items c.args.crew.columns.items (states_of cells) c.requires.begun c.requires.some

pub run_all-requires-clause-fits : goal.run_all-requires-clause-fits
run_all-requires-clause-fits g c κs within =
    let crew = c.args.crew in
    let cells = c.args.cells.items in
    let replicas_is : length cells ≡ c.len-replicas.result = omega arith in
    let keys_is : keys_of cells ≡ c.count_keys-keys.result = sym (c.count_keys-keys.ensures ∙ ap keys_of c.deref.ensures.value) in
    let begun = subst (λ (z : ℕ × ℕ). AreBegun c.args.rules.now z.0 z.1 crew.drivers.items crew.columns.items (states_of cells)) (λ i. (replicas_is i, keys_is i)) c.requires.begun in
    let locks_are = c.deref-2.ensures.value ∙ sym c.as_slice.ensures.value in
    let started = subst (λ ls. AreStarted (locks_of ls) crew.columns.items crew.drivers.items crew.outlets.items c.deref_mut-2.result.now) locks_are
    (subst (λ (ws : List (Worker g.row.O.Denot)). AreStarted (locks_of c.deref-2.result.now) crew.columns.items crew.drivers.items crew.outlets.items ws) (sym c.deref_mut-2.ensures.value) c.in_ok-workers.ensures.workers) in
    at_work g.O.Outlet.suits g.O.Outlet.kept c.args.rules.now (locks_of c.as_slice.result.now) c.len-replicas.result c.count_keys-keys.result (states_of cells) crew.columns.items crew.drivers.items
    crew.outlets.items c.deref_mut-2.result.now begun c.requires.suited started

pub end_all-requires-clause-numbers : goal.end_all-requires-clause-numbers
end_all-requires-clause-numbers g c =
    let crew = c.args.crew in
    let old = c.deref_mut-2.result.now in
    let new = c.run_all.new.workers in
    let locks = locks_of c.as_slice.result.now in
    let long = c.run_all.ensures.long in
    let ran = all_ran g.O.Outlet.suits g.O.Outlet.kept c.args.rules.now locks old new long c.run_all.ensures.worked in
    let started = c.in_ok-workers.ensures.workers in
    let is_crew = subst (λ (ws : List (Worker g.row.O.Denot)). IsCrew ws crew.columns.items crew.drivers.items crew.outlets.items) (sym c.deref_mut-2.ensures.value) started.crew in
    let same = ap length c.deref_mut-2.ensures.value in
    let count : c.in_ok-workers.workers.len ≡ length new = omega (arith, long, same) in
    let back = whole_again new (drop (length new) c.in_ok-workers.workers.items) c.in_ok-workers.workers.len count in
    subst (AreAtPlace {O = g.row.O.Denot}) (sym back)
    (at_places g.O.Outlet.suits g.O.Outlet.kept c.args.rules.now locks old new crew.columns.items crew.drivers.items crew.outlets.items is_crew c.requires.begun.numbers ran)

pub end_all-requires-clause-seats : goal.end_all-requires-clause-seats
end_all-requires-clause-seats g c =
    let crew = c.args.crew in
    let old = c.deref_mut-2.result.now in
    let new = c.run_all.new.workers in
    let locks = locks_of c.as_slice.result.now in
    let long = c.run_all.ensures.long in
    let ran = all_ran g.O.Outlet.suits g.O.Outlet.kept c.args.rules.now locks old new long c.run_all.ensures.worked in
    let started = c.in_ok-workers.ensures.workers in
    let is_crew = subst (λ (ws : List (Worker g.row.O.Denot)). IsCrew ws crew.columns.items crew.drivers.items crew.outlets.items) (sym c.deref_mut-2.ensures.value) started.crew in
    let same = ap length c.deref_mut-2.ensures.value in
    let count : c.in_ok-workers.workers.len ≡ length new = omega (arith, long, same) in
    let back = whole_again new (drop (length new) c.in_ok-workers.workers.items) c.in_ok-workers.workers.len count in
    let locks_are = c.as_slice.ensures.value ∙ sym c.deref-3.ensures.value in
    subst (λ (ws : List (Worker g.row.O.Denot)). AllHaveSeats (locks_of c.deref-3.result.now) ws) (sym back)
    (subst (λ ls. AllHaveSeats (locks_of ls) new) locks_are (have_seats g.O.Outlet.suits g.O.Outlet.kept c.args.rules.now locks old new ran))

pub returns-clause-ended : goal.returns-clause-ended
returns-clause-ended g c =
    let crew = c.args.crew in
    let old = c.deref_mut-2.result.now in
    let new = c.run_all.new.workers in
    let locks = locks_of c.as_slice.result.now in
    let long = c.run_all.ensures.long in
    let ran = all_ran g.O.Outlet.suits g.O.Outlet.kept c.args.rules.now locks old new long c.run_all.ensures.worked in
    let started = c.in_ok-workers.ensures.workers in
    let is_crew = subst (λ (ws : List (Worker g.row.O.Denot)). IsCrew ws crew.columns.items crew.drivers.items crew.outlets.items) (sym c.deref_mut-2.ensures.value) started.crew in
    let same = ap length c.deref_mut-2.ensures.value in
    let count : c.in_ok-workers.workers.len ≡ length new = omega (arith, long, same) in
    let back = whole_again new (drop (length new) c.in_ok-workers.workers.items) c.in_ok-workers.workers.len count in
    let made = c.in_ok-columns.field-0 in
    let new_crew = subst (λ (ws : List (Worker g.row.O.Denot)). IsCrew ws made.columns.items made.drivers.items made.outlets.items) back c.in_ok-columns.ensures.crew in
    let ended = subst (AllEnded {O = g.row.O.Denot}) back c.in_ok-columns.ensures.ended in
    have_ended g.O.Outlet.suits g.O.Outlet.kept c.args.rules.now locks old new crew.columns.items crew.drivers.items crew.outlets.items made.columns.items made.drivers.items made.outlets.items is_crew new_crew ran ended

pub returns-clause-told : goal.returns-clause-told
returns-clause-told g c =
    let crew = c.args.crew in
    let old = c.deref_mut-2.result.now in
    let new = c.run_all.new.workers in
    let locks = locks_of c.as_slice.result.now in
    let long = c.run_all.ensures.long in
    let ran = all_ran g.O.Outlet.suits g.O.Outlet.kept c.args.rules.now locks old new long c.run_all.ensures.worked in
    let started = c.in_ok-workers.ensures.workers in
    let is_crew = subst (λ (ws : List (Worker g.row.O.Denot)). IsCrew ws crew.columns.items crew.drivers.items crew.outlets.items) (sym c.deref_mut-2.ensures.value) started.crew in
    let same = ap length c.deref_mut-2.ensures.value in
    let count : c.in_ok-workers.workers.len ≡ length new = omega (arith, long, same) in
    let back = whole_again new (drop (length new) c.in_ok-workers.workers.items) c.in_ok-workers.workers.len count in
    let made = c.in_ok-columns.field-0 in
    let new_crew = subst (λ (ws : List (Worker g.row.O.Denot)). IsCrew ws made.columns.items made.drivers.items made.outlets.items) back c.in_ok-columns.ensures.crew in
    let ended = subst (AllEnded {O = g.row.O.Denot}) back c.in_ok-columns.ensures.ended in
    are_told g.O.Outlet.suits g.O.Outlet.kept c.args.rules.now locks old new crew.columns.items crew.drivers.items crew.outlets.items made.columns.items made.drivers.items made.outlets.items is_crew new_crew ran ended

pub close_all-requires-clause-seated : goal.close_all-requires-clause-seated
close_all-requires-clause-seated g c =
    let crew = c.args.crew in
    let old = c.deref_mut-2.result.now in
    let new = c.run_all.new.workers in
    let locks = locks_of c.as_slice.result.now in
    let long = c.run_all.ensures.long in
    let ran = all_ran g.O.Outlet.suits g.O.Outlet.kept c.args.rules.now locks old new long c.run_all.ensures.worked in
    let started = c.in_ok-workers.ensures.workers in
    let is_crew = subst (λ (ws : List (Worker g.row.O.Denot)). IsCrew ws crew.columns.items crew.drivers.items crew.outlets.items) (sym c.deref_mut-2.ensures.value) started.crew in
    let same = ap length c.deref_mut-2.ensures.value in
    let count : c.in_ok-workers.workers.len ≡ length new = omega (arith, long, same) in
    let back = whole_again new (drop (length new) c.in_ok-workers.workers.items) c.in_ok-workers.workers.len count in
    let made = c.in_ok-columns.field-0 in
    let new_crew = subst (λ (ws : List (Worker g.row.O.Denot)). IsCrew ws made.columns.items made.drivers.items made.outlets.items) back c.in_ok-columns.ensures.crew in
    let ended = subst (AllEnded {O = g.row.O.Denot}) back c.in_ok-columns.ensures.ended in
    let has = have_ended g.O.Outlet.suits g.O.Outlet.kept c.args.rules.now locks old new crew.columns.items crew.drivers.items crew.outlets.items made.columns.items made.drivers.items made.outlets.items is_crew new_crew ran ended in
    let as_many = has.columns_are in
    let shown = ap length c.deref-4.ensures.value in
    let seats_are : c.in-Ok.seats ≡ length c.deref-4.result.now = omega (arith, as_many, shown) in
    λ k l at. c.in_ok-locks.ensures.seated k l at ∙ seats_are

pub returns-clause-journals : goal.returns-clause-journals
returns-clause-journals g c =
    let cells = c.args.cells.items in
    let closed = c.in_ok-cells.field-0 in
    let replicas_is : c.len-replicas.result ≡ length cells = omega arith in
    let keys_is : c.count_keys-keys.result ≡ keys_of cells = c.count_keys-keys.ensures ∙ ap keys_of c.deref.ensures.value in
    let logs_are : logs_of c.deref-4.result.now ≡ logs_of c.in_ok-columns.field-0.columns.items = ap logs_of c.deref-4.ensures.value in
    subst (λ (z : (ℕ × ℕ) × List (List Step)). AreWorked z.0.0 z.0.1 z.1 (states_of cells) (states_of closed.cells.items) closed.journals) (λ i. ((replicas_is i, keys_is i), logs_are i))
    (c.in_ok-cells.ensures (states_of cells) c.in_ok-locks.ensures.opened)
