-- What all workers do together, by column.
use Rattle.std.proofs.Common.{◌≡◌, ◌∙◌, ℕ, zero, suc, ◌<◌, ◌^◌, List, [], ◌∷◌, ◌++◌, length, map, reverse, take, slice_get, slice_index_or, Some, refl, sym, ap, subst, arith}
use Rattle.std.specs.Prelude.{All, IsOk, OnOk, Ok, Err, Result, option_map}
use Rattle.std.proofs.lemmas.List.{length-map, length-reverse, map-append, reverse-append}
use Rattle.std.proofs.lemmas.Option.{get_or_from_slice_get, same_Some, slice_get-get_or, slice_get-map, slice_get_within}
use Rattle.mk_lists.specs.Among.{Each, Each-append}
use Rattle.mk_words.specs.Cells.{CellState}
use Rattle.mk_faults.specs.Fates.{RuleLines}
use Rattle.mk_column.specs.ColumnByCode.{ColumnView}
use Rattle.mk_driver.specs.Drivers.{DriverView}
use Rattle.mk_lock.specs.Seats.{LockView}
use Rattle.mk_workers.specs.declared.worker.Worker.{Worker}
use Rattle.mk_workers.specs.Begun.{AreBegun, SuitEach}
use Rattle.mk_workers.specs.Crews.{AreAtPlace, AreNumbered, AreStarted, AllEnded, AllHaveSeats, IsCrew}
use Rattle.mk_workers.specs.Going.{HasEnded}
use Rattle.mk_workers.specs.Pairs.{Pairs}
use Rattle.mk_workers.specs.Seating.{HasSeats, IsFreshColumn}
use Rattle.mk_workers.specs.Turns.{HasRun, HasWorked, IsAtWork}
use Rattle.mk_workers.specs.Worked.{AreTold, HaveEnded}
use Rattle.mk_workers.proofs.NoEntries.{each_here}
use Rattle.mk_workers.proofs.PairLaws.{pairs_push, slice_get-inside}

module _ {X Y : Type 0} where
  map_reverse : (f : X → Y) (xs : List X) → map f (reverse xs) ≡ reverse (map f xs)
  map_reverse f [] = refl
  map_reverse f (x ∷ xs) =
      ap (map f) (reverse-append (x ∷ []) xs) ∙ (map-append f (reverse xs) (x ∷ []) ∙ (ap (λ ys. ys ++ f x ∷ []) (map_reverse f xs) ∙ sym (reverse-append (f x ∷ []) (map f xs))))

  mapped_at : (f : X → Y) (xs : List X) (k : ℕ) (y : Y) → slice_get (map f xs) k ≡ Some y → (x : X) × ((slice_get xs k ≡ Some x) × (f x ≡ y))
  mapped_at f [] k y at = absurd (cc at)
  mapped_at f (x ∷ xs) zero y at = (x, (refl, same_Some (f x) y at))
  mapped_at f (x ∷ xs) (suc k) y at = mapped_at f xs k y at

  -- of what stands at a place in reverse order, whose it is
  crew_at : (f : X → Y) (xs : List X) (ys : List Y) (c : ℕ) (y : Y) → ys ≡ reverse (map f xs) → slice_get ys c ≡ Some y → (x : X) × ((slice_get (reverse xs) c ≡ Some x) × (f x ≡ y))
  crew_at f xs ys c y is at = mapped_at f (reverse xs) c y (ap (λ zs. slice_get zs c) (map_reverse f xs ∙ sym is) ∙ at)

  crew_of : (f : X → Y) (xs : List X) (ys : List Y) (c : ℕ) (x : X) → ys ≡ reverse (map f xs) → slice_get (reverse xs) c ≡ Some x → slice_get ys c ≡ Some (f x)
  crew_of f xs ys c x is at = ap (λ zs. slice_get zs c) (is ∙ sym (map_reverse f xs)) ∙ (slice_get-map f (reverse xs) c ∙ ap (option_map f) at)

  crew_long : (f : X → Y) (xs : List X) (ys : List Y) → ys ≡ reverse (map f xs) → length ys ≡ length xs
  crew_long f xs ys is = ap length is ∙ (length-reverse (map f xs) ∙ length-map xs f)

  pairs_reverse : (R : X → Y → Type 0) (xs : List X) (ys : List Y) → Pairs (λ _ x y. R x y) xs ys → Pairs (λ _ x y. R x y) (reverse xs) (reverse ys)
  pairs_reverse R [] [] has = has
  pairs_reverse R [] (y ∷ ys) has = absurd (let same = has.all in omega arith)
  pairs_reverse R (x ∷ xs) [] has = absurd (let same = has.all in omega arith)
  pairs_reverse R (x ∷ xs) (y ∷ ys) has =
      let rest : Pairs (λ _ x y. R x y) xs ys = record { all = let same = has.all in omega arith; each = λ k a b at at'. has.each (suc k) a b at at' } in
      subst (λ (z : List X × List Y). Pairs (λ _ x y. R x y) z.0 z.1) (λ i. (sym (reverse-append (x ∷ []) xs) i, sym (reverse-append (y ∷ []) ys) i))
      (pairs_push (λ _ x y. R x y) (reverse xs) (reverse ys) x y (pairs_reverse R xs ys rest) (has.each 0 x y refl refl))

module _ {X : Type 0} (P : X → Type 0) where
  each_slots : (xs : List X) → ((k : ℕ) (x : X) → slice_get xs k ≡ Some x → P x) → Each P xs
  each_slots [] h = tt
  each_slots (x ∷ xs) h = (h 0 x refl, each_slots xs (λ k y at. h (suc k) y at))

  each_last : (xs : List X) (x : X) → Each P (xs ++ x ∷ []) → Each P xs × P x
  each_last [] x each = (tt, each.0)
  each_last (y ∷ ys) x each = let rest = each_last ys x each.1 in ((each.0, rest.0), rest.1)

  each_reverse : (xs : List X) → Each P (reverse xs) → Each P xs
  each_reverse [] each = tt
  each_reverse (x ∷ xs) each = let both = each_last (reverse xs) x (subst (Each P) (reverse-append (x ∷ []) xs) each) in (both.1, each_reverse xs both.0)

  each_reversed : (xs : List X) → Each P xs → Each P (reverse xs)
  each_reversed [] each = tt
  each_reversed (x ∷ xs) each = subst (Each P) (sym (reverse-append (x ∷ []) xs)) (Each-append P (reverse xs) (x ∷ []) (each_reversed xs each.1) (each.0, tt))

  all_slots : (xs : List X) → Each P xs → All P xs
  all_slots xs each = λ k d below. each_here P xs k (slice_index_or xs k d) each (slice_get-get_or xs k d below)

on_ok_use : {T E : Type 0} (P : Type 0) (r : Result T E) → OnOk r P → IsOk r → P
on_ok_use P (Ok x) p ok = p
on_ok_use P (Err e) p ok = absurd (cc ok)

module _ {O : Type 0} (suits : O → ColumnView → Type 0) (kept : O → O → Type 0) (rules : RuleLines) (locks : List LockView) where
  -- each worker is at work as it starts
  pub at_work : (replicas keys : ℕ) (cells : List (List CellState)) (columns : List ColumnView) (drivers : List DriverView) (outlets : List O) (workers : List (Worker O)) →
      AreBegun rules replicas keys drivers columns cells → SuitEach suits outlets columns → AreStarted locks columns drivers outlets workers →
      All (λ (w : Worker O). IsAtWork suits rules replicas keys locks w) workers
  at_work replicas keys cells columns drivers outlets workers begun suited started =
      all_slots (λ (w : Worker O). IsAtWork suits rules replicas keys locks w) workers
      (each_reverse (λ (w : Worker O). IsAtWork suits rules replicas keys locks w) workers
      (each_slots (λ (w : Worker O). IsAtWork suits rules replicas keys locks w) (reverse workers) one))
    where
      seated : Each (λ (w : Worker O). IsFreshColumn locks w.column.number w.seats.items) (reverse workers)
      seated = each_reversed (λ (w : Worker O). IsFreshColumn locks w.column.number w.seats.items) workers started.seats

      one : (c : ℕ) (w : Worker O) → slice_get (reverse workers) c ≡ Some w → IsAtWork suits rules replicas keys locks w
      one c w at =
          let crew = started.crew in
          let column = crew_of (λ (w : Worker O). w.column) workers columns c w crew.columns_are at in
          let driver = crew_of (λ (w : Worker O). w.driver) workers drivers c w crew.drivers_are at in
          let outlet = crew_of (λ (w : Worker O). w.outlet) workers outlets c w crew.outlets_are at in
          let fresh = each_here (λ (w : Worker O). IsFreshColumn locks w.column.number w.seats.items) (reverse workers) c w seated at in
          record {
            script = begun.scripts c w.driver w.column driver column;
            seats = record {
              all = fresh.all;
              each = λ k l s there here. let seat = fresh.each k l s there here in
                  record { lock = seat.lock; number = seat.number; entries = seat.entries ∙ sym (begun.fresh c w.column column l.replica l.key) };
            };
            suited = suited.each c w.outlet w.column outlet column;
          }

  module _ (workers new_workers : List (Worker O)) where
    abbrev pub AllRan : Type 0
    AllRan = Pairs (λ _ (w : Worker O) (new_w : Worker O). HasRun suits kept rules locks w new_w) workers new_workers

    -- each worker has run
    pub all_ran : length new_workers ≡ length workers →
        ((i : ℕ) (d : Worker O) → i < length workers → HasRun suits kept rules locks (slice_index_or workers i d) (slice_index_or new_workers i d)) → AllRan
    all_ran long each =
        record {
          all = long;
          each = λ k w new_w at at'.
              subst (λ (z : Worker O × Worker O). HasRun suits kept rules locks z.0 z.1)
              (λ i. (get_or_from_slice_get workers k w w at i, get_or_from_slice_get new_workers k new_w w at' i))
              (each k w (slice_get_within workers k w at));
        }

    pub have_seats : AllRan → AllHaveSeats locks new_workers
    have_seats ran =
        each_slots (λ (w : Worker O). IsOk w.ended → HasSeats locks w.column.number w.column.log w.seats.items) new_workers
        (λ k new_w at' ok.
        let w = slice_get-inside workers k (let inside = slice_get_within new_workers k new_w at' in let same = ran.all in omega arith) in
        let worked : HasWorked suits kept rules locks w.0 new_w = on_ok_use _ new_w.ended (ran.each k w.0 new_w w.1 at') ok in worked.seats)

    -- by column
    worked_at : AllRan → (c : ℕ) (new_w : Worker O) → slice_get (reverse new_workers) c ≡ Some new_w → IsOk new_w.ended →
        (w : Worker O) × ((slice_get (reverse workers) c ≡ Some w) × HasWorked suits kept rules locks w new_w)
    worked_at ran c new_w at' ok =
        let back = pairs_reverse (λ (w : Worker O) (new_w : Worker O). HasRun suits kept rules locks w new_w) workers new_workers ran in
        let w = slice_get-inside (reverse workers) c (let inside = slice_get_within (reverse new_workers) c new_w at' in let same = back.all in omega arith) in
        (w.0, (w.1, on_ok_use (HasWorked suits kept rules locks w.0 new_w) new_w.ended (back.each c w.0 new_w w.1 at') ok))

    module _ (columns : List ColumnView) (drivers : List DriverView) (outlets : List O) where
      pub at_places : IsCrew workers columns drivers outlets → AreNumbered columns → AllRan → AreAtPlace new_workers
      at_places crew numbers ran c new_w at' ok =
          let found = worked_at ran c new_w at' ok in
          found.1.1.ended.same.number ∙ numbers c found.0.column (crew_of (λ (w : Worker O). w.column) workers columns c found.0 crew.columns_are found.1.0)

      module _ (new_columns : List ColumnView) (new_drivers : List DriverView) (new_outlets : List O) where
        pub have_ended : IsCrew workers columns drivers outlets → IsCrew new_workers new_columns new_drivers new_outlets → AllRan → AllEnded new_workers →
            HaveEnded rules drivers new_drivers columns new_columns
        have_ended crew new_crew ran ended =
            record {
              columns_are = crew_long (λ (w : Worker O). w.column) new_workers new_columns new_crew.columns_are
                  ∙ (ran.all ∙ sym (crew_long (λ (w : Worker O). w.column) workers columns crew.columns_are));
              drivers_are = crew_long (λ (w : Worker O). w.driver) new_workers new_drivers new_crew.drivers_are
                  ∙ (ran.all ∙ sym (crew_long (λ (w : Worker O). w.driver) workers drivers crew.drivers_are));
              each = λ c driver new_driver column new_column at_driver at_driver' at_column at_column'.
                  let new_w = crew_at (λ (w : Worker O). w.column) new_workers new_columns c new_column new_crew.columns_are at_column' in
                  let ok = each_here (λ (w : Worker O). IsOk w.ended) (reverse new_workers) c new_w.0 (each_reversed (λ (w : Worker O). IsOk w.ended) new_workers ended) new_w.1.0 in
                  let found = worked_at ran c new_w.0 new_w.1.0 ok in
                  let w = found.0 in
                  let driver_is = same_Some w.driver driver (sym (crew_of (λ (w : Worker O). w.driver) workers drivers c w crew.drivers_are found.1.0) ∙ at_driver) in
                  let new_driver_is = same_Some new_w.0.driver new_driver (sym (crew_of (λ (w : Worker O). w.driver) new_workers new_drivers c new_w.0 new_crew.drivers_are new_w.1.0) ∙ at_driver') in
                  let column_is = same_Some w.column column (sym (crew_of (λ (w : Worker O). w.column) workers columns c w crew.columns_are found.1.0) ∙ at_column) in
                  subst (λ (z : (DriverView × DriverView) × (ColumnView × ColumnView)). HasEnded rules z.0.0 z.0.1 z.1.0 z.1.1)
                  (λ i. ((driver_is i, new_driver_is i), (column_is i, new_w.1.1 i))) found.1.1.ended;
            }

        pub are_told : IsCrew workers columns drivers outlets → IsCrew new_workers new_columns new_drivers new_outlets → AllRan → AllEnded new_workers →
            AreTold suits kept outlets new_outlets new_columns
        are_told crew new_crew ran ended =
            record {
              all = crew_long (λ (w : Worker O). w.outlet) new_workers new_outlets new_crew.outlets_are ∙ (ran.all ∙ sym (crew_long (λ (w : Worker O). w.outlet) workers outlets crew.outlets_are));
              suit = λ c outlet column at_outlet at_column.
                  let new_w = crew_at (λ (w : Worker O). w.outlet) new_workers new_outlets c outlet new_crew.outlets_are at_outlet in
                  let ok = each_here (λ (w : Worker O). IsOk w.ended) (reverse new_workers) c new_w.0 (each_reversed (λ (w : Worker O). IsOk w.ended) new_workers ended) new_w.1.0 in
                  let found = worked_at ran c new_w.0 new_w.1.0 ok in
                  let column_is = same_Some new_w.0.column column (sym (crew_of (λ (w : Worker O). w.column) new_workers new_columns c new_w.0 new_crew.columns_are new_w.1.0) ∙ at_column) in
                  subst (λ (z : O × ColumnView). suits z.0 z.1) (λ i. (new_w.1.1 i, column_is i)) found.1.1.suited;
              stay = λ c outlet new_outlet at_outlet at_outlet'.
                  let new_w = crew_at (λ (w : Worker O). w.outlet) new_workers new_outlets c new_outlet new_crew.outlets_are at_outlet' in
                  let ok = each_here (λ (w : Worker O). IsOk w.ended) (reverse new_workers) c new_w.0 (each_reversed (λ (w : Worker O). IsOk w.ended) new_workers ended) new_w.1.0 in
                  let found = worked_at ran c new_w.0 new_w.1.0 ok in
                  let outlet_is = same_Some found.0.outlet outlet (sym (crew_of (λ (w : Worker O). w.outlet) workers outlets c found.0 crew.outlets_are found.1.0) ∙ at_outlet) in
                  subst (λ (z : O × O). kept z.0 z.1) (λ i. (outlet_is i, new_w.1.1 i)) found.1.1.stays;
            }

-- there are few replicas and keys, where there is a column
pub are_few : (rules : RuleLines) (replicas keys : ℕ) (drivers : List DriverView) (columns : List ColumnView) (cells : List (List CellState)) → AreBegun rules replicas keys drivers columns cells →
    0 < length columns → (replicas < 2 ^ 32) × (keys < 2 ^ 32)
are_few rules replicas keys drivers columns cells begun some =
    let column = slice_get-inside columns 0 some in
    let as_many = begun.as_many in
    let driver = slice_get-inside drivers 0 (omega (arith, some, as_many)) in
    let of = begun.scripts 0 driver.0 column.0 driver.1 column.1 in
    let size = of.size in
    let keys_are = of.keys_are in
    let head = of.whole.head.size_high in
    let long = of.whole.rounds.keys_few in
    (omega (arith, size, head), omega (arith, keys_are, long))

-- where there is no column
pub none_ended : (rules : RuleLines) (drivers : List DriverView) (columns : List ColumnView) → length columns ≡ 0 → HaveEnded rules drivers drivers columns columns
none_ended rules drivers columns none =
    record {
      columns_are = refl;
      drivers_are = refl;
      each = λ c driver new_driver column new_column at_driver at_driver' at_column at_column'. absurd (let inside = slice_get_within columns c column at_column in omega (arith, inside, none));
    }

pub none_told : {O : Type 0} (suits : O → ColumnView → Type 0) (kept : O → O → Type 0) (outlets : List O) (columns : List ColumnView) → length outlets ≡ length columns → length columns ≡ 0 →
    AreTold suits kept outlets outlets columns
none_told suits kept outlets columns same none =
    record {
      all = refl;
      suit = λ c outlet column at_outlet at_column. absurd (let inside = slice_get_within columns c column at_column in omega (arith, inside, none));
      stay = λ c outlet new_outlet at_outlet at_outlet'. absurd (let inside = slice_get_within outlets c outlet at_outlet in omega (arith, inside, same, none));
    }

-- a list that was written back whole
pub whole_again : {X : Type 0} (xs ys : List X) (n : ℕ) → n ≡ length xs → take n (xs ++ ys) ≡ xs
whole_again [] ys n is = subst (λ m. take m ys ≡ []) (sym is) refl
whole_again (x ∷ xs) ys zero is = absurd (omega (arith, is))
whole_again (x ∷ xs) ys (suc n) is = ap (λ zs. x ∷ zs) (whole_again xs ys n (omega (arith, is)))
