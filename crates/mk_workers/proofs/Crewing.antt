-- Workers are put together from the last column to the first, and taken apart from the first to the last.
use Rattle.std.proofs.Common.{◌≡◌, ◌∙◌, ◌<◌, List, [], ◌∷◌, ◌++◌, map, reverse, length, length-append, slice_get, refl, sym, ap, subst, arith}
use Rattle.std.specs.Prelude.{IsOk}
use Rattle.std.proofs.lemmas.List.{append-nil, map-append, append_assoc, length-map, length-reverse, reverse-append}
use Rattle.std.proofs.lemmas.Option.{slice_get_within}
use Rattle.mk_lists.specs.Among.{Each, Each-append}
use Rattle.mk_lists.proofs.EachMember.{Each-append_left}
use Rattle.mk_lists.proofs.Places.{slice_get-append_left, slice_get_push}
use Rattle.mk_column.specs.ColumnByCode.{ColumnView}
use Rattle.mk_driver.specs.Drivers.{DriverView}
use Rattle.mk_lock.specs.Seats.{LockView}
use Rattle.mk_workers.specs.declared.worker.Worker.{Worker}
use Rattle.mk_workers.specs.Crews.{AreNumbered, AreStarted, AreAtPlace, AllEnded, AllHaveSeats, IsCrew}
use Rattle.mk_workers.specs.Seating.{HasSeats, IsFreshColumn}

-- a list of no length
nothing : {X : Type 0} (xs : List X) → length xs ≡ 0 → xs ≡ []
nothing [] none = refl
nothing (x ∷ xs) none = absurd (omega (arith, none))

module _ {X Y : Type 0} (f : X → Y) where
  -- one more at the end, with the last put first
  reverse_push : (ws : List X) (w : X) → reverse (map f (ws ++ w ∷ [])) ≡ f w ∷ reverse (map f ws)
  reverse_push ws w = ap reverse (map-append f ws (w ∷ [])) ∙ reverse-append (map f ws) (f w ∷ [])

  -- what is left and what was moved are all, while one is moved from the end
  pub moved : (all old new : List Y) (ws : List X) (w : X) → all ≡ old ++ reverse (map f ws) → old ≡ new ++ f w ∷ [] → all ≡ new ++ reverse (map f (ws ++ w ∷ []))
  moved all old new ws w whole is =
      whole ∙ (ap (λ ys. ys ++ reverse (map f ws)) is ∙ (append_assoc new (f w ∷ []) (reverse (map f ws)) ∙ sym (ap (λ ys. new ++ ys) (reverse_push ws w))))

  -- one is taken from the end, and put behind those that were
  pub unmoved : (ys : List Y) (gone : List X) (w : X) → ys ≡ reverse (map f gone) → ys ++ f w ∷ [] ≡ reverse (map f (w ∷ gone))
  unmoved ys gone w is = ap (λ zs. zs ++ f w ∷ []) is ∙ sym (reverse-append (f w ∷ []) (map f gone))

-- columns numbered by place, without the last one
numbered_front : (columns : List ColumnView) (last : ColumnView) → AreNumbered (columns ++ last ∷ []) → AreNumbered columns × (last.number ≡ length columns)
numbered_front columns last are = (
  λ c column at. are c column (slice_get-append_left columns (last ∷ []) c (slice_get_within columns c column at) ∙ at),
  are (length columns) last (slice_get_push columns last (length columns) refl),
)

module _ {O : Type 0} where
  -- while workers are put together: what is left, and the workers, of which the last column comes first
  pub record IsStarting (locks : List LockView) (columns : List ColumnView) (drivers : List DriverView) (outlets : List O) (old_columns : List ColumnView) (old_drivers : List DriverView) (old_outlets : List O) (workers : List (Worker O)) : Type 0 where
    pub columns_are : columns ≡ old_columns ++ reverse (map (λ (w : Worker O). w.column) workers)
    pub drivers_are : drivers ≡ old_drivers ++ reverse (map (λ (w : Worker O). w.driver) workers)
    pub outlets_are : outlets ≡ old_outlets ++ reverse (map (λ (w : Worker O). w.outlet) workers)
    pub numbers : AreNumbered old_columns
    pub drivers_long : length old_drivers ≡ length old_columns
    pub outlets_long : length old_outlets ≡ length old_columns
    pub seats : Each (λ (w : Worker O). IsFreshColumn locks w.column.number w.seats.items) workers

  pub starting_first : (locks : List LockView) (columns : List ColumnView) (drivers : List DriverView) (outlets : List O) (workers : List (Worker O)) → AreNumbered columns →
      (length drivers ≡ length columns) × (length outlets ≡ length columns) → workers ≡ [] → IsStarting locks columns drivers outlets columns drivers outlets workers
  starting_first locks columns drivers outlets workers numbers as_many none =
      subst (IsStarting locks columns drivers outlets columns drivers outlets) (sym none) (record {
        columns_are = sym (append-nil columns);
        drivers_are = sym (append-nil drivers);
        outlets_are = sym (append-nil outlets);
        numbers = numbers;
        drivers_long = as_many.0;
        outlets_long = as_many.1;
        seats = tt;
      })

  module _ (locks : List LockView) (columns : List ColumnView) (drivers : List DriverView) (outlets : List O) where
    -- one worker more
    pub starting_more : (old_columns left_columns : List ColumnView) (old_drivers left_drivers : List DriverView) (old_outlets left_outlets : List O) (workers new_workers : List (Worker O)) (w : Worker O) →
        IsStarting locks columns drivers outlets old_columns old_drivers old_outlets workers → old_columns ≡ left_columns ++ w.column ∷ [] → old_drivers ≡ left_drivers ++ w.driver ∷ [] →
        old_outlets ≡ left_outlets ++ w.outlet ∷ [] → IsFreshColumn locks (length left_columns) w.seats.items → new_workers ≡ workers ++ w ∷ [] →
        IsStarting locks columns drivers outlets left_columns left_drivers left_outlets new_workers
    starting_more old_columns left_columns old_drivers left_drivers old_outlets left_outlets workers new_workers w was column driver outlet fresh new =
        let numbered = numbered_front left_columns w.column (subst AreNumbered column was.numbers) in
        let more = ap length column in
        let columns_long = length-append left_columns (w.column ∷ []) in
        let more_drivers = ap length driver in
        let drivers_long = length-append left_drivers (w.driver ∷ []) in
        let more_outlets = ap length outlet in
        let outlets_long = length-append left_outlets (w.outlet ∷ []) in
        let same_drivers = was.drivers_long in
        let same_outlets = was.outlets_long in
        subst (IsStarting locks columns drivers outlets left_columns left_drivers left_outlets) (sym new) (record {
          columns_are = moved (λ (w : Worker O). w.column) columns old_columns left_columns workers w was.columns_are column;
          drivers_are = moved (λ (w : Worker O). w.driver) drivers old_drivers left_drivers workers w was.drivers_are driver;
          outlets_are = moved (λ (w : Worker O). w.outlet) outlets old_outlets left_outlets workers w was.outlets_are outlet;
          numbers = numbered.0;
          drivers_long = omega arith;
          outlets_long = omega arith;
          seats = Each-append (λ (w : Worker O). IsFreshColumn locks w.column.number w.seats.items) workers (w ∷ []) was.seats
              (subst (λ n. IsFreshColumn locks n w.seats.items) (sym numbered.1) fresh, tt);
        })

    -- all workers
    pub started_all : (left_columns : List ColumnView) (left_drivers : List DriverView) (left_outlets : List O) (workers : List (Worker O)) →
        IsStarting locks columns drivers outlets left_columns left_drivers left_outlets workers → length left_columns ≡ 0 → AreStarted locks columns drivers outlets workers
    started_all left_columns left_drivers left_outlets workers was none =
        record {
          crew = record {
            columns_are = was.columns_are ∙ ap (λ xs. xs ++ reverse (map (λ (w : Worker O). w.column) workers)) (nothing left_columns none);
            drivers_are = was.drivers_are ∙ ap (λ xs. xs ++ reverse (map (λ (w : Worker O). w.driver) workers)) (nothing left_drivers (was.drivers_long ∙ none));
            outlets_are = was.outlets_are ∙ ap (λ xs. xs ++ reverse (map (λ (w : Worker O). w.outlet) workers)) (nothing left_outlets (was.outlets_long ∙ none));
          };
          seats = was.seats;
        }

  -- while workers are taken apart: those that are left, and those that are gone, which came to their end
  pub record IsEnding (workers left gone : List (Worker O)) (columns : List ColumnView) (drivers : List DriverView) (outlets : List O) : Type 0 where
    pub all : workers ≡ left ++ gone
    pub crew : IsCrew gone columns drivers outlets
    pub ended : AllEnded gone

  pub ending_first : (workers : List (Worker O)) (columns : List ColumnView) (drivers : List DriverView) (outlets : List O) → columns ≡ [] → drivers ≡ [] → outlets ≡ [] →
      IsEnding workers workers [] columns drivers outlets
  ending_first workers columns drivers outlets no_columns no_drivers no_outlets =
      record { all = sym (append-nil workers); crew = record { columns_are = no_columns; drivers_are = no_drivers; outlets_are = no_outlets }; ended = tt }

  module _ (workers old left gone : List (Worker O)) (columns : List ColumnView) (drivers : List DriverView) (outlets : List O) (w : Worker O) where
    -- one worker more is gone
    pub ending_more : (new_columns : List ColumnView) (new_drivers : List DriverView) (new_outlets : List O) → IsEnding workers old gone columns drivers outlets → old ≡ left ++ w ∷ [] →
        IsOk w.ended → new_columns ≡ columns ++ w.column ∷ [] → new_drivers ≡ drivers ++ w.driver ∷ [] → new_outlets ≡ outlets ++ w.outlet ∷ [] →
        IsEnding workers left (w ∷ gone) new_columns new_drivers new_outlets
    ending_more new_columns new_drivers new_outlets was is ended column driver outlet =
        record {
          all = was.all ∙ (ap (λ ws. ws ++ gone) is ∙ append_assoc left (w ∷ []) gone);
          crew = record {
            columns_are = column ∙ unmoved (λ (w : Worker O). w.column) columns gone w was.crew.columns_are;
            drivers_are = driver ∙ unmoved (λ (w : Worker O). w.driver) drivers gone w was.crew.drivers_are;
            outlets_are = outlet ∙ unmoved (λ (w : Worker O). w.outlet) outlets gone w was.crew.outlets_are;
          };
          ended = (ended, was.ended);
        }

    -- the column that comes next has the next number
    pub number_next : IsEnding workers old gone columns drivers outlets → old ≡ left ++ w ∷ [] → AreAtPlace workers → IsOk w.ended → w.column.number ≡ length columns
    number_next was is numbers ended =
        let whole : reverse workers ≡ (reverse gone ++ w ∷ []) ++ reverse left =
        ap reverse (was.all ∙ (ap (λ ws. ws ++ gone) is ∙ append_assoc left (w ∷ []) gone)) ∙ (reverse-append left (w ∷ gone) ∙ ap (λ ws. ws ++ reverse left) (reverse-append (w ∷ []) gone)) in
        let longer = length-append (reverse gone) (w ∷ []) in
        let inside : length (reverse gone) < length (reverse gone ++ w ∷ []) = omega arith in
        let long : length columns ≡ length (reverse gone) =
        ap length was.crew.columns_are ∙ (length-reverse (map (λ (w : Worker O). w.column) gone) ∙ (length-map gone (λ (w : Worker O). w.column) ∙ sym (length-reverse gone))) in
        numbers (length (reverse gone)) w
        (ap (λ ws. slice_get ws (length (reverse gone))) whole
        ∙ (slice_get-append_left (reverse gone ++ w ∷ []) (reverse left) (length (reverse gone)) inside ∙ slice_get_push (reverse gone) w (length (reverse gone)) refl)) ended
        ∙ sym long

    -- its seats, where all that are left have theirs
    pub seats_next : (locks : List LockView) → IsEnding workers old gone columns drivers outlets → old ≡ left ++ w ∷ [] → AllHaveSeats locks workers → IsOk w.ended →
        HasSeats locks w.column.number w.column.log w.seats.items
    seats_next locks was is all ended =
        let here = Each-last left w (subst (AllHaveSeats {O = O} locks) is (Each-append_left (λ (w : Worker O). IsOk w.ended → HasSeats locks w.column.number w.column.log w.seats.items) old gone (subst (AllHaveSeats {O = O} locks) was.all all))) in
        here ended
      where
        Each-last : (ws : List (Worker O)) (w : Worker O) → AllHaveSeats locks (ws ++ w ∷ []) → IsOk w.ended → HasSeats locks w.column.number w.column.log w.seats.items
        Each-last [] w each = each.0
        Each-last (v ∷ ws) w each = Each-last ws w each.1

  -- all are gone
  pub ending_all : (workers left gone : List (Worker O)) (columns : List ColumnView) (drivers : List DriverView) (outlets : List O) → IsEnding workers left gone columns drivers outlets → length left ≡ 0 →
      IsCrew workers columns drivers outlets × AllEnded workers
  ending_all workers left gone columns drivers outlets was none =
      let all : gone ≡ workers = sym (was.all ∙ ap (λ ws. ws ++ gone) (nothing left none)) in
      (subst (λ ws. IsCrew ws columns drivers outlets) all was.crew, subst (AllEnded {O = O}) all was.ended)

-- the same, whichever are gone
abbrev pub IsEndingSome : {O : Type 0} → List (Worker O) → List (Worker O) → List ColumnView → List DriverView → List O → Type 0
IsEndingSome {O} workers left columns drivers outlets = (gone : List (Worker O)) × IsEnding workers left gone columns drivers outlets
