-- A store in which a round begins.
use Rattle.std.proofs.Common.{◌≡◌, ◌<◌, ℕ, ◌+◌, refl, sym, ap, subst, ◌∙◌, List, [], ◌∷◌, ◌++◌, map}
use Rattle.std.proofs.lemmas.Option.{slice_get_within}
use Rattle.mk_lists.specs.Among.{Each}
use Rattle.mk_trim.specs.declared.ReplicaView.{ReplicaView}
use Rattle.mk_script.specs.Scripts.{ScriptParts}
use Rattle.mk_faults.specs.Fates.{RuleLines}
use Rattle.mk_column.specs.ColumnByCode.{ColumnView}
use Rattle.mk_snap.specs.Snapshots.{SnapState, SnapStands}
use Rattle.mk_history.specs.declared.RoundLog.{RoundLog}
use Rattle.mk_driver.specs.Drivers.{DriverView}
use Rattle.mk_driver.specs.Standings.{Stands}
use Rattle.mk_state.specs.Beginning.{column_begun}
use Rattle.mk_state.specs.Standings.{WholeView, IsBegun}
use Rattle.mk_round.specs.Pasts.{run_of, state_behind, views_behind, past_of}
use Rattle.mk_round.specs.Turning.{IsNext}
use Rattle.mk_round.specs.Stores.{StoreView, MayWork}
use Rattle.mk_round.specs.Begun.{IsFirstOf, AreFirst, MayBegin, HasBegun, HaveBegun, IsReady, IsAtWork}
use Rattle.mk_round.proofs.PastLaws.{length_more}
use Rattle.mk_round.proofs.Loops.{push_places}
use Rattle.mk_round.proofs.Placed.{place_of, each_placed}

-- each driver may begin
pub may_begin : (rules : RuleLines) (script : ScriptParts) (done : List RoundLog) (store : StoreView) → MayWork rules script done store →
    Each (MayBegin (store.round + 1)) store.drivers
may_begin rules script done store may =
    each_placed (MayBegin (store.round + 1)) store.drivers
    (λ c driver at. let next = may.between.next c driver at in record {
      number = ap (λ n. n + 1) (may.between.round ∙ sym next.round);
      left = next.left may.left;
    })

fresh_all : (views : List ReplicaView) (columns : List ColumnView) → Each (λ (column : ColumnView). column.log ≡ []) (map (column_begun views) columns)
fresh_all views [] = tt
fresh_all views (column ∷ columns) = (refl, fresh_all views columns)

-- a driver whose next round has begun
ready_by : (script : ScriptParts) (done : List RoundLog) (c : ℕ) (driver new_driver : DriverView) → IsNext script done c driver → HasBegun driver new_driver → IsReady script done c new_driver
ready_by script done c driver new_driver next begun =
    let views = views_behind script done in
    record {
      column = ap (λ (d : DriverView). d.column) begun.after ∙ next.column;
      stands = λ column number setting state. subst (λ d. Stands script d column (past_of script done) views []) (sym begun.after)
          (next.stands views begun.lines column begun.there number setting state);
      come = next.come views;
    }

-- the store once the round has begun in columns and drivers
pub at_work : (rules : RuleLines) (script : ScriptParts) (done : List RoundLog) (store : StoreView) (whole : WholeView SnapState) (drivers : List DriverView) →
    MayWork rules script done store → IsBegun SnapStands (run_of script []) whole (state_behind script done) →
    whole ≡ record store.whole { columns = map (column_begun (views_behind script done)) store.whole.columns } → HaveBegun store.drivers drivers →
    IsAtWork script done (record { round = store.round + 1; whole = whole; drivers = drivers })
at_work rules script done store whole drivers may begun same drive =
    let columns_are : whole.columns ≡ map (column_begun (views_behind script done)) store.whole.columns = ap (λ (w : WholeView SnapState). w.columns) same in
    record {
      script_whole = may.whole;
      begun = ap (λ n. n + 1) may.between.round;
      at = begun;
      fresh = subst (Each (λ (column : ColumnView). column.log ≡ [])) (sym columns_are) (fresh_all (views_behind script done) store.whole.columns);
      as_many = drive.all ∙ may.between.as_many;
      ready = λ c driver at.
          let was = place_of store.drivers c (subst (λ n. c < n) drive.all (slice_get_within drivers c driver at)) in
          ready_by script done c was.0 driver (may.between.next c was.0 was.1) (drive.each c was.0 driver was.1 at);
    }

-- ---- before the first round

-- one driver more
pub first_more : (script : ScriptParts) (k : ℕ) (drivers more : List DriverView) (driver : DriverView) → AreFirst script k drivers → IsFirstOf script k driver →
    more ≡ drivers ++ driver ∷ [] → AreFirst script (k + 1) more
first_more script k drivers more driver first new is =
    subst (AreFirst script (k + 1)) (sym is)
    (record {
      all = length_more drivers driver ∙ ap (λ n. n + 1) first.all;
      each = push_places (IsFirstOf script) drivers driver first.each (subst (λ n. IsFirstOf script n driver) (sym first.all) new);
    })
