-- Whatever is stamped at or below the mark is closed.
use Rattle.std.proofs.Common.{◌≡◌, ◌⊎◌, ◌<◌, ◌≤◌, ℕ, Bool, true, false, not, ◌&&◌, ◌||◌, refl, sym, ap, subst, ◌∙◌, inl, inr, arith, List, [], ◌∷◌, map, Option, Some, None}
use Rattle.std.specs.Option.{option_and_then}
use Rattle.std.proofs.lemmas.Option.{none-some}
use Rattle.std.proofs.lemmas.Bool.{false≢true, and_parts, eqb-true, not-true}
use Rattle.std.proofs.lemmas.Bool.Decides.{nat_tests}
use Rattle.mk_lists.specs.Among.{Among}
use Rattle.mk_lists.proofs.Members.{Among-map}
use Rattle.mk_lists.proofs.Lookups.{find_tells}
use Rattle.mk_lists.proofs.Tests.{list_all-among}
use Rattle.mk_txn.specs.declared.Stamp.{Stamp}
use Rattle.mk_txn.specs.declared.TxnId.{TxnId}
use Rattle.mk_txn.specs.Stamps.{zero_stamp, is_before}
use Rattle.mk_txn.specs.Transactions.{Transaction}
use Rattle.mk_txn.proofs.StampOrder.{not_before-through}
use Rattle.mk_model.specs.ColumnState.{ClientState, AttemptState, attempt_of, is_attempt, is_client}
use Rattle.mk_column_laws.specs.Moments.{Moment, Taught, StaysTaught, Event, EachHappens, IsReached, after_event, moment_through}
use Rattle.mk_column_laws.specs.Laws.{EventsMove, ColumnsGrow, FactsHold}
use Rattle.mk_column_laws.specs.Identity.{IdsOnce}
use Rattle.mk_record_laws.specs.Attempts.{AttemptsAreFound}
use Rattle.mk_run_laws.proofs.ClientNumbers.{numbers, numbers_through}
use Rattle.mk_feed_words.specs.MarkStamps.{Stamped, last_of, is_below_open, is_within_lasts, mark_stamp, mark_for, is_closed, stamped_of, mark_of_column}
use Rattle.mk_mark_laws.specs.Honest.{IsClosedIn, ClosedBelowMarks}
use Rattle.mk_mark_laws.proofs.MarkStamps.{mark-cases, HasStamp, last-cases, one_stamped, stamped-there, stamped-from}
use Rattle.mk_mark_laws.proofs.Late.{reached-next, IsUnstamped, late-follows}

-- the laws of columns that this rests on
pub record ColumnLaws : Type 0 where
  pub moves : EventsMove
  pub grow : ColumnsGrow
  pub facts : FactsHold
  pub ids : IdsOnce
  pub found : AttemptsAreFound

reached-through : (taught : Taught) (m : Moment) (events : List Event) → IsReached taught m → EachHappens taught m events → IsReached taught (moment_through m events)
reached-through taught m [] r h = r
reached-through taught m (event ∷ events) r h = reached-through taught (after_event event m) events (reached-next taught m event r h.0) h.1

above_zero : (stamp : Stamp) → 1 ≤ stamp.time → is_before zero_stamp stamp ≡ true
above_zero stamp h = grind (arith, nat_tests)

-- where times rise, stamps do
by_time : (a b : Stamp) → a.time < b.time → is_before a b ≡ true
by_time a b h = grind (arith, nat_tests)

open_or_closed : (closed below : Bool) → (closed || below) ≡ true → below ≡ false → closed ≡ true
open_or_closed true below e k = refl
open_or_closed false below e k = absurd (false≢true (sym k ∙ e))

module _ (laws : ColumnLaws) (taught : Taught) (stays : StaysTaught taught) (m : Moment) (r : IsReached taught m) (settled : List TxnId) where
  abbrev all : List Stamped
  all = stamped_of settled m.column m.column.attempts

  -- who is stamped by now
  closed-now : (id : TxnId) (a : AttemptState) (txn : Transaction) (stamp : Stamp) → attempt_of m.column id ≡ Some a → a.txn ≡ Some txn → is_below_open all stamp ≡ true → is_before stamp txn.stamp ≡ false
      → is_closed settled m.column id ≡ true
  closed-now id a txn stamp found some below not_above =
      let among : Among a m.column.attempts = (find_tells (is_attempt id) m.column.attempts a found).0 in
      let own : txn.id ≡ id = ((laws.facts taught stays m r).attempts id a found).txn_id txn some in
      let one : Stamped = one_stamped settled m.column txn in
      let either = list_all-among (λ (s : Stamped). s.closed || is_before stamp s.stamp) all one below (stamped-there settled m.column m.column.attempts a txn among some) in
      subst (λ (i : TxnId). is_closed settled m.column i ≡ true) own (open_or_closed (is_closed settled m.column txn.id) (is_before stamp txn.stamp) either not_above)

  -- who is stamped later lies above the last stamp of its client
  above-last : (events : List Event) → EachHappens taught m events → (id : TxnId) (a : AttemptState) (txn : Transaction) → IsUnstamped m id → attempt_of (moment_through m events).column id ≡ Some a → a.txn ≡ Some txn
      → is_before (last_of all id.client) txn.stamp ≡ true
  above-last events happens id a txn un found some = by (last-cases all id.client)
    where
      by : (last_of all id.client ≡ zero_stamp) ⊎ HasStamp all id.client (last_of all id.client) → is_before (last_of all id.client) txn.stamp ≡ true
      by (inl z) =
          let n = moment_through m events in
          let ids = laws.ids taught stays n (reached-through taught m events r happens) in
          ap (λ s. is_before s txn.stamp) z ∙ above_zero txn.stamp (ids.stamps id a txn found some).from_one
      by (inr h) =
          let n = moment_through m events in
          let ids = laws.ids taught stays n (reached-through taught m events r happens) in
          let y = stamped-from settled m.column m.column.attempts h.one h.among in
          let there : attempt_of m.column y.attempt.id ≡ Some y.attempt = laws.found taught stays m r y.attempt y.among in
          let own : y.txn.id ≡ y.attempt.id = ((laws.facts taught stays m r).attempts y.attempt.id y.attempt there).txn_id y.txn y.has_txn in
          let client : y.attempt.id.client ≡ id.client = ap (λ (i : TxnId). i.client) (sym own) ∙ sym (ap (λ (s : Stamped). s.id.client) y.is) ∙ h.of_client in
          let follows = late-follows laws.moves laws.grow laws.ids taught stays m r events happens id y.attempt.id txn y.txn un (y.attempt, there, y.has_txn) client (a, found, some) in
          let later = (laws.grow taught stays m r events happens).attempts y.attempt.id y.attempt there in
          let rises : y.txn.stamp.time < txn.stamp.time = ids.rise y.attempt.id id later.0 a y.txn txn later.1 found ((later.2).txn y.txn y.has_txn) some client follows in
          ap (λ s. is_before s txn.stamp) (sym h.stamp_is ∙ ap (λ (s : Stamped). s.stamp) y.is) ∙ by_time y.txn.stamp txn.stamp rises

  client-there : (events : List Event) → EachHappens taught m events → (id : TxnId) (a : AttemptState) (txn : Transaction) → attempt_of (moment_through m events).column id ≡ Some a → a.txn ≡ Some txn
      → Among id.client (map (λ (c : ClientState). c.number) m.column.clients)
  client-there events happens id a txn found some =
      let n = moment_through m events in
      let by = (laws.ids taught stays n (reached-through taught m events r happens)).stamps id a txn found some in
      let client = find_tells (is_client id.client) n.column.clients by.client by.found in
      let number : by.client.number ≡ id.client = eqb-true by.client.number id.client client.1 in
      subst (λ (ns : List ℕ). Among id.client ns) (numbers_through (numbers m.column.clients) m events refl)
      (subst (λ (k : ℕ). Among k (numbers n.column.clients)) number (Among-map (λ (c : ClientState). c.number) by.client n.column.clients client.0))

  closed-at : (events : List Event) → EachHappens taught m events → (id : TxnId) (a : AttemptState) (txn : Transaction) (stamp : Stamp) → attempt_of (moment_through m events).column id ≡ Some a → a.txn ≡ Some txn
      → is_below_open all stamp ≡ true → is_before (last_of all id.client) stamp ≡ false → is_before stamp txn.stamp ≡ false → IsClosedIn settled m.column id txn
  closed-at events happens id a txn stamp found some below within not_above = by (attempt_of m.column id) refl
    where
      absent : IsUnstamped m id → IsClosedIn settled m.column id txn
      absent un =
          absurd (false≢true (sym (not_before-through (last_of all id.client) stamp txn.stamp within not_above) ∙ above-last events happens id a txn un found some))

      stamped : (b : AttemptState) → attempt_of m.column id ≡ Some b → (o : Option Transaction) → b.txn ≡ o → IsClosedIn settled m.column id txn
      stamped b e None none = absent (λ x t at has. none-some t (sym none ∙ ap (λ (o : Option AttemptState). option_and_then (λ (y : AttemptState). y.txn) o) (sym e ∙ at) ∙ has))
      stamped b e (Some t) has =
          let later = (laws.grow taught stays m r events happens).attempts id b e in
          let same : Some t ≡ Some txn = sym ((later.2).txn t has) ∙ ap (λ (o : Option AttemptState). option_and_then (λ (y : AttemptState). y.txn) o) (sym later.1 ∙ found) ∙ some in
          let is : b.txn ≡ Some txn = has ∙ same in
          record { attempt = b; found = e; stamped = is; closed = closed-now id b txn stamp e is below not_above }

      by : (o : Option AttemptState) → attempt_of m.column id ≡ o → IsClosedIn settled m.column id txn
      by None e = absent (λ x t at has. none-some x (sym e ∙ at))
      by (Some b) e = stamped b e b.txn refl

  pub closed-below : (events : List Event) → EachHappens taught m events → (id : TxnId) (a : AttemptState) (txn : Transaction) → attempt_of (moment_through m events).column id ≡ Some a → a.txn ≡ Some txn
      → is_before (mark_of_column settled m.column) txn.stamp ≡ false → IsClosedIn settled m.column id txn
  closed-below events happens id a txn found some not_above =
      by (map (λ (c : ClientState). c.number) m.column.clients) (client-there events happens id a txn found some) not_above
    where
      may : (ns : List ℕ) → Among id.client ns → is_before (mark_stamp ns all) txn.stamp ≡ false
          → (mark_stamp ns all ≡ zero_stamp) ⊎ ((is_below_open all (mark_stamp ns all) && is_within_lasts ns all (mark_stamp ns all)) ≡ true) → IsClosedIn settled m.column id txn
      may ns there low (inl z) =
          let n = moment_through m events in
          let ids = laws.ids taught stays n (reached-through taught m events r happens) in
          absurd (false≢true (sym low ∙ ap (λ s. is_before s txn.stamp) z ∙ above_zero txn.stamp (ids.stamps id a txn found some).from_one))
      may ns there low (inr e) =
          let stamp = mark_stamp ns all in
          let both = and_parts (is_below_open all stamp) (is_within_lasts ns all stamp) e in
          let within : is_before (last_of all id.client) stamp ≡ false =
          not-true (is_before (last_of all id.client) stamp) (list_all-among (λ (client : ℕ). not (is_before (last_of all client) stamp)) ns id.client both.1 there) in
          closed-at events happens id a txn stamp found some both.0 within low

      by : (ns : List ℕ) → Among id.client ns → is_before (mark_for ns all) txn.stamp ≡ false → IsClosedIn settled m.column id txn
      by [] there low = absurd there
      by (k ∷ ks) there low = may (k ∷ ks) there low (mark-cases (k ∷ ks) all)

pub closed_below_marks : ColumnLaws → ClosedBelowMarks
closed_below_marks laws taught stays m r events happens settled id a txn found some low = closed-below laws taught stays m r settled events happens id a txn found some low
