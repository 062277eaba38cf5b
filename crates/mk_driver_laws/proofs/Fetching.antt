-- A read or the stamp of an attempt that reads, and what follows.
use Rattle.std.proofs.Common.{◌≡◌, ◌⊎◌, ◌∙◌, ◌<◌, ◌≤◌, ℕ, zero, suc, ◌+◌, ◌^◌, inl, inr, Bool, true, false, refl, sym, subst, ap, arith, List, [], ◌∷◌, ◌++◌, length, Option, Some, None, not, ◌&&◌, if◌then◌else◌}
use Rattle.std.specs.Prelude.{is_some, nat_le, nat_lt, slice_get, ◌==◌}
use Rattle.std.specs.List.{list_any, list_all}
use Rattle.std.proofs.lemmas.Bool.Decides.{nat_tests}
use Rattle.std.proofs.lemmas.List.{length-map}
use Rattle.std.proofs.lemmas.Bool.{and_from, le-leb, not_from_false}
use Rattle.mk_model.proofs.Parts.{attempt_of-id}
use Rattle.mk_txn.specs.declared.TxnId.{TxnId}
use Rattle.mk_txn.specs.declared.ReadItem.{ReadItem}
use Rattle.mk_txn.specs.declared.Stamp.{Stamp as StampType}
use Rattle.mk_txn.specs.declared.WriteItem.{WriteItem}
use Rattle.mk_txn.specs.Stamps.{fresh_time, next_stamp_of}
use Rattle.mk_txn.specs.Transactions.{are_distinct, read_keys, write_keys}
use Rattle.mk_quorum.specs.Slots.{passes}
use Rattle.mk_script.specs.declared.lines.Point.TheVariants.{Read as AfterRead}
use Rattle.mk_client.specs.Computed.{writes_of}
use Rattle.mk_client.specs.Wanted.{next_wanted, wanted_keys}
use Rattle.mk_words.specs.declared.Step.{Step}
use Rattle.mk_words.specs.declared.Step.TheVariants.{Read, Stamp}
use Rattle.mk_model.specs.ColumnState.{Setting, ColumnState, AttemptState, ClientState, attempt_of, client_of}
use Rattle.mk_model.specs.Conditions.{blocked, conditions, first_failing, is_idle, may_read, on_attempt, stamp_exists, writes_fit}
use Rattle.mk_model.specs.Steps.{column_after}
use Rattle.mk_driver.specs.declared.DriverState.{DriverState}
use Rattle.mk_driver.specs.declared.Request.{Request}
use Rattle.mk_driver.specs.declared.Task.{Task}
use Rattle.mk_driver.specs.declared.Task.TheVariants.{Fetch, Reach}
use Rattle.mk_driver.specs.Agenda.{trial_of}
use Rattle.mk_driver.specs.Stages.{fetch_by, fetching}
use Rattle.mk_driver.specs.Turns.{Choice, or_next}
use Rattle.mk_driver_laws.specs.Enabled.{IsSure}
use Rattle.mk_driver_laws.proofs.Lookups.{passes-from_some}
use Rattle.mk_driver_laws.proofs.Conditions.{none_fails}
use Rattle.mk_driver_laws.proofs.ColumnMoves.{ColumnFits, stays_unsent}
use Rattle.mk_driver_laws.proofs.Frames.{read_keeps, link_grows, stays_going, stamped_live}
use Rattle.mk_driver_laws.proofs.Reading.{OneReads, step_reads, stamped_none}
use Rattle.mk_driver_laws.proofs.Requests.{RequestFits}
use Rattle.mk_driver_laws.proofs.Asked.{TrialFits}
use Rattle.mk_driver_laws.proofs.ItemLaws.{IsFirst, IsNext, WritesFit, is_next, some_work, writes_fit_items}
use Rattle.mk_driver_laws.proofs.ReadKeys.{FetchKeys, at_rest, next_first, read_goes}
use Rattle.mk_driver_laws.proofs.DriverFits.{Behind, FetchFits, DriverFits, WholeFits, behind_more}
use Rattle.mk_driver_laws.proofs.Walk.{moves_there, own_after}
use Rattle.mk_driver_laws.proofs.Named.{ChoiceFits}

-- ---- a read

read_sure : (round : Setting) (c : ColumnState) (id : TxnId) (a : AttemptState) (request : Request) (key : ℕ) → is_idle c.work ≡ true → on_attempt c id (λ x. x.reading) ≡ true →
    attempt_of c id ≡ Some a → RequestFits round.keys request → IsFirst (read_keys a.reads ++ key ∷ []) (wanted_keys request.items) → blocked round c (Read id key) ≡ None
read_sure round c id a request key idle reading e fits first =
    none_fails 1 (conditions round c (Read id key)) (idle, (reading, (there, (passes-from_some (may_read key) (attempt_of c id) a e may, tt))))
  where
    next : IsNext round.keys request.items a.reads key
    next = is_next round.keys request.items a.reads key fits.known first

    there : nat_lt key round.keys ≡ true
    there = let known = next.known in grind (arith, nat_tests, known)

    fewer : length a.reads < 16
    fewer =
        let count : length (read_keys a.reads) ≡ length a.reads = length-map a.reads (λ (item : ReadItem). item.key) in
        let below = next.fewer in
        let few = fits.few in
        omega (arith, count, below, few)

    may : may_read key a ≡ true
    may =
        let room : nat_lt (length a.reads) 16 ≡ true = (let f = fewer in grind (arith, nat_tests, f)) in
        and_from (not (list_any (λ item. item.key == key) a.reads)) (nat_lt (length a.reads) 16) (not_from_false (list_any (λ item. item.key == key) a.reads) next.new) room

-- ---- a stamp

-- the stamp is there, or it would be too late
stamp_there : (n last clock : ℕ) (reads : List ReadItem) → (is_some (next_stamp_of n last clock reads) ≡ true) ⊎ ((is_some (next_stamp_of n last clock reads) ≡ false) × (2 ^ 62 < fresh_time last clock reads))
stamp_there n last clock reads = by (2 ^ 62) (fresh_time last clock reads) (record { time = fresh_time last clock reads; client = n })
  where
    by : (most time : ℕ) (stamp : StampType) → (is_some (if nat_lt most time then None else Some stamp) ≡ true) ⊎ ((is_some (if nat_lt most time then None else Some stamp) ≡ false) × (most < time))
    by most time stamp = head (nat_lt most time) refl
      where
        head : (b : Bool) → nat_lt most time ≡ b → (is_some (if b then None else Some stamp) ≡ true) ⊎ ((is_some (if b then None else Some stamp) ≡ false) × (most < time))
        head true e = inr (refl, grind (arith, nat_tests, e))
        head false e = inl refl

-- all conditions hold, or the second part of the fourth alone does not
four_or_all : (a b w p q s : Bool) → a ≡ true → b ≡ true → w ≡ true → p ≡ true → s ≡ true →
    (q ≡ true → first_failing 1 (a ∷ (b ∷ (w ∷ ((p && q) ∷ (s ∷ []))))) ≡ None) × (q ≡ false → first_failing 1 (a ∷ (b ∷ (w ∷ ((p && q) ∷ (s ∷ []))))) ≡ Some 4)
four_or_all true true true true true true e f g h i = ((λ z. refl), λ z. absurd (cc z))
four_or_all true true true true false s e f g h i = ((λ z. absurd (cc z)), λ z. refl)
four_or_all true true true true true false e f g h i = absurd (cc i)
four_or_all true true true false q s e f g h i = absurd (cc h)
four_or_all true true false p q s e f g h i = absurd (cc g)
four_or_all true false w p q s e f g h i = absurd (cc f)
four_or_all false b w p q s e f g h i = absurd (cc e)

-- where no key is left to read, all that are wanted were read
all_read : (keys read : List ℕ) → IsFirst read keys → slice_get keys (length read) ≡ None → length keys ≤ length read
all_read keys read h e = by keys (length read) e
  where
    by : (xs : List ℕ) (n : ℕ) → slice_get xs n ≡ None → length xs ≤ n
    by [] n z = omega arith
    by (x ∷ xs) zero z = absurd (cc z)
    by (x ∷ xs) (suc n) z = let rest = by xs n z in omega (arith, rest)

stamp_sure : (round : Setting) (c : ColumnState) (id : TxnId) (a : AttemptState) (request : Request) (client : ClientState) → is_idle c.work ≡ true → on_attempt c id (λ x. x.reading) ≡ true →
    attempt_of c id ≡ Some a → client_of c id.client ≡ Some client → RequestFits round.keys request → IsFirst (read_keys a.reads) (wanted_keys request.items) →
    next_wanted request.items a.reads ≡ None → IsSure round c (Stamp id request.clock (writes_of request.items a.reads))
stamp_sure round c id a request client idle reading e known fits first end =
    elim (stamp_there client.number client.last_time request.clock a.reads) [
      | inl exists ↦ inl (all.0 (at_client true exists))
      | inr late ↦ inr (all.1 (at_client false late.0), fits.early, record { attempt = a; client = client; there = e; its_client = known; late = late.1 })
    ]
  where
    writes : List WriteItem
    writes = writes_of request.items a.reads

    fit : WritesFit round.keys (length request.items) writes
    fit = writes_fit_items round.keys request.items a.reads fits.known

    are_fit : writes_fit round.keys writes ≡ true
    are_fit =
        let short : length writes ≤ 16 = (let one = fit.few in let few = fits.few in omega (arith, one, few)) in
        three (nat_le (length writes) 16) (are_distinct (write_keys writes)) (list_all (λ item. nat_lt item.key round.keys) writes) (le-leb (length writes) 16 short) fit.distinct fit.known
      where
        three : (x y z : Bool) → x ≡ true → y ≡ true → z ≡ true → (x && y && z) ≡ true
        three true true z h i j = j
        three true false z h i j = absurd (cc i)
        three false y z h i j = absurd (cc h)

    something : 0 < length a.reads + length writes
    something =
        let count : length (read_keys a.reads) ≡ length a.reads = length-map a.reads (λ (item : ReadItem). item.key) in
        let read = all_read (wanted_keys request.items) (read_keys a.reads) first (ap (slice_get (wanted_keys request.items)) count ∙ end) in
        elim (some_work request.items a.reads fits.some) [ inl some ↦ omega (arith, count, read, some) | inr some ↦ omega (arith, some) ]

    at_client : (b : Bool) → is_some (next_stamp_of client.number client.last_time request.clock a.reads) ≡ b → on_attempt c id (λ x. stamp_exists c x request.clock) ≡ b
    at_client b q =
        ap (passes (λ x. stamp_exists c x request.clock)) e ∙ ap (λ (i : TxnId). passes (λ x. is_some (next_stamp_of x.number x.last_time request.clock a.reads)) (client_of c i.client)) (attempt_of-id c id a e)
        ∙ ap (passes (λ x. is_some (next_stamp_of x.number x.last_time request.clock a.reads))) known ∙ q

    all : (on_attempt c id (λ x. stamp_exists c x request.clock) ≡ true → blocked round c (Stamp id request.clock writes) ≡ None)
        × (on_attempt c id (λ x. stamp_exists c x request.clock) ≡ false → blocked round c (Stamp id request.clock writes) ≡ Some 4)
    all =
        four_or_all (is_idle c.work) (on_attempt c id (λ x. x.reading)) (writes_fit round.keys writes) (nat_le request.clock (2 ^ 61)) (on_attempt c id (λ x. stamp_exists c x request.clock))
        (on_attempt c id (λ x. nat_lt 0 (length x.reads + length writes))) idle reading are_fit (le-leb request.clock (2 ^ 61) fits.early)
        (passes-from_some (λ x. nat_lt 0 (length x.reads + length writes)) (attempt_of c id) a e (let some = something in grind (arith, nat_tests, some)))

-- ---- what follows

module _ (round : Setting) (c : ColumnState) (k : ColumnFits round.faults c) (id : TxnId) (tasks : List Task) (behind : Behind (length c.link) tasks) (one : OneReads id c) (idle : is_idle c.work ≡ true) where
  module _ (d : DriverState) (next : DriverState → Choice) (e : d.agenda ≡ tasks) (fits : DriverFits c tasks d) (fetch : FetchFits c d.callers id) (h : FetchKeys c d.callers id) (asks : RequestFits round.keys h.request) where
    first : IsFirst (read_keys h.attempt.reads) (wanted_keys h.request.items)
    first = at_rest c.work id (wanted_keys h.request.items) (read_keys h.attempt.reads) idle h.keys

    fetch_by_fits : (key : Option ℕ) → next_wanted h.request.items h.attempt.reads ≡ key → ChoiceFits round c (or_next (fetch_by id h.attempt.reads h.request key d) next)
    fetch_by_fits (Some key) q = (
      read_sure round c id h.attempt h.request key idle fetch.4 h.found asks (next_first h.request h.attempt.reads key first q),
      λ b. subst (λ (ts : List Task). WholeFits new (record d { agenda = Fetch id ∷ d.agenda }) (Fetch id ∷ ts)) (sym e)
          (let after = own_after round c k step id (λ i. inl refl) (λ i. inl refl) b tasks d behind fetch.2 fits in
          let m = moves_there round c k step b in (
            (stays_going round.faults c new step m id refl fetch.0, stays_unsent round.faults c new step k m id refl fetch.1, fetch.2, read_goes round c d.callers id key h idle q, read_keeps round c id key id fetch.4),
            step_reads (λ other. other ≡ id) round c step refl one,
            behind_more (length c.link) (length new.link) (link_grows round.faults c new step m) tasks behind,
            record { tasks_fit = after.tasks_fit; late = after.late; held = after.held; callers = after.callers; rising = after.rising },
          )),
    )
      where
        step : Step
        step = Read id key

        new : ColumnState
        new = column_after round c step
    fetch_by_fits None q = (
      stamp_sure round c id h.attempt h.request h.client idle fetch.4 h.found h.known asks first q,
      λ b. subst (λ (ts : List Task). WholeFits new (record d { agenda = Reach id AfterRead ∷ d.agenda }) (Reach id AfterRead ∷ ts)) (sym e)
          (let after = own_after round c k step id (λ i. inl refl) (λ i. inl refl) b tasks d behind fetch.2 fits in
          let m = moves_there round c k step b in (
            stamped_none round c id h.request.clock (writes_of h.request.items h.attempt.reads) b one,
            record {
              tasks_fit = (
                (
                  (
                    stamped_live round c id h.request.clock (writes_of h.request.items h.attempt.reads) b fetch.0,
                    stays_unsent round.faults c new step k m id refl fetch.1,
                  ),
                  fetch.2,
                ),
                behind_more (length c.link) (length new.link) (link_grows round.faults c new step m) tasks behind,
              );
              late = after.late;
              held = after.held;
              callers = after.callers;
              rising = after.rising;
            },
          )),
    )
      where
        step : Step
        step = Stamp id h.request.clock (writes_of h.request.items h.attempt.reads)

        new : ColumnState
        new = column_after round c step

  -- the attempt is there, and has something that was asked for
  pub fetch_fits : (d : DriverState) (next : DriverState → Choice) → d.agenda ≡ tasks → TrialFits round.keys (trial_of id d) → DriverFits c tasks d → FetchFits c d.callers id →
      ChoiceFits round c (or_next (fetching id (attempt_of c id) (trial_of id d) d) next)
  fetch_fits d next e asks fits fetch =
      let h = fetch.3 in
      subst (λ (o : Option AttemptState). ChoiceFits round c (or_next (fetching id o (trial_of id d) d) next)) (sym h.found)
      (subst (λ (r : Option Request). ChoiceFits round c (or_next (fetching id (Some h.attempt) r d) next)) (sym h.asked)
      (fetch_by_fits d next e fits fetch h (subst (TrialFits round.keys) h.asked asks) (next_wanted h.request.items h.attempt.reads) refl))
