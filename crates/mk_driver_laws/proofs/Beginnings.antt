-- Where no attempt reads, a client that is at rest can begin, as long as it has a place left.
use Rattle.std.proofs.Common.{◌≡◌, ◌∙◌, ◌<◌, ◌≤◌, ℕ, zero, suc, ◌+◌, ◌-◌, ◌*◌, ◌/◌, ◌%◌, cond, Bool, true, false, refl, sym, subst, ap, arith, List, [], ◌∷◌, map, length, Some, None, not, ◌&&◌}
use Rattle.std.specs.Prelude.{nat_le, is_some, find, slice_get, ◌==◌}
use Rattle.std.specs.List.{list_any}
use Rattle.std.proofs.lemmas.Bool.Decides.{nat_tests}
use Rattle.std.proofs.lemmas.Nat.{mod_below, div-add-mod', mod-mul-add}
use Rattle.std.proofs.lemmas.Bool.{and_from, not_from_false}
use Rattle.mk_lists.specs.Among.{Each-weaker}
use Rattle.mk_lists.proofs.Lookups.{find-passes}
use Rattle.mk_quorum.specs.Sizes.{members}
use Rattle.mk_quorum.specs.Slots.{passes}
use Rattle.mk_trim.specs.declared.ReplicaView.{ReplicaView}
use Rattle.mk_words.specs.declared.Step.TheVariants.{Begin, Unread}
use Rattle.mk_model.specs.ColumnState.{Setting, ColumnState, AttemptState, ClientState, client_of, numbers_from}
use Rattle.mk_model.specs.Conditions.{blocked, conditions, is_idle, heard_by, may_begin, serves_from, has_seq_left}
use Rattle.mk_driver.specs.Stages.{reader_for, from_home}
use Rattle.mk_lists.proofs.Tests.{list_any-none}
use Rattle.mk_driver_laws.proofs.Conditions.{none_fails}
use Rattle.mk_driver_laws.proofs.Reading.{NoneReads}

heard_is : (c : ColumnState) (n : ℕ) (cl : ClientState) → client_of c n ≡ Some cl → heard_by c n ≡ cl.heard
heard_is c n cl e = grind (arith, e)

begin_allowed : (c : ColumnState) (n : ℕ) (cl : ClientState) → client_of c n ≡ Some cl → NoneReads c → may_begin c n ≡ true
begin_allowed c n cl e none =
    and_from (is_some (client_of c n)) _ (ap is_some e)
    (not_from_false _ (list_any-none (λ a. a.reading && a.id.client == n) c.attempts
    (Each-weaker (λ (a : AttemptState). a.reading ≡ true → ⊥) (λ (a : AttemptState). (a.reading && a.id.client == n) ≡ false) (λ a h. by a.reading (a.id.client == n) h) c.attempts none)))
  where
    by : (r b : Bool) → (r ≡ true → ⊥) → (r && b) ≡ false
    by true b h = absurd (h refl)
    by false b h = refl

pub begin_sure : (round : Setting) (c : ColumnState) (n home replica : ℕ) (cl : ClientState) → is_idle c.work ≡ true → client_of c n ≡ Some cl → NoneReads c →
    reader_for round home cl.heard ≡ Some replica → has_seq_left c n ≡ true → blocked round c (Begin n replica) ≡ None
begin_sure round c n home replica cl idle e none q place =
    none_fails 1 (conditions round c (Begin n replica)) (
      idle,
      (
        begin_allowed c n cl e none,
        (
          subst (λ (h : ℕ). passes (serves_from h) (slice_get round.views replica) ≡ true) (sym (heard_is c n cl e))
              (find-passes (λ r. passes (serves_from cl.heard) (slice_get round.views r)) (from_home round.faults home) replica q),
          (place, tt),
        ),
      ),
    )

-- ---- no replica serves

-- a test that finds none of these numbers fails on each
none_of : (p : ℕ → Bool) (g : ℕ → ℕ) (r n : ℕ) → find p (map g (numbers_from r n)) ≡ None → (j : ℕ) → r ≤ j → j < r + n → p (g j) ≡ false
none_of p g r zero e j low high = absurd (omega (arith, low, high))
none_of p g r (suc n) e j low high = by (none_of p g (r + 1) n) (p (g r)) refl e
  where
    later : ((j : ℕ) → r + 1 ≤ j → j < r + 1 + n → p (g j) ≡ false) → p (g r) ≡ false → (b : Bool) → (j == r) ≡ b → p (g j) ≡ false
    later again here true q = let same : r ≡ j = grind (arith, nat_tests, q) in subst (λ (k : ℕ). p (g k) ≡ false) same here
    later again here false q = again j (let apart : r < j = grind (arith, nat_tests, q, low) in omega (arith, apart)) (omega (arith, high))

    by : (find p (map g (numbers_from (r + 1) n)) ≡ None → (j : ℕ) → r + 1 ≤ j → j < r + 1 + n → p (g j) ≡ false) → (b : Bool) → p (g r) ≡ b →
        cond b (Some (g r)) (find p (map g (numbers_from (r + 1) n))) ≡ None → p (g j) ≡ false
    by again true here z = absurd (cc z)
    by again false here z = later (again z) here (j == r) refl

-- from anywhere on, each of w numbers is met once around
met : (home w i : ℕ) → i < w → (j : ℕ) × (j < w) × ((home + j) % w ≡ i)
met home w i h = by (nat_le (home % w) i) refl
  where
    below : home % w < w
    below = mod_below home w (omega (arith, h))

    parts : home / w * w + home % w ≡ home
    parts = div-add-mod' home w

    by : (b : Bool) → nat_le (home % w) i ≡ b → (j : ℕ) × (j < w) × ((home + j) % w ≡ i)
    by true q =
        let low : home % w ≤ i = grind (arith, nat_tests, q) in
        let p = parts in
        let sum : home / w * w + i ≡ home + (i - home % w) = omega (arith, p, low) in
        (i - home % w, omega (arith, h), ap (λ (n : ℕ). n % w) (sym sum) ∙ mod-mul-add (home / w) w i h)
    by false q =
        let low : i < home % w = grind (arith, nat_tests, q) in
        let p = parts in
        let b = below in
        let more : suc (home / w) * w ≡ w + home / w * w = grind arith in
        let sum : suc (home / w) * w + i ≡ home + (w + i - home % w) = omega (arith, p, low, b, more) in
        (w + i - home % w, omega (arith, low, b), ap (λ (n : ℕ). n % w) (sym sum) ∙ mod-mul-add (suc (home / w)) w i h)

none_by_place : (s : ReplicaView → Bool) (views : List ReplicaView) → ((i : ℕ) → i < length views → passes s (slice_get views i) ≡ false) → list_any s views ≡ false
none_by_place s [] h = refl
none_by_place s (view ∷ views) h =
    let first = h 0 (omega arith) in
    let rest = none_by_place s views (λ i l. h (suc i) (omega (arith, l))) in
    grind (arith, first, rest)

none_serves : (round : Setting) (home heard : ℕ) → length round.views ≤ members round.faults → reader_for round home heard ≡ None → list_any (serves_from heard) round.views ≡ false
none_serves round home heard few e =
    none_by_place (serves_from heard) round.views
    (λ i l.
    let m = met home (members round.faults) i (omega (arith, l, few)) in
    let w = m.1 in
    subst (λ (r : ℕ). passes (serves_from heard) (slice_get round.views r) ≡ false) m.2
    (none_of (λ r. passes (serves_from heard) (slice_get round.views r)) (λ j. (home + j) % members round.faults) 0 (members round.faults) e m.0 (omega arith) (omega (arith, w))))

pub unread_sure : (round : Setting) (c : ColumnState) (n home : ℕ) (cl : ClientState) → is_idle c.work ≡ true → client_of c n ≡ Some cl → NoneReads c →
    reader_for round home cl.heard ≡ None → length round.views ≤ members round.faults → has_seq_left c n ≡ true → blocked round c (Unread n) ≡ None
unread_sure round c n home cl idle e none q few place =
    none_fails 1 (conditions round c (Unread n)) (
      idle,
      (
        begin_allowed c n cl e none,
        (
          subst (λ (h : ℕ). not (list_any (serves_from h) round.views) ≡ true) (sym (heard_is c n cl e))
              (not_from_false (list_any (serves_from cl.heard) round.views) (none_serves round home cl.heard few q)),
          (place, tt),
        ),
      ),
    )
