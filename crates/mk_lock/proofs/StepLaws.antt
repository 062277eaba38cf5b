-- Each step of the lock keeps its rule.
use Rattle.std.proofs.Common.{◌≡◌, ◌≢◌, ℕ, zero, suc, ◌+◌, ◌%◌, ◌^◌, ◌<◌, ◌≤◌, eqb, cond, List, [], ◌∷◌, ◌++◌, length, get_or, set, drop, sym, refl, ap, ◌∙◌, inl, inr, ⊎_elim, subst, arith, length-set, length-append, get_or-set_same, get_or-set_other, eq-eqb, ne_eqb, append-nil}
use Rattle.std.proofs.lemmas.List.Elements.{filter-append}
use Rattle.std.proofs.Math.Seq.{drop-append_seam}
use mathlib.Core.Option.{Option, none, some, some-injective, some-ne-none}
use mathlib.Core.Logic.{dite}
use native.Mathlib.Decide.{ℕ_discrete}
use lib.ListN.{get_elem?}
use Rattle.atomic_table.specs.Table.{State, Me, step, keeps, takes, gives, opening, Allows, Splits, Joins, Final, Seen}
use Rattle.atomic_table.proofs.Lists.{set_else, set_here, set_again, at_longer, one_turn}
use Rattle.mk_words.specs.declared.JournalEntry.{JournalEntry}
use Rattle.mk_lock.specs.declared.view.Held.{Held}
use Rattle.mk_lock.specs.declared.view.Stage.{Stage}
use Rattle.mk_lock.specs.declared.view.Stage.TheVariants.{Idle, Waiting, InTurn}
use Rattle.mk_lock.specs.declared.view.View.{View}
use Rattle.mk_lock.specs.declared.view.Origin.{Origin}
use Rattle.mk_lock.specs.Entries.{JournalState, of_seat, IsBy}
use Rattle.mk_lists.specs.Among.{Each, Each-weaker, Each-append}
use Rattle.mk_lock.specs.Turns.{held, view, fresh, tickets, tickets_of, seats_of, total, IsInTurn, kept, taken, Knows, Owns, Fits, IsPlaced, IsKept, begins, spent, both_seats, Drawn, Awaited, AwaitedAt, Ended}
use Rattle.mk_lock.proofs.EntryLaws.{of_seat_mine, of_seat_other}
use Rattle.mk_lock.proofs.TotalLaws.{total-set, total-snoc, total-two, total-le, each-set, at-snoc}

abbrev St : Type 0
St = State JournalState View

abbrev M : Type 0
M = Me JournalState View

abbrev Homes : Type 0
Homes = List (Option JournalState)

at-below : {A : Type 0} (l : List A) (i : ℕ) (a : A) → get_elem? l i ≡ some a → i < length l
at-below [] i a e = absurd (some-ne-none a (sym e))
at-below (x ∷ xs) zero a e = omega arith
at-below (x ∷ xs) (suc i) a e = let r = at-below xs i a e in omega arith

set-home : (l : Homes) (a b : Option JournalState) → get_elem? l 0 ≡ some a → get_elem? (set l 0 b) 0 ≡ some b
set-home l a b e = set_here l 0 b (at-below l 0 a e)

-- a seat that was not in its turn changes its view
placed-set : (homes : Homes) (views : List View) (x : JournalState) (id : ℕ) (v w : View) → get_elem? views id ≡ some v → (IsInTurn v.stage → ⊥) → IsPlaced homes views x → IsPlaced homes (set views id w) x
placed-set homes views x id v w at out (inl home) = inl home
placed-set homes views x id v w at out (inr (j, u, e, t)) =
    let other : j ≢ id = λ same. out (subst (λ (z : View). IsInTurn z.stage) (some-injective u v (sym e ∙ (ap (get_elem? views) same ∙ at))) t) in
    inr (j, u, set_else views id j w other ∙ e, t)

-- one more seat, which has no ticket
placed-snoc : (homes : Homes) (views : List View) (x : JournalState) (w : View) → IsPlaced homes views x → IsPlaced homes (views ++ w ∷ []) x
placed-snoc homes views x w (inl home) = inl home
placed-snoc homes views x w (inr (j, u, e, t)) = inr (j, u, at_longer views (w ∷ []) j u e, t)

pub length-fresh : (from more : ℕ) → length (fresh from more) ≡ more
length-fresh from zero = refl
length-fresh from (suc more) = ap suc (length-fresh (suc from) more)

in_turn_one : (s : Stage) → IsInTurn s → tickets s ≡ 1
in_turn_one Idle t = absurd t
in_turn_one (Waiting n) t = absurd t
in_turn_one (InTurn n x) t = refl

each-one : (P : ℕ → View → Type 0) (w : View) → P 0 w → (j : ℕ) (v : View) → get_elem? (w ∷ []) j ≡ some v → P j v
each-one P w here zero v e = subst (P 0) (some-injective w v e) here
each-one P w here (suc j) v e = absurd (some-ne-none v (sym e))

-- the tickets out are no more than the seats
few_out : (key : Origin) (s : St) (r : IsKept key s) → r.next < r.served + 18446744073709551616
few_out key s r = let few : total tickets_of s.views ≤ total seats_of s.views = total-le tickets_of seats_of s.views (λ i v e. (r.each i v e).enough) in
    let out = r.out in let all = r.all_held in let n = r.few in omega arith

module _ (key : Origin) where
  -- one more ticket is out, and it is the seat's
  draw_stage : (next served : ℕ) (journal : List JournalEntry) (holder : ℕ → ℕ) (homes : Homes) (id j : ℕ) (s : Stage)
      → Knows key next served journal holder homes j s → Knows key (next + 1) served journal (λ t. cond (eqb t next) id (holder t)) homes j s
  draw_stage next served journal holder homes id j Idle k = tt
  draw_stage next served journal holder homes id j (Waiting t) k =
      let below : t < next = k.1 in (k.0, omega arith, ap (λ b. cond b id (holder t)) (ne_eqb t next (λ e. omega arith)) ∙ k.2)
  draw_stage next served journal holder homes id j (InTurn t x) k =
      let below : t < next = k.1 in (k.0, omega arith, ap (λ b. cond b id (holder t)) (ne_eqb t next (λ e. omega arith)) ∙ k.2, k.3, k.4)

  pub draws : (slots id : ℕ) (me : M) → me.0.stage ≡ Idle → 0 < length me.0.held → Allows (IsKept key) slots id me 0 (λ n. (n + 1) % 2 ^ 64) (Drawn (step slots 0 1 0 none) me)
  draws slots id me idle some_held s r _ at _ =
      let w : View = view me.0.held (Waiting r.next) in
      let mine : Fits key r.next r.served r.journal r.owner r.holder s.homes id me.0 = r.each id me.0 at in
      let none_out : tickets_of me.0 ≡ 0 = ap tickets idle in
      let out = total-set tickets_of s.views id me.0 w at in
      let all = total-set seats_of s.views id me.0 w at in
      let was = r.out in
      let were = r.all_held in
      let three = r.wide in
      let word : get_or s.words 0 0 ≡ r.next % 18446744073709551616 = r.next_word in
      let new : ℕ = (get_or s.words 0 0 + 1) % 18446744073709551616 in (
        w,
        keeps,
        tt,
        record {
          next = r.next + 1;
          served = r.served;
          journal = r.journal;
          owner = r.owner;
          holder = λ t. cond (eqb t r.next) id (r.holder t);
          wide = length-set s.words 0 new ∙ three;
          next_word = get_or-set_same s.words 0 new 0 (omega arith) ∙ omega arith;
          served_word = get_or-set_other s.words 0 1 new 0 (λ e. omega arith) ∙ r.served_word;
          few = r.few;
          out = omega arith;
          all_held = omega arith;
          each = each-set (λ j v. Fits key (r.next + 1) r.served r.journal r.owner (λ t. cond (eqb t r.next) id (r.holder t)) s.homes j v) s.views id w
              (record {
                knows = (omega arith, omega arith, ap (λ b. cond b id (r.holder r.next)) (eq-eqb r.next r.next refl));
                enough = omega arith;
                owns = mine.owns;
              })
              (λ j v other e. let f = r.each j v e in record {
                knows = draw_stage r.next r.served r.journal r.holder s.homes id j v.stage f.knows;
                enough = f.enough;
                owns = f.owns;
              });
          no_stranger = r.no_stranger;
          placed = placed-set s.homes s.views (kept key r.journal) id me.0 w at (λ t. subst IsInTurn idle t) r.placed;
        },
        (r.next, word, refl),
      )

  -- the journal is taken out, while no other seat has it
  take_stage : (next served : ℕ) (journal : List JournalEntry) (holder : ℕ → ℕ) (homes gone : Homes) (x : JournalState) (j : ℕ) → get_elem? homes 0 ≡ some (some x) → (s : Stage)
      → Knows key next served journal holder homes j s → Knows key next served journal holder gone j s
  take_stage next served journal holder homes gone x j home Idle k = tt
  take_stage next served journal holder homes gone x j home (Waiting t) k = k
  take_stage next served journal holder homes gone x j home (InTurn t b) k = absurd (some-ne-none x (some-injective (some x) none (sym home ∙ k.4)))

  -- a seat in its turn has the ticket that is served
  turn_of : (next served : ℕ) (journal : List JournalEntry) (holder : ℕ → ℕ) (homes : Homes) (j : ℕ) (s : Stage) → IsInTurn s → Knows key next served journal holder homes j s → holder served ≡ j
  turn_of next served journal holder homes j Idle t k = absurd t
  turn_of next served journal holder homes j (Waiting n) t k = absurd t
  turn_of next served journal holder homes j (InTurn n b) t k = ap holder (sym k.0) ∙ k.2

  -- where the ticket is served, the journal is at home
  at_home : (s : St) (r : IsKept key s) (id : ℕ) (v : View) (ticket : ℕ) → get_elem? s.views id ≡ some v → v.stage ≡ Waiting ticket → r.holder r.served ≡ id → IsPlaced s.homes s.views (kept key r.journal)
      → get_elem? s.homes 0 ≡ some (some (kept key r.journal))
  at_home s r id v ticket at is mine (inl home) = home
  at_home s r id v ticket at is mine (inr (j, u, e, t)) =
      let same : j ≡ id = sym (turn_of r.next r.served r.journal r.holder s.homes j u.stage t (r.each j u e).knows) ∙ mine in
      let view_same : u ≡ v = some-injective u v (sym e ∙ (ap (get_elem? s.views) same ∙ at)) in
      absurd (subst IsInTurn (ap (λ (z : View). z.stage) view_same ∙ is) t)

  pub awaits : (slots id : ℕ) (me : M) (ticket : ℕ) → me.0.stage ≡ Waiting ticket → Allows (IsKept key) slots id me 1 (λ n. n) (Awaited (step slots 1 0 0 none) me)
  awaits slots id me ticket is s r _ at _ =
      let found : ℕ = get_or s.words 1 0 in
      let mine : Fits key r.next r.served r.journal r.owner r.holder s.homes id me.0 = r.each id me.0 at in
      let know : (r.served ≤ ticket) × (ticket < r.next) × (r.holder ticket ≡ id) = subst (Knows key r.next r.served r.journal r.holder s.homes id) is mine.knows in
      let one_out : tickets_of me.0 ≡ 1 = ap tickets is in
      let three = r.wide in
      let few = few_out key s r in
      let was = r.out in
      let were = r.all_held in
      let word : found ≡ r.served % 18446744073709551616 = r.served_word in
      dite (ℕ_discrete found (ticket % 18446744073709551616))
      (λ hit. let a = know.0 in let b = know.1 in
      let same : r.served ≡ ticket = one_turn r.served ticket 18446744073709551616 know.0 (omega arith) (sym word ∙ hit) in
      let x : JournalState = kept key r.journal in
      let home : get_elem? s.homes 0 ≡ some (some x) = at_home s r id me.0 ticket at is (ap r.holder same ∙ know.2) r.placed in
      let w : View = view me.0.held (InTurn ticket (taken x)) in
      let out = total-set tickets_of s.views id me.0 w at in
      let all = total-set seats_of s.views id me.0 w at in (
        w,
        takes 0 x,
        home,
        record {
          next = r.next;
          served = r.served;
          journal = r.journal;
          owner = r.owner;
          holder = r.holder;
          wide = length-set s.words 1 found ∙ three;
          next_word = get_or-set_other s.words 1 0 found 0 (λ e. omega arith) ∙ r.next_word;
          served_word = get_or-set_same s.words 1 found 0 (omega arith) ∙ word;
          few = r.few;
          out = omega arith;
          all_held = omega arith;
          each = each-set (λ j v. Fits key r.next r.served r.journal r.owner r.holder (set s.homes 0 none) j v) s.views id w
              (record {
                knows = (sym same, know.1, know.2, refl, set-home s.homes (some x) none home);
                enough = let e = mine.enough in omega arith;
                owns = mine.owns;
              })
              (λ j v other e. let f = r.each j v e in record {
                knows = take_stage r.next r.served r.journal r.holder s.homes (set s.homes 0 none) x j home v.stage f.knows;
                enough = f.enough;
                owns = f.owns;
              });
          no_stranger = r.no_stranger;
          placed = inr (id, w, set_here s.views id w (at-below s.views id me.0 at), tt);
        },
        subst (λ (z : Stage). AwaitedAt z me found (w, (0, x) ∷ me.1)) (sym is) ((λ _. (x, refl)), λ not. absurd (not hit)),
      ))
      (λ miss. let out = total-set tickets_of s.views id me.0 me.0 at in
      let all = total-set seats_of s.views id me.0 me.0 at in (
        me.0,
        keeps,
        tt,
        record {
          next = r.next;
          served = r.served;
          journal = r.journal;
          owner = r.owner;
          holder = r.holder;
          wide = length-set s.words 1 found ∙ three;
          next_word = get_or-set_other s.words 1 0 found 0 (λ e. omega arith) ∙ r.next_word;
          served_word = get_or-set_same s.words 1 found 0 (omega arith) ∙ word;
          few = r.few;
          out = omega arith;
          all_held = omega arith;
          each = each-set (λ j v. Fits key r.next r.served r.journal r.owner r.holder s.homes j v) s.views id me.0 mine (λ j v other e. r.each j v e);
          no_stranger = r.no_stranger;
          placed = subst (λ (z : List View). IsPlaced s.homes z (kept key r.journal)) (sym (set_again s.views id me.0 at)) r.placed;
        },
        subst (λ (z : Stage). AwaitedAt z me found (me.0, me.1)) (sym is) ((λ hit. absurd (miss hit)), λ _. refl),
      ))

  -- the turn of another seat has ended
  end_stage : (next served : ℕ) (journal longer_journal : List JournalEntry) (holder : ℕ → ℕ) (homes back : Homes) (id j : ℕ) → holder served ≡ id → j ≢ id → (s : Stage)
      → Knows key next served journal holder homes j s → Knows key next (served + 1) longer_journal holder back j s
  end_stage next served journal more holder homes back id j mine other Idle k = tt
  end_stage next served journal more holder homes back id j mine other (Waiting t) k =
      let later : t ≢ served = λ same. other (sym k.2 ∙ (ap holder same ∙ mine)) in let not_before : served ≤ t = k.0 in (omega arith, k.1, k.2)
  end_stage next served journal more holder homes back id j mine other (InTurn t b) k = absurd (other (sym k.2 ∙ (ap holder k.0 ∙ mine)))

  pub ends : (slots id : ℕ) (h : Held) (ticket : ℕ) (before : Rattle.std.specs.declared.snapshot.Snapshot.Snapshot JournalState) (y : JournalState) (more : List JournalEntry)
      → y.opening ≡ before.value.opening → y.entries ≡ before.value.entries ++ more → IsBy h.number more
      → Allows (IsKept key) slots id (view (h ∷ []) (InTurn ticket before), (0, y) ∷ []) 1 (λ n. (n + 1) % 2 ^ 64) (Ended (step slots 1 1 0 none) (view (h ∷ []) (InTurn ticket before), (0, y) ∷ []))
  ends slots id h ticket before y more same_opening longer_by by s r _ at _ =
      let v : View = view (h ∷ []) (InTurn ticket before) in
      let w : View = view (held h.number (h.entries ++ more) ∷ []) Idle in
      let mine : Fits key r.next r.served r.journal r.owner r.holder s.homes id v = r.each id v at in
      let know = mine.knows in
      let own = mine.owns.0 in
      let served_is : r.holder r.served ≡ id = ap r.holder (sym know.0) ∙ know.2 in
      let out = total-set tickets_of s.views id v w at in
      let all = total-set seats_of s.views id v w at in
      let was = r.out in
      let were = r.all_held in
      let three = r.wide in
      let word : get_or s.words 1 0 ≡ r.served % 18446744073709551616 = r.served_word in
      let new : ℕ = (get_or s.words 1 0 + 1) % 18446744073709551616 in
      let journal : List JournalEntry = r.journal ++ more in
      let entries_are : y.entries ≡ journal = longer_by ∙ ap (λ (k : JournalState). k.entries ++ more) know.3 in
      let opening_is : y.opening ≡ key.opening.value.state = same_opening ∙ ap (λ (k : JournalState). k.opening) know.3 in
      let y_is : y ≡ kept key journal = λ i. record { opening = opening_is i; entries = entries_are i } in
      let more_is : drop (length before.value.entries) y.entries ≡ more = ap (drop (length before.value.entries)) longer_by ∙ drop-append_seam before.value.entries more in (
        w,
        gives,
        tt,
        record {
          next = r.next;
          served = r.served + 1;
          journal = journal;
          owner = r.owner;
          holder = r.holder;
          wide = length-set s.words 1 new ∙ three;
          next_word = get_or-set_other s.words 1 0 new 0 (λ e. omega arith) ∙ r.next_word;
          served_word = get_or-set_same s.words 1 new 0 (omega arith) ∙ omega arith;
          few = r.few;
          out = omega arith;
          all_held = omega arith;
          each = each-set (λ j u. Fits key r.next (r.served + 1) journal r.owner r.holder (set s.homes 0 (some y)) j u) s.views id w
              (record {
                knows = tt;
                enough = omega arith;
                owns = ((own.0, own.1, filter-append _ r.journal more ∙ (λ i. own.2 i ++ of_seat_mine h.number more by i)), tt);
              })
              (λ j u other e. let f = r.each j u e in record {
                knows = end_stage r.next r.served r.journal journal r.holder s.homes (set s.homes 0 (some y)) id j served_is other u.stage f.knows;
                enough = f.enough;
                owns = Each-weaker (Owns key r.journal r.owner j) (Owns key journal r.owner j)
                    (λ k o. (
                      o.0,
                      o.1,
                      filter-append _ r.journal more ∙ ((λ i. o.2 i ++ of_seat_other h.number k.number more by (λ same. other (sym o.1 ∙ (ap r.owner (sym same) ∙ own.1))) i) ∙ append-nil k.entries),
                    )) u.held f.owns;
              });
          no_stranger = λ number far. filter-append _ r.journal more
              ∙ (λ i. r.no_stranger number far i ++ of_seat_other h.number number more by (λ same. let inside : h.number < key.seats = own.0 in omega arith) i);
          placed = inl (set-home s.homes none (some y) know.4 ∙ ap (λ (k : JournalState). some (some k)) y_is);
        },
        ap (λ (l : List JournalEntry). (view (held h.number (h.entries ++ l) ∷ []) Idle, [])) (sym more_is),
      )

  -- the word that counts sleepers is of no matter to the rule
  pub counts : (slots id : ℕ) (me : M) (f : ℕ → ℕ) → Allows (IsKept key) slots id me 2 f (λ found n. n ≡ me)
  counts slots id me f s r _ at _ =
      let new : ℕ = f (get_or s.words 2 0) in (
        me.0,
        keeps,
        tt,
        subst (λ (z : List View). IsKept key record { words = set s.words 2 new; homes = s.homes; views = z }) (sym (set_again s.views id me.0 at)) record {
          next = r.next;
          served = r.served;
          journal = r.journal;
          owner = r.owner;
          holder = r.holder;
          wide = length-set s.words 2 new ∙ r.wide;
          next_word = get_or-set_other s.words 2 0 new 0 (λ e. omega arith) ∙ r.next_word;
          served_word = get_or-set_other s.words 2 1 new 0 (λ e. omega arith) ∙ r.served_word;
          few = r.few;
          out = r.out;
          all_held = r.all_held;
          each = r.each;
          no_stranger = r.no_stranger;
          placed = r.placed;
        },
        refl,
      )

  deal_owns : (journal : List JournalEntry) (owner : ℕ → ℕ) (number new id from more : ℕ) → number < from → Each (Owns key journal owner id) (fresh from more)
      → Each (Owns key journal (λ k. cond (eqb k number) new (owner k)) id) (fresh from more)
  deal_owns journal owner number new id from zero below o = tt
  deal_owns journal owner number new id from (suc more) below o = (
    (o.0.0, ap (λ b. cond b new (owner from)) (ne_eqb from number (λ e. omega arith)) ∙ o.0.1, o.0.2),
    deal_owns journal owner number new id (suc from) more (omega arith) o.1,
  )

  -- a new seat gets the first of the numbers
  pub deals : (id number more : ℕ) → Splits (IsKept key) id (view (fresh number (suc more)) Idle) (view (fresh (suc number) more) Idle) (view (held number [] ∷ []) Idle)
  deals id number more s r at =
      let v : View = view (fresh number (suc more)) Idle in
      let left : View = view (fresh (suc number) more) Idle in
      let right : View = view (held number [] ∷ []) Idle in
      let views : List View = set s.views id left in
      let new : ℕ = length views in
      let owner : ℕ → ℕ = λ k. cond (eqb k number) new (r.owner k) in
      let mine : Fits key r.next r.served r.journal r.owner r.holder s.homes id v = r.each id v at in
      let own = mine.owns.0 in
      let out = total-set tickets_of s.views id v left at in
      let all = total-set seats_of s.views id v left at in
      let out' = total-snoc tickets_of views right in
      let all' = total-snoc seats_of views right in
      let was = r.out in
      let were = r.all_held in
      let each' : (j : ℕ) (u : View) → get_elem? views j ≡ some u → Fits key r.next r.served r.journal owner r.holder s.homes j u =
      each-set (λ j u. Fits key r.next r.served r.journal owner r.holder s.homes j u) s.views id left
      (record {
        knows = tt;
        enough = omega arith;
        owns = deal_owns r.journal r.owner number new id (suc number) more (omega arith) mine.owns.1;
      })
      (λ j u other e. let f = r.each j u e in record {
        knows = f.knows;
        enough = f.enough;
        owns = Each-weaker (Owns key r.journal r.owner j) (Owns key r.journal owner j)
            (λ k o. (o.0, ap (λ b. cond b new (r.owner k.number)) (ne_eqb k.number number (λ same. other (sym o.1 ∙ (ap r.owner same ∙ own.1)))) ∙ o.1, o.2)) u.held f.owns;
      }) in
      record {
        next = r.next;
        served = r.served;
        journal = r.journal;
        owner = owner;
        holder = r.holder;
        wide = r.wide;
        next_word = r.next_word;
        served_word = r.served_word;
        few = r.few;
        out = omega arith;
        all_held = omega arith;
        each = λ j u e. ⊎_elim (λ t. each' j u t.1)
            (λ t. subst (λ (z : ℕ × View). Fits key r.next r.served r.journal owner r.holder s.homes z.0 z.1) (λ i. (sym t.0 i, t.1 i))
            record {
              knows = tt;
              enough = omega arith;
              owns = ((own.0, ap (λ b. cond b new (r.owner number)) (eq-eqb number number refl), own.2), tt);
            })
            (at-snoc views right j u e);
        no_stranger = r.no_stranger;
        placed = placed-snoc s.homes views (kept key r.journal) right (placed-set s.homes s.views (kept key r.journal) id v left at (λ t. t) r.placed);
      }

  -- a seat takes in the numbers of another
  pub gathers : (id other : ℕ) (v w : View) → v.stage ≡ Idle → w.stage ≡ Idle → Joins (IsKept key) id v other w (both_seats v w) spent
  gathers id other v w v_idle w_idle s r at apart at_other =
      let both : View = both_seats v w in
      let views : List View = set s.views id both in
      let owner : ℕ → ℕ = λ k. cond (eqb (r.owner k) other) id (r.owner k) in
      let there : get_elem? s.views other ≡ some w = sym (set_else s.views id other both apart) ∙ at_other in
      let mine : Fits key r.next r.served r.journal r.owner r.holder s.homes id v = r.each id v at in
      let theirs : Fits key r.next r.served r.journal r.owner r.holder s.homes other w = r.each other w there in
      let v_out : tickets_of v ≡ 0 = ap tickets v_idle in
      let w_out : tickets_of w ≡ 0 = ap tickets w_idle in
      let out = total-set tickets_of s.views id v both at in
      let all = total-set seats_of s.views id v both at in
      let out' = total-set tickets_of views other w spent at_other in
      let all' = total-set seats_of views other w spent at_other in
      let sum : length (v.held ++ w.held) ≡ length v.held + length w.held = length-append v.held w.held in
      let was = r.out in
      let were = r.all_held in
      let stays : (j : ℕ) → j ≢ other → (h : Held) → Owns key r.journal r.owner j h → Owns key r.journal owner j h =
      λ j not_other h o. (o.0, ap (λ b. cond b id (r.owner h.number)) (ne_eqb (r.owner h.number) other (λ same. not_other (sym o.1 ∙ same))) ∙ o.1, o.2) in
      let moves : (h : Held) → Owns key r.journal r.owner other h → Owns key r.journal owner id h =
      λ h o. (o.0, ap (λ b. cond b id (r.owner h.number)) (eq-eqb (r.owner h.number) other o.1), o.2) in
      let each' : (j : ℕ) (u : View) → j ≢ other → get_elem? views j ≡ some u → Fits key r.next r.served r.journal owner r.holder s.homes j u =
      λ j u not_other e. each-set (λ k z. k ≢ other → Fits key r.next r.served r.journal owner r.holder s.homes k z) s.views id both
      (λ _. record {
        knows = mine.knows;
        enough = omega arith;
        owns = Each-append (Owns key r.journal owner id) v.held w.held
            (Each-weaker (Owns key r.journal r.owner id) (Owns key r.journal owner id) (stays id (λ same. apart (sym same))) v.held mine.owns)
            (Each-weaker (Owns key r.journal r.owner other) (Owns key r.journal owner id) moves w.held theirs.owns);
      })
      (λ k z not_id e' not_that. let f = r.each k z e' in record {
        knows = f.knows;
        enough = f.enough;
        owns = Each-weaker (Owns key r.journal r.owner k) (Owns key r.journal owner k) (stays k not_that) z.held f.owns;
      }) j u e not_other in
      record {
        next = r.next;
        served = r.served;
        journal = r.journal;
        owner = owner;
        holder = r.holder;
        wide = r.wide;
        next_word = r.next_word;
        served_word = r.served_word;
        few = r.few;
        out = omega arith;
        all_held = omega arith;
        each = each-set (λ j u. Fits key r.next r.served r.journal owner r.holder s.homes j u) views other spent
            (record { knows = tt; enough = omega arith; owns = tt }) (λ j u not_other e. each' j u not_other e);
        no_stranger = r.no_stranger;
        placed = placed-set s.homes views (kept key r.journal) other w spent at_other (λ t. subst IsInTurn w_idle t)
            (placed-set s.homes s.views (kept key r.journal) id v both at (λ t. subst IsInTurn v_idle t) r.placed);
      }

  open_owns : (from more : ℕ) → from + more ≤ key.seats → Each (Owns key [] (λ _. 0) 0) (fresh from more)
  open_owns from zero inside = tt
  open_owns from (suc more) inside = ((omega arith, refl, refl), open_owns (suc from) more (omega arith))

  -- the table at the start
  pub opens : (x : JournalState) → x ≡ kept key [] → key.seats < 4294967296 → IsKept key (opening (0 ∷ 0 ∷ 0 ∷ []) (x ∷ []) (begins key))
  opens x is few = let long = length-fresh 0 key.seats in record {
    next = 0;
    served = 0;
    journal = [];
    owner = λ _. 0;
    holder = λ _. 0;
    wide = refl;
    next_word = refl;
    served_word = refl;
    few = few;
    out = refl;
    all_held = omega arith;
    each = λ j v e. each-one (λ k z. Fits key 0 0 [] (λ _. 0) (λ _. 0) (some x ∷ []) k z) (begins key)
        (record { knows = tt; enough = omega arith; owns = open_owns 0 key.seats (omega arith) }) j v e;
    no_stranger = λ number far. refl;
    placed = inl (ap (λ (k : JournalState). some (some k)) is);
  }

  idle_at : (s : St) (r : IsKept key s) (id : ℕ) (v : View) → get_elem? s.views id ≡ some v → v.stage ≡ Idle → length v.held ≡ key.seats → IsPlaced s.homes s.views (kept key r.journal)
      → get_elem? s.homes 0 ≡ some (some (kept key r.journal))
  idle_at s r id v at idle whole (inl home) = home
  idle_at s r id v at idle whole (inr (j, u, e, t)) =
      let f = r.each j u e in
      let same : Dec (j ≡ id) = ℕ_discrete j id in
      absurd (elim same [
        | yes is ↦ subst IsInTurn (ap (λ (z : View). z.stage) (some-injective u v (sym e ∙ (ap (get_elem? s.views) is ∙ at))) ∙ idle) t
        | no apart ↦ let two = total-two seats_of s.views id j v u apart at e in let all = r.all_held in let enough = f.enough in let one = in_turn_one u.stage t in omega arith
      ])

  -- what the last state says, where one seat has all numbers
  pub closes : (id : ℕ) (v : View) (words : List ℕ) (xs : List JournalState) (x : JournalState) → Final (Seen (IsKept key) id v) words xs → v.stage ≡ Idle → length v.held ≡ key.seats → get_elem? xs 0 ≡ some x
      → (x.opening ≡ key.opening.value.state) × Each (λ h. of_seat h.number x.entries ≡ h.entries) v.held × ((number : ℕ) → key.seats ≤ number → of_seat number x.entries ≡ [])
  closes id v words xs x (s, seen, _, _, there) idle whole is =
      let r = seen.0 in
      let home = idle_at s r id v seen.1 idle whole r.placed in
      let x_is : kept key r.journal ≡ x = some-injective (kept key r.journal) x (sym (there 0 (kept key r.journal) home) ∙ is) in (
        ap (λ (k : JournalState). k.opening) (sym x_is),
        Each-weaker (Owns key r.journal r.owner id) (λ h. of_seat h.number x.entries ≡ h.entries)
            (λ h o. ap (λ (k : JournalState). of_seat h.number k.entries) (sym x_is) ∙ o.2) v.held (r.each id v seen.1).owns,
        λ number far. ap (λ (k : JournalState). of_seat number k.entries) (sym x_is) ∙ r.no_stranger number far,
      )
