-- The seats of a column while its log goes on.
use Rattle.std.proofs.Common.{◌≡◌, ◌∙◌, ℕ, ◌+◌, ◌*◌, inl, inr, Bool, true, false, cond, ◌&&◌, ◌==◌, nat_eq, eq-eqb, ne_eqb, List, [], ◌∷◌, ◌++◌, map, length-set, slice_get, Some, refl, sym, ap, subst}
use Rattle.std.specs.Prelude.{slice_set}
use Rattle.std.proofs.lemmas.List.{map-append, append-nil}
use Rattle.std.proofs.lemmas.Option.{same_Some}
use Rattle.std.proofs.lemmas.Bool.{cases_eq}
use Rattle.mk_lists.proofs.Places.{slice_get-set}
use Rattle.mk_words.specs.declared.Act.{Act}
use Rattle.mk_words.specs.declared.Answer.{Answer}
use Rattle.mk_words.specs.declared.KeyCall.{KeyCall}
use Rattle.mk_words.specs.declared.Step.{Step}
use Rattle.mk_words.specs.declared.Step.TheVariants.{Begin, Unread, Read, Stamp, Validate, Take, Key, Rule, Again, Takeover, Pick, Stop}
use Rattle.mk_history.specs.Matching.{Turn, turns_in_log}
use Rattle.mk_lock.specs.Entries.{entry}
use Rattle.mk_lock.specs.Seats.{SeatView, LockView}
use Rattle.mk_column.specs.ColumnByCode.{ColumnView}
use Rattle.mk_workers.specs.Going.{HasDone}
use Rattle.mk_workers.specs.Seating.{turn_of, AreLocksOf, IsSeatAt, HasSeats, IsElsewhere}

-- the key steps of two logs in a row
pub turns-append : (r key : ℕ) (log more : List Step) → turns_in_log r key (log ++ more) ≡ turns_in_log r key log ++ turns_in_log r key more
turns-append r key [] more = refl
turns-append r key (Key call answer ∷ log) more = by (call.replica == r && call.key == key) (turns-append r key log more)
  where
    turn : Turn
    turn = record { act = call.act; answer = answer }

    by : (b : Bool) → turns_in_log r key (log ++ more) ≡ turns_in_log r key log ++ turns_in_log r key more → cond b (turn ∷ turns_in_log r key (log ++ more)) (turns_in_log r key (log ++ more)) ≡ cond b (turn ∷ turns_in_log r key log) (turns_in_log r key log) ++ turns_in_log r key more
    by true rest = ap (λ ts. turn ∷ ts) rest
    by false rest = rest
turns-append r key (Begin client replica ∷ log) more = turns-append r key log more
turns-append r key (Unread client ∷ log) more = turns-append r key log more
turns-append r key (Read id item ∷ log) more = turns-append r key log more
turns-append r key (Stamp id clock writes ∷ log) more = turns-append r key log more
turns-append r key (Validate id ∷ log) more = turns-append r key log more
turns-append r key (Take number ∷ log) more = turns-append r key log more
turns-append r key (Rule id ∷ log) more = turns-append r key log more
turns-append r key (Again id ∷ log) more = turns-append r key log more
turns-append r key (Takeover id view ∷ log) more = turns-append r key log more
turns-append r key (Pick id view ∷ log) more = turns-append r key log more
turns-append r key (Stop id ∷ log) more = turns-append r key log more

no_turn : (r key : ℕ) (step : Step) → IsElsewhere step → turns_in_log r key (step ∷ []) ≡ []
no_turn r key (Key call answer) e = absurd e
no_turn r key (Begin client replica) e = refl
no_turn r key (Unread client) e = refl
no_turn r key (Read id item) e = refl
no_turn r key (Stamp id clock writes) e = refl
no_turn r key (Validate id) e = refl
no_turn r key (Take number) e = refl
no_turn r key (Rule id) e = refl
no_turn r key (Again id) e = refl
no_turn r key (Takeover id view) e = refl
no_turn r key (Pick id view) e = refl
no_turn r key (Stop id) e = refl

-- a step that is no key step leaves the seats as they are
pub seats_elsewhere : (locks : List LockView) (column : ℕ) (log : List Step) (step : Step) (seats : List SeatView) → IsElsewhere step → HasSeats locks column log seats → HasSeats locks column (log ++ step ∷ []) seats
seats_elsewhere locks column log step seats elsewhere has =
    record {
      all = has.all;
      each = λ k l s there at. let fits = has.each k l s there at in
          record {
            lock = fits.lock;
            number = fits.number;
            entries = fits.entries ∙ sym (turns-append l.replica l.key log (step ∷ []) ∙ (ap (λ ts. turns_in_log l.replica l.key log ++ ts) (no_turn l.replica l.key step elsewhere) ∙ append-nil (turns_in_log l.replica l.key log)));
          };
    }

abbrev key_step : ℕ → ℕ → Act → Answer → Step
key_step r key act answer = Key (record { replica = r; key = key; act = act }) answer

abbrev turn : Act → Answer → Turn
turn act answer = record { act = act; answer = answer }

-- a key step counts at its key
turn_here : (r key : ℕ) (act : Act) (answer : Answer) → turns_in_log r key (key_step r key act answer ∷ []) ≡ turn act answer ∷ []
turn_here r key act answer = ap (λ b. cond b (turn act answer ∷ []) []) (ap (λ b. b && (nat_eq key key)) (eq-eqb r r refl) ∙ eq-eqb key key refl)

-- and at no other
turn_apart : (r key other_r other_key : ℕ) (act : Act) (answer : Answer) → ((r ≡ other_r) × (key ≡ other_key) → ⊥) → turns_in_log other_r other_key (key_step r key act answer ∷ []) ≡ []
turn_apart r key other_r other_key act answer apart = elim (cases_eq r other_r) [
  | inl same ↦ ap (λ b. cond (nat_eq r other_r && b) (turn act answer ∷ []) []) (ne_eqb key other_key (λ e. apart (same, e))) ∙ by (nat_eq r other_r)
  | inr e ↦ ap (λ b. cond (b && nat_eq key other_key) (turn act answer ∷ []) []) (ne_eqb r other_r e)
]
  where
    by : (b : Bool) → cond (b && false) (turn act answer ∷ []) [] ≡ []
    by true = refl
    by false = refl

-- two locks are at different keys
apart_at : (replicas keys : ℕ) (locks : List LockView) (j k : ℕ) (l m : LockView) → AreLocksOf replicas keys locks → slice_get locks k ≡ Some l → slice_get locks j ≡ Some m → (j ≡ k → ⊥) →
    (l.replica ≡ m.replica) × (l.key ≡ m.key) → ⊥
apart_at replicas keys locks j k l m are at there apart same =
    let one = are.each k l at in let other = are.each j m there in
    apart (other.0 ∙ sym (one.0 ∙ (ap (λ r. r * keys + l.key) same.0 ∙ ap (λ key. m.replica * keys + key) same.1)))

-- the seat of the key wrote an entry, and the log has its step
pub seats_here : (replicas keys : ℕ) (locks : List LockView) (column : ℕ) (log : List Step) (seats : List SeatView) (k : ℕ) (l : LockView) (s t : SeatView) (act : Act) (answer : Answer) →
    AreLocksOf replicas keys locks → HasSeats locks column log seats → slice_get locks k ≡ Some l → slice_get seats k ≡ Some s →
    t.lock ≡ s.lock → t.number ≡ s.number → t.entries ≡ s.entries ++ entry s.number act answer ∷ [] →
    HasSeats locks column (log ++ key_step l.replica l.key act answer ∷ []) (slice_set seats k t)
seats_here replicas keys locks column log seats k l s t act answer are has at seat_at lock number entries =
    record {
      all = length-set seats k t ∙ has.all;
      each = λ j m u there u_at. elim (slice_get-set seats k j s t u seat_at u_at) [
        | inl p ↦ subst (λ (z : LockView × SeatView). IsSeatAt z.0 column (log ++ key_step l.replica l.key act answer ∷ []) z.1)
            (λ i. (same_Some l m (sym at ∙ subst (λ n. slice_get locks n ≡ Some m) p.0 there) i, p.1 i)) now
        | inr p ↦ let fits = has.each j m u there p.1 in
            record {
              lock = fits.lock;
              number = fits.number;
              entries = fits.entries
                  ∙ sym (turns-append m.replica m.key log (key_step l.replica l.key act answer ∷ [])
                  ∙ (ap (λ ts. turns_in_log m.replica m.key log ++ ts) (turn_apart l.replica l.key m.replica m.key act answer (apart_at replicas keys locks j k l m are at there p.0))
                  ∙ append-nil (turns_in_log m.replica m.key log)));
            }
      ];
    }
  where
    fits_old : IsSeatAt l column log s
    fits_old = has.each k l s at seat_at

    longer : map turn_of t.entries ≡ turns_in_log l.replica l.key log ++ turn act answer ∷ []
    longer = ap (map turn_of) entries ∙ (map-append turn_of s.entries (entry s.number act answer ∷ []) ∙ ap (λ ts. ts ++ turn act answer ∷ []) fits_old.entries)

    now : IsSeatAt l column (log ++ key_step l.replica l.key act answer ∷ []) t
    now = record {
      lock = lock ∙ fits_old.lock;
      number = number ∙ fits_old.number;
      entries = longer ∙ sym (turns-append l.replica l.key log (key_step l.replica l.key act answer ∷ []) ∙ ap (λ ts. turns_in_log l.replica l.key log ++ ts) (turn_here l.replica l.key act answer));
    }

-- the column did the key step, and the seat of its key wrote it
pub seats_done : (replicas keys : ℕ) (locks : List LockView) (column new_column : ColumnView) (seats : List SeatView) (k : ℕ) (l : LockView) (s t : SeatView) (call : KeyCall) (answer : Answer) →
    AreLocksOf replicas keys locks → HasSeats locks column.number column.log seats → slice_get locks k ≡ Some l → slice_get seats k ≡ Some s →
    (l.replica ≡ call.replica) × (l.key ≡ call.key) → t.lock ≡ s.lock → t.number ≡ s.number → t.entries ≡ s.entries ++ entry s.number call.act answer ∷ [] →
    HasDone (Key call answer) column new_column → HasSeats locks new_column.number new_column.log (slice_set seats k t)
seats_done replicas keys locks column new_column seats k l s t call answer are has at seat_at here lock number entries done =
    subst (λ (z : ℕ × List Step). HasSeats locks z.0 z.1 (slice_set seats k t)) (λ i. (number_is i, log_is i))
    (seats_here replicas keys locks column.number column.log seats k l s t call.act answer are has at seat_at lock number entries)
  where
    number_is : column.number ≡ new_column.number
    number_is = sym (ap (λ (c : ColumnView). c.number) done.after)

    log_is : column.log ++ key_step l.replica l.key call.act answer ∷ [] ≡ new_column.log
    log_is = (λ i. column.log ++ key_step (here.0 i) (here.1 i) call.act answer ∷ []) ∙ sym (ap (λ (c : ColumnView). c.log) done.after)

-- the column did another step
pub seats_stepped : (locks : List LockView) (column new_column : ColumnView) (step : Step) (seats : List SeatView) → IsElsewhere step → HasDone step column new_column →
    HasSeats locks column.number column.log seats → HasSeats locks new_column.number new_column.log seats
seats_stepped locks column new_column step seats elsewhere done has =
    subst (λ (z : ℕ × List Step). HasSeats locks z.0 z.1 seats)
    (λ i. (sym (ap (λ (c : ColumnView). c.number) done.after) i, sym (ap (λ (c : ColumnView). c.log) done.after) i))
    (seats_elsewhere locks column.number column.log step seats elsewhere has)
