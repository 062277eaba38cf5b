-- Each client of the driver has as many places left as it can still begin attempts.
use Rattle.std.proofs.Common.{◌≡◌, ◌∙◌, ◌<◌, ◌≤◌, ℕ, zero, suc, ◌+◌, Bool, true, false, refl, sym, subst, ap, arith, List, [], ◌∷◌, Some, cond, if◌then◌else◌}
use Rattle.std.specs.Prelude.{find, slice_get, nat_le, ◌==◌}
use Rattle.std.proofs.lemmas.Bool.Decides.{nat_tests}
use Rattle.std.proofs.lemmas.Bool.{eqb-true}
use Rattle.mk_lists.specs.Among.{Each, Each-weaker}
use Rattle.mk_lists.specs.Changed.{change, Each-change}
use Rattle.mk_lists.proofs.Lookups.{find-passes}
use Rattle.mk_lists.proofs.EachMember.{Each-find}
use Rattle.mk_words.specs.declared.Step.{Step}
use Rattle.mk_model.specs.ColumnState.{Setting, ColumnState, ClientState, client_of, is_client}
use Rattle.mk_model.specs.Conditions.{has_seq_left}
use Rattle.mk_model.specs.Steps.{column_after}
use Rattle.mk_driver.specs.declared.Caller.{Caller}
use Rattle.mk_driver.specs.Keeping.{IsRising, numbers_of}
use Rattle.mk_driver.specs.Agenda.{is_caller}
use Rattle.mk_driver_laws.proofs.Lookups.{member-slice_get, passes-from_some}
use Rattle.mk_driver_laws.proofs.DriverFits.{numbers_same, each_numbers}
use Rattle.mk_driver_laws.proofs.Remaining.{remaining}
use Rattle.mk_driver_laws.proofs.NextPlaces.{Nexts, takes_place, step_nexts}

-- a client of number n with so many attempts to come needs no place from the limit on
abbrev pub HasRoom : ℕ → ℕ → ℕ → ℕ → ℕ → Type 0
HasRoom limit n left number next = number ≡ n → next + left ≤ limit

abbrev pub RoomFor : ℕ → List ClientState → Caller → Type 0
RoomFor limit clients caller = Nexts (HasRoom limit caller.number (remaining caller)) clients

pub record Placed (limit : ℕ) (clients : List ClientState) (callers : List Caller) : Type 0 where
  pub rising : IsRising (numbers_of callers)
  pub room : Each (RoomFor limit clients) callers

-- where the limit grows by what may still come
pub room_more : (limit other n left less : ℕ) (clients : List ClientState) → less + limit ≤ left + other → Nexts (HasRoom limit n left) clients → Nexts (HasRoom other n less) clients
room_more limit other n left less clients e h =
    Each-weaker (λ (cl : ClientState). HasRoom limit n left cl.number cl.next_seq) (λ (cl : ClientState). HasRoom other n less cl.number cl.next_seq)
    (λ cl k q. let room = k q in omega (arith, e, room)) clients h

-- clients of which no more attempts remain
pub placed_less : (limit : ℕ) (clients : List ClientState) (p : Caller → Bool) (f : Caller → Caller) → ((x : Caller) → (f x).number ≡ x.number) →
    ((x : Caller) → remaining (f x) ≤ remaining x) → (callers : List Caller) → Placed limit clients callers → Placed limit clients (change p f callers)
placed_less limit clients p f same less callers h =
    record {
      rising = subst IsRising (sym (numbers_same p f same callers)) h.rising;
      room = Each-change p f (RoomFor limit clients)
          (λ x t k. subst (λ (n : ℕ). Nexts (HasRoom limit n (remaining (f x))) clients) (sym (same x))
          (room_more limit limit x.number (remaining x) (remaining (f x)) clients (let e = less x in omega (arith, e)) k)) callers h.room;
    }

-- after a step that takes no place
pub placed_after : (limit : ℕ) (round : Setting) (c : ColumnState) (step : Step) → takes_place step ≡ false → (callers : List Caller) → Placed limit c.clients callers →
    Placed limit (column_after round c step).clients callers
placed_after limit round c step b callers h =
    record {
      rising = h.rising;
      room = Each-weaker (RoomFor limit c.clients) (RoomFor limit (column_after round c step).clients)
          (λ x k. step_nexts (HasRoom limit x.number (remaining x)) round c step b k) callers h.room;
    }

-- ---- a client that takes a place

-- what becomes of next places when the client of number n takes one
abbrev pub Taking : ℕ → List ClientState → List ClientState → Type 1
Taking n clients others =
    (P Q : ℕ → ℕ → Type 0) → ((m s : ℕ) → m ≡ n → P m s → Q m (s + 1)) → ((m s : ℕ) → P m s → Q m s) → Nexts P clients → Nexts Q others

-- of the client of this number one attempt less remains
abbrev pub TakesOne : ℕ → (Caller → Caller) → Caller → Type 0
TakesOne n f x = x.number ≡ n → remaining (f x) + 1 ≤ remaining x

room_taken : (limit n : ℕ) (clients others : List ClientState) → Taking n clients others → (m left less : ℕ) → less ≤ left → (m ≡ n → less + 1 ≤ left) →
    Nexts (HasRoom limit m left) clients → Nexts (HasRoom limit m less) others
room_taken limit n clients others taking m left less e own h =
    taking (HasRoom limit m left) (HasRoom limit m less)
    (λ number s q k r. let room = k r in let one = own (sym r ∙ q) in omega (arith, room, one)) (λ number s k r. let room = k r in omega (arith, room, e)) h

all_taken : (limit n : ℕ) (clients others : List ClientState) (f : Caller → Caller) → Taking n clients others → ((x : Caller) → (f x).number ≡ x.number) →
    (callers : List Caller) → Each (TakesOne n f) callers → Each (RoomFor limit clients) callers → Each (RoomFor limit others) (change (is_caller n) f callers)
all_taken limit n clients others f taking same [] one h = tt
all_taken limit n clients others f taking same (x ∷ xs) one h = (head (is_caller n x) refl, all_taken limit n clients others f taking same xs one.1 h.1)
  where
    head : (b : Bool) → is_caller n x ≡ b → RoomFor limit others (if b then f x else x)
    head true e =
        let less = one.0 (eqb-true x.number n e) in
        subst (λ (m : ℕ). Nexts (HasRoom limit m (remaining (f x))) others) (sym (same x))
        (room_taken limit n clients others taking x.number (remaining x) (remaining (f x)) (omega (arith, less)) one.0 h.0)
    head false e = room_taken limit n clients others taking x.number (remaining x) (remaining x) (omega arith) (λ q. absurd (apart q)) h.0
      where
        apart : x.number ≡ n → ⊥
        apart q = let w : (x.number == n) ≡ true = grind (arith, nat_tests, q) in cc (sym w ∙ e)

pub placed_taken : (limit n : ℕ) (clients others : List ClientState) (f : Caller → Caller) → Taking n clients others → ((x : Caller) → (f x).number ≡ x.number) →
    (callers : List Caller) → Each (TakesOne n f) callers → Placed limit clients callers → Placed limit others (change (is_caller n) f callers)
placed_taken limit n clients others f taking same callers one h =
    record {
      rising = subst IsRising (sym (numbers_same (is_caller n) f same callers)) h.rising;
      room = all_taken limit n clients others f taking same callers one h.room;
    }

-- ---- the client at a place of the list

-- no other client has its number
pub only_there : (xs : List Caller) (place : ℕ) (x : Caller) → IsRising (numbers_of xs) → slice_get xs place ≡ Some x → Each (λ (y : Caller). y.number ≡ x.number → y ≡ x) xs
only_there [] place x r e = tt
only_there (y ∷ ys) zero x r e =
    let same : y ≡ x = cc e in (
      (λ q. same),
      Each-weaker (λ (z : Caller). y.number < z.number) (λ (z : Caller). z.number ≡ x.number → z ≡ x)
          (λ z below q. (let there : y.number ≡ x.number = ap (λ (w : Caller). w.number) same in absurd (omega (arith, below, q, there)))) ys (each_numbers (λ m. y.number < m) ys r.0),
    )
only_there (y ∷ ys) (suc place) x r e =
    let below : y.number < x.number = member-slice_get (λ (z : Caller). y.number < z.number) ys place x (each_numbers (λ m. y.number < m) ys r.0) e in
    ((λ q. absurd (omega (arith, below, q))), only_there ys place x r.1 e)

-- so one attempt less remains of all of its number, where it does of that one
pub takes_one : (f : Caller → Caller) (xs : List Caller) (place : ℕ) (x : Caller) → IsRising (numbers_of xs) → slice_get xs place ≡ Some x →
    remaining (f x) + 1 ≤ remaining x → Each (TakesOne x.number f) xs
takes_one f xs place x r e less =
    Each-weaker (λ (y : Caller). y.number ≡ x.number → y ≡ x) (TakesOne x.number f)
    (λ y k q. subst (λ (z : Caller). remaining (f z) + 1 ≤ remaining z) (sym (k q)) less) xs (only_there xs place x r e)

-- a client with an attempt to come has a place left
pub seq_left : (limit : ℕ) (c : ColumnState) (callers : List Caller) (place : ℕ) (x : Caller) (cl : ClientState) → limit ≤ 16385 → Placed limit c.clients callers →
    slice_get callers place ≡ Some x → client_of c x.number ≡ Some cl → 1 ≤ remaining x → has_seq_left c x.number ≡ true
seq_left limit c callers place x cl few h e q some =
    passes-from_some (λ (k : ClientState). nat_le k.next_seq 16384) (client_of c x.number) cl q is
  where
    room : RoomFor limit c.clients x
    room = member-slice_get (RoomFor limit c.clients) callers place x h.room e

    here : cl.next_seq + remaining x ≤ limit
    here = Each-find (λ (k : ClientState). HasRoom limit x.number (remaining x) k.number k.next_seq) (is_client x.number) c.clients cl room q
        (eqb-true cl.number x.number (find-passes (is_client x.number) c.clients cl q))

    low : cl.next_seq ≤ 16384
    low = omega (arith, here, few, some)

    is : nat_le cl.next_seq 16384 ≡ true
    is = grind (arith, nat_tests, low)
