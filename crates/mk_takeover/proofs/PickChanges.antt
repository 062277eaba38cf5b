-- What is seen of a takeover after one of its seven slots was filled.
use Rattle.std.proofs.Common.{◌≡◌, ◌∙◌, ◌<◌, ◌≤◌, ℕ, ap, List, Bool, true, take}
use Rattle.std.specs.Prelude.{Option, None}
use Rattle.std.specs.Option.{option_or}
use Rattle.mk_txn.specs.declared.Outcome.{Outcome}
use Rattle.mk_words.specs.declared.Told.{Told}
use Rattle.mk_quorum.specs.Sizes.{members}
use Rattle.mk_quorum.specs.Slots.{filled, empty_slots}
use Rattle.mk_quorum.proofs.SlotLists.{filled-take, empty-take}
use Rattle.mk_words.specs.Picks.{seen_takeover, new_takeover, reply_counted, accept_counted}

pub replied : (f view : ℕ) (told new : List (Option Told)) (accepts : List (Option Bool)) (proposed learned after : Option Outcome) (r : ℕ) (reply : Told) →
    r < members f → new ≡ filled told r reply → after ≡ option_or learned reply.last →
    seen_takeover f view new accepts proposed after ≡ record (seen_takeover f view told accepts proposed learned) { state = reply_counted r reply (seen_takeover f view told accepts proposed learned).state }
replied f view told new accepts proposed learned after r reply lt e g =
    ap (λ slots. record { faults = f; state = record { view = view; told = slots; accepts = take (members f) accepts; proposed = proposed; learned = after } })
    (ap (take (members f)) e ∙ filled-take (members f) told r reply lt)
    ∙ ap (λ known. record { faults = f; state = record { view = view; told = filled (take (members f) told) r reply; accepts = take (members f) accepts; proposed = proposed; learned = known } }) g

pub accepted : (f view : ℕ) (told : List (Option Told)) (accepts new : List (Option Bool)) (proposed learned : Option Outcome) (r : ℕ) →
    r < members f → new ≡ filled accepts r true →
    seen_takeover f view told new proposed learned ≡ record (seen_takeover f view told accepts proposed learned) { state = accept_counted r (seen_takeover f view told accepts proposed learned).state }
accepted f view told accepts new proposed learned r lt e =
    ap (λ slots. record { faults = f; state = record { view = view; told = take (members f) told; accepts = slots; proposed = proposed; learned = learned } })
    (ap (take (members f)) e ∙ filled-take (members f) accepts r true lt)

pub fresh : (f view : ℕ) (told : List (Option Told)) (accepts : List (Option Bool)) → members f ≤ 7 → told ≡ empty_slots 7 → accepts ≡ empty_slots 7 →
    (seen_takeover f view told accepts None None).state ≡ new_takeover f view
fresh f view told accepts le e g =
    ap (λ slots. record { view = view; told = slots; accepts = take (members f) accepts; proposed = None; learned = None }) (empty-take (members f) told le e)
    ∙ ap (λ slots. record { view = view; told = empty_slots (members f); accepts = slots; proposed = None; learned = None }) (empty-take (members f) accepts le g)
