-- What is seen of a coordinator after one of its seven slots was filled.
use Rattle.std.proofs.Common.{◌≡◌, ◌∙◌, ◌<◌, ◌≤◌, ℕ, ap, List, Bool, true, take}
use Rattle.std.specs.Prelude.{Option, None}
use Rattle.mk_txn.specs.declared.Vote.{Vote}
use Rattle.mk_txn.specs.declared.Outcome.{Outcome}
use Rattle.mk_quorum.specs.Sizes.{members}
use Rattle.mk_quorum.specs.Slots.{filled, empty_slots}
use Rattle.mk_words.specs.Rulings.{seen_coord, new_coord, vote_counted, accept_counted}
use Rattle.mk_quorum.proofs.SlotLists.{filled-take, empty-take}

pub voted : (f : ℕ) (votes new : List (Option Vote)) (accepts : List (Option Bool)) (proposed learned : Option Outcome) (r : ℕ) (vote : Vote) →
    r < members f → new ≡ filled votes r vote →
    seen_coord f new accepts proposed learned ≡ record (seen_coord f votes accepts proposed learned) { state = vote_counted r vote (seen_coord f votes accepts proposed learned).state }
voted f votes new accepts proposed learned r vote lt e =
    ap (λ slots. record { faults = f; state = record { votes = slots; accepts = take (members f) accepts; proposed = proposed; learned = learned } })
    (ap (take (members f)) e ∙ filled-take (members f) votes r vote lt)

pub accepted : (f : ℕ) (votes : List (Option Vote)) (accepts new : List (Option Bool)) (proposed learned : Option Outcome) (r : ℕ) →
    r < members f → new ≡ filled accepts r true →
    seen_coord f votes new proposed learned ≡ record (seen_coord f votes accepts proposed learned) { state = accept_counted r (seen_coord f votes accepts proposed learned).state }
accepted f votes accepts new proposed learned r lt e =
    ap (λ slots. record { faults = f; state = record { votes = take (members f) votes; accepts = slots; proposed = proposed; learned = learned } })
    (ap (take (members f)) e ∙ filled-take (members f) accepts r true lt)

pub fresh : (f : ℕ) (votes : List (Option Vote)) (accepts : List (Option Bool)) → members f ≤ 7 → votes ≡ empty_slots 7 → accepts ≡ empty_slots 7 →
    (seen_coord f votes accepts None None).state ≡ new_coord f
fresh f votes accepts le e g =
    ap (λ slots. record { votes = slots; accepts = take (members f) accepts; proposed = None; learned = None }) (empty-take (members f) votes le e)
    ∙ ap (λ slots. record { votes = empty_slots (members f); accepts = slots; proposed = None; learned = None }) (empty-take (members f) accepts le g)
