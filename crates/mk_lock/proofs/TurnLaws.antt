-- What the steps of a turn tell.
use Rattle.std.proofs.Common.{◌≡◌, ◌≢◌, ℕ, List, [], ◌∷◌, ◌++◌, length, drop, Result, Ok, Err, IfOk, OnErr, refl, sym, ap, ◌∙◌, subst, append-nil}
use Rattle.std.proofs.Math.Seq.{drop-append_seam}
use Rattle.atomic_table.specs.Table.{Me, rest}
use Rattle.mk_txn.specs.declared.NoMemory.{NoMemory}
use Rattle.mk_words.specs.declared.Act.{Act}
use Rattle.mk_words.specs.declared.Answer.{Answer}
use Rattle.mk_words.specs.declared.JournalEntry.{JournalEntry}
use Rattle.mk_lock.specs.declared.view.Stage.{Stage}
use Rattle.mk_lock.specs.declared.view.Stage.TheVariants.{Waiting, InTurn}
use Rattle.mk_lock.specs.declared.view.View.{View}
use Rattle.mk_lock.specs.Entries.{JournalState, entry, IsBy}
use Rattle.mk_lock.specs.Turns.{view, held, taken, AwaitedAt, Waits, HasTicket, HasTurn, MayEnd, ended}
use Rattle.mk_lock.specs.Seats.{resting}

-- the ticket that was found is the seat's
pub turn_comes : (ticket found : ℕ) (m n : Me JournalState View) → HasTicket ticket m → found ≡ ticket → AwaitedAt m.0.stage m found n → HasTurn m n
turn_comes ticket found m n (t, is, waits) hit told =
    let at : AwaitedAt (Waiting t) m found n = subst (λ (z : Stage). AwaitedAt z m found n) waits told in
    let got = at.0 (hit ∙ is) in (t, got.0, got.1)

pub turn_waits : (ticket found : ℕ) (m n : Me JournalState View) → HasTicket ticket m → found ≢ ticket → AwaitedAt m.0.stage m found n → n ≡ m
turn_waits ticket found m n (t, is, waits) miss told =
    let at : AwaitedAt (Waiting t) m found n = subst (λ (z : Stage). AwaitedAt z m found n) waits told in
    at.1 (λ same. miss (same ∙ sym is))

abbrev Sat : Type 0
Sat = Me JournalState View

-- the entries that one act adds to the journal
abbrev pub more_of : ℕ → Act → Result Answer NoMemory → List JournalEntry
more_of number act (Ok answer) = entry number act answer ∷ []
more_of number act (Err e) = []

more_by : (number : ℕ) (act : Act) (r : Result Answer NoMemory) → IsBy number (more_of number act r)
more_by number act (Ok answer) = (refl, tt)
more_by number act (Err e) = tt

adds : (number : ℕ) (act : Act) (r : Result Answer NoMemory) (old new : JournalState) → IfOk r (λ answer. new.entries ≡ old.entries ++ entry number act answer ∷ []) → OnErr r (new ≡ old)
    → new.entries ≡ old.entries ++ more_of number act r
adds number act (Ok answer) old new ok err = ok
adds number act (Err e) old new ok err = ap (λ (k : JournalState). k.entries) err ∙ sym (append-nil old.entries)

abbrev first_slot : JournalState → List (ℕ × JournalState) → JournalState
first_slot d [] = d
first_slot d (x ∷ xs) = x.1

-- a seat that rested has the journal once it has drawn its ticket and waited
turn_is : (number found : ℕ) (entries : List JournalEntry) (a b c : Sat) → a ≡ resting number entries → Waits a found b → HasTurn b c
    → (ticket : ℕ) × (x : JournalState) × (c ≡ (view (held number entries ∷ []) (InTurn ticket (taken x)), (0, x) ∷ []))
turn_is number found entries a b c rests (t, _, waits) (u, x, turn) =
    let b_is : b ≡ (view (held number entries ∷ []) (Waiting t), []) = waits ∙ ap (λ (m : Sat). (view m.0.held (Waiting t), m.1)) rests in
    (u, x, turn ∙ ap (λ (m : Sat). (view m.0.held (InTurn u (taken x)), (0, x) ∷ m.1)) b_is)

-- the act is done on the journal, and the turn may end. Then the seat's list is longer by the act's entry
pub act_ends : (number found : ℕ) (act : Act) (r : Result Answer NoMemory) (entries : List JournalEntry) (a b c : Sat) (old new : JournalState)
    → a ≡ resting number entries → Waits a found b → HasTurn b c → c.1 ≡ (0, old) ∷ rest c.1
    → new.opening ≡ old.opening → IfOk r (λ answer. new.entries ≡ old.entries ++ entry number act answer ∷ []) → OnErr r (new ≡ old)
    → MayEnd (c.0, (0, new) ∷ rest c.1) × (ended (c.0, (0, new) ∷ rest c.1) ≡ resting number (entries ++ more_of number act r))
act_ends number found act r entries a b c old new rests waits turn slot opening ok err =
    let known = turn_is number found entries a b c rests waits turn in
    let t : ℕ = known.0 in
    let x : JournalState = known.1 in
    let is : c ≡ (view (held number entries ∷ []) (InTurn t (taken x)), (0, x) ∷ []) = known.2 in
    let old_is : old ≡ x = sym (ap (first_slot x) slot) ∙ ap (λ (m : Sat). first_slot x m.1) is in
    let more : List JournalEntry = more_of number act r in
    let longer : new.entries ≡ x.entries ++ more = adds number act r old new ok err ∙ ap (λ (k : JournalState). k.entries ++ more) old_is in
    let now : (c.0, (0, new) ∷ rest c.1) ≡ (view (held number entries ∷ []) (InTurn t (taken x)), (0, new) ∷ []) = ap (λ (m : Sat). (m.0, (0, new) ∷ rest m.1)) is in
    let added_is : drop (length x.entries) new.entries ≡ more = ap (drop (length x.entries)) longer ∙ drop-append_seam x.entries more in (
      (held number entries, t, x, new, more, now, opening ∙ ap (λ (k : JournalState). k.opening) old_is, longer, more_by number act r),
      ap ended now ∙ ap (λ (l : List JournalEntry). resting number (entries ++ l)) added_is,
    )
