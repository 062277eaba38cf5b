-- Entries by seat.
use Rattle.std.proofs.Common.{◌≡◌, ◌≢◌, ℕ, List, [], ◌∷◌, refl, ap, sym, ◌∙◌, cond, eq-eqb, ne_eqb}
use Rattle.mk_words.specs.declared.JournalEntry.{JournalEntry}
use Rattle.mk_lock.specs.Entries.{of_seat, IsBy}

pub of_seat_mine : (number : ℕ) (more : List JournalEntry) → IsBy number more → of_seat number more ≡ more
of_seat_mine number [] by = refl
of_seat_mine number (e ∷ es) by = ap (λ b. cond b (e ∷ of_seat number es) (of_seat number es)) (eq-eqb e.seat number by.0) ∙ ap (λ l. e ∷ l) (of_seat_mine number es by.1)

pub of_seat_other : (number other : ℕ) (more : List JournalEntry) → IsBy number more → number ≢ other → of_seat other more ≡ []
of_seat_other number other [] by apart = refl
of_seat_other number other (e ∷ es) by apart = ap (λ b. cond b (e ∷ of_seat other es) (of_seat other es)) (ne_eqb e.seat other (λ same. apart (sym by.0 ∙ same))) ∙ of_seat_other number other es by.1 apart
