-- A commit fits what a follower received, where that is at most one commit.
use Rattle.std.proofs.Common.{◌≡◌, ◌≢◌, ℕ, sym, ap, subst, ◌∙◌, inl, inr, List, [], ◌∷◌, ◌++◌}
use Rattle.mk_lists.specs.Among.{Among}
use Rattle.mk_txn.specs.Transactions.{Transaction}
use Rattle.mk_feed_words.specs.declared.Received.{Received}
use Rattle.mk_follow.specs.declared.follower.Taken.{Taken}
use Rattle.mk_follow.specs.declared.follower.Taken.TheVariants.{New, Again}
use Rattle.mk_follow.specs.Following.{Following, CommitFits, AfterCommit}

fits-none : (column : ℕ) (txn : Transaction) → CommitFits column txn []
fits-none column txn = record { same = λ r a e. absurd a; other = λ r a d. absurd a }

fits-other : (column : ℕ) (first second : Transaction) → first.id ≢ second.id → first.stamp ≢ second.stamp → CommitFits column second (record { column = column; txn = first } ∷ [])
fits-other column first second id stamp = record { same = λ r a e. same r a e; other = λ r a d. other r a }
  where
    it : Received
    it = record { column = column; txn = first }

    same : (r : Received) → Among r (it ∷ []) → r.txn.id ≡ second.id → (r.column ≡ column) × (r.txn ≡ second)
    same r (inl is) e = absurd (id (ap (λ (x : Received). x.txn.id) is ∙ e))
    same r (inr a) e = absurd a

    other : (r : Received) → Among r (it ∷ []) → r.txn.stamp ≢ second.stamp
    other r (inl is) e = stamp (ap (λ (x : Received). x.txn.stamp) is ∙ e)
    other r (inr a) e = absurd a

fits-again : (column : ℕ) (first second : Transaction) → second ≡ first → CommitFits column second (record { column = column; txn = first } ∷ [])
fits-again column first second again = record { same = λ r a e. same r a; other = λ r a d. absurd (d (other r a)) }
  where
    it : Received
    it = record { column = column; txn = first }

    same : (r : Received) → Among r (it ∷ []) → (r.column ≡ column) × (r.txn ≡ second)
    same r (inl is) = (ap (λ (x : Received). x.column) (sym is), ap (λ (x : Received). x.txn) (sym is) ∙ sym again)
    same r (inr a) = absurd a

    other : (r : Received) → Among r (it ∷ []) → r.txn.id ≡ second.id
    other r (inl is) = ap (λ (x : Received). x.txn.id) (sym is) ∙ ap (λ (t : Transaction). t.id) (sym again)
    other r (inr a) = absurd a

-- what fits both no commit and the first one fits after the first was taken
fits-taken : (taken : Taken) (old new : Following) (column : ℕ) (first second : Transaction) → old.commits ≡ [] → AfterCommit taken old column first new
    → CommitFits column second (record { column = column; txn = first } ∷ []) → CommitFits column second new.commits
fits-taken New old new column first second none after fits =
    let it : Received = record { column = column; txn = first } in
    let is : new.commits ≡ it ∷ [] = ap (λ (s : Following). s.commits) after.1 ∙ ap (λ (l : List Received). l ++ it ∷ []) none in
    subst (CommitFits column second) (sym is) fits
fits-taken Again old new column first second none after fits =
    let is : new.commits ≡ [] = ap (λ (s : Following). s.commits) after.1 ∙ none in
    subst (CommitFits column second) (sym is) (fits-none column second)

pub other-fits : (taken : Taken) (old new : Following) (column : ℕ) (first second : Transaction) → old.commits ≡ [] → AfterCommit taken old column first new
    → first.id ≢ second.id → first.stamp ≢ second.stamp → CommitFits column second new.commits
other-fits taken old new column first second none after id stamp = fits-taken taken old new column first second none after (fits-other column first second id stamp)

pub again-fits : (taken : Taken) (old new : Following) (column : ℕ) (first second : Transaction) → old.commits ≡ [] → AfterCommit taken old column first new
    → second ≡ first → CommitFits column second new.commits
again-fits taken old new column first second none after again = fits-taken taken old new column first second none after (fits-again column first second again)
