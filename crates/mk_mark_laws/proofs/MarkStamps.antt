-- What the mark stamp is: zero, or a stamp that may be marked.
use Rattle.std.proofs.Common.{◌≡◌, ◌⊎◌, ℕ, Bool, true, false, cond, refl, sym, ap, subst, ◌∙◌, inl, inr, List, [], ◌∷◌, ◌==◌, Option, Some, None}
use Rattle.std.proofs.lemmas.Bool.{eqb-true}
use Rattle.mk_lists.specs.Among.{Among}
use Rattle.mk_txn.specs.declared.Stamp.{Stamp}
use Rattle.mk_txn.specs.declared.TxnId.{TxnId}
use Rattle.mk_txn.specs.Stamps.{zero_stamp, is_before}
use Rattle.mk_txn.specs.Transactions.{Transaction}
use Rattle.mk_model.specs.ColumnState.{ColumnState, AttemptState}
use Rattle.mk_feed_words.specs.MarkStamps.{Stamped, greatest, last_of, may_be_marked, markable, mark_stamp, is_closed, with_stamped, stamped_of}

greatest-cases : (stamps : List Stamp) → (greatest stamps ≡ zero_stamp) ⊎ Among (greatest stamps) stamps
greatest-cases [] = inl refl
greatest-cases (s ∷ stamps) = by (is_before s (greatest stamps)) (greatest-cases stamps)
  where
    by : (b : Bool) → (greatest stamps ≡ zero_stamp) ⊎ Among (greatest stamps) stamps → (cond b (greatest stamps) s ≡ zero_stamp) ⊎ Among (cond b (greatest stamps) s) (s ∷ stamps)
    by true (inl z) = inl z
    by true (inr a) = inr (inr a)
    by false g = inr (inl refl)

markable-may : (clients : List ℕ) (all part : List Stamped) (stamp : Stamp) → Among stamp (markable clients all part) → may_be_marked clients all stamp ≡ true
markable-may clients all [] stamp a = absurd a
markable-may clients all (x ∷ part) stamp a = by (markable-may clients all part stamp) (may_be_marked clients all x.stamp) refl a
  where
    by : (Among stamp (markable clients all part) → may_be_marked clients all stamp ≡ true) → (b : Bool) → may_be_marked clients all x.stamp ≡ b
        → Among stamp (cond b (x.stamp ∷ markable clients all part) (markable clients all part)) → may_be_marked clients all stamp ≡ true
    by again true e (inl is) = subst (λ s. may_be_marked clients all s ≡ true) is e
    by again true e (inr a) = again a
    by again false e a = again a

-- zero, or it may be marked
pub mark-cases : (clients : List ℕ) (all : List Stamped) → (mark_stamp clients all ≡ zero_stamp) ⊎ (may_be_marked clients all (mark_stamp clients all) ≡ true)
mark-cases clients all = by (greatest-cases (markable clients all all))
  where
    by : (greatest (markable clients all all) ≡ zero_stamp) ⊎ Among (greatest (markable clients all all)) (markable clients all all)
        → (mark_stamp clients all ≡ zero_stamp) ⊎ (may_be_marked clients all (mark_stamp clients all) ≡ true)
    by (inl z) = inl z
    by (inr a) = inr (markable-may clients all all (mark_stamp clients all) a)

-- a stamped attempt of this client has this stamp
pub record HasStamp (all : List Stamped) (client : ℕ) (stamp : Stamp) : Type 0 where
  pub one : Stamped
  pub among : Among one all
  pub of_client : one.id.client ≡ client
  pub stamp_is : one.stamp ≡ stamp

-- the last stamp of a client is zero, or that of one of its attempts
pub last-cases : (all : List Stamped) (client : ℕ) → (last_of all client ≡ zero_stamp) ⊎ HasStamp all client (last_of all client)
last-cases [] client = inl refl
last-cases (s ∷ rest) client = by (s.id.client == client) refl (is_before s.stamp (last_of rest client)) (last-cases rest client)
  where
    later : (stamp : Stamp) → HasStamp rest client stamp → HasStamp (s ∷ rest) client stamp
    later stamp h = record { one = h.one; among = inr h.among; of_client = h.of_client; stamp_is = h.stamp_is }

    by : (b : Bool) → (s.id.client == client) ≡ b → (c : Bool) → (last_of rest client ≡ zero_stamp) ⊎ HasStamp rest client (last_of rest client)
        → (cond b (cond c (last_of rest client) s.stamp) (last_of rest client) ≡ zero_stamp) ⊎ HasStamp (s ∷ rest) client (cond b (cond c (last_of rest client) s.stamp) (last_of rest client))
    by true e true (inl z) = inl z
    by true e true (inr h) = inr (later (last_of rest client) h)
    by true e false h = inr (record { one = s; among = inl refl; of_client = eqb-true s.id.client client e; stamp_is = refl })
    by false e c (inl z) = inl z
    by false e c (inr h) = inr (later (last_of rest client) h)

-- ---- the stamped attempts of a column

abbrev pub one_stamped : List TxnId → ColumnState → Transaction → Stamped
one_stamped settled column txn = record { id = txn.id; stamp = txn.stamp; closed = is_closed settled column txn.id }

pub stamped-there : (settled : List TxnId) (column : ColumnState) (attempts : List AttemptState) (a : AttemptState) (txn : Transaction) → Among a attempts → a.txn ≡ Some txn
    → Among (one_stamped settled column txn) (stamped_of settled column attempts)
stamped-there settled column [] a txn m e = absurd m
stamped-there settled column (x ∷ attempts) a txn (inl is) e =
    subst (λ (o : Option Transaction). Among (one_stamped settled column txn) (with_stamped settled column o (stamped_of settled column attempts))) (sym (ap (λ (y : AttemptState). y.txn) is ∙ e)) (inl refl)
stamped-there settled column (x ∷ attempts) a txn (inr m) e = by x.txn (stamped-there settled column attempts a txn m e)
  where
    by : (o : Option Transaction) → Among (one_stamped settled column txn) (stamped_of settled column attempts)
        → Among (one_stamped settled column txn) (with_stamped settled column o (stamped_of settled column attempts))
    by (Some other) h = inr h
    by None h = h

-- it is one of an attempt with its transaction
pub record IsStampedOf (settled : List TxnId) (column : ColumnState) (attempts : List AttemptState) (s : Stamped) : Type 0 where
  pub attempt : AttemptState
  pub among : Among attempt attempts
  pub txn : Transaction
  pub has_txn : attempt.txn ≡ Some txn
  pub is : s ≡ one_stamped settled column txn

pub stamped-from : (settled : List TxnId) (column : ColumnState) (attempts : List AttemptState) (s : Stamped) → Among s (stamped_of settled column attempts) → IsStampedOf settled column attempts s
stamped-from settled column [] s m = absurd m
stamped-from settled column (x ∷ attempts) s m = by x.txn refl (stamped-from settled column attempts s) m
  where
    later : IsStampedOf settled column attempts s → IsStampedOf settled column (x ∷ attempts) s
    later h = record { attempt = h.attempt; among = inr h.among; txn = h.txn; has_txn = h.has_txn; is = h.is }

    by : (o : Option Transaction) → x.txn ≡ o → (Among s (stamped_of settled column attempts) → IsStampedOf settled column attempts s)
        → Among s (with_stamped settled column o (stamped_of settled column attempts)) → IsStampedOf settled column (x ∷ attempts) s
    by (Some txn) e again (inl is) = record { attempt = x; among = inl refl; txn = txn; has_txn = e; is = sym is }
    by (Some txn) e again (inr m) = later (again m)
    by None e again m = later (again m)
