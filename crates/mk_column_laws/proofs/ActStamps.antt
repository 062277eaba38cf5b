-- Key acts by the stamps that they name.
use Rattle.std.proofs.Common.{◌≡◌, ◌≤◌, ◌∙◌, ℕ, refl, inl, inr, sym, subst, List, [], ◌∷◌, Some, map}
use Rattle.std.proofs.lemmas.Option.{same_Some}
use Rattle.mk_lists.specs.Among.{Among, Among-append}
use Rattle.mk_txn.specs.declared.TxnId.{TxnId}
use Rattle.mk_txn.specs.declared.Stamp.{Stamp}
use Rattle.mk_txn.specs.declared.ReadItem.{ReadItem}
use Rattle.mk_txn.specs.declared.WriteItem.{WriteItem}
use Rattle.mk_txn.specs.declared.Outcome.TheVariants.{Abort}
use Rattle.mk_txn.specs.declared.Cause.{Cause}
use Rattle.mk_txn.specs.Transactions.{Transaction}
use Rattle.mk_words.specs.declared.Act.{Act}
use Rattle.mk_words.specs.declared.Act.TheVariants.{Get, CheckRead, CheckWrite, CommitRead, CommitWrite, ReleaseRead, ReleaseWrite}
use Rattle.mk_words.specs.Checks.{KeyAct, checks, commits_of, releases_of}
use Rattle.mk_column_laws.specs.Moments.{Moment, PastEntry, Taught, StaysTaught, IsReached}
use Rattle.mk_column_laws.specs.KeyActs.{ActOrigin, ReleaseReason}
use Rattle.mk_column_laws.specs.KeyActs.ActOrigin.{OfRead, OfCheck, OfRelease, OfCommit}
use Rattle.mk_column_laws.specs.ActLaws.{Releases, ChecksFor, CommitsFor, StampReleased, CommittedBy, CommitsOfFinal, CheckedBy, ChecksOfStamp}
use Rattle.mk_column_laws.proofs.Rounds.{reached_facts}
use Rattle.mk_column_laws.proofs.RoundActs.{acts_have_origin, releases_of_ok}
use Rattle.mk_column_laws.proofs.IdentitySteps.{stamps_name}

-- ---- the acts of a transaction by kind

of_items : {X : Type 0} (P : Act → Type 0) (f : X → KeyAct) → ((x : X) → P (f x).1) → (items : List X) (act : KeyAct) → Among act (map f items) → P act.1
of_items P f h [] act a = absurd a
of_items P f h (x ∷ items) act (inl e) = subst (λ (y : KeyAct). P y.1) e (h x)
of_items P f h (x ∷ items) act (inr a) = of_items P f h items act a

pub checks_shape : (txn : Transaction) (act : KeyAct) → Among act (checks txn) → ChecksFor txn.stamp act.1
checks_shape txn act a = elim (Among-append act (map (λ item. (item.key, CheckRead txn.stamp item.version)) txn.reads) (map (λ item. (item.key, CheckWrite txn.stamp)) txn.writes) a) [
  | inl r ↦ of_items (ChecksFor txn.stamp) (λ (item : ReadItem). (item.key, CheckRead txn.stamp item.version)) (λ item. inl (item.version, refl)) txn.reads act r
  | inr w ↦ of_items (ChecksFor txn.stamp) (λ (item : WriteItem). (item.key, CheckWrite txn.stamp)) (λ item. inr refl) txn.writes act w
]

pub releases_shape : (txn : Transaction) (act : KeyAct) → Among act (releases_of txn) → Releases txn.stamp act.1
releases_shape txn act a = elim (Among-append act (map (λ item. (item.key, ReleaseRead txn.stamp)) txn.reads) (map (λ item. (item.key, ReleaseWrite txn.stamp)) txn.writes) a) [
  | inl r ↦ of_items (Releases txn.stamp) (λ (item : ReadItem). (item.key, ReleaseRead txn.stamp)) (λ item. inl refl) txn.reads act r
  | inr w ↦ of_items (Releases txn.stamp) (λ (item : WriteItem). (item.key, ReleaseWrite txn.stamp)) (λ item. inr refl) txn.writes act w
]

pub commits_shape : (txn : Transaction) (act : KeyAct) → Among act (commits_of txn) → CommitsFor txn.stamp act.1
commits_shape txn act a = elim (Among-append act (map (λ item. (item.key, CommitRead txn.stamp)) txn.reads) (map (λ item. (item.key, CommitWrite txn.stamp item.value)) txn.writes) a) [
  | inl r ↦ of_items (CommitsFor txn.stamp) (λ (item : ReadItem). (item.key, CommitRead txn.stamp)) (λ item. inl refl) txn.reads act r
  | inr w ↦ of_items (CommitsFor txn.stamp) (λ (item : WriteItem). (item.key, CommitWrite txn.stamp item.value)) (λ item. inr (item.value, refl)) txn.writes act w
]

-- ---- an act is of one kind, and has one stamp

pub release_is_no_check : (s t : Stamp) (act : Act) → Releases s act → ChecksFor t act → ⊥
release_is_no_check s t act (inl e) (inl c) = let q = c.1 in cc (e, q)
release_is_no_check s t act (inl e) (inr c) = cc (e, c)
release_is_no_check s t act (inr e) (inl c) = let q = c.1 in cc (e, q)
release_is_no_check s t act (inr e) (inr c) = cc (e, c)

pub release_is_no_commit : (s t : Stamp) (act : Act) → Releases s act → CommitsFor t act → ⊥
release_is_no_commit s t act (inl e) (inl c) = cc (e, c)
release_is_no_commit s t act (inl e) (inr c) = let q = c.1 in cc (e, q)
release_is_no_commit s t act (inr e) (inl c) = cc (e, c)
release_is_no_commit s t act (inr e) (inr c) = let q = c.1 in cc (e, q)

pub commit_is_no_check : (s t : Stamp) (act : Act) → CommitsFor s act → ChecksFor t act → ⊥
commit_is_no_check s t act (inl e) (inl c) = let q = c.1 in cc (e, q)
commit_is_no_check s t act (inl e) (inr c) = cc (e, c)
commit_is_no_check s t act (inr e) (inl c) = let p = e.1 in let q = c.1 in cc (p, q)
commit_is_no_check s t act (inr e) (inr c) = let p = e.1 in cc (p, c)

pub read_is_none : (act : Act) → act ≡ Get → (((s : Stamp) → Releases s act → ⊥) × ((s : Stamp) → ChecksFor s act → ⊥)) × ((s : Stamp) → CommitsFor s act → ⊥)
read_is_none act g = ((λ s r. rel s r, λ s c. chk s c), λ s c. commits s c)
  where
    rel : (s : Stamp) → Releases s act → ⊥
    rel s (inl e) = cc (g, e)
    rel s (inr e) = cc (g, e)

    chk : (s : Stamp) → ChecksFor s act → ⊥
    chk s (inl e) = let q = e.1 in cc (g, q)
    chk s (inr e) = cc (g, e)

    commits : (s : Stamp) → CommitsFor s act → ⊥
    commits s (inl e) = cc (g, e)
    commits s (inr e) = let q = e.1 in cc (g, q)

pub same_release : (s t : Stamp) (act : Act) → Releases s act → Releases t act → s ≡ t
same_release s t act (inl e) (inl f) = let k : ReleaseRead s ≡ ReleaseRead t = sym e ∙ f in cc k
same_release s t act (inl e) (inr f) = absurd (cc (e, f))
same_release s t act (inr e) (inl f) = absurd (cc (e, f))
same_release s t act (inr e) (inr f) = let k : ReleaseWrite s ≡ ReleaseWrite t = sym e ∙ f in cc k

pub same_commit : (s t : Stamp) (act : Act) → CommitsFor s act → CommitsFor t act → s ≡ t
same_commit s t act (inl e) (inl f) = let k : CommitRead s ≡ CommitRead t = sym e ∙ f in cc k
same_commit s t act (inl e) (inr f) = absurd (let q = f.1 in cc (e, q))
same_commit s t act (inr e) (inl f) = absurd (let p = e.1 in cc (p, f))
same_commit s t act (inr e) (inr f) = let k : CommitWrite s e.0 ≡ CommitWrite t f.0 = sym e.1 ∙ f.1 in cc k

pub same_check : (s t : Stamp) (act : Act) → ChecksFor s act → ChecksFor t act → s ≡ t
same_check s t act (inl e) (inl f) = let k : CheckRead s e.0 ≡ CheckRead t f.0 = sym e.1 ∙ f.1 in cc k
same_check s t act (inl e) (inr f) = absurd (let p = e.1 in cc (p, f))
same_check s t act (inr e) (inl f) = absurd (let q = f.1 in cc (e, q))
same_check s t act (inr e) (inr f) = let k : CheckWrite s ≡ CheckWrite t = sym e ∙ f in cc k

-- ---- the laws

-- two entries with one stamp at one replica are one
pub one_entry : (taught : Taught) → StaysTaught taught → (m : Moment) → IsReached taught m → (r : ℕ) (id other : TxnId) (e f : PastEntry) → m.past.entries r id ≡ Some e → m.past.entries r other ≡ Some f →
    e.txn.stamp ≡ f.txn.stamp → (id ≡ other) × (e ≡ f)
one_entry taught stays m reached r id other e f p q same =
    let h = reached_facts taught stays m reached in
    let x = h.entries r id e p in
    let y = h.entries r other f q in
    let names = stamps_name taught stays m reached id other x.attempt y.attempt e.txn f.txn x.found y.found x.stamped y.stamped same in
    (names, same_Some e f (sym p ∙ (λ i. m.past.entries r (names i)) ∙ q))

pub stamp_released : StampReleased
stamp_released taught stays m reached act id entry voted a found vote rel = by (acts_have_origin taught stays m reached act a).1
  where
    by : ActOrigin m act → (cause : Cause) × ((i : ℕ) × ((entry.last ≡ Some (Abort cause, i)) × (i ≤ act.round)))
    by (OfRead g) = absurd ((read_is_none act.act g).0.0 entry.txn.stamp rel)
    by (OfCheck x e there at served among) = absurd (release_is_no_check entry.txn.stamp e.txn.stamp act.act rel (checks_shape e.txn (act.key, act.act) among))
    by (OfCommit x e i there at served among last early) = absurd (release_is_no_commit entry.txn.stamp e.txn.stamp act.act rel (commits_shape e.txn (act.key, act.act) among))
    by (OfRelease x e there at served among reason) =
        let same = same_release e.txn.stamp entry.txn.stamp act.act (releases_shape e.txn (act.key, act.act) among) rel in
        let one = one_entry taught stays m reached act.replica x id e entry there found same in
        let here : ReleaseReason m act.replica id entry act.round =
        subst (λ (y : TxnId). ReleaseReason m act.replica y entry act.round) one.0 (subst (λ (y : PastEntry). ReleaseReason m act.replica x y act.round) one.1 reason) in
        releases_of_ok taught stays m reached act.replica id entry voted act.round found vote here

pub commits_of_final : CommitsOfFinal
commits_of_final taught stays m reached act stamp a commits = by (acts_have_origin taught stays m reached act a).1
  where
    by : ActOrigin m act → CommittedBy m act stamp
    by (OfRead g) = absurd ((read_is_none act.act g).1 stamp commits)
    by (OfCheck x e there at served among) = absurd (commit_is_no_check stamp e.txn.stamp act.act commits (checks_shape e.txn (act.key, act.act) among))
    by (OfRelease x e there at served among reason) = absurd (release_is_no_commit e.txn.stamp stamp act.act (releases_shape e.txn (act.key, act.act) among) commits)
    by (OfCommit x e i there at served among last early) =
        record {
          id = x;
          entry = e;
          there = there;
          same_stamp = same_commit e.txn.stamp stamp act.act (commits_shape e.txn (act.key, act.act) among) commits;
          in_epoch = at;
          served = served;
          since = i;
          last = last;
          early = early;
          written = among;
        }

pub checks_of_stamp : ChecksOfStamp
checks_of_stamp taught stays m reached act stamp a chk = by (acts_have_origin taught stays m reached act a).1
  where
    by : ActOrigin m act → CheckedBy m act stamp
    by (OfRead g) = absurd ((read_is_none act.act g).0.1 stamp chk)
    by (OfCommit x e i there at served among last early) = absurd (commit_is_no_check e.txn.stamp stamp act.act (commits_shape e.txn (act.key, act.act) among) chk)
    by (OfRelease x e there at served among reason) = absurd (release_is_no_check e.txn.stamp stamp act.act (releases_shape e.txn (act.key, act.act) among) chk)
    by (OfCheck x e there at served among) =
        record {
          id = x;
          entry = e;
          there = there;
          same_stamp = same_check e.txn.stamp stamp act.act (checks_shape e.txn (act.key, act.act) among) chk;
          in_epoch = at;
          served = served;
          checked = among;
        }
