-- What an older attempt of a client has done: its transaction is committed at the keys of every replica.
use Rattle.std.proofs.Common.{◌≡◌, ◌⊎◌, ◌<◌, ◌≤◌, ◌∙◌, ℕ, Bool, true, false, refl, arith, inl, inr, sym, ap, subst, List, [], ◌∷◌, ◌++◌, map, Some, cond, ◌&&◌, ◌==◌}
use Rattle.std.proofs.lemmas.Option.{same_Some}
use Rattle.std.proofs.lemmas.Bool.{eq-eqb}
use Rattle.std.proofs.lemmas.List.{map-append}
use Rattle.mk_lists.specs.Among.{Among, Among-append, Among-append_left, Among-append_right}
use Rattle.mk_lists.proofs.Members.{Among-map, Among-from_map}
use Rattle.mk_txn.specs.declared.TxnId.{TxnId}
use Rattle.mk_txn.specs.declared.ReadItem.{ReadItem}
use Rattle.mk_txn.specs.declared.WriteItem.{WriteItem}
use Rattle.mk_txn.specs.declared.Stamp.{Stamp}
use Rattle.mk_txn.specs.declared.Value.{Value}
use Rattle.mk_txn.specs.declared.Reason.{Reason}
use Rattle.mk_txn.specs.Stamps.{is_before}
use Rattle.mk_txn.specs.Transactions.{Transaction, read_keys, write_keys}
use Rattle.mk_words.specs.declared.Act.{Act}
use Rattle.mk_words.specs.declared.Act.TheVariants.{Get, CheckRead, CheckWrite, CommitRead, CommitWrite, ReleaseRead, ReleaseWrite}
use Rattle.mk_words.specs.declared.Answer.{Answer}
use Rattle.mk_words.specs.declared.Answer.TheVariants.{Refused}
use Rattle.mk_words.specs.Acts.{answer_fits}
use Rattle.mk_words.specs.Checks.{KeyAct, checks, commits_of, releases_of}
use Rattle.mk_quorum.specs.Sizes.{members}
use Rattle.mk_words.specs.declared.KeyCall.{KeyCall}
use Rattle.mk_words.specs.declared.Step.{Step}
use Rattle.mk_words.specs.declared.Step.TheVariants.{Key}
use Rattle.mk_model.specs.ColumnState.{AttemptState, attempt_of}
use Rattle.mk_column_laws.specs.Moments.{Moment, act_of, step_done}
use Rattle.mk_column_laws.specs.Facts.{Grows}
use Rattle.mk_column_laws.specs.Identity.{Identity, attempt_in}
use Rattle.mk_column_laws.specs.KeyActs.{WasDone, act_at}
use Rattle.mk_column_laws.specs.ActLaws.{ChecksFor}
use Rattle.mk_history.specs.Matching.{Turn, turns_in_log}
use Rattle.mk_run_laws.proofs.Turns.{turn}
use Rattle.mk_quiet_laws.specs.Sequence.{Touches}
use Rattle.mk_quiet_laws.proofs.Refusing.{entry_of_turn, own_entries}
use Rattle.mk_quiet_laws.proofs.TurnsDone.{turns_append}

-- its commits were done at every replica
pub record IsAllDone (m : Moment) (y : TxnId) : Type 0 where
  pub attempt : AttemptState
  pub txn : Transaction
  pub found : attempt_of m.column y ≡ Some attempt
  pub stamped : attempt.txn ≡ Some txn
  pub done : (r : ℕ) → r < members m.round.faults → (act : KeyAct) → Among act (commits_of txn) → (round : ℕ) × ((answer : Answer) × WasDone m round r 0 act answer)

-- every attempt before another of its client is done
abbrev pub Earlier : Moment → Type 0
Earlier m = (x y : TxnId) (a b : AttemptState) → attempt_of m.column x ≡ Some a → attempt_of m.column y ≡ Some b → x.client ≡ y.client → y.seq < x.seq → IsAllDone m y

-- what was read is not below what an older attempt wrote
abbrev pub Fresh : Moment → Type 0
Fresh m =
    (x y : TxnId) (a : AttemptState) → attempt_of m.column x ≡ Some a → (d : IsAllDone m y) → x.client ≡ y.client → y.seq < x.seq → (item : ReadItem) → Among item a.reads →
    Among item.key (write_keys (d.txn).writes) → is_before item.version (d.txn).stamp ≡ false

-- ---- growing

pub done_stays : (m : Moment) (step : Step) → Grows m (step_done step m) → (y : TxnId) → IsAllDone m y → IsAllDone (step_done step m) y
done_stays m step g y d =
    let b = g.attempts y d.attempt d.found in
    record {
      attempt = b.0;
      txn = d.txn;
      found = b.1;
      stamped = b.2.txn d.txn d.stamped;
      done = λ r lt act among.
          let k = d.done r lt act among in
          (k.0, (k.1.0, Among-append_left (act_at k.0 r 0 act k.1.0) m.past.acts (act_of m.round m.past.now step) k.1.1));
    }

pub same_done : (m : Moment) (step : Step) → Grows m (step_done step m) → (y : TxnId) → (d : IsAllDone m y) (e : IsAllDone (step_done step m) y) → d.txn ≡ e.txn
same_done m step g y d e =
    let b = g.attempts y d.attempt d.found in
    let same : b.0 ≡ e.attempt = same_Some b.0 e.attempt (sym b.1 ∙ e.found) in
    same_Some d.txn e.txn (sym (b.2.txn d.txn d.stamped) ∙ ap (λ (a : AttemptState). a.txn) same ∙ e.stamped)

-- an older attempt of the client is there
pub older_there : (m : Moment) → Identity m.column.clients m.column.attempts → (x y : TxnId) (a : AttemptState) → attempt_of m.column x ≡ Some a → x.client ≡ y.client → 1 ≤ y.seq → y.seq < x.seq →
    (b : AttemptState) × (attempt_of m.column y ≡ Some b)
older_there m ids x y a found same low below =
    let k = ids.attempts x a found in
    let begun = k.begun in
    let b = ids.all_there x.client y.seq k.client k.found low (omega (arith, begun, below)) in
    let back = sym same in
    (b.0, ap (attempt_in m.column.attempts) (λ i. record { client = back i; seq = y.seq }) ∙ b.1)

-- ---- acts of a transaction

-- an act of either kind is of an item
acts_touch : (f : ReadItem → KeyAct) (g : WriteItem → KeyAct) → ((i : ReadItem) → (f i).0 ≡ i.key) → ((i : WriteItem) → (g i).0 ≡ i.key) → (txn : Transaction) (act : KeyAct) →
    Among act (map f txn.reads ++ map g txn.writes) → Touches txn act.0
acts_touch f g p q txn act a = elim (Among-append act (map f txn.reads) (map g txn.writes) a) [
  | inl r ↦ (let k = Among-from_map f act txn.reads r in
      inl (subst (λ (key : ℕ). Among key (read_keys txn.reads)) (sym (p k.0) ∙ ap (λ (x : KeyAct). x.0) k.2) (Among-map (λ (i : ReadItem). i.key) k.0 txn.reads k.1)))
  | inr w ↦ (let k = Among-from_map g act txn.writes w in
      inr (subst (λ (key : ℕ). Among key (write_keys txn.writes)) (sym (q k.0) ∙ ap (λ (x : KeyAct). x.0) k.2) (Among-map (λ (i : WriteItem). i.key) k.0 txn.writes k.1)))
]

pub checks_touch : (txn : Transaction) (act : KeyAct) → Among act (checks txn) → Touches txn act.0
checks_touch txn act a = acts_touch (λ i. (i.key, CheckRead txn.stamp i.version)) (λ i. (i.key, CheckWrite txn.stamp)) (λ i. refl) (λ i. refl) txn act a

pub commits_touch : (txn : Transaction) (act : KeyAct) → Among act (commits_of txn) → Touches txn act.0
commits_touch txn act a = acts_touch (λ i. (i.key, CommitRead txn.stamp)) (λ i. (i.key, CommitWrite txn.stamp i.value)) (λ i. refl) (λ i. refl) txn act a

pub releases_touch : (txn : Transaction) (act : KeyAct) → Among act (releases_of txn) → Touches txn act.0
releases_touch txn act a = acts_touch (λ i. (i.key, ReleaseRead txn.stamp)) (λ i. (i.key, ReleaseWrite txn.stamp)) (λ i. refl) (λ i. refl) txn act a

-- a write that is checked, or committed
pub checked_write : (txn : Transaction) (key : ℕ) (s : Stamp) → Among (key, CheckWrite s) (checks txn) → (w : WriteItem) × Among w txn.writes × (w.key ≡ key)
checked_write txn key s a =
    elim (Among-append (key, CheckWrite s) (map (λ (i : ReadItem). (i.key, CheckRead txn.stamp i.version)) txn.reads) (map (λ (i : WriteItem). (i.key, CheckWrite txn.stamp)) txn.writes) a) [
      | inl r ↦ absurd (let f = Among-from_map (λ (i : ReadItem). (i.key, CheckRead txn.stamp i.version)) (key, CheckWrite s) txn.reads r in no (f.0).version (ap (λ (x : KeyAct). x.1) f.2))
      | inr w ↦ (let f = Among-from_map (λ (i : WriteItem). (i.key, CheckWrite txn.stamp)) (key, CheckWrite s) txn.writes w in (f.0, f.1, ap (λ (x : KeyAct). x.0) f.2))
    ]
  where
    no : (version : Stamp) → CheckRead txn.stamp version ≡ CheckWrite s → ⊥
    no version e = cc e

pub committed_write : (txn : Transaction) (key : ℕ) (s : Stamp) (value : Value) → Among (key, CommitWrite s value) (commits_of txn) → (w : WriteItem) × Among w txn.writes × (w.key ≡ key)
committed_write txn key s value a =
    elim (Among-append (key, CommitWrite s value) (map (λ (i : ReadItem). (i.key, CommitRead txn.stamp)) txn.reads) (map (λ (i : WriteItem). (i.key, CommitWrite txn.stamp i.value)) txn.writes) a) [
      | inl r ↦ absurd (let f = Among-from_map (λ (i : ReadItem). (i.key, CommitRead txn.stamp)) (key, CommitWrite s value) txn.reads r in no (ap (λ (x : KeyAct). x.1) f.2))
      | inr w ↦ (let f = Among-from_map (λ (i : WriteItem). (i.key, CommitWrite txn.stamp i.value)) (key, CommitWrite s value) txn.writes w in (f.0, f.1, ap (λ (x : KeyAct). x.0) f.2))
    ]
  where
    no : CommitRead txn.stamp ≡ CommitWrite s value → ⊥
    no e = cc e

-- a read that is checked, with its version
pub checked_read : (txn : Transaction) (key : ℕ) (s version : Stamp) → Among (key, CheckRead s version) (checks txn) → (i : ReadItem) × Among i txn.reads × (i.key ≡ key) × (i.version ≡ version)
checked_read txn key s version a =
    elim (Among-append (key, CheckRead s version) (map (λ (i : ReadItem). (i.key, CheckRead txn.stamp i.version)) txn.reads) (map (λ (i : WriteItem). (i.key, CheckWrite txn.stamp)) txn.writes) a) [
      | inl r ↦ (let f = Among-from_map (λ (i : ReadItem). (i.key, CheckRead txn.stamp i.version)) (key, CheckRead s version) txn.reads r in
          (f.0, f.1, ap (λ (x : KeyAct). x.0) f.2, same (f.0).version (ap (λ (x : KeyAct). x.1) f.2)))
      | inr w ↦ absurd (let f = Among-from_map (λ (i : WriteItem). (i.key, CheckWrite txn.stamp)) (key, CheckRead s version) txn.writes w in no (ap (λ (x : KeyAct). x.1) f.2))
    ]
  where
    no : CheckWrite txn.stamp ≡ CheckRead s version → ⊥
    no e = cc e

    same : (v : Stamp) → CheckRead txn.stamp v ≡ CheckRead s version → v ≡ version
    same v e = cc e

-- what a transaction commits of a key that it touches
pub some_commit : (txn : Transaction) (key : ℕ) → Touches txn key → (act : Act) × Among (key, act) (commits_of txn) × ((act ≡ CommitRead txn.stamp) ⊎ ((value : Value) × (act ≡ CommitWrite txn.stamp value)))
some_commit txn key (inl r) =
    let f = Among-from_map (λ (i : ReadItem). i.key) key txn.reads r in
    (CommitRead txn.stamp, subst (λ (k : ℕ). Among (k, CommitRead txn.stamp) (commits_of txn)) f.2 (Among-append_left ((f.0).key, CommitRead txn.stamp) (map (λ (i : ReadItem). (i.key, CommitRead txn.stamp)) txn.reads) (map (λ (i : WriteItem). (i.key, CommitWrite txn.stamp i.value)) txn.writes) (Among-map (λ (i : ReadItem). (i.key, CommitRead txn.stamp)) f.0 txn.reads f.1)), inl refl)
some_commit txn key (inr w) =
    let f = Among-from_map (λ (i : WriteItem). i.key) key txn.writes w in
    (CommitWrite txn.stamp (f.0).value, subst (λ (k : ℕ). Among (k, CommitWrite txn.stamp (f.0).value) (commits_of txn)) f.2 (write_committed txn f.0 f.1), inr ((f.0).value, refl))
  where
    write_committed : (t : Transaction) (item : WriteItem) → Among item t.writes → Among (item.key, CommitWrite t.stamp item.value) (commits_of t)
    write_committed t item a = Among-append_right (item.key, CommitWrite t.stamp item.value) (map (λ (i : ReadItem). (i.key, CommitRead t.stamp)) t.reads) (map (λ (i : WriteItem). (i.key, CommitWrite t.stamp i.value)) t.writes) (Among-map (λ (i : WriteItem). (i.key, CommitWrite t.stamp i.value)) item t.writes a)

pub writes_commit : (t : Transaction) (item : WriteItem) → Among item t.writes → Among (item.key, CommitWrite t.stamp item.value) (commits_of t)
writes_commit t item a =
    Among-append_right (item.key, CommitWrite t.stamp item.value) (map (λ (i : ReadItem). (i.key, CommitRead t.stamp)) t.reads) (map (λ (i : WriteItem). (i.key, CommitWrite t.stamp i.value)) t.writes)
    (Among-map (λ (i : WriteItem). (i.key, CommitWrite t.stamp i.value)) item t.writes a)

-- only a check is refused
pub only_checks : (act : Act) (reason : Reason) (stamp : Stamp) → answer_fits act (Refused reason stamp) ≡ true → (ts : Stamp) × ChecksFor ts act
only_checks (CheckRead ts version) reason stamp e = (ts, inl (version, refl))
only_checks (CheckWrite ts) reason stamp e = (ts, inr refl)
only_checks Get reason stamp e = absurd (cc e)
only_checks (CommitRead ts) reason stamp e = absurd (cc e)
only_checks (CommitWrite ts value) reason stamp e = absurd (cc e)
only_checks (ReleaseRead ts) reason stamp e = absurd (cc e)
only_checks (ReleaseWrite ts) reason stamp e = absurd (cc e)

-- ---- turns

pub split_turn : (t : Turn) (xs : List Turn) → Among t xs → (before : List Turn) × ((middle : List Turn) × (xs ≡ before ++ t ∷ middle))
split_turn t [] a = absurd a
split_turn t (x ∷ xs) (inl same) = ([], (xs, ap (λ (y : Turn). y ∷ xs) same))
split_turn t (x ∷ xs) (inr a) = let s = split_turn t xs a in (x ∷ s.0, (s.1.0, ap (λ (ys : List Turn). x ∷ ys) s.1.1))

-- a log whose next step is a key call at this key
pub turns_at : (call : KeyCall) (answer : Answer) (log rest : List Step) → turns_in_log call.replica call.key (log ++ Key call answer ∷ rest) ≡
    turns_in_log call.replica call.key log ++ turn call answer ∷ turns_in_log call.replica call.key rest
turns_at call answer log rest =
    turns_append call.replica call.key log (Key call answer ∷ rest)
    ∙ ap (λ (b : Bool). turns_in_log call.replica call.key log ++ cond b (turn call answer ∷ turns_in_log call.replica call.key rest) (turns_in_log call.replica call.key rest)) here
  where
    here : (call.replica == call.replica && call.key == call.key) ≡ true
    here = let p = eq-eqb call.replica call.replica refl in let q = eq-eqb call.key call.key refl in grind (arith, p, q)

pub entries_at : (c : ℕ) (before : List Turn) (t : Turn) (rest : List Turn) → own_entries c (before ++ t ∷ rest) ≡ own_entries c before ++ entry_of_turn c t ∷ own_entries c rest
entries_at c before t rest = map-append (entry_of_turn c) before (t ∷ rest)
