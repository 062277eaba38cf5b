-- The transactions of a run's attempts: where they stand, which are one, and which keys they touch.
use Rattle.std.proofs.Common.{◌≡◌, ◌<◌, ℕ, true, refl, inl, inr, sym, ap, ◌∙◌, List, [], ◌∷◌, Option, Some, None, subst, map}
use Rattle.std.specs.Prelude.{◌==◌}
use Rattle.std.proofs.lemmas.Option.{same_Some}
use Rattle.std.proofs.lemmas.Bool.{eq-eqb}
use Rattle.mk_lists.specs.Among.{Among, Among-append, Among-append_left, Among-append_right}
use Rattle.mk_lists.proofs.Tests.{list_any-from_Among}
use Rattle.mk_lists.proofs.Lookups.{find_tells}
use Rattle.mk_lists.proofs.Members.{Among-from_map, Among-map}
use Rattle.mk_run_laws.proofs.LastMoments.{last_is_moment}
use Rattle.mk_txn.specs.declared.Stamp.{Stamp}
use Rattle.mk_txn.specs.declared.Value.{Value}
use Rattle.mk_txn.specs.declared.TxnId.{TxnId}
use Rattle.mk_txn.specs.declared.ReadItem.{ReadItem}
use Rattle.mk_txn.specs.declared.WriteItem.{WriteItem}
use Rattle.mk_txn.specs.Clashes.{writes_key}
use Rattle.mk_txn.specs.LatestWrites.{reads_key}
use Rattle.mk_txn.specs.Transactions.{Transaction}
use Rattle.mk_words.specs.declared.Act.TheVariants.{CheckRead, CheckWrite, CommitRead, CommitWrite}
use Rattle.mk_words.specs.Checks.{KeyAct, checks, commits_of}
use Rattle.mk_model.specs.ColumnState.{ColumnState, AttemptState, is_attempt, attempt_of}
use Rattle.mk_model.specs.Logs.{not_reading}
use Rattle.mk_history.specs.Histories.{History}
use Rattle.mk_history.specs.Learning.{stamped_in, stamped_by}
use Rattle.mk_history.specs.Legality.{IsLegal}
use Rattle.mk_history.specs.Wholes.{last_state, column_of}
use Rattle.mk_run_laws.specs.Ends.{last_moment, client_column}
use Rattle.mk_cause_laws.proofs.Lower.{Lower}

-- the transaction is an attempt's
pub record IsOf (run : History) (txn : Transaction) : Type 0 where
  pub column : ℕ
  pub in_run : column < run.columns
  pub id : TxnId
  pub attempt : AttemptState
  pub found : attempt_of (last_moment run column).column id ≡ Some attempt
  pub stamped : attempt.txn ≡ Some txn

-- ---- attempts' transactions in lists

stamped-member : (attempts : List AttemptState) (a : AttemptState) (txn : Transaction) → Among a attempts → a.txn ≡ Some txn → Among txn (stamped_in attempts)
stamped-member [] a txn m is = absurd m
stamped-member (x ∷ attempts) a txn (inl same) is =
    let own : x.txn ≡ Some txn = ap (λ (y : AttemptState). y.txn) same ∙ is in
    subst (λ (o : Option Transaction). Among txn (stamped_in (record x { txn = o } ∷ attempts))) (sym own) (inl refl)
stamped-member (x ∷ attempts) a txn (inr m) is = by x.txn (stamped-member attempts a txn m is)
  where
    by : (o : Option Transaction) → Among txn (stamped_in attempts) → Among txn (stamped_in (record x { txn = o } ∷ attempts))
    by (Some other) later = inr later
    by None later = later

stamped_by-member : (columns : List ColumnState) (column : ColumnState) (txn : Transaction) → Among column columns → Among txn (stamped_in column.attempts) → Among txn (stamped_by columns)
stamped_by-member [] column txn m a = absurd m
stamped_by-member (x ∷ columns) column txn (inl same) a =
    Among-append_left txn (stamped_in x.attempts) (stamped_by columns) (subst (λ (y : ColumnState). Among txn (stamped_in y.attempts)) (sym same) a)
stamped_by-member (x ∷ columns) column txn (inr m) a =
    Among-append_right txn (stamped_in x.attempts) (stamped_by columns) (stamped_by-member columns column txn m a)

module _ (laws : Lower) (run : History) (legal : IsLegal run) where
  -- it stands among the run's transactions
  pub stands_in_run : (txn : Transaction) → IsOf run txn → Among txn (stamped_by (last_state run).columns)
  stands_in_run txn o =
      let m = last_moment run o.column in
      let f = find_tells (is_attempt o.id) m.column.attempts o.attempt o.found in
      let there = Among-map not_reading o.attempt m.column.attempts f.0 in
      let ends = laws.ends run o.column o.in_run run.rounds in
      let column = column_of (last_state run) o.column in
      stamped_by-member (last_state run).columns column txn ((laws.columns run run.rounds).there o.column o.in_run)
      (stamped-member column.attempts (not_reading o.attempt) txn (subst (Among (not_reading o.attempt)) (sym ends.attempts) there) o.stamped)

  pub own_id : (txn : Transaction) (o : IsOf run txn) → txn.id ≡ o.id
  own_id txn o = ((laws.facts run legal o.column o.in_run (last_moment run o.column) (last_is_moment laws.moments run o.column)).attempts o.id o.attempt o.found).txn_id txn o.stamped

  -- two with one number are one attempt's
  pub one_attempt : (txn other : Transaction) (o : IsOf run txn) (p : IsOf run other) → txn.id ≡ other.id → (o.column ≡ p.column) × (o.attempt ≡ p.attempt) × (txn ≡ other)
  one_attempt txn other o p same =
      let ids : o.id ≡ p.id = sym (own_id txn o) ∙ same ∙ own_id other p in
      let here = laws.ids run legal o.column o.in_run (last_moment run o.column) (last_is_moment laws.moments run o.column) o.id o.attempt o.found in
      let there = laws.ids run legal p.column p.in_run (last_moment run p.column) (last_is_moment laws.moments run p.column) p.id p.attempt p.found in
      let columns : o.column ≡ p.column = sym here ∙ ap (λ (i : TxnId). client_column run i.client) ids ∙ there in
      let attempts = same_Some o.attempt p.attempt (sym o.found ∙ (λ i. attempt_of (last_moment run (columns i)).column (ids i)) ∙ p.found) in
      (columns, attempts, same_Some txn other (sym o.stamped ∙ ap (λ (a : AttemptState). a.txn) attempts ∙ p.stamped))

-- ---- keys that are touched

pub reads-item : (key : ℕ) (txn : Transaction) (item : ReadItem) → Among item txn.reads → item.key ≡ key → reads_key key txn ≡ true
reads-item key txn item a same = list_any-from_Among (λ (i : ReadItem). i.key == key) txn.reads item a (eq-eqb item.key key same)

pub writes-item : (key : ℕ) (txn : Transaction) (item : WriteItem) → Among item txn.writes → item.key ≡ key → writes_key key txn ≡ true
writes-item key txn item a same = list_any-from_Among (λ (i : WriteItem). i.key == key) txn.writes item a (eq-eqb item.key key same)

pub check_reads : (txn : Transaction) (key : ℕ) (stamp version : Stamp) → Among (key, CheckRead stamp version) (checks txn) → reads_key key txn ≡ true
check_reads txn key stamp version a =
    let read : ReadItem → KeyAct = λ i. (i.key, CheckRead txn.stamp i.version) in
    let write : WriteItem → KeyAct = λ i. (i.key, CheckWrite txn.stamp) in
    elim (Among-append (key, CheckRead stamp version) (map read txn.reads) (map write txn.writes) a) [
      | inl r ↦ (let f = Among-from_map read (key, CheckRead stamp version) txn.reads r in reads-item key txn f.0 f.1 (ap (λ (x : KeyAct). x.0) f.2))
      | inr w ↦ absurd (let f = Among-from_map write (key, CheckRead stamp version) txn.writes w in apart (ap (λ (x : KeyAct). x.1) f.2))
    ]
  where
    apart : CheckWrite txn.stamp ≡ CheckRead stamp version → ⊥
    apart e = cc e

pub check_writes : (txn : Transaction) (key : ℕ) (stamp : Stamp) → Among (key, CheckWrite stamp) (checks txn) → writes_key key txn ≡ true
check_writes txn key stamp a =
    let read : ReadItem → KeyAct = λ i. (i.key, CheckRead txn.stamp i.version) in
    let write : WriteItem → KeyAct = λ i. (i.key, CheckWrite txn.stamp) in
    elim (Among-append (key, CheckWrite stamp) (map read txn.reads) (map write txn.writes) a) [
      | inl r ↦ absurd (let f = Among-from_map read (key, CheckWrite stamp) txn.reads r in apart (f.0).version (ap (λ (x : KeyAct). x.1) f.2))
      | inr w ↦ (let f = Among-from_map write (key, CheckWrite stamp) txn.writes w in writes-item key txn f.0 f.1 (ap (λ (x : KeyAct). x.0) f.2))
    ]
  where
    apart : (version : Stamp) → CheckRead txn.stamp version ≡ CheckWrite stamp → ⊥
    apart version e = cc e

pub commit_reads : (txn : Transaction) (key : ℕ) (stamp : Stamp) → Among (key, CommitRead stamp) (commits_of txn) → reads_key key txn ≡ true
commit_reads txn key stamp a =
    let read : ReadItem → KeyAct = λ i. (i.key, CommitRead txn.stamp) in
    let write : WriteItem → KeyAct = λ i. (i.key, CommitWrite txn.stamp i.value) in
    elim (Among-append (key, CommitRead stamp) (map read txn.reads) (map write txn.writes) a) [
      | inl r ↦ (let f = Among-from_map read (key, CommitRead stamp) txn.reads r in reads-item key txn f.0 f.1 (ap (λ (x : KeyAct). x.0) f.2))
      | inr w ↦ absurd (let f = Among-from_map write (key, CommitRead stamp) txn.writes w in apart (f.0).value (ap (λ (x : KeyAct). x.1) f.2))
    ]
  where
    apart : (value : Value) → CommitWrite txn.stamp value ≡ CommitRead stamp → ⊥
    apart value e = cc e

pub commit_writes : (txn : Transaction) (key : ℕ) (stamp : Stamp) (value : Value) → Among (key, CommitWrite stamp value) (commits_of txn) → writes_key key txn ≡ true
commit_writes txn key stamp value a =
    let read : ReadItem → KeyAct = λ i. (i.key, CommitRead txn.stamp) in
    let write : WriteItem → KeyAct = λ i. (i.key, CommitWrite txn.stamp i.value) in
    elim (Among-append (key, CommitWrite stamp value) (map read txn.reads) (map write txn.writes) a) [
      | inl r ↦ absurd (let f = Among-from_map read (key, CommitWrite stamp value) txn.reads r in apart (ap (λ (x : KeyAct). x.1) f.2))
      | inr w ↦ (let f = Among-from_map write (key, CommitWrite stamp value) txn.writes w in writes-item key txn f.0 f.1 (ap (λ (x : KeyAct). x.0) f.2))
    ]
  where
    apart : CommitRead txn.stamp ≡ CommitWrite stamp value → ⊥
    apart e = cc e
