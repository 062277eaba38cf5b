-- A refused check names the stamp of another attempt: one whose check or commit stands before it in the tenure, or a commit
-- of the base that the tenure opens with.
use Rattle.std.proofs.Common.{◌≡◌, ◌<◌, ℕ, true, false, refl, arith, inl, inr, sym, ap, ◌∙◌, List, [], ◌∷◌, ◌++◌, Some, subst, length}
use Rattle.std.proofs.lemmas.Bool.Decides.{nat_tests}
use Rattle.std.proofs.lemmas.Option.{same_Some}
use Rattle.std.proofs.lemmas.List.{append-nil}
use Rattle.mk_lists.specs.Among.{Among, Among-append_left, Among-append_right}
use Rattle.mk_lists.proofs.Members.{Among-from_map}
use Rattle.mk_run_laws.proofs.Clashing.{split_at}
use Rattle.mk_run_laws.proofs.LastMoments.{last_is_moment}
use Rattle.mk_txn.specs.declared.Reason.{Reason}
use Rattle.mk_txn.specs.declared.Reason.TheVariants.{ReadStale, ReadPending, WriteLate, WritePending}
use Rattle.mk_txn.specs.declared.Stamp.{Stamp}
use Rattle.mk_txn.specs.declared.TxnId.{TxnId}
use Rattle.mk_txn.specs.LatestWrites.{VersionedValue}
use Rattle.mk_txn.specs.Stamps.{is_before, zero_stamp}
use Rattle.mk_txn.specs.Transactions.{Transaction}
use Rattle.mk_txn.proofs.StampOrder.{is_before-itself, same_stamp-itself}
use Rattle.mk_words.specs.declared.Act.{Act}
use Rattle.mk_words.specs.declared.Act.TheVariants.{CheckRead, CheckWrite, CommitRead, CommitWrite}
use Rattle.mk_words.specs.declared.Answer.TheVariants.{Refused}
use Rattle.mk_words.specs.declared.JournalEntry.{JournalEntry}
use Rattle.mk_words.specs.Acts.{is_check_of}
use Rattle.mk_words.specs.Cells.{CellState, cell_answer}
use Rattle.mk_words.specs.Journals.{cell_through, EachAnswered}
use Rattle.mk_quorum.specs.Sizes.{members}
use Rattle.mk_words.specs.Checks.{checks, commits_of}
use Rattle.mk_basic_laws.specs.CellMemory.{Done, Provenance, ReadRefusal, WriteRefusal}
use Rattle.mk_words.specs.Bases.{BaseState, commits_in}
use Rattle.mk_words.specs.Rebuilding.{rebuilt}
use Rattle.mk_model.specs.ColumnState.{AttemptState, attempt_of}
use Rattle.mk_column_laws.specs.Moments.{PastAct}
use Rattle.mk_column_laws.specs.ActLaws.{ChecksFor, CommitsFor, NoCheckFollows}
use Rattle.mk_model.specs.EpochState.{base_for}
use Rattle.mk_history.specs.declared.RoundLog.{RoundLog}
use Rattle.mk_history.specs.Histories.{History}
use Rattle.mk_history.specs.Shape.{HasShape}
use Rattle.mk_history.specs.Legality.{IsLegal}
use Rattle.mk_history.specs.Naming.{touches, IsRefusalOf}
use Rattle.mk_history.specs.Wholes.{last_state}
use Rattle.mk_run_laws.specs.TaughtIn.{taught_in}
use Rattle.mk_run_laws.specs.Ends.{last_moment}
use Rattle.mk_run_laws.specs.Lifts.{IsOfJournal}
use Rattle.mk_run_laws.specs.Tenures.{DatedEntry, entries_in, tenure_of, act_in, acts_in}
use Rattle.mk_run_laws.proofs.Tenured.{entries_in-append}
use Rattle.mk_cause_laws.specs.Owners.{RefusalsHaveOwners}
use Rattle.mk_cause_laws.proofs.Lower.{Lower}
use Rattle.mk_cause_laws.proofs.Owned.{IsOf, stands_in_run, one_attempt, writes-item, check_reads, check_writes, commit_reads, commit_writes}
use Rattle.mk_cause_laws.proofs.Tenured.{no_check_within, no_check_after, answer_there, commit_listed, base_of_tenure, owned_by_base}

-- another attempt has the stamp, and touches the key
record IsOwner (run : History) (txn : Transaction) (key : ℕ) (reason : Reason) (stamp : Stamp) : Type 0 where
  pub other : Transaction
  pub owned : IsOf run other
  pub other_stamp : other.stamp ≡ stamp
  pub is_other : ¬ (other.id ≡ txn.id)
  pub touches_key : touches reason key other ≡ true

apart-below : (s t : Stamp) → is_before s t ≡ true → s ≡ t → ⊥
apart-below s t h same = absurd (cc (sym (is_before-itself t) ∙ ap (λ (x : Stamp). is_before x t) (sym same) ∙ h))

none_below_zero : (s t : Stamp) → t ≡ zero_stamp → is_before s t ≡ true → ⊥
none_below_zero s t same h = absurd (cc (sym (none s) ∙ ap (is_before s) (sym same) ∙ h))
  where
    none : (x : Stamp) → is_before x zero_stamp ≡ false
    none x = grind (arith, nat_tests)

is_check : (s : Stamp) (act : Act) → ChecksFor s act → is_check_of s act ≡ true
is_check s act (inl read) = ap (is_check_of s) read.1 ∙ same_stamp-itself s
is_check s act (inr write) = ap (is_check_of s) write ∙ same_stamp-itself s

in_rounds : (round : RoundLog) (done rest rounds : List RoundLog) → rounds ≡ done ++ round ∷ rest → Among round rounds
in_rounds round done rest rounds split = subst (Among round) {x = done ++ round ∷ rest} (sym split) (Among-append_right round done (round ∷ rest) (inl refl))

module _ (laws : Lower) (run : History) (shape : HasShape run) (legal : IsLegal run) (r epoch key : ℕ) (rlt : r < members run.faults) (klt : key < length run.key_names) where
  abbrev tenure : List DatedEntry
  tenure = tenure_of run run.rounds r epoch key

  -- who checked for a stamp in the tenure
  checker : (d : DatedEntry) → Among d tenure → (s : Stamp) → ChecksFor s d.entry.act →
      (t : Transaction) × IsOf run t × (t.stamp ≡ s) × Among (key, d.entry.act) (checks t)
  checker d m s chk =
      let c = d.entry.seat in
      let n = last_moment run c in
      let k = last_is_moment laws.moments run c in
      let seat = laws.seats run shape run.rounds [] (sym (append-nil run.rounds)) r epoch key d m in
      let there = (laws.matches run run.rounds legal c r epoch key seat rlt klt).entry_done d m refl in
      let h = laws.checks (taught_in run) (laws.teaching run) n (laws.reach run legal c seat n k) (act_in r epoch key d) s there chk in
      let f = (laws.facts run legal c seat n k).entries r h.id h.entry h.there in
      let own : IsOf run (h.entry).txn = record { column = c; in_run = seat; id = h.id; attempt = f.attempt; found = f.found; stamped = f.stamped } in
      ((h.entry).txn, own, h.same_stamp, h.checked)

  -- and who committed a stamp there
  committer : (d : DatedEntry) → Among d tenure → (s : Stamp) → CommitsFor s d.entry.act →
      (t : Transaction) × ((o : IsOf run t) × (t.stamp ≡ s) × Among (key, d.entry.act) (commits_of t) × (o.column ≡ d.entry.seat))
  committer d m s commit =
      let c = d.entry.seat in
      let n = last_moment run c in
      let k = last_is_moment laws.moments run c in
      let seat = laws.seats run shape run.rounds [] (sym (append-nil run.rounds)) r epoch key d m in
      let there = (laws.matches run run.rounds legal c r epoch key seat rlt klt).entry_done d m refl in
      let h = laws.commits (taught_in run) (laws.teaching run) n (laws.reach run legal c seat n k) (act_in r epoch key d) s there commit in
      let f = (laws.facts run legal c seat n k).entries r h.id h.entry h.there in
      let own : IsOf run (h.entry).txn = record { column = c; in_run = seat; id = h.id; attempt = f.attempt; found = f.found; stamped = f.stamped } in
      ((h.entry).txn, (own, h.same_stamp, h.written, refl))

  module _ (c : ℕ) (lt : c < run.columns) (id : TxnId) (a : AttemptState) (txn : Transaction) (found : attempt_of (last_moment run c).column id ≡ Some a) (stamped : a.txn ≡ Some txn)
      (in_epoch : a.epoch ≡ epoch) (base : BaseState) (made : base_for epoch (last_state run).epochs ≡ Some base)
      (d : DatedEntry) (before rest : List DatedEntry) (whole : tenure ≡ before ++ d ∷ rest) (seat : d.entry.seat ≡ c) where
    abbrev own : IsOf run txn
    own = record { column = c; in_run = lt; id = id; attempt = a; found = found; stamped = stamped }

    abbrev opening : CellState
    opening = rebuilt base key

    abbrev cell : CellState
    cell = cell_through opening (entries_in before)

    answered : EachAnswered opening (entries_in before ++ d.entry ∷ entries_in rest)
    answered =
        subst (EachAnswered opening) (ap entries_in whole ∙ entries_in-append before (d ∷ rest)) (laws.replay run run.rounds legal r epoch key rlt klt base made).answered

    comes_from : Provenance opening (entries_in before)
    comes_from = laws.provenance opening (entries_in before) (d.entry ∷ entries_in rest) answered

    stood : (act : Act) → Done act (entries_in before) → (x : DatedEntry) × Among x before × Among x tenure × (x.entry.act ≡ act)
    stood act (entry, m, same) =
        let f = Among-from_map (λ (x : DatedEntry). x.entry) entry before m in
        (f.0, f.1, subst (Among f.0) (sym whole) (Among-append_left f.0 before (d ∷ rest) f.1), ap (λ (e : JournalEntry). e.act) f.2 ∙ same)

    other_than : (other : Transaction) → IsOf run other → (other.stamp ≡ txn.stamp → ⊥) → other.id ≡ txn.id → ⊥
    other_than other o apart same = apart (ap (λ (t : Transaction). t.stamp) (one_attempt laws run legal other txn o own same).2)

    -- a check that stands before
    by_check : (reason : Reason) (stamp : Stamp) (x : DatedEntry) → Among x tenure → ChecksFor stamp x.entry.act → (stamp ≡ txn.stamp → ⊥) →
        ((t : Transaction) → Among (key, x.entry.act) (checks t) → touches reason key t ≡ true) → IsOwner run txn key reason stamp
    by_check reason stamp x m chk apart touch =
        let o = checker x m stamp chk in
        record {
          other = o.0;
          owned = o.1;
          other_stamp = o.2;
          is_other = other_than o.0 o.1 (λ same. apart (sym o.2 ∙ same));
          touches_key = touch o.0 o.3;
        }

    -- a commit of the base, which is of an attempt of an epoch below
    by_base : (reason : Reason) (stamp : Stamp) (t : Transaction) → Among t (commits_in base.list) → t.stamp ≡ stamp → touches reason key t ≡ true → IsOwner run txn key reason stamp
    by_base reason stamp t m same touch =
        let f = commit_listed base.list t m in
        let o = owned_by_base laws run legal epoch base made f.0 f.1 in
        record {
          other = (f.0).txn;
          owned = o.0;
          other_stamp = ap (λ (y : Transaction). y.stamp) f.2 ∙ same;
          is_other = λ is. below o.0 o.1 (ap (λ (y : AttemptState). y.epoch) (one_attempt laws run legal (f.0).txn txn o.0 own is).1);
          touches_key = subst (λ (y : Transaction). touches reason key y ≡ true) (sym f.2) touch;
        }
      where
        below : {t : Transaction} → (o : IsOf run t) → o.attempt.epoch < epoch → o.attempt.epoch ≡ a.epoch → ⊥
        below o low is = absurd (omega (arith, low, is, in_epoch))

    -- a commit before the check is of another stamp
    not_own_commit : (x : DatedEntry) → Among x before → x.entry.seat ≡ c → (s : Stamp) → CommitsFor s x.entry.act → ChecksFor s d.entry.act → ⊥
    not_own_commit x m own_seat s commit chk =
        let n = last_moment run c in
        let k = last_is_moment laws.moments run c in
        let all = laws.no_check (taught_in run) (laws.teaching run) n (laws.reach run legal c lt n k) in
        let within = no_check_within (acts_in c r epoch key tenure) n.past.acts (laws.follow run run.rounds legal c r epoch key lt rlt klt) all in
        no_check_after c r epoch key before rest x d m own_seat seat (subst (λ (ds : List DatedEntry). NoCheckFollows (acts_in c r epoch key ds)) whole within) s refl commit chk

    read_owner : (version : Stamp) → d.entry.act ≡ CheckRead txn.stamp version → (reason : Reason) (stamp : Stamp) → ReadRefusal cell txn.stamp version stamp reason →
        IsOwner run txn key reason stamp
    read_owner version is ReadPending stamp h = elim (comes_from.writer stamp h.0) [
      | inl none ↦ absurd (cc none)
      | inr done ↦
          let x = stood (CheckWrite stamp) (done.0, done.1, done.2) in
          by_check ReadPending stamp x.0 x.2 (inr x.3) (apart-below stamp txn.stamp h.1)
          (λ t m. check_writes t key stamp (subst (λ (act : Act). Among (key, act) (checks t)) x.3 m))
    ]
    read_owner version is ReadStale stamp h = elim comes_from.version [
      | inl old ↦ elim (laws.write_is key (commits_in base.list)) [
        | inl first ↦ absurd (none_below_zero version stamp (h.0 ∙ old.0 ∙ ap (λ (v : VersionedValue). v.version) first) h.1)
        | inr w ↦ by_base ReadStale stamp w.txn w.among (sym (h.0 ∙ old.0 ∙ ap (λ (v : VersionedValue). v.version) w.stands)) (writes-item key w.txn w.item w.writes w.on_key)
      ]
      | inr done ↦
          let x = stood (CommitWrite cell.wts cell.value) done in
          let commit : CommitsFor cell.wts (x.0).entry.act = inr (cell.value, x.3) in
          let o = committer x.0 x.2 cell.wts commit in
          record {
            other = o.0;
            owned = o.1.0;
            other_stamp = o.1.1 ∙ sym h.0;
            is_other = λ same.
                let one = one_attempt laws run legal o.0 txn o.1.0 own same in
                let stamps : txn.stamp ≡ cell.wts = sym (ap (λ (t : Transaction). t.stamp) one.2) ∙ o.1.1 in
                not_own_commit x.0 x.1 (sym o.1.3 ∙ one.0) cell.wts commit (inl (version, is ∙ ap (λ (s : Stamp). CheckRead s version) stamps));
            touches_key = commit_writes o.0 key cell.wts cell.value (subst (λ (act : Act). Among (key, act) (commits_of o.0)) x.3 o.1.2);
          }
    ]
    read_owner version is WriteLate stamp h = absurd h
    read_owner version is WritePending stamp h = absurd h

    write_owner : (reason : Reason) (stamp : Stamp) → WriteRefusal cell txn.stamp stamp reason → IsOwner run txn key reason stamp
    write_owner WritePending stamp h = elim (comes_from.reader stamp h.0) [
      | inl none ↦ absurd (cc none)
      | inr done ↦
          let version = done.0 in
          let x = stood (CheckRead stamp version) (done.1.0, done.1.1, done.1.2) in
          by_check WritePending stamp x.0 x.2 (inl (version, x.3)) (λ same. apart-below txn.stamp stamp h.1 (sym same))
          (λ t m. check_reads t key stamp version (subst (λ (act : Act). Among (key, act) (checks t)) x.3 m))
    ]
    write_owner WriteLate stamp h = elim comes_from.last_read [
      | inl old ↦ elim (laws.read_is key (commits_in base.list)) [
        | inl first ↦ absurd (none_below_zero txn.stamp stamp (h.0 ∙ old ∙ first) h.1)
        | inr w ↦ by_base WriteLate stamp w.txn w.among (sym (h.0 ∙ old ∙ w.stands)) w.reads
      ]
      | inr done ↦
          let x = stood (CommitRead cell.rts) done in
          let o = committer x.0 x.2 cell.rts (inl x.3) in
          record {
            other = o.0;
            owned = o.1.0;
            other_stamp = o.1.1 ∙ sym h.0;
            is_other = other_than o.0 o.1.0 (λ same. apart-below txn.stamp stamp h.1 (sym same ∙ o.1.1 ∙ sym h.0));
            touches_key = commit_reads o.0 key cell.rts (subst (λ (act : Act). Among (key, act) (commits_of o.0)) x.3 o.1.2);
          }
    ]
    write_owner ReadStale stamp h = absurd h
    write_owner ReadPending stamp h = absurd h

    owner : ChecksFor txn.stamp d.entry.act → (reason : Reason) (stamp : Stamp) → d.entry.answer ≡ Refused reason stamp → IsOwner run txn key reason stamp
    owner (inl read) reason stamp is =
        read_owner read.0 read.1 reason stamp
        (laws.reads cell txn.stamp read.0 stamp reason
        (ap (cell_answer cell) (sym read.1) ∙ answer_there opening (entries_in before) d.entry (entries_in rest) answered ∙ is))
    owner (inr write) reason stamp is =
        write_owner reason stamp
        (laws.writes cell txn.stamp stamp reason (ap (cell_answer cell) (sym write) ∙ answer_there opening (entries_in before) d.entry (entries_in rest) answered ∙ is))

    -- so the refusal names what happened
    pub refusal : IsOfJournal run run.rounds r epoch key d → ChecksFor txn.stamp d.entry.act → (reason : Reason) (stamp : Stamp) → d.entry.answer ≡ Refused reason stamp →
        IsRefusalOf run txn (record { key = key; reason = reason; stamp = stamp })
    refusal j chk reason stamp is =
        let o = owner chk reason stamp is in
        record {
          round = j.round;
          in_run = in_rounds j.round j.done j.rest run.rounds j.split;
          replica = r;
          entry = d.entry;
          in_journal = j.entered;
          check = is_check txn.stamp d.entry.act chk;
          refused = is;
          other = o.other;
          other_in_run = stands_in_run laws run legal o.other o.owned;
          other_stamp = o.other_stamp;
          is_other = o.is_other;
          touches_key = o.touches_key;
        }

pub refusals_have_owners : Lower → RefusalsHaveOwners
refusals_have_owners laws run shape legal c lt id a txn found stamped act among chk reason stamp refused =
    let m = last_moment run c in
    let k = last_is_moment laws.moments run c in
    let reached = laws.reach run legal c lt m k in
    let h = laws.checks (taught_in run) (laws.teaching run) m reached act txn.stamp among chk in
    let f = (laws.facts run legal c lt m k).entries act.replica h.id h.entry h.there in
    let names = laws.names (taught_in run) (laws.teaching run) m reached h.id id f.attempt a (h.entry).txn txn f.found found f.stamped stamped h.same_stamp in
    let x = h.in_epoch in
    let in_epoch : a.epoch ≡ act.epoch = ap (λ (y : AttemptState). y.epoch) (same_Some a x.0 (sym found ∙ ap (attempt_of m.column) (sym names) ∙ x.1)) ∙ x.2 in
    let range = laws.ranges run shape c run.rounds [] (sym (append-nil run.rounds)) act among in
    let e = (laws.matches run run.rounds legal c act.replica act.epoch act.key lt range.0 range.1).act_entered act among refl refl refl h.served in
    let d = e.0 in
    let j = laws.journals run run.rounds act.replica act.epoch act.key d e.1 in
    let s = split_at d (tenure_of run run.rounds act.replica act.epoch act.key) e.1 in
    let base = base_of_tenure laws run legal act.replica act.epoch act.key d j in
    let same_act : d.entry.act ≡ act.act = ap (λ (y : PastAct). y.act) e.3 in
    let same_answer : d.entry.answer ≡ act.answer = ap (λ (y : PastAct). y.answer) e.3 in
    refusal laws run shape legal act.replica act.epoch act.key range.0 range.1 c lt id a txn found stamped in_epoch base.0 base.1 d s.0 s.1.0 s.1.1 e.2 j
    (subst (ChecksFor txn.stamp) (sym same_act) chk) reason stamp (same_answer ∙ refused)
