-- The checks of an Ok vote stand in the tenure of its replica, which replays from the base's cells.
use Rattle.std.proofs.Common.{◌≡◌, ◌<◌, ℕ, true, refl, inl, inr, ap, List, ◌++◌, Some, not}
use Rattle.std.specs.List.{list_all}
use Rattle.std.proofs.lemmas.Bool.{and_from}
use Rattle.mk_lists.specs.Among.{Among}
use Rattle.mk_lists.proofs.Members.{Among-map}
use Rattle.mk_lists.proofs.Tests.{list_all-from_Among}
use Rattle.mk_txn.specs.declared.TxnId.{TxnId}
use Rattle.mk_txn.specs.declared.Stamp.{Stamp}
use Rattle.mk_txn.specs.declared.Vote.TheVariants.{Ok as VoteOk}
use Rattle.mk_txn.specs.declared.ReadItem.{ReadItem}
use Rattle.mk_txn.specs.declared.WriteItem.{WriteItem}
use Rattle.mk_txn.specs.Stamps.{is_before}
use Rattle.mk_words.specs.declared.Act.{Act}
use Rattle.mk_words.specs.declared.Act.TheVariants.{CheckRead, CheckWrite}
use Rattle.mk_words.specs.declared.Answer.TheVariants.{Okay}
use Rattle.mk_words.specs.Journals.{EachAnswered}
use Rattle.mk_words.specs.Checks.{KeyAct, checks}
use Rattle.mk_words.specs.Bases.{BaseState}
use Rattle.mk_words.specs.Rebuilding.{rebuilt, fits_base}
use Rattle.mk_model.specs.EpochState.{base_for}
use Rattle.mk_basic_laws.specs.CellMemory.{DoneWith, ReadFloor, WriteFloor}
use Rattle.mk_column_laws.specs.Moments.{PastAct, PastEntry}
use Rattle.mk_column_laws.specs.KeyActs.{act_at, IsInEpoch, WasDone}
use Rattle.mk_column_laws.specs.ActLaws.{ChecksOfOk, ChecksOfStamp, ChecksFor, CheckedBy}
use Rattle.mk_history.specs.declared.RoundLog.{RoundLog}
use Rattle.mk_history.specs.Histories.{History}
use Rattle.mk_history.specs.Shape.{HasShape}
use Rattle.mk_history.specs.Legality.{IsLegal}
use Rattle.mk_run_laws.specs.RunEvents.{moment_of}
use Rattle.mk_run_laws.specs.Ends.{epochs_after}
use Rattle.mk_run_laws.specs.Lifts.{ActsInRange}
use Rattle.mk_run_laws.specs.Tenures.{DatedEntry, tenure_of, entries_in, TenuresReplay, TenuresMatch}
use Rattle.mk_run_laws.specs.Voting.{VotedOk}
use Rattle.mk_run_laws.proofs.Voted.{is_moment, read_check, write_check}
use Rattle.mk_base_laws.specs.VotesFit.{VotesFitBase}
use Rattle.mk_base_laws.proofs.Lower.{Lower}
use Rattle.mk_base_laws.proofs.Walking.{at_moment, legal_done}

module _ (laws : Lower) (oks : ChecksOfOk) (of_stamp : ChecksOfStamp) (ranges : ActsInRange) (match : TenuresMatch) (replays : TenuresReplay) (read_floor : ReadFloor) (write_floor : WriteFloor)
    (run : History) (shape : HasShape run) (legal : IsLegal run) (done later : List RoundLog) (split : run.rounds ≡ done ++ later) (c r epoch : ℕ) (lt : c < run.columns)
    (id : TxnId) (entry : PastEntry) (round : ℕ) (base : BaseState) (voted : VotedOk (moment_of run c done) r epoch id entry round) (made : base_for epoch (epochs_after run done) ≡ Some base) where
  -- a check of the vote, in the journal of its replica's time in the epoch
  in_tenure : (key : ℕ) (act : Act) → Among (key, act) (checks entry.txn) → ChecksFor entry.txn.stamp act →
      EachAnswered (rebuilt base key) (entries_in (tenure_of run done r epoch key)) × DoneWith act Okay (entries_in (tenure_of run done r epoch key))
  in_tenure key act a names =
      let m = moment_of run c done in
      let k = is_moment run done later split c in
      let past = act_at round r epoch (key, act) Okay in
      let was = at_moment laws run legal c lt
      (λ taught n. (q : ℕ) (x : TxnId) (e : PastEntry) (i b : ℕ) → n.past.entries q x ≡ Some e → e.vote ≡ Some (VoteOk, i) → IsInEpoch n x b → (check : KeyAct) → Among check (checks e.txn) → WasDone n i q b check Okay)
      oks m k r id entry round epoch voted.there voted.vote voted.in_epoch (key, act) a in
      let of = at_moment laws run legal c lt (λ taught n. (p : PastAct) (s : Stamp) → Among p n.past.acts → ChecksFor s p.act → CheckedBy n p s) of_stamp m k past entry.txn.stamp was names in
      let range = ranges run shape c done later split past was in
      let fine = legal_done run legal done later split in
      let d = (match run done fine c r epoch key lt range.0 range.1).act_entered past was refl refl refl of.served in (
        (replays run done fine r epoch key range.0 range.1 base made).answered,
        (d.0.entry, Among-map (λ (x : DatedEntry). x.entry) d.0 (tenure_of run done r epoch key) d.1, ap (λ (x : PastAct). x.act) d.3, ap (λ (x : PastAct). x.answer) d.3),
      )

  fits : fits_base base entry.txn ≡ true
  fits =
      and_from
      (list_all (λ (item : ReadItem). not (is_before item.version (rebuilt base item.key).wts)) entry.txn.reads)
      (list_all (λ (item : WriteItem). not (is_before entry.txn.stamp (rebuilt base item.key).rts)) entry.txn.writes)
      (list_all-from_Among (λ (item : ReadItem). not (is_before item.version (rebuilt base item.key).wts)) entry.txn.reads (λ item a.
      let k = in_tenure item.key (CheckRead entry.txn.stamp item.version) (read_check entry.txn item a) (inl (item.version, refl)) in
      ap not (read_floor (rebuilt base item.key) (entries_in (tenure_of run done r epoch item.key)) entry.txn.stamp item.version k.0 k.1)))
      (list_all-from_Among (λ (item : WriteItem). not (is_before entry.txn.stamp (rebuilt base item.key).rts)) entry.txn.writes (λ item a.
      let k = in_tenure item.key (CheckWrite entry.txn.stamp) (write_check entry.txn item a) (inr refl) in
      ap not (write_floor (rebuilt base item.key) (entries_in (tenure_of run done r epoch item.key)) entry.txn.stamp k.0 k.1)))

pub votes_fit_base : Lower → ChecksOfOk → ChecksOfStamp → ActsInRange → TenuresMatch → TenuresReplay → ReadFloor → WriteFloor → VotesFitBase
votes_fit_base laws oks of_stamp ranges match replays read_floor write_floor run shape legal done later split c r epoch lt id entry round base voted made =
    fits laws oks of_stamp ranges match replays read_floor write_floor run shape legal done later split c r epoch lt id entry round base voted made
