-- What a commit read is what every key holds at first, or what a commit wrote.
use Rattle.std.proofs.Common.{◌≡◌, ◌⊎◌, ◌<◌, ◌≤◌, ℕ, Bool, true, false, refl, arith, inl, inr, sym, ap, ◌∙◌, List, [], ◌∷◌, ◌++◌, Option, Some, None, subst, cond, map, length, ◌||◌}
use Rattle.std.specs.Prelude.{is_some, option_and_then}
use Rattle.std.proofs.lemmas.Option.{same_Some}
use Rattle.std.proofs.lemmas.List.{append-nil}
use Rattle.mk_lists.specs.Among.{Among, Among-append, Among-append_left}
use Rattle.mk_lists.proofs.Members.{Among-from_map}
use Rattle.mk_run_laws.proofs.Clashing.{split_at}
use Rattle.mk_run_laws.proofs.LastMoments.{last_always, last_is_moment, same_column}
use Rattle.mk_txn.specs.declared.Stamp.{Stamp}
use Rattle.mk_txn.specs.declared.Value.{Value}
use Rattle.mk_txn.specs.declared.TxnId.{TxnId}
use Rattle.mk_txn.specs.declared.ReadItem.{ReadItem}
use Rattle.mk_txn.specs.declared.WriteItem.{WriteItem}
use Rattle.mk_txn.specs.declared.Outcome.{Outcome}
use Rattle.mk_txn.specs.declared.Outcome.TheVariants.{Commit}
use Rattle.mk_txn.specs.LatestWrites.{VersionedValue}
use Rattle.mk_txn.specs.MarkMaps.{covers}
use Rattle.mk_txn.specs.Outcomes.{is_commit}
use Rattle.mk_txn.specs.Stamps.{zero_stamp}
use Rattle.mk_txn.specs.Transactions.{Transaction, initial_value}
use Rattle.mk_txn.proofs.OutcomeLaws.{is_commit-tells}
use Rattle.mk_words.specs.declared.Act.{Act}
use Rattle.mk_words.specs.declared.Act.TheVariants.{Get, CommitRead, CommitWrite}
use Rattle.mk_words.specs.declared.Answer.TheVariants.{Version}
use Rattle.mk_words.specs.declared.JournalEntry.{JournalEntry}
use Rattle.mk_words.specs.Cells.{CellState, cell_answer}
use Rattle.mk_words.specs.Journals.{cell_through, EachAnswered}
use Rattle.mk_quorum.specs.Slots.{passes}
use Rattle.mk_quorum.specs.Sizes.{members}
use Rattle.mk_words.specs.Checks.{KeyAct, commits_of}
use Rattle.mk_basic_laws.specs.CellMemory.{Done}
use Rattle.mk_words.specs.declared.Fated.{Fated}
use Rattle.mk_words.specs.Bases.{BaseState, empty_base, commits_in, fate_in, IsInIdOrder}
use Rattle.mk_words.specs.Promises.{counting, chosen}
use Rattle.mk_words.specs.Rebuilding.{rebuilt}
use Rattle.mk_merge_laws.proofs.Adding.{fate-there}
use Rattle.mk_model.specs.ColumnState.{attempt_of, is_settled}
use Rattle.mk_column_laws.specs.Moments.{PastAct}
use Rattle.mk_column_laws.specs.KeyActs.{act_at}
use Rattle.mk_column_laws.specs.Reading.{ReadsOf}
use Rattle.mk_model.specs.EpochState.{MadeBase, base_for, promises_for}
use Rattle.mk_epoch_laws.specs.BaseLaws.{BasesMade}
use Rattle.mk_epoch_laws.proofs.Paths.{made_or_first}
use Rattle.mk_history.specs.Histories.{History}
use Rattle.mk_history.specs.Learning.{commits}
use Rattle.mk_history.specs.Legality.{IsLegal}
use Rattle.mk_history.specs.Shape.{HasShape}
use Rattle.mk_history.specs.Teaching.{entered_round}
use Rattle.mk_history.specs.Wholes.{last_state}
use Rattle.mk_run_laws.specs.Ends.{last_moment, run_epoch}
use Rattle.mk_run_laws.specs.Learnt.{IsLearnt}
use Rattle.mk_run_laws.specs.TaughtIn.{taught_in}
use Rattle.mk_run_laws.specs.Tenures.{DatedEntry, entries_in, tenure_of, act_in}
use Rattle.mk_run_laws.proofs.Tenured.{entries_in-append}
use Rattle.mk_record_laws.specs.Listed.{IsListed}
use Rattle.mk_fate_laws.specs.InBases.{commits_at}
use Rattle.mk_cause_laws.proofs.Owned.{IsOf, own_id}
use Rattle.mk_cause_laws.proofs.Tenured.{answer_there, base_of_tenure}
use Rattle.mk_safety.specs.Commits.{IsKnownCommit, IsWritten, VersionsWereCommitted}
use Rattle.mk_safety.proofs.CommitLaws.{CommitLaws}
use Rattle.mk_safety.proofs.Committed.{reached, facts, known, committed}

-- ---- lists

-- a commit of a base is listed there with Commit
fated_commit : (list : List Fated) (txn : Transaction) → Among txn (commits_in list) → (f : Fated) × Among f list × (f.txn ≡ txn) × (f.outcome ≡ Commit)
fated_commit [] txn a = absurd a
fated_commit (f ∷ list) txn a = by (is_commit f.outcome) refl (fated_commit list txn) a
  where
    by : (b : Bool) → is_commit f.outcome ≡ b → (Among txn (commits_in list) → (g : Fated) × Among g list × (g.txn ≡ txn) × (g.outcome ≡ Commit)) →
        Among txn (cond b (f.txn ∷ commits_in list) (commits_in list)) → (g : Fated) × Among g (f ∷ list) × (g.txn ≡ txn) × (g.outcome ≡ Commit)
    by true e again (inl same) = (f, inl refl, same, is_commit-tells f.outcome e)
    by true e again (inr m) = let k = again m in (k.0, inr k.1, k.2, k.3)
    by false e again m = let k = again m in (k.0, inr k.1, k.2, k.3)

-- a write that is committed is one of the transaction's
write_item : (txn : Transaction) (key : ℕ) (stamp : Stamp) (value : Value) → Among (key, CommitWrite stamp value) (commits_of txn) →
    (item : WriteItem) × Among item txn.writes × (item.key ≡ key) × (item.value ≡ value)
write_item txn key stamp value a =
    let read : ReadItem → KeyAct = λ i. (i.key, CommitRead txn.stamp) in
    let write : WriteItem → KeyAct = λ i. (i.key, CommitWrite txn.stamp i.value) in
    elim (Among-append (key, CommitWrite stamp value) (map read txn.reads) (map write txn.writes) a) [
      | inl r ↦ absurd (let f = Among-from_map read (key, CommitWrite stamp value) txn.reads r in apart (ap (λ (x : KeyAct). x.1) f.2))
      | inr w ↦ (let f = Among-from_map write (key, CommitWrite stamp value) txn.writes w in
          (f.0, f.1, ap (λ (x : KeyAct). x.0) f.2, same_value (f.0).value (ap (λ (x : KeyAct). x.1) f.2)))
    ]
  where
    apart : CommitRead txn.stamp ≡ CommitWrite stamp value → ⊥
    apart e = cc e

    same_value : (v : Value) → CommitWrite txn.stamp v ≡ CommitWrite stamp value → v ≡ value
    same_value v e = cc e

version_is : (wts version : Stamp) (value held : Value) → Version wts held ≡ Version version value → (wts ≡ version) × (held ≡ value)
version_is wts version value held e = (cc e, cc e)

module _ (laws : CommitLaws) (run : History) (legal : IsLegal run) where
  -- an outcome that a column lists was learned
  listed_learnt : (c : ℕ) → c < run.columns → (id : TxnId) (o : Outcome) → IsListed (last_moment run c).column.learned id o → IsLearnt run id o
  listed_learnt c lt id o (way, m) = laws.logs run c lt (record { id = id; outcome = o; way = way }) m

  -- a write that a column committed is a commit's of the run
  committed_write : (c : ℕ) → c < run.columns → (act : PastAct) → Among act (last_moment run c).past.acts → (stamp : Stamp) (value : Value) → act.act ≡ CommitWrite stamp value →
      IsWritten run (record { key = act.key; version = stamp; value = value })
  committed_write c lt act m stamp value is =
      let n = last_moment run c in
      let h = laws.below.commits (taught_in run) (laws.below.teaching run) n (reached laws run legal c lt) act stamp m (inr (value, is)) in
      let e = (facts laws run legal c lt).entries act.replica h.id h.entry h.there in
      let own : IsOf run (h.entry).txn = record { column = c; in_run = lt; id = h.id; attempt = e.attempt; found = e.found; stamped = e.stamped } in
      let list = (laws.listed (taught_in run) (laws.below.teaching run) n (reached laws run legal c lt) h.id).final act.replica h.entry Commit h.since h.there h.last in
      let learnt = subst (λ (i : TxnId). IsLearnt run i Commit) (sym (own_id laws.below run legal (h.entry).txn own)) (listed_learnt c lt h.id Commit list) in
      let w = write_item (h.entry).txn act.key stamp value (subst (λ (y : Act). Among (act.key, y) (commits_of (h.entry).txn)) is h.written) in
      record {
        writer = (h.entry).txn;
        committed = committed laws run legal (h.entry).txn own learnt;
        version = h.same_stamp;
        write = w.0;
        writes = w.1;
        on_key = w.2;
        value = w.3;
      }

  module _ (shape : HasShape run) where
    -- a commit of the base of an epoch that was entered is a commit of the run
    committed_in_base : (made : MadeBase) → Among made (last_state run).epochs.made → base_for made.epoch (last_state run).epochs ≡ Some made.base →
        (j : ℕ) → entered_round run made.epoch ≡ Some j → (f : Fated) → Among f made.base.list → f.outcome ≡ Commit → Among f.txn (commits run)
    committed_in_base made a is j entered f m commits_it =
        let of = laws.below.members run legal made a f m in
        let own : IsOf run f.txn = record { column = of.column; in_run = of.in_run; id = f.txn.id; attempt = of.attempt; found = of.found; stamped = of.stamped } in
        committed laws run legal f.txn own (by own (covers made.base.marks f.txn.id) refl)
      where
        well : BasesMade (last_state run).epochs
        well = last_always laws.below.lines run legal BasesMade laws.below.made

        ordered : IsInIdOrder made.base.list
        ordered =
            subst (λ (b : BaseState). IsInIdOrder b.list) (sym (well.well made a).is_merged)
            (laws.in_order (last_state run).epochs.faults made.epoch (counting (chosen (last_state run).epochs.faults made.epoch (promises_for made.epoch (last_state run).epochs))))

        fate : fate_in f.txn.id made.base.list ≡ Some Commit
        fate = fate-there made.base.list f ordered m ∙ ap (λ (o : Outcome). Some o) commits_it

        stands : commits_at (last_state run).epochs made.epoch f.txn.id ≡ true
        stands =
            ap (λ (b : Option BaseState). passes is_commit (option_and_then (λ (base : BaseState). fate_in f.txn.id base.list) b)) is ∙ ap (passes is_commit) fate

        -- its own coordinator has learned an outcome, and that agrees with the base
        settled : (o : IsOf run f.txn) → o.id ≡ f.txn.id → is_settled o.attempt ≡ true → IsLearnt run f.txn.id Commit
        settled o same is_so = coord o.attempt.unread refl o.attempt.coord.learned refl is_so
          where
            found : attempt_of (last_moment run o.column).column f.txn.id ≡ Some o.attempt
            found = ap (attempt_of (last_moment run o.column).column) (sym same) ∙ o.found

            low : run_epoch run f.txn.id < made.epoch
            low =
                let of = laws.below.members run legal made a f m in
                let up = of.below in
                let earlier = (well.well made a).on_earlier in
                let own = laws.epochs run legal of.column of.in_run f.txn.id of.attempt of.found (ap is_some of.stamped) in
                omega (arith, up, earlier, own)

            coord : (u : Bool) → o.attempt.unread ≡ u → (l : Option Outcome) → o.attempt.coord.learned ≡ l → (u || is_some l) ≡ true → IsLearnt run f.txn.id Commit
            coord true k l h e =
                absurd (
                let none = (laws.unread (taught_in run) (laws.below.teaching run) (last_moment run o.column) (reached laws run legal o.column o.in_run) o.id o.attempt o.found k).0 in
                cc (sym none ∙ o.stamped)
                )
            coord false k None h e = absurd (cc e)
            coord false k (Some out) h e =
                let n = last_moment run o.column in
                let list = (laws.listed (taught_in run) (laws.below.teaching run) n (reached laws run legal o.column o.in_run) f.txn.id).own o.attempt out found h in
                let rests = laws.backed run legal o.column o.in_run f.txn.id out n.past.now (((facts laws run legal o.column o.in_run).attempts f.txn.id o.attempt found).learned out h) in
                let agrees = laws.stand run shape legal o.column o.in_run f.txn.id out rests made.epoch (laws.in_force run legal made.epoch j entered) low in
                subst (IsLearnt run f.txn.id) (is_commit-tells out (sym agrees ∙ stands)) (listed_learnt o.column o.in_run f.txn.id out list)

        by : (o : IsOf run f.txn) → (b : Bool) → covers made.base.marks f.txn.id ≡ b → IsLearnt run f.txn.id Commit
        by o false fresh = laws.bases run legal made j f.txn.id Commit a entered fate fresh
        by o true covered =
            let same = own_id laws.below run legal f.txn o in
            let ids = laws.identity run legal o.column o.in_run (last_moment run o.column) (last_is_moment laws.below.moments run o.column) in
            let from_one = (ids.attempts o.id o.attempt o.found).from_one in
            let one = subst (λ (id : TxnId). 1 ≤ id.seq) (sym same) from_one in
            let s = laws.marks run legal run.rounds [] (sym (append-nil run.rounds)) made a f.txn.id one covered in
            let own : attempt_of (last_moment run o.column).column f.txn.id ≡ Some o.attempt = ap (attempt_of (last_moment run o.column).column) same ∙ o.found in
            let column = same_column laws.below.moments laws.below.ids run legal s.column o.column s.in_run o.in_run f.txn.id s.attempt o.attempt s.found own in
            let attempt : s.attempt ≡ o.attempt = same_Some s.attempt o.attempt (sym s.found ∙ ap (λ (c : ℕ). attempt_of (last_moment run c).column f.txn.id) column ∙ own) in
            settled o (sym same) (ap is_settled (sym attempt) ∙ s.settled)

    module _ (txn : Transaction) (k : IsKnownCommit run txn) (item : ReadItem) (reads : Among item txn.reads) where
      abbrev key : ℕ
      key = item.key

      reads_of : ReadsOf (last_moment run k.column) txn.id k.attempt
      reads_of = (laws.got run legal k.column k.in_run (last_moment run k.column) (last_is_moment laws.below.moments run k.column)).attempts txn.id k.attempt k.found

      abbrev round : ℕ
      round = (last_moment run k.column).past.begun_in txn.id

      abbrev home : ℕ
      home = k.attempt.replica

      abbrev epoch : ℕ
      epoch = k.attempt.epoch

      served : (last_moment run k.column).past.served_in round home epoch ≡ true
      served = elim reads_of.home [
        | inl u ↦ absurd (
            let none = (laws.unread (taught_in run) (laws.below.teaching run) (last_moment run k.column) (reached laws run legal k.column k.in_run) txn.id k.attempt k.found u).0 in
            cc (sym none ∙ k.stamped)
            )
        | inr s ↦ s
      ]

      entered : (j : ℕ) × (entered_round run epoch ≡ Some j)
      entered =
          let s = (laws.served run legal k.column k.in_run (last_moment run k.column) (last_is_moment laws.below.moments run k.column)).in_round round home epoch served in
          let e = laws.servers run legal s.0 home epoch s.3 in
          (e.0, e.1)

      module _ (rlt : home < members run.faults) (klt : key < length run.key_names) (base : BaseState) (is : base_for epoch (last_state run).epochs ≡ Some base)
          (d : DatedEntry) (before rest : List DatedEntry) (whole : tenure_of run run.rounds home epoch key ≡ before ++ d ∷ rest)
          (get : d.entry.act ≡ Get) (answer : d.entry.answer ≡ Version item.version item.value) where
        abbrev opening : CellState
        opening = rebuilt base key

        abbrev cell : CellState
        cell = cell_through opening (entries_in before)

        answered : EachAnswered opening (entries_in before ++ d.entry ∷ entries_in rest)
        answered =
            subst (EachAnswered opening) (ap entries_in whole ∙ entries_in-append before (d ∷ rest)) (laws.below.replay run run.rounds legal home epoch key rlt klt base is).answered

        held : (cell.wts ≡ item.version) × (cell.value ≡ item.value)
        held =
            version_is cell.wts item.version item.value cell.value
            (ap (cell_answer cell) (sym get) ∙ answer_there opening (entries_in before) d.entry (entries_in rest) answered ∙ answer)

        -- a commit of the base
        by_base : (w : Transaction) → Among w (commits_in base.list) → (write : WriteItem) → Among write w.writes → write.key ≡ key → w.stamp ≡ item.version → write.value ≡ item.value →
            IsWritten run item
        by_base w m write writes on_key version value = elim (made_or_first (last_state run).epochs epoch (ap is_some is)) [
          | inl first ↦ absurd (
              let none : empty_base ≡ base = same_Some empty_base base (subst (λ (e : ℕ). base_for e (last_state run).epochs ≡ Some base) first is) in
              subst (λ (b : BaseState). Among w (commits_in b.list)) (sym none) m
              )
          | inr made ↦ of_made made.0 made.1 made.2 made.3
        ]
          where
            of_made : (made : MadeBase) → Among made (last_state run).epochs.made → made.epoch ≡ epoch → base_for epoch (last_state run).epochs ≡ Some made.base → IsWritten run item
            of_made made a at there =
                let same : base ≡ made.base = same_Some base made.base (sym is ∙ there) in
                let f = fated_commit made.base.list w (subst (λ (b : BaseState). Among w (commits_in b.list)) same m) in
                let e = entered in
                let c =
                committed_in_base made a (ap (λ (n : ℕ). base_for n (last_state run).epochs) at ∙ there) e.0 (ap (entered_round run) at ∙ e.1) f.0 f.1 f.3 in
                record {
                  writer = w;
                  committed = subst (λ (t : Transaction). Among t (commits run)) f.2 c;
                  version = version;
                  write = write;
                  writes = writes;
                  on_key = on_key;
                  value = value;
                }

        -- a commit that stands before in the tenure
        by_commit : Done (CommitWrite cell.wts cell.value) (entries_in before) → IsWritten run item
        by_commit (entry, m, same) =
            let f = Among-from_map (λ (x : DatedEntry). x.entry) entry before m in
            of_entry f.0 (subst (Among f.0) (sym whole) (Among-append_left f.0 before (d ∷ rest) f.1)) (ap (λ (e : JournalEntry). e.act) f.2 ∙ same)
          where
            of_entry : (x : DatedEntry) → Among x (tenure_of run run.rounds home epoch key) → x.entry.act ≡ CommitWrite cell.wts cell.value → IsWritten run item
            of_entry x there act =
                let seat = laws.below.seats run shape run.rounds [] (sym (append-nil run.rounds)) home epoch key x there in
                let did = (laws.below.matches run run.rounds legal x.entry.seat home epoch key seat rlt klt).entry_done x there refl in
                let w = committed_write x.entry.seat seat (act_in home epoch key x) did cell.wts cell.value act in
                record {
                  writer = w.writer;
                  committed = w.committed;
                  version = w.version ∙ held.0;
                  write = w.write;
                  writes = w.writes;
                  on_key = w.on_key;
                  value = w.value ∙ held.1;
                }

        version_was : ((item.version ≡ zero_stamp) × (item.value ≡ initial_value)) ⊎ IsWritten run item
        version_was = elim (laws.below.provenance opening (entries_in before) (d.entry ∷ entries_in rest) answered).version [
          | inl old ↦ elim (laws.below.write_is key (commits_in base.list)) [
            | inl first ↦ inl (
              sym held.0 ∙ old.0 ∙ ap (λ (v : VersionedValue). v.version) first,
              sym held.1 ∙ old.1 ∙ ap (λ (v : VersionedValue). v.value) first,
            )
            | inr w ↦ inr (
                by_base w.txn w.among w.item w.writes w.on_key (sym (sym held.0 ∙ old.0 ∙ ap (λ (v : VersionedValue). v.version) w.stands))
                (sym (sym held.1 ∙ old.1 ∙ ap (λ (v : VersionedValue). v.value) w.stands))
                )
          ]
          | inr done ↦ inr (by_commit done)
        ]

      version_of : ((item.version ≡ zero_stamp) × (item.value ≡ initial_value)) ⊎ IsWritten run item
      version_of =
          let n = last_moment run k.column in
          let act = act_at round home epoch (key, Get) (Version item.version item.value) in
          let among : Among act n.past.acts = reads_of.got item (subst (Among item) (reads_of.txn_reads txn k.stamped) reads) in
          let range = laws.below.ranges run shape k.column run.rounds [] (sym (append-nil run.rounds)) act among in
          let e = (laws.below.matches run run.rounds legal k.column home epoch key k.in_run range.0 range.1).act_entered act among refl refl refl served in
          let d = e.0 in
          let j = laws.below.journals run run.rounds home epoch key d e.1 in
          let s = split_at d (tenure_of run run.rounds home epoch key) e.1 in
          let base = base_of_tenure laws.below run legal home epoch key d j in
          version_was range.0 range.1 base.0 base.1 d s.0 s.1.0 s.1.1 (ap (λ (y : PastAct). y.act) e.3) (ap (λ (y : PastAct). y.answer) e.3)

pub versions_were_committed : CommitLaws → VersionsWereCommitted
versions_were_committed laws run shape legal txn m item reads = version_of laws run legal shape txn (known laws run legal txn m) item reads
