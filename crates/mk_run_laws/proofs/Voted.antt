-- Of two attempts that clash, for both of which a replica voted Ok, one was finished there with Abort.
use Rattle.std.proofs.Common.{◌≡◌, ◌⊎◌, ◌<◌, ℕ, true, refl, arith, inl, inr, sym, ap, ◌∙◌, List, [], ◌∷◌, ◌++◌, Some, subst, map}
use Rattle.std.proofs.lemmas.List.{append_assoc}
use Rattle.mk_lists.specs.Among.{Among, Each, Among-append_left, Among-append_right}
use Rattle.mk_lists.proofs.Members.{Among-map}
use Rattle.mk_lists.proofs.EachMember.{Each-append_left}
use Rattle.mk_txn.specs.declared.TxnId.{TxnId}
use Rattle.mk_txn.specs.declared.Stamp.{Stamp}
use Rattle.mk_txn.specs.declared.ReadItem.{ReadItem}
use Rattle.mk_txn.specs.declared.WriteItem.{WriteItem}
use Rattle.mk_txn.specs.Transactions.{Transaction}
use Rattle.mk_txn.specs.Clashes.{Clash}
use Rattle.mk_txn.proofs.StampOrder.{test-from_Before}
use Rattle.mk_words.specs.declared.Act.{Act}
use Rattle.mk_words.specs.declared.Act.TheVariants.{CheckRead, CheckWrite, ReleaseRead, ReleaseWrite}
use Rattle.mk_words.specs.declared.Answer.TheVariants.{Okay}
use Rattle.mk_words.specs.Checks.{checks}
use Rattle.mk_column_laws.specs.Moments.{Moment, PastAct, PastEntry, Event}
use Rattle.mk_column_laws.specs.Moments.Event.{NewRound, Doing}
use Rattle.mk_column_laws.specs.KeyActs.{ActOrigin, act_at}
use Rattle.mk_column_laws.specs.KeyActs.ActOrigin.{OfRead, OfCheck, OfRelease, OfCommit}
use Rattle.mk_column_laws.specs.ActLaws.{Releases, ChecksFor, StampReleased}
use Rattle.mk_column_laws.proofs.ActStamps.{checks_shape, releases_shape, commits_shape, release_is_no_check, release_is_no_commit, read_is_none, same_release}
use Rattle.mk_history.specs.declared.RoundLog.{RoundLog}
use Rattle.mk_history.specs.Histories.{History, clients_of, log_of}
use Rattle.mk_history.specs.Shape.{HasShape, IsRoundShape}
use Rattle.mk_history.specs.Legality.{IsLegal, EachRoundLegal}
use Rattle.mk_history.specs.Wholes.{WholeState, first_state, after_round}
use Rattle.mk_model.specs.EpochState.{views_of}
use Rattle.mk_run_laws.specs.RunEvents.{emptied_in, events_from, events_of, start_of, moment_of, IsMomentOf}
use Rattle.mk_run_laws.specs.TaughtIn.{taught_in}
use Rattle.mk_run_laws.specs.RunLaws.{TeachingStays, RunsReachMoments, FactsInRuns, ActsInRuns, IdsInRuns}
use Rattle.mk_run_laws.specs.Tenures.{tenure_of, act_in, IsIn, IsInBy, TenuresMatch, ClashesGiveUp}
use Rattle.mk_run_laws.specs.Voting.{VotedOk, IsAbortedBy, ClashingVotes}
use Rattle.mk_run_laws.proofs.Lines.{legal-first}
use Rattle.mk_run_laws.proofs.Ranges.{InRange, act_in_range, seat_in_range}
use Rattle.mk_run_laws.proofs.ClientNumbers.{one_column}
use Rattle.mk_run_laws.proofs.StampColumns.{client_there}

-- the events of the first rounds are the first events
pub events_split : (c : ℕ) (run : History) (done later : List RoundLog) (state : WholeState) (emptied : List ℕ) →
    (more : List Event) × (events_from c run state emptied done ++ more ≡ events_from c run state emptied (done ++ later))
events_split c run [] later state emptied = (events_from c run state emptied later, refl)
events_split c run (round ∷ done) later state emptied =
    let k = events_split c run done later (after_round run round state) (emptied_in round.globals) in
    let log = map Doing (log_of round c) in (
      k.0,
      ap (λ (es : List Event). NewRound (views_of state.epochs) emptied ∷ es)
          (append_assoc log (events_from c run (after_round run round state) (emptied_in round.globals) done) k.0 ∙ ap (λ (es : List Event). log ++ es) k.1),
    )

pub is_moment : (run : History) (done later : List RoundLog) → run.rounds ≡ done ++ later → (c : ℕ) → IsMomentOf run c (moment_of run c done)
is_moment run done later split c =
    let k = events_split c run done later (first_state run) [] in
    record { events = events_of run c done; later = k.0; whole = k.1 ∙ ap (events_of run c) (sym split); leads = refl }

-- ---- checks and releases

served_of_check : (m : Moment) (act : PastAct) (s : Stamp) → ActOrigin m act → ChecksFor s act.act → m.past.served_in act.round act.replica act.epoch ≡ true
served_of_check m act s (OfRead g) chk = absurd ((read_is_none act.act g).0.1 s chk)
served_of_check m act s (OfCheck x e there at served among) chk = served
served_of_check m act s (OfRelease x e there at served among reason) chk = served
served_of_check m act s (OfCommit x e i there at served among last early) chk = served

-- a release is of an entry with its stamp
entry_of_release : (m : Moment) (act : PastAct) (s : Stamp) → ActOrigin m act → Releases s act.act → (id : TxnId) × ((entry : PastEntry) × ((m.past.entries act.replica id ≡ Some entry) × (entry.txn.stamp ≡ s)))
entry_of_release m act s (OfRead g) rel = absurd ((read_is_none act.act g).0.0 s rel)
entry_of_release m act s (OfCheck x e there at served among) rel = absurd (release_is_no_check s e.txn.stamp act.act rel (checks_shape e.txn (act.key, act.act) among))
entry_of_release m act s (OfCommit x e i there at served among last early) rel = absurd (release_is_no_commit s e.txn.stamp act.act rel (commits_shape e.txn (act.key, act.act) among))
entry_of_release m act s (OfRelease x e there at served among reason) rel =
    (x, (e, (there, same_release e.txn.stamp s act.act (releases_shape e.txn (act.key, act.act) among) rel)))

pub read_check : (txn : Transaction) (item : ReadItem) → Among item txn.reads → Among (item.key, CheckRead txn.stamp item.version) (checks txn)
read_check txn item a =
    Among-append_left (item.key, CheckRead txn.stamp item.version) (map (λ (i : ReadItem). (i.key, CheckRead txn.stamp i.version)) txn.reads) (map (λ (i : WriteItem). (i.key, CheckWrite txn.stamp)) txn.writes)
    (Among-map (λ (i : ReadItem). (i.key, CheckRead txn.stamp i.version)) item txn.reads a)

pub write_check : (txn : Transaction) (item : WriteItem) → Among item txn.writes → Among (item.key, CheckWrite txn.stamp) (checks txn)
write_check txn item a =
    Among-append_right (item.key, CheckWrite txn.stamp) (map (λ (i : ReadItem). (i.key, CheckRead txn.stamp i.version)) txn.reads) (map (λ (i : WriteItem). (i.key, CheckWrite txn.stamp)) txn.writes)
    (Among-map (λ (i : WriteItem). (i.key, CheckWrite txn.stamp)) item txn.writes a)

module _ (stays : TeachingStays) (reach : RunsReachMoments) (facts : FactsInRuns) (acts : ActsInRuns) (ids : IdsInRuns) (released : StampReleased) (match : TenuresMatch) (clashes : ClashesGiveUp)
    (run : History) (shape : HasShape run) (legal : IsLegal run) (done later : List RoundLog) (split : run.rounds ≡ done ++ later) where
  legal_done : EachRoundLegal run (first_state run) done
  legal_done = legal-first run (first_state run) done later (subst (EachRoundLegal run (first_state run)) split legal)

  shape_done : Each (IsRoundShape run) done
  shape_done = Each-append_left (IsRoundShape run) done later (subst (Each (IsRoundShape run)) split shape.rounds)

  abbrev then : ℕ → Moment
  then c = moment_of run c done

  range : (c : ℕ) (act : PastAct) → Among act (then c).past.acts → InRange run act.replica act.key
  range c act a = elim (act_in_range run c done (first_state run) [] (start_of run c) shape_done act a) [ inl none ↦ absurd none | inr k ↦ k ]

  -- the client in an entry's stamp is one of the column's
  client_of_stamp : (c : ℕ) → c < run.columns → (r : ℕ) (id : TxnId) (entry : PastEntry) → (then c).past.entries r id ≡ Some entry → Among entry.txn.stamp.client (clients_of c 1 run.client_columns)
  client_of_stamp c lt r id entry there =
      let k = is_moment run done later split c in
      let f = (facts run legal c lt (then c) k).entries r id entry there in
      client_there run c (then c) k (ids run legal c lt (then c) k) id f.attempt entry.txn f.found f.stamped

  -- a check that was let in for an Ok vote is in the tenure
  check_in : (c : ℕ) → c < run.columns → (r epoch : ℕ) (id : TxnId) (entry : PastEntry) (round : ℕ) → VotedOk (then c) r epoch id entry round → (key : ℕ) (act : Act) →
      Among (key, act) (checks entry.txn) → InRange run r key × IsIn (tenure_of run done r epoch key) round act Okay
  check_in c lt r epoch id entry round voted key act a =
      let k = is_moment run done later split c in
      let h = acts run legal c lt (then c) k in
      let past = act_at round r epoch (key, act) Okay in
      let was = (h.votes r id entry voted.there).ok round epoch voted.vote voted.in_epoch (key, act) a in
      let served = served_of_check (then c) past entry.txn.stamp (h.origins past was).1 (checks_shape entry.txn (key, act) a) in
      let in_range = range c past was in
      let d = (match run done legal_done c r epoch key lt in_range.0 in_range.1).act_entered past was refl refl refl served in
      (in_range, (d.0, d.1, ap (λ (x : PastAct). x.round) d.3, ap (λ (x : PastAct). x.act) d.3, ap (λ (x : PastAct). x.answer) d.3))

  -- a release of the stamp of an Ok vote tells that its entry is final with Abort
  aborted : (c : ℕ) → c < run.columns → (r epoch : ℕ) (id : TxnId) (entry : PastEntry) (round : ℕ) → VotedOk (then c) r epoch id entry round → (key : ℕ) → InRange run r key → (limit : ℕ) (act : Act) →
      Releases entry.txn.stamp act → IsInBy (tenure_of run done r epoch key) limit act → IsAbortedBy entry limit
  aborted c lt r epoch id entry round voted key in_range limit act rel (d, a, early, is) =
      let other = d.entry.seat in
      let seat = seat_in_range run r epoch key 1 done (first_state run) shape_done d a in
      let past = act_in r epoch key d in
      let there = (match run done legal_done other r epoch key seat in_range.0 in_range.1).entry_done d a refl in
      let names = subst (Releases entry.txn.stamp) (sym is) rel in
      let origin = ((acts run legal other seat (then other) (is_moment run done later split other)).origins past there).1 in
      let e = entry_of_release (then other) past entry.txn.stamp origin names in
      let theirs = subst (λ (s : Stamp). Among s.client (clients_of other 1 run.client_columns)) e.1.1.1 (client_of_stamp other seat r e.0 e.1.0 e.1.1.0) in
      let same = one_column other c 1 run.client_columns entry.txn.stamp.client theirs (client_of_stamp c lt r id entry voted.there) in
      let own = (match run done legal_done c r epoch key lt in_range.0 in_range.1).entry_done d a same in
      let k = is_moment run done later split c in
      let out = released (taught_in run) (stays run) (then c) (reach run legal c lt (then c) k) past id entry round own voted.there voted.vote names in
      (out.0, (out.1.0, (out.1.1.0, (let le = out.1.1.1 in omega (arith, le, early)))))

  votes_clash : (c d r epoch : ℕ) → c < run.columns → d < run.columns → (id other : TxnId) (reader writer : PastEntry) (i j : ℕ) →
      VotedOk (then c) r epoch id reader i → VotedOk (then d) r epoch other writer j → Clash reader.txn writer.txn → IsAbortedBy reader j ⊎ IsAbortedBy writer i
  votes_clash c d r epoch clt dlt id other reader writer i j voted_c voted_d clash =
      let key = clash.read.key in
      let t = reader.txn.stamp in
      let u = writer.txn.stamp in
      let one = check_in c clt r epoch id reader i voted_c key (CheckRead t clash.read.version) (read_check reader.txn clash.read clash.reads) in
      let on_key = subst (λ (n : ℕ). Among (n, CheckWrite u) (checks writer.txn)) clash.same_key (write_check writer.txn clash.write clash.writes) in
      let two = check_in d dlt r epoch other writer j voted_d key (CheckWrite u) on_key in
      elim (clashes run done legal_done r epoch key one.0.0 one.0.1 t clash.read.version u i j
      (test-from_Before clash.read.version u clash.above_version) (test-from_Before u t clash.below_reader) one.1 two.1) [
        | inl read ↦ inl (aborted c clt r epoch id reader i voted_c key one.0 j (ReleaseRead t) (inl refl) read)
        | inr write ↦ inr (aborted d dlt r epoch other writer j voted_d key one.0 i (ReleaseWrite u) (inr refl) write)
      ]

pub clashing_votes : TeachingStays → RunsReachMoments → FactsInRuns → ActsInRuns → IdsInRuns → StampReleased → TenuresMatch → ClashesGiveUp → ClashingVotes
clashing_votes stays reach facts acts ids released match clashes run shape legal done later split c d r epoch clt dlt id other reader writer i j =
    votes_clash stays reach facts acts ids released match clashes run shape legal done later split c d r epoch clt dlt id other reader writer i j
