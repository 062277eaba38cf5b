-- A commit and a mark keep what is true of a follower's fields.
use Rattle.std.proofs.Common.{◌≡◌, ◌≢◌, ℕ, ◌<◌, ◌≤◌, Bool, true, false, cond, eqb, refl, sym, ap, subst, ◌∙◌, inl, inr, ⊎_elim, arith, List, [], ◌∷◌, ◌++◌, length, map, replicate, get_or, Some, None}
use Rattle.std.specs.Prelude.{slice_get, slice_set}
use Rattle.std.proofs.lemmas.Bool.{false≢true, eqb-true, eq-eqb, cases_lt}
use Rattle.std.proofs.lemmas.List.{map-append, length-set, length-replicate, get_or-replicate, get_or_past, get_or_read}
use Rattle.std.proofs.lemmas.Option.{slice_get_read, same_Some}
use Rattle.mk_lists.specs.Among.{Among, Each, Each-among, Each-append, AllDistinct}
use Rattle.mk_lists.proofs.Distinct.{AllDistinct-push}
use Rattle.mk_lists.proofs.Members.{Among-from_map, Among-slice_get}
use Rattle.mk_lists.proofs.Places.{slice_get-set_same, slice_get-set_other}
use Rattle.mk_lists.proofs.Tests.{list_any-from_Among}
use Rattle.mk_txn.specs.declared.Stamp.{Stamp}
use Rattle.mk_txn.specs.declared.TxnId.{TxnId}
use Rattle.mk_txn.specs.declared.Value.{Value}
use Rattle.mk_txn.specs.Stamps.{zero_stamp}
use Rattle.mk_txn.specs.Transactions.{Transaction, same_id, initial_value}
use Rattle.mk_txn.specs.LatestWrites.{VersionedValue}
use Rattle.mk_txn.proofs.IdOrder.{same_id-itself}
use Rattle.mk_model.specs.OneCopy.{version_in, stamps_of}
use Rattle.mk_copy_laws.specs.LatestLaws.{CopyHoldsLatest}
use Rattle.mk_feed_words.specs.declared.Received.{Received}
use Rattle.mk_feed_words.specs.declared.Mark.{Mark}
use Rattle.mk_feed_words.specs.Feed.{is_upto, txns_upto, picture_at, watermark}
use Rattle.mk_follow.specs.declared.rule.PickRule.{PickRule}
use Rattle.mk_follow.specs.declared.lane.Lane.{Lane}
use Rattle.mk_follow.specs.Rules.{picks}
use Rattle.mk_follow.specs.Rows.{versioned, row_at, HasKeys, Shows}
use Rattle.mk_follow.specs.Following.{CommitFits, has_id, shown_row, shown_version}
use Rattle.mk_follow.specs.Lanes.{reached_out_of, marks_above, after_waiting, waiting_after, LaneFits}
use Rattle.mk_follow.specs.Kept.{LanesFit, CommitsStand, Kept}
use Rattle.mk_follow.proofs.MarkLaws.{lane-settled, lane-other_commit, lane-marked, lane-other_mark, lane-new}
use Rattle.mk_follow.proofs.Passing.{txn_of, filtered-distinct}

-- ---- the commits

new-stamp : (column : ℕ) (txn : Transaction) (commits : List Received) → CommitFits column txn commits → has_id txn.id commits ≡ false → ¬ (Among txn.stamp (stamps_of (map txn_of commits)))
new-stamp column txn commits fits none a =
    let of_txn = Among-from_map (λ (t : Transaction). t.stamp) txn.stamp (map txn_of commits) a in
    let of_commit = Among-from_map txn_of of_txn.0 commits of_txn.1 in
    let r : Received = of_commit.0 in
    let other : r.txn.id ≢ txn.id =
    λ e. false≢true (sym none ∙ list_any-from_Among (λ (x : Received). same_id x.txn.id txn.id) commits r of_commit.1 (subst (λ (i : TxnId). same_id r.txn.id i ≡ true) e (same_id-itself r.txn.id))) in
    fits.other r of_commit.1 other (ap (λ (t : Transaction). t.stamp) of_commit.2 ∙ of_txn.2)

pub commits-stand : (commits : List Received) (column : ℕ) (txn : Transaction) → CommitsStand commits → CommitFits column txn commits → has_id txn.id commits ≡ false → HasKeys txn.writes
    → CommitsStand (commits ++ record { column = column; txn = txn } ∷ [])
commits-stand commits column txn h fits none keys =
    let r : Received = record { column = column; txn = txn } in
    let txns : map txn_of (commits ++ r ∷ []) ≡ map txn_of commits ++ txn ∷ [] = map-append txn_of commits (r ∷ []) in
    let stamps : stamps_of (map txn_of (commits ++ r ∷ [])) ≡ stamps_of (map txn_of commits) ++ txn.stamp ∷ [] =
    ap stamps_of txns ∙ map-append (λ (t : Transaction). t.stamp) (map txn_of commits) (txn ∷ []) in
    record {
      apart = subst AllDistinct (sym stamps) (AllDistinct-push (stamps_of (map txn_of commits)) txn.stamp h.apart (new-stamp column txn commits fits none));
      keys = Each-append (λ (x : Received). HasKeys x.txn.writes) commits (r ∷ []) h.keys (keys, tt);
    }

-- ---- the lanes

-- the lane of one column is another now
lanes-set : (columns : ℕ) (commits commits₁ : List Received) (marks marks₁ : List Mark) (lanes : List Lane) (column : ℕ) (lane : Lane) → LanesFit columns commits marks lanes → column < columns
    → LaneFits column commits₁ marks₁ lane.waiting.items lane.reached
    → ((c : ℕ) (waiting : List Mark) (stamp : Stamp) → eqb column c ≡ false → LaneFits c commits marks waiting stamp → LaneFits c commits₁ marks₁ waiting stamp)
    → LanesFit columns commits₁ marks₁ (slice_set lanes column lane)
lanes-set columns commits commits₁ marks marks₁ lanes column lane h lt own others = record {
  wide = length-set lanes column lane ∙ h.wide;
  each = λ c other at. by c other at (eqb column c) refl;
}
  where
    by : (c : ℕ) (other : Lane) → slice_get (slice_set lanes column lane) c ≡ Some other → (b : Bool) → eqb column c ≡ b → LaneFits c commits₁ marks₁ other.waiting.items other.reached
    by c other at true e =
        let same : column ≡ c = eqb-true column c e in
        let is : slice_get (slice_set lanes column lane) c ≡ Some lane =
        subst (λ k. slice_get (slice_set lanes column lane) k ≡ Some lane) same (slice_get-set_same lanes column lane (subst (λ n. column < n) (sym h.wide) lt)) in
        let here : lane ≡ other = same_Some lane other (sym is ∙ at) in
        subst (λ (l : Lane). LaneFits c commits₁ marks₁ l.waiting.items l.reached) here (subst (λ k. LaneFits k commits₁ marks₁ lane.waiting.items lane.reached) same own)
    by c other at false e =
        let differs : c ≡ column → ⊥ = λ same. false≢true (sym e ∙ eq-eqb column c (sym same)) in
        others c other.waiting.items other.reached e (h.each c other (sym (slice_get-set_other lanes column c lane differs) ∙ at))

pub lanes-commit : (columns : ℕ) (commits : List Received) (r : Received) (marks : List Mark) (lanes : List Lane) (lane : Lane) → LanesFit columns commits marks lanes → r.column < columns
    → LaneFits r.column (commits ++ r ∷ []) marks lane.waiting.items lane.reached → LanesFit columns (commits ++ r ∷ []) marks (slice_set lanes r.column lane)
lanes-commit columns commits r marks lanes lane h lt own =
    lanes-set columns commits (commits ++ r ∷ []) marks marks lanes r.column lane h lt own (λ c waiting stamp e fits. lane-other_commit c commits r marks waiting stamp fits e)

pub lanes-mark : (columns : ℕ) (commits : List Received) (marks : List Mark) (mark : Mark) (lanes : List Lane) (lane : Lane) → LanesFit columns commits marks lanes → mark.column < columns
    → LaneFits mark.column commits (marks ++ mark ∷ []) lane.waiting.items lane.reached → LanesFit columns commits (marks ++ mark ∷ []) (slice_set lanes mark.column lane)
lanes-mark columns commits marks mark lanes lane h lt own =
    lanes-set columns commits commits marks (marks ++ mark ∷ []) lanes mark.column lane h lt own (λ c waiting stamp e fits. lane-other_mark c commits marks waiting stamp mark fits e)

-- the marks that wait in a lane are of its column
pub waiting-columns : (columns : ℕ) (commits : List Received) (marks : List Mark) (column : ℕ) (waiting : List Mark) (stamp : Stamp) → LaneFits column commits marks waiting stamp → column < columns
    → (part : List Mark) → ((mark : Mark) → Among mark part → Among mark waiting) → Each (λ mark. mark.column < columns) part
waiting-columns columns commits marks column waiting stamp h lt [] sub = tt
waiting-columns columns commits marks column waiting stamp h lt (m ∷ ms) sub =
    (subst (λ c. c < columns) (sym (h.from m (sub m (inl refl))).1) lt, waiting-columns columns commits marks column waiting stamp h lt ms (λ x a. sub x (inr a)))

pub lanes-new : (columns : ℕ) (lanes : List Lane) → length lanes ≡ columns → Each (λ (lane : Lane). (lane.waiting.items ≡ []) × (lane.reached ≡ zero_stamp)) lanes → LanesFit columns [] [] lanes
lanes-new columns lanes wide each = record {
  wide = wide;
  each = λ c lane at.
      let empty = Each-among (λ (l : Lane). (l.waiting.items ≡ []) × (l.reached ≡ zero_stamp)) lane lanes each (Among-slice_get lanes c lane at) in
      subst (λ (t : List Mark × Stamp). LaneFits c [] [] t.0 t.1) (λ i. (sym empty.0 i, sym empty.1 i)) (lane-new c);
}

-- ---- what is shown

pub shown : CopyHoldsLatest → (columns : ℕ) (rule : PickRule) (commits : List Received) (marks : List Mark) (lanes : List Lane) (rows : List (Stamp × Value)) (stamp : Stamp) (key : ℕ) (row : Stamp × Value)
    → Kept columns rule commits marks lanes rows stamp → key < 256 → picks rule key ≡ true → row ≡ get_or rows key row
    → Some row ≡ shown_version (record { columns = columns; rule = rule; commits = commits; marks = marks }) key
shown holds columns rule commits marks lanes rows stamp key row h small picked read =
    let wide : length rows ≡ 256 = h.wide in
    let here : row ≡ get_or rows key (zero_stamp, initial_value) = get_or_read rows key row (omega (arith, small, wide)) read (zero_stamp, initial_value) in
    let same : versioned row ≡ version_in (picture_at stamp commits) key =
    ap versioned here ∙ h.shows key picked ∙ sym (holds (txns_upto stamp commits) key (filtered-distinct (is_upto stamp) commits h.stand.apart)) in
    ap (λ (v : VersionedValue). Some (shown_row v)) same
    ∙ ap (λ s. Some (shown_row (version_in (picture_at s commits) key))) h.stamp_is
    ∙ sym (ap (λ b. cond b (Some (shown_row (version_in (picture_at (watermark columns commits marks) commits) key))) None) picked)

-- ---- nothing received

abbrev nothing : Stamp × Value
nothing = (zero_stamp, initial_value)

get_or-of_replicate : (n key : ℕ) → get_or (replicate n nothing) key nothing ≡ nothing
get_or-of_replicate n key = ⊎_elim
    (λ (h : key < n). get_or-replicate n key nothing nothing h)
    (λ (h : n ≤ key). get_or_past (replicate n nothing) key nothing (subst (λ k. k ≤ key) (sym (length-replicate n nothing)) h))
    (cases_lt key n)

pub rows-new : (rule : PickRule) (rows : List (Stamp × Value)) → rows ≡ replicate 256 (zero_stamp, initial_value) → Shows rule [] rows
rows-new rule rows is key picked = ap (λ (l : List (Stamp × Value)). row_at l key) is ∙ ap versioned (get_or-of_replicate 256 key)

-- ---- the lane of a column, after a commit and after a mark

pub lanes-settled : (columns : ℕ) (commits : List Received) (r : Received) (marks : List Mark) (lanes : List Lane) (lane new : Lane) → LanesFit columns commits marks lanes → r.column < columns
    → slice_get lanes r.column ≡ Some lane → new.reached ≡ reached_out_of (commits ++ r ∷ []) lane.reached lane.waiting.items → new.waiting.items ≡ marks_above new.reached lane.waiting.items
    → LanesFit columns (commits ++ r ∷ []) marks (slice_set lanes r.column new)
lanes-settled columns commits r marks lanes lane new h lt at reaches waits =
    let stamp : Stamp = reached_out_of (commits ++ r ∷ []) lane.reached lane.waiting.items in
    let waits' : new.waiting.items ≡ marks_above stamp lane.waiting.items = waits ∙ ap (λ s. marks_above s lane.waiting.items) reaches in
    lanes-commit columns commits r marks lanes new h lt
    (subst (λ (t : List Mark × Stamp). LaneFits r.column (commits ++ r ∷ []) marks t.0 t.1) (λ i. (sym waits' i, sym reaches i))
    (lane-settled r.column commits r marks lane.waiting.items lane.reached (h.each r.column lane at)))

pub lanes-marked : (columns : ℕ) (commits : List Received) (marks : List Mark) (mark : Mark) (lanes : List Lane) (lane new : Lane) → LanesFit columns commits marks lanes → mark.column < columns
    → slice_get lanes mark.column ≡ Some lane → new.reached ≡ after_waiting commits lane.reached mark → new.waiting.items ≡ waiting_after commits lane.reached mark lane.waiting.items
    → LanesFit columns commits (marks ++ mark ∷ []) (slice_set lanes mark.column new)
lanes-marked columns commits marks mark lanes lane new h lt at reaches waits =
    lanes-mark columns commits marks mark lanes new h lt
    (subst (λ (t : List Mark × Stamp). LaneFits mark.column commits (marks ++ mark ∷ []) t.0 t.1) (λ i. (sym waits i, sym reaches i))
    (lane-marked commits marks lane.waiting.items lane.reached mark (h.each mark.column lane at)))

-- the lane of a column
pub lane-is : (columns : ℕ) (commits : List Received) (marks : List Mark) (lanes : List Lane) (column : ℕ) (lane : Lane) → LanesFit columns commits marks lanes → column < columns → lane ≡ get_or lanes column lane
    → slice_get lanes column ≡ Some lane
lane-is columns commits marks lanes column lane h lt e = slice_get_read lanes columns column lane (sym h.wide) lt e

-- the lane stays as it was
pub lanes-same : (columns : ℕ) (commits : List Received) (marks : List Mark) (lanes : List Lane) (column : ℕ) (lane new : Lane) → LanesFit columns commits marks lanes → column < columns
    → lane ≡ get_or lanes column lane → new.reached ≡ lane.reached → new.waiting.items ≡ lane.waiting.items → LanesFit columns commits marks (slice_set lanes column new)
lanes-same columns commits marks lanes column lane new h lt read reaches waits =
    lanes-set columns commits commits marks marks lanes column new h lt
    (subst (λ (t : List Mark × Stamp). LaneFits column commits marks t.0 t.1) (λ i. (sym waits i, sym reaches i)) (h.each column lane (lane-is columns commits marks lanes column lane h lt read)))
    (λ c waiting stamp e fits. fits)
