-- What a commit and a mark leave, all fields together; and what stands where nothing was received.
use Rattle.std.proofs.Common.{◌≡◌, ℕ, zero, suc, ◌<◌, false, refl, sym, ap, subst, ◌∙◌, List, [], ◌∷◌, ◌++◌, length, get_or}
use Rattle.std.specs.Prelude.{slice_set}
use Rattle.mk_txn.specs.declared.Stamp.{Stamp}
use Rattle.mk_txn.specs.declared.Value.{Value}
use Rattle.mk_txn.specs.Stamps.{is_before, zero_stamp}
use Rattle.mk_txn.specs.Transactions.{Transaction}
use Rattle.mk_feed_words.specs.declared.Received.{Received}
use Rattle.mk_feed_words.specs.declared.Mark.{Mark}
use Rattle.mk_feed_words.specs.Feed.{earlier_stamp, least_to, least_over, watermark}
use Rattle.mk_follow.specs.declared.rule.PickRule.{PickRule}
use Rattle.mk_follow.specs.declared.lane.Lane.{Lane}
use Rattle.mk_follow.specs.Rows.{HasKeys}
use Rattle.mk_follow.specs.Following.{CommitFits, has_id}
use Rattle.mk_follow.specs.Lanes.{reached_out_of, marks_above, after_waiting, waiting_after}
use Rattle.mk_follow.specs.Kept.{reached_at, LanesFit, CommitsStand, Kept}
use Rattle.mk_follow.proofs.Watermarks.{least-watermark, watermark-commit, watermark-mark}
use Rattle.mk_follow.proofs.Keeps.{commits-stand, lanes-settled, lanes-marked, lane-is}

-- commits and lanes are as they must be, and the stamp is the watermark, which did not fall
pub record IsRisen (columns : ℕ) (commits : List Received) (marks : List Mark) (lanes : List Lane) (old high : Stamp) : Type 0 where
  pub stand : CommitsStand commits
  pub fit : LanesFit columns commits marks lanes
  pub high_is : high ≡ watermark columns commits marks
  pub order : is_before high old ≡ false

-- the least stamp that the lanes have reached is the watermark
high-is : (columns : ℕ) (commits : List Received) (marks : List Mark) (lanes lanes' : List Lane) (high : Stamp) → LanesFit columns commits marks lanes → lanes' ≡ lanes
    → high ≡ least_over (reached_at lanes') (length lanes') → high ≡ watermark columns commits marks
high-is columns commits marks lanes lanes' high fit same is =
    is ∙ ap (λ (l : List Lane). least_over (reached_at l) (length l)) same ∙ least-watermark columns commits marks lanes fit

pub after-commit : (columns : ℕ) (rule : PickRule) (commits commits' : List Received) (marks : List Mark) (lanes lanes' : List Lane) (rows : List (Stamp × Value)) (stamp : Stamp) (column : ℕ)
    (txn : Transaction) (lane new : Lane) (high : Stamp) → Kept columns rule commits marks lanes rows stamp → column < columns → CommitFits column txn commits → has_id txn.id commits ≡ false
    → HasKeys txn.writes → commits' ≡ commits ++ record { column = column; txn = txn } ∷ [] → lane ≡ get_or lanes column lane
    → new.reached ≡ reached_out_of commits' lane.reached lane.waiting.items → new.waiting.items ≡ marks_above new.reached lane.waiting.items → lanes' ≡ slice_set lanes column new
    → high ≡ least_over (reached_at lanes') (length lanes') → IsRisen columns commits' marks (slice_set lanes column new) stamp high
after-commit columns rule commits commits' marks lanes lanes' rows stamp column txn lane new high h lt fits none keys is read reaches waits same least =
    subst (λ (l : List Received). IsRisen columns l marks (slice_set lanes column new) stamp high) (sym is)
    (record {
      stand = commits-stand commits column txn h.stand fits none keys;
      fit = fit;
      high_is = at;
      order = (λ i. is_before (at i) (h.stamp_is i)) ∙ watermark-commit columns commits marks r;
    })
  where
    r : Received
    r = record { column = column; txn = txn }

    fit : LanesFit columns (commits ++ r ∷ []) marks (slice_set lanes column new)
    fit =
        lanes-settled columns commits r marks lanes lane new h.lanes_fit lt (lane-is columns commits marks lanes column lane h.lanes_fit lt read)
        (reaches ∙ ap (λ (l : List Received). reached_out_of l lane.reached lane.waiting.items) is) waits

    at : high ≡ watermark columns (commits ++ r ∷ []) marks
    at = high-is columns (commits ++ r ∷ []) marks (slice_set lanes column new) lanes' high fit same least

pub after-mark : (columns : ℕ) (rule : PickRule) (commits : List Received) (marks marks' : List Mark) (lanes lanes' : List Lane) (rows : List (Stamp × Value)) (stamp : Stamp) (mark : Mark)
    (lane new : Lane) (high : Stamp) → Kept columns rule commits marks lanes rows stamp → mark.column < columns → marks' ≡ marks ++ mark ∷ [] → lane ≡ get_or lanes mark.column lane
    → new.reached ≡ after_waiting commits lane.reached mark → new.waiting.items ≡ waiting_after commits lane.reached mark lane.waiting.items → lanes' ≡ slice_set lanes mark.column new
    → high ≡ least_over (reached_at lanes') (length lanes') → IsRisen columns commits marks' (slice_set lanes mark.column new) stamp high
after-mark columns rule commits marks marks' lanes lanes' rows stamp mark lane new high h lt is read reaches waits same least =
    subst (λ (l : List Mark). IsRisen columns commits l (slice_set lanes mark.column new) stamp high) (sym is)
    (record {
      stand = h.stand;
      fit = fit;
      high_is = at;
      order = (λ i. is_before (at i) (h.stamp_is i)) ∙ watermark-mark columns commits marks mark;
    })
  where
    fit : LanesFit columns commits (marks ++ mark ∷ []) (slice_set lanes mark.column new)
    fit = lanes-marked columns commits marks mark lanes lane new h.lanes_fit lt (lane-is columns commits marks lanes mark.column lane h.lanes_fit lt read) reaches waits

    at : high ≡ watermark columns commits (marks ++ mark ∷ [])
    at = high-is columns commits (marks ++ mark ∷ []) (slice_set lanes mark.column new) lanes' high fit same least

-- ---- nothing received

least-zero : (n : ℕ) → least_to (λ column. zero_stamp) n ≡ zero_stamp
least-zero zero = refl
least-zero (suc n) = ap (λ (s : Stamp). earlier_stamp s zero_stamp) (least-zero n)

pub watermark-none : (columns : ℕ) → watermark columns [] [] ≡ zero_stamp
watermark-none zero = refl
watermark-none (suc n) = least-zero n
