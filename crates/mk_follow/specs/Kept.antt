-- What is true of a follower's fields.
use Rattle.std.specs.Prelude.{◌≡◌, ◌<◌, ℕ, List, length, map, Some, slice_get, slice_index_or}
use Rattle.mk_lists.specs.Among.{Each}
use Rattle.mk_txn.specs.declared.Stamp.{Stamp}
use Rattle.mk_txn.specs.declared.Value.{Value}
use Rattle.mk_txn.specs.Stamps.{zero_stamp}
use Rattle.mk_model.specs.OneCopy.{HaveDistinctStamps}
use Rattle.mk_feed_words.specs.declared.Received.{Received}
use Rattle.mk_feed_words.specs.declared.Mark.{Mark}
use Rattle.mk_feed_words.specs.Feed.{watermark, txns_upto}
use Rattle.mk_follow.specs.declared.rule.PickRule.{PickRule}
use Rattle.mk_follow.specs.declared.lane.Lane.{Lane}
use Rattle.mk_follow.specs.Rows.{Shows, HasKeys}
use Rattle.mk_follow.specs.Lanes.{LaneFits}

-- the stamp that a lane has reached
abbrev pub reached_at : List Lane → ℕ → Stamp
reached_at lanes c = slice_index_or (map (λ lane. lane.reached) lanes) c zero_stamp

-- the lanes are those of the columns
pub record LanesFit (columns : ℕ) (commits : List Received) (marks : List Mark) (lanes : List Lane) : Type 0 where
  pub wide : length lanes ≡ columns
  pub each : (c : ℕ) (lane : Lane) → slice_get lanes c ≡ Some lane → LaneFits c commits marks lane.waiting.items lane.reached

-- no two commits have one stamp, and each key is below 256
pub record CommitsStand (commits : List Received) : Type 0 where
  pub apart : HaveDistinctStamps (map (λ r. r.txn) commits)
  pub keys : Each (λ r. HasKeys r.txn.writes) commits

-- lanes, watermark and rows are those of the commits and marks
pub record Kept (columns : ℕ) (rule : PickRule) (commits : List Received) (marks : List Mark) (lanes : List Lane) (rows : List (Stamp × Value)) (stamp : Stamp) : Type 0 where
  pub some_column : 0 < columns
  pub stand : CommitsStand commits
  pub lanes_fit : LanesFit columns commits marks lanes
  pub stamp_is : stamp ≡ watermark columns commits marks
  pub wide : length rows ≡ 256
  pub shows : Shows rule (txns_upto stamp commits) rows
