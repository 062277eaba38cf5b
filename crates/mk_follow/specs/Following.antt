-- What a follower stands for: the commits and marks that it received, its columns and its rule.
use Rattle.std.specs.Prelude.{◌≡◌, ◌≢◌, ℕ, Bool, true, false, not, List, [], ◌∷◌, ◌++◌, count_by, Option, Some, None, if◌then◌else◌}
use Rattle.std.specs.List.{list_any}
use Rattle.mk_lists.specs.Among.{Among}
use Rattle.mk_txn.specs.declared.Stamp.{Stamp}
use Rattle.mk_txn.specs.declared.TxnId.{TxnId}
use Rattle.mk_txn.specs.declared.Value.{Value}
use Rattle.mk_txn.specs.Transactions.{Transaction, same_id}
use Rattle.mk_txn.specs.LatestWrites.{VersionedValue}
use Rattle.mk_model.specs.OneCopy.{version_in}
use Rattle.mk_feed_words.specs.declared.Received.{Received}
use Rattle.mk_feed_words.specs.declared.Mark.{Mark}
use Rattle.mk_feed_words.specs.Feed.{is_upto, watermark, picture_at}
use Rattle.mk_follow.specs.declared.follower.Taken.{Taken}
use Rattle.mk_follow.specs.declared.follower.Taken.TheVariants.{New, Again}
use Rattle.mk_follow.specs.declared.rule.PickRule.{PickRule}
use Rattle.mk_follow.specs.Rules.{picks}

pub record Following : Type 0 where
  pub columns : ℕ
  pub rule : PickRule
  -- the distinct commits that were received, each once
  pub commits : List Received
  pub marks : List Mark

-- whether a commit of this attempt was received
abbrev pub has_id : TxnId → List Received → Bool
has_id id commits = list_any (λ r. same_id r.txn.id id) commits

-- the watermark of what was received
abbrev pub watermark_of : Following → Stamp
watermark_of s = watermark s.columns s.commits s.marks

-- a version and its value
abbrev pub shown_row : VersionedValue → Stamp × Value
shown_row v = (v.version, v.value)

-- what the picture at the watermark holds of a key, where the rule picks it
abbrev pub shown_version : Following → ℕ → Option (Stamp × Value)
shown_version s key = if picks s.rule key then Some (shown_row (version_in (picture_at (watermark_of s) s.commits) key)) else None

-- how many commits lie above the watermark
abbrev pub behind_of : Following → ℕ
behind_of s = count_by (λ r. not (is_upto (watermark_of s) r)) s.commits

-- a commit of the same attempt is the same one from the same column, and other attempts have other stamps
pub record CommitFits (column : ℕ) (txn : Transaction) (commits : List Received) : Type 0 where
  pub same : (r : Received) → Among r commits → r.txn.id ≡ txn.id → (r.column ≡ column) × (r.txn ≡ txn)
  pub other : (r : Received) → Among r commits → r.txn.id ≢ txn.id → r.txn.stamp ≢ txn.stamp

-- Again exactly where a commit of that attempt was received
abbrev pub AfterCommit : Taken → Following → ℕ → Transaction → Following → Type 0
AfterCommit New old column txn new = (has_id txn.id old.commits ≡ false) × (new ≡ record old { commits = old.commits ++ record { column = column; txn = txn } ∷ [] })
AfterCommit Again old column txn new = (has_id txn.id old.commits ≡ true) × (new ≡ old)
