use Rattle.std.proofs.Common.{◌≡◌, ◌++◌, List, map}
use Rattle.std.specs.List.{flat_map}
use Rattle.std.specs.String.{string_bytes}
use Rattle.mk_txn.specs.Transactions.{Transaction}
use Rattle.mk_report.specs.Seen.{seen_entry}
use Rattle.mk_past.specs.Pasts.{copy_at}
use Rattle.mk_past.specs.Indexes.{IsPastOf}
use Rattle.mk_feed_words.specs.MarkStamps.{last_mark}
use Rattle.mk_shown.specs.FollowTexts.{followed_entry, followed_lines}
use Rattle.mk_shown.proofs.follow.put_picture.Given as goal

-- with the lines of the entries that are left it comes to all lines
abbrev pub invariant-each : goal.invariant-each
invariant-each l =
    (commits : List Transaction) → IsPastOf l.past commits →
    string_bytes l.out ++ flat_map (followed_entry (copy_at last_mark commits)) (map seen_entry l.name-iterator) ≡ string_bytes l.fn.out ++ followed_lines l.keys.names (copy_at last_mark commits)
