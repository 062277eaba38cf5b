use Rattle.std.proofs.Common.{◌≡◌, ◌++◌, ◌+◌, ◌-◌, take, length}
use Rattle.std.specs.List.{flat_map}
use Rattle.std.specs.String.{string_bytes}
use Rattle.mk_model.specs.ColumnState.{numbers_from}
use Rattle.mk_run.specs.Walking.{HasWalked}
use Rattle.mk_shown.specs.FollowTexts.{shown_line}
use Rattle.mk_shown.proofs.follow.put_rounds.Given as goal

-- the rounds so far were walked through, and with the lines of those that are left it comes to all lines
abbrev pub invariant-each : goal.invariant-each
invariant-each l = record {
  was : HasWalked l.run l.walk (take l.place l.run.rounds);
  text : string_bytes l.out ++ flat_map (shown_line l.run) (numbers_from (l.place + 1) (length l.run.rounds - l.place))
      ≡ string_bytes l.fn.out ++ flat_map (shown_line l.run) (numbers_from 1 (length l.run.rounds));
}
