use Rattle.std.proofs.Common.{[], ◌∷◌, ◌++◌}
use Rattle.mk_tool.proofs.StreamLaws.{next, fewer, none_left, head_some, head_is, shows, judged_by}
use Rattle.mk_tool.proofs.stream.Stream.judge_rounds.Goals as goal

pub unwrap-head-requires : goal.unwrap-head-requires
unwrap-head-requires c =
    let old = c.loop-round.self.reader in
    let new = c.take_round.new.self in
    let judge = c.loop-round.self.judge in
    let m = c.loop-round.invariant c.requires.0 c.requires.1 c.requires.2 in
    let n = next c.rounds_so_far_are_a_run.ensures old new judge c.requires.0 m.0 c.in-Some.round c.in-Some.ensures m.1 in
    head_some c.head.result new n.reading c.head.ensures n.is n.reading.state.head n.head

pub show-requires : goal.show-requires
show-requires c =
    let old = c.loop-round.self.reader in
    let new = c.take_round.new.self in
    let judge = c.loop-round.self.judge in
    let m = c.loop-round.invariant c.requires.0 c.requires.1 c.requires.2 in
    let n = next c.rounds_so_far_are_a_run.ensures old new judge c.requires.0 m.0 c.in-Some.round c.in-Some.ensures m.1 in
    let same = head_is c.head.result new n.reading c.head.ensures n.is n.reading.state.head n.head c.unwrap-head.result c.unwrap-head.ensures in
    let s = shows new judge c.requires.0 m.0 c.in-Some.round n c.unwrap-head.result.now same in
    (m.0, s.0, s.1)

pub loop-round-smaller : goal.loop-round-smaller
loop-round-smaller c =
    let m = c.loop-round.invariant c.requires.0 c.requires.1 c.requires.2 in
    fewer c.loop-round.self.reader c.take_round.new.self c.loop-round.self.judge c.requires.0 m.0 c.in-Some.round c.in-Some.ensures m.1

pub loop-round-preserved : goal.loop-round-preserved
loop-round-preserved c = λ text rounds h.
    let old = c.loop-round.self.reader in
    let new = c.take_round.new.self in
    let judge = c.loop-round.self.judge in
    let m = c.loop-round.invariant text rounds h in
    let n = next c.rounds_so_far_are_a_run.ensures old new judge text m.0 c.in-Some.round c.in-Some.ensures m.1 in
    let same = head_is c.head.result new n.reading c.head.ensures n.is n.reading.state.head n.head c.unwrap-head.result c.unwrap-head.ensures in
    let s = shows new judge text m.0 c.in-Some.round n c.unwrap-head.result.now same in
    (m.0 ++ c.in-Some.round ∷ [], judged_by new judge c.show.new.judge text m.0 c.in-Some.round n c.unwrap-head.result.now same (c.in_ok-show.ensures m.0 s.0 s.1))

pub returns : goal.returns
returns c = λ text rounds h.
    let m = c.loop-round.invariant text rounds h in
    none_left c.loop-round.self.reader c.take_round.new.self c.loop-round.self.judge text m.0 c.in_default.ensures m.1
