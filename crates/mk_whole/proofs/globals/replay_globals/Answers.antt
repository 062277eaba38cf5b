use Rattle.std.proofs.Common.{◌≡◌, ◌∙◌, sym, true, false, get_or}
use Rattle.mk_words.specs.declared.GlobalEntry.{GlobalEntry}
use Rattle.mk_words.specs.declared.GlobalLine.TheVariants.{Wipe}
use Rattle.mk_words.specs.declared.GlobalAnswer.TheVariants.{Ok as Done}
use Rattle.mk_verdict.specs.Sameness.{may_answer}
use Rattle.std.proofs.lemmas.List.{get_or_default}
use Rattle.mk_whole.proofs.LinesInTurn.{none-done, next-may, flaw-found, one-more, no-flaw, all-done}
use Rattle.mk_whole.proofs.globals.replay_globals.Goals as goal

pub loop-place-init : goal.loop-place-init
loop-place-init c = λ run state h. none-done run state c.args.entries.now c.args.whole.now h

pub allows-requires : goal.allows-requires
allows-requires c =
    let d : GlobalEntry = record { line = Wipe 0; answer = Done } in
    let entry : GlobalEntry = get_or c.args.entries.now c.loop-place.place d in
    let is : entry ≡ get_or c.args.entries.now c.loop-place.place entry = get_or_default c.args.entries.now c.loop-place.place d entry c.loop-place-test.true in
    let run = c.requires.0 in
    let state = c.requires.1 in
    let done = c.loop-place.invariant run state c.requires.2 in
    (run, done.next, next-may run state c.args.entries.now c.loop-place.place c.loop-place.whole entry c.loop-place-test.true is done)

pub loop-place-preserved : goal.loop-place-preserved
loop-place-preserved c run state h =
    let d : GlobalEntry = record { line = Wipe 0; answer = Done } in
    let entry : GlobalEntry = get_or c.args.entries.now c.loop-place.place d in
    let is : entry ≡ get_or c.args.entries.now c.loop-place.place entry = get_or_default c.args.entries.now c.loop-place.place d entry c.loop-place-test.true in
    let done = c.loop-place.invariant run state h in
    let may = next-may run state c.args.entries.now c.loop-place.place c.loop-place.whole entry c.loop-place-test.true is done in
    let ok : may_answer done.next.epochs entry.line entry.answer ≡ true = sym (c.in_ok-allows.ensures.allowed run done.next may) ∙ c.if-not-branch.false in
    one-more run state c.args.entries.now c.loop-place.place c.loop-place.whole entry c.loop-place-test.true is done ok c.allows.new.whole
    (c.in_ok-allows.ensures.after c.if-not-branch.false run done.next may)

pub returns-then-not-branch-clause-flaw : goal.returns-then-not-branch-clause-flaw
returns-then-not-branch-clause-flaw c run state h =
    let d : GlobalEntry = record { line = Wipe 0; answer = Done } in
    let entry : GlobalEntry = get_or c.args.entries.now c.loop-place.place d in
    let is : entry ≡ get_or c.args.entries.now c.loop-place.place entry = get_or_default c.args.entries.now c.loop-place.place d entry c.loop-place-test.true in
    let done = c.loop-place.invariant run state h in
    let may = next-may run state c.args.entries.now c.loop-place.place c.loop-place.whole entry c.loop-place-test.true is done in
    let refused : may_answer done.next.epochs entry.line entry.answer ≡ false = sym (c.in_ok-allows.ensures.allowed run done.next may) ∙ c.if-not-branch.true in
    sym (flaw-found run state c.args.entries.now c.loop-place.place c.loop-place.whole entry c.loop-place-test.true is done refused)

pub returns-clause-flaw : goal.returns-clause-flaw
returns-clause-flaw c run state h =
    sym (no-flaw run state c.args.entries.now c.loop-place.place c.loop-place.whole c.loop-place-test.false (c.loop-place.invariant run state h))

pub returns-clause-after : goal.returns-clause-after
returns-clause-after c none run state h =
    all-done run state c.args.entries.now c.loop-place.place c.loop-place.whole c.loop-place-test.false (c.loop-place.invariant run state h)
