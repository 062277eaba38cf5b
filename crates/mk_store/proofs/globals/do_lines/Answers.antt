use Rattle.std.proofs.Common.{◌≡◌, ◌∙◌, ◌≤◌, ◌+◌, ℕ, List, [], true, sym, ap, subst, get_or, take}
use Rattle.std.proofs.lemmas.Option.{slice_get-get_or}
use Rattle.mk_words.specs.declared.GlobalEntry.{GlobalEntry}
use Rattle.mk_words.specs.declared.GlobalLine.{GlobalLine}
use Rattle.mk_words.specs.declared.GlobalLine.TheVariants.{Wipe}
use Rattle.mk_history.specs.Histories.{History}
use Rattle.mk_history.specs.Shape.{global_fits}
use Rattle.mk_round.specs.Pasts.{run_of}
use Rattle.mk_store.specs.Globals.{WereDone, state_within}
use Rattle.mk_store.proofs.LineLaws.{none-done, line-may, line-next, all-done}
use Rattle.mk_store.proofs.WordLaws.{one-line}
use Rattle.mk_store.proofs.globals.do_lines.Goals as goal

-- the value that stands for no line
abbrev no-line : GlobalLine
no-line = Wipe 0

pub loop-line-init : goal.loop-line-init
loop-line-init g c script done round may =
    let kept = g.W.EpochWord.kept in
    let faults = g.W.EpochWord.faults in
    subst (λ (es : List GlobalEntry). WereDone kept faults script done round c.args.store.now c.args.store.now [] c.args.words.now c.args.words.now es) (sym c.new-entries.ensures.items)
    (none-done kept faults script done round c.args.head.now c.args.store.now c.args.lines.now c.args.words.now may)

pub do_line-requires-clause-may : goal.do_line-requires-clause-may
do_line-requires-clause-may g c =
    let script = c.requires.0 in
    let done = c.requires.1 in
    let round = c.requires.2 in
    let may = c.requires.3 in
    let were = c.loop-line.invariant script done round may in
    let i = c.loop-line.line-index in
    let at = slice_get-get_or c.args.lines.now i no-line c.loop-line-test.true in (
      run_of script [],
      state_within script done round c.loop-line.entries.items,
      line-may g.W.EpochWord.kept g.W.EpochWord.faults script done round c.args.head.now c.args.store.now c.loop-line.store c.args.lines.now c.args.words.now c.loop-line.words
          c.loop-line.entries.items i (get_or c.args.lines.now i no-line) may were at c.lines_are_ready.ensures,
      were.read,
    )

pub do_line-requires-clause-size : goal.do_line-requires-clause-size
do_line-requires-clause-size g c =
    let may = c.requires.3 in
    let were = c.loop-line.invariant c.requires.0 c.requires.1 c.requires.2 may in
    ap (λ (run : History). run.faults) may.head_is ∙ sym were.done_are.within.sizes.faults

pub do_line-requires-clause-small : goal.do_line-requires-clause-small
do_line-requires-clause-small g c =
    let may = c.requires.3 in
    subst (λ (f : ℕ). f ≤ 3) (sym (ap (λ (run : History). run.faults) may.head_is)) may.whole.head.size_high

pub do_line-requires-clause-words : goal.do_line-requires-clause-words
do_line-requires-clause-words g c =
    let may = c.requires.3 in
    let were = c.loop-line.invariant c.requires.0 c.requires.1 c.requires.2 may in
    were.all ∙ may.all

pub loop-line-preserved : goal.loop-line-preserved
loop-line-preserved g c script done round may =
    let kept = g.W.EpochWord.kept in
    let faults = g.W.EpochWord.faults in
    let store = c.args.store.now in
    let words = c.args.words.now in
    let lines = c.args.lines.now in
    let entries = c.loop-line.entries.items in
    let run = run_of script [] in
    let were = c.loop-line.invariant script done round may in
    let i = c.loop-line.line-index in
    let line = get_or lines i no-line in
    let at = slice_get-get_or lines i no-line c.loop-line-test.true in
    let can = line-may kept faults script done round c.args.head.now store c.loop-line.store lines words c.loop-line.words entries i line may were at c.lines_are_ready.ensures in
    let answer = c.in_ok-answer.answer in
    let new = c.do_line.new.store in
    let new_words = c.do_line.new.words in
    let was = c.in_ok-answer.ensures.done run (state_within script done round entries) can in
    let read = c.in_ok-answer.ensures.words run (state_within script done round entries) can were.read in
    let fits : global_fits run (one-line line answer) ≡ true =
    ap (λ (r : History). global_fits r (one-line line answer)) (sym may.head_is) ∙ sym (c.line_fits.ensures []) ∙ c.if-not-line_fits.false in
    subst (λ (es : List GlobalEntry). WereDone kept faults script done round store new (take (i + 1) lines) words new_words es) (sym c.in_ok-push.ensures.items)
    (line-next kept faults script done round c.args.head.now store c.loop-line.store lines words c.loop-line.words entries i line may were at new new_words answer c.loop-line-test.true was read
    c.in_ok-answer.ensures.faults c.do_line.ensures.rest fits c.do_line.auto.words)

pub returns : goal.returns
returns g c script done round may =
    all-done g.W.EpochWord.kept g.W.EpochWord.faults script done round c.args.store.now c.loop-line.store c.args.lines.now c.args.words.now c.loop-line.words c.loop-line.entries.items
    c.loop-line.line-index c.loop-line-test.false (c.loop-line.invariant script done round may)
