use Rattle.std.proofs.Common.{◌≡◌, true, false, Option, sym, ap, ◌∙◌, arith}
use Rattle.std.proofs.lemmas.Bool.Decides.{nat_tests}
use Rattle.std.proofs.lemmas.Grind.{common_steps}
use Rattle.mk_spelling.proofs.TextLaws.{cut_shorter}
use Rattle.mk_trace.specs.Pieces.{Reading}
use Rattle.mk_trace.specs.Answers.{is_reading, fed_behind}
use Rattle.mk_trace.proofs.PieceLaws.{line_turn, piece_refused, piece_held}
use Rattle.mk_trace.proofs.tracing.TraceReader.feed.Goals as goal

pub returns-then-not-is_reading : goal.returns-then-not-is_reading
returns-then-not-is_reading c =
    let no : is_reading c.lines.self ≡ false = grind (arith, nat_tests, common_steps) in
    piece_refused c.fed.result c.lines.self c.args.self.now c.lines.left.now c.args.piece.now no c.lines.invariant c.fed.ensures

pub lines-smaller : goal.lines-smaller
lines-smaller c =
    let shorter = cut_shorter c.lines.left.now (c.in-Some.front.now, c.in-Some.rest.now) (sym c.in-Some.ensures) in
    omega (arith, shorter)

pub lines-preserved : goal.lines-preserved
lines-preserved c =
    let yes : is_reading c.lines.self ≡ true = grind (arith, nat_tests, common_steps) in
    ap (λ (o : Option Reading). fed_behind o c.in-Some.rest.now) c.in_ok-end_line.ensures
    ∙ line_turn c.lines.self c.lines.left.now c.in-Some.front.now c.in-Some.rest.now yes (sym c.in-Some.ensures) ∙ c.lines.invariant

pub returns : goal.returns
returns c =
    piece_held c.hold.result c.lines.self c.hold.new.self c.args.self.now c.lines.left.now c.args.piece.now (sym c.if-not-is_reading-2.ensures) (sym c.in_default.ensures) c.lines.invariant c.hold.ensures

pub returns-then-not-is_reading-2 : goal.returns-then-not-is_reading-2
returns-then-not-is_reading-2 c =
    piece_refused c.fed-then-not-is_reading-2.result c.lines.self c.args.self.now c.lines.left.now c.args.piece.now (sym c.if-not-is_reading-2.ensures) c.lines.invariant c.fed-then-not-is_reading-2.ensures
