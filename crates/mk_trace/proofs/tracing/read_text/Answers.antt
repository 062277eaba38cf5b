use Rattle.std.proofs.Common.{rules, Option, Result, Ok, sym, ap, ◌∙◌}
use Rattle.mk_spelling.specs.Lines.{Refusal}
use Rattle.mk_history.specs.Histories.{History}
use Rattle.mk_trace.specs.Pieces.{Reading}
use Rattle.mk_trace.specs.Answers.{fed_behind}
use Rattle.mk_trace.proofs.WholeText.{read_refused, read_whole}
use Rattle.mk_trace.proofs.tracing.read_text.Goals as goal

pub returns-in_err-finish : goal.returns-in_err-finish
returns-in_err-finish c = search (rules, read_refused)

pub run-requires : goal.run-requires
run-requires c =
    let fed = c.in_ok-feed.ensures.0 ∙ ap (λ (o : Option Reading). fed_behind o c.args.bytes.now) c.new-reader.ensures in
    let view = sym c.in_ok-finish.ensures.same ∙ sym c.reader-2.view_is in
    let inside = c.reader-2.inside in
    record {
      shape =
          (read_whole c.feed.new.self inside.standing inside.number inside.held.items inside.reader c.args.bytes.now fed c.in_ok-finish.ensures.answer view).0;
    }

pub returns : goal.returns
returns c =
    let fed = c.in_ok-feed.ensures.0 ∙ ap (λ (o : Option Reading). fed_behind o c.args.bytes.now) c.new-reader.ensures in
    let view = sym c.in_ok-finish.ensures.same ∙ sym c.reader-2.view_is in
    let inside = c.reader-2.inside in
    record {
      exact =
          (read_whole c.feed.new.self inside.standing inside.number inside.held.items inside.reader c.args.bytes.now fed c.in_ok-finish.ensures.answer view).1
          ∙ ap (λ (run : History). ok_run run) (sym c.run.ensures);
    }
  where
    ok_run : History → Result History Refusal
    ok_run run = Ok run
