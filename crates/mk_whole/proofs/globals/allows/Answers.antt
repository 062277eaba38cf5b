use Rattle.std.proofs.Common.{◌≡◌, ◌∙◌, sym, ap}
use Rattle.mk_words.specs.declared.GlobalAnswer.TheVariants.{WordFault}
use Rattle.mk_verdict.specs.Sameness.{may_answer}
use Rattle.mk_verdict.proofs.SameFacts.{same_global-tells}
use Rattle.mk_whole.proofs.Allowing.{sure-answer, allowed-exactly, fault-within, same-within}
use Rattle.mk_whole.proofs.globals.allows.Goals as goal

pub returns-then-is_same : goal.returns-then-is_same
returns-then-is_same c =
    let is : c.args.entry.now.answer ≡ WordFault = same_global-tells c.args.entry.now.answer WordFault (sym c.if-is_same.ensures) in
    record {
      allowed = λ run state may. c.may_write.ensures run state may ∙ ap (may_answer state.epochs c.args.entry.now.line) (sym is);
      after = λ ok run state may. fault-within run state c.args.whole.now c.args.entry.now is may.within;
    }

pub returns : goal.returns
returns c =
    record {
      allowed = λ run state may.
          allowed-exactly state.epochs c.args.entry.now.line c.args.entry.now.answer c.in_ok-answer.answer c.is_same-2.result (sure-answer state.epochs c.args.entry.now.line c.in_ok-answer.answer (c.in_ok-answer.ensures.done run state may).answered c.in_ok-answer.ensures.faults)
          c.is_same-2.ensures c.if-is_same.ensures;
      after = λ ok run state may.
          same-within run state c.do_line.new.self c.args.entry.now c.in_ok-answer.answer c.is_same-2.result c.is_same-2.ensures ok (c.in_ok-answer.ensures.done run state may);
    }
