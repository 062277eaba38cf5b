use Rattle.std.proofs.Common.{◌≡◌, ◌∙◌, sym, Some}
use Rattle.mk_past.specs.Reasons.{reason_of}
use Rattle.mk_tool.specs.Asking.{id_named}
use Rattle.mk_tool.proofs.PastLaws.{has-attempt, has-named}
use Rattle.mk_tool.proofs.answering.reason_text.Goals as goal

pub returns-clause-has : goal.returns-clause-has
returns-clause-has c =
    let run = c.args.run.now in
    let id = c.in-Some.id in
    let named : id_named c.args.client.now c.args.seq run ≡ Some id = sym c.id_of.ensures ∙ c.in-Some.is in
    let is : reason_of run id ≡ Some c.in-Some-2.reason = sym c.in_ok-reason.ensures.reason ∙ c.in-Some-2.is in
    has-named run _ id named (has-attempt run id c.in-Some-2.reason is (c.attempts_have_lines.ensures.only run c.has_shape.ensures c.requires))
