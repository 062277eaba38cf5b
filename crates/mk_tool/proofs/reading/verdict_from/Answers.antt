use Rattle.std.proofs.Common.{◌∙◌, ap, Err}
use Rattle.std.proofs.lemmas.Result.{err_from_is_err_and}
use Rattle.std.specs.String.{string_bytes}
use Rattle.mk_ending.specs.declared.why.Why.TheVariants as reasons
use Rattle.mk_tool.proofs.ReadLaws.{answered, told-verdict, faulty, if_ok_map, if_err_at, same_why}
use Rattle.mk_tool.proofs.reading.verdict_from.Goals as goal

pub returns-clause-ok : goal.returns-clause-ok
returns-clause-ok g c =
    let whole = c.in_ok-read_into.ensures.whole in
    if_ok_map c.judgement.result _ _ c.judgement.ensures.ok
    (λ j says.
    let judged = says whole.0 whole.3 in
    answered _ _ _ whole.0 judged.run j.verdict (string_bytes j.text) whole.1 whole.2 judged.trace judged.shape (told-verdict judged.run j.verdict (string_bytes j.text) judged.verdict_is judged.text_is))

pub returns-clause-refused : goal.returns-clause-refused
returns-clause-refused g c = λ line why is.
    let whole = c.in_ok-read_into.ensures.whole in
    faulty _ _ whole.0 line why whole.1 whole.2 (if_err_at c.judgement.result (reasons.Refused line why) _ c.judgement.ensures.err is whole.0 whole.3)

pub returns-clause-too_long : goal.returns-clause-too_long
returns-clause-too_long g c = λ is.
    let whole = c.in_ok-read_into.ensures.whole in
    absurd (if_err_at c.judgement.result reasons.TooLong _ c.judgement.ensures.err is whole.0 whole.3)

pub returns-clause-fault : goal.returns-clause-fault
returns-clause-fault g c = λ is.
    let whole = c.in_ok-read_into.ensures.whole in
    absurd (if_err_at c.judgement.result reasons.SourceFault _ c.judgement.ensures.err is whole.0 whole.3)

pub returns-clause-no_usage : goal.returns-clause-no_usage
returns-clause-no_usage g c = λ is.
    let whole = c.in_ok-read_into.ensures.whole in
    if_err_at c.judgement.result reasons.Usage _ c.judgement.ensures.err is whole.0 whole.3

pub returns-clause-no_sink : goal.returns-clause-no_sink
returns-clause-no_sink g c = λ is.
    let whole = c.in_ok-read_into.ensures.whole in
    if_err_at c.judgement.result reasons.SinkFault _ c.judgement.ensures.err is whole.0 whole.3

pub returns-clause-no_attempt : goal.returns-clause-no_attempt
returns-clause-no_attempt g c = λ is.
    let whole = c.in_ok-read_into.ensures.whole in
    if_err_at c.judgement.result reasons.NoAttempt _ c.judgement.ensures.err is whole.0 whole.3

pub returns-in_err-read_into-clause-not_too_long : goal.returns-in_err-read_into-clause-not_too_long
returns-in_err-read_into-clause-not_too_long g c =
    let p = err_from_is_err_and c.from_residual.result c.from_residual.ensures.1 in
    λ other. c.in_err-read_into.ensures.not_too_long (λ e. other (p.1 ∙ ap Err (p.2 ∙ same_why _ _ _ e)))
