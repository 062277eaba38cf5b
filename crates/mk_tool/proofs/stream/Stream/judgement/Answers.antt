use Rattle.std.proofs.Common.{◌∙◌, subst, Err}
use Rattle.mk_trace.specs.Answers.{Finishes}
use Rattle.mk_tool.proofs.StreamLaws.{refused, done, head_some, head_is, copied_some, copied_is, its_stands, its_shape, its_head, its_some, its_works, its_judgement}
use Rattle.mk_tool.proofs.stream.Stream.judgement.Goals as goal

pub returns-in-Err-BadLine-clause-err : goal.returns-in-Err-BadLine-clause-err
returns-in-Err-BadLine-clause-err c = λ text h.
    refused c.a_reader_answers_the_text.ensures c.args.self.now.reader c.args.self.now.judge text c.in-Err-BadLine.line c.in-Err-BadLine.why
    (subst (λ e. Finishes (Err e) c.args.self.now.reader) c.in-Err-BadLine.field-0-is c.in-Err-BadLine.ensures.answer) h

pub unwrap-head-requires : goal.unwrap-head-requires
unwrap-head-requires c =
    let d = done c.a_reader_answers_the_text.ensures c.read_rounds_are_a_run.ensures c.rounds_so_far_are_a_run.ensures c.args.self.now.reader c.args.self.now.judge c.requires.0 c.in-Ok.ensures.answer c.requires.1 in
    head_some c.head.result c.finish.new.self d.reading c.head.ensures (c.finish.ensures.same ∙ d.is) d.judge_view.head d.there

pub unwrap-judge-requires : goal.unwrap-judge-requires
unwrap-judge-requires c =
    let d = done c.a_reader_answers_the_text.ensures c.read_rounds_are_a_run.ensures c.rounds_so_far_are_a_run.ensures c.args.self.now.reader c.args.self.now.judge c.requires.0 c.in-Ok.ensures.answer c.requires.1 in
    copied_some c.as_ref.result d.judge_view (c.as_ref.ensures.value ∙ d.judge_is)

pub said-requires-clause-head : goal.said-requires-clause-head
said-requires-clause-head c =
    let d = done c.a_reader_answers_the_text.ensures c.read_rounds_are_a_run.ensures c.rounds_so_far_are_a_run.ensures c.args.self.now.reader c.args.self.now.judge c.requires.0 c.in-Ok.ensures.answer c.requires.1 in
    let heads = head_is c.head.result c.finish.new.self d.reading c.head.ensures (c.finish.ensures.same ∙ d.is) d.judge_view.head d.there c.unwrap-head.result c.unwrap-head.ensures in
    let same = copied_is c.as_ref.result c.unwrap-judge.result d.judge_view c.unwrap-judge.ensures (c.as_ref.ensures.value ∙ d.judge_is) in
    its_head c.args.self.now.reader c.args.self.now.judge c.requires.0 d c.unwrap-head.result.now c.unwrap-judge.result.now heads same

pub said-requires-clause-some : goal.said-requires-clause-some
said-requires-clause-some c =
    let d = done c.a_reader_answers_the_text.ensures c.read_rounds_are_a_run.ensures c.rounds_so_far_are_a_run.ensures c.args.self.now.reader c.args.self.now.judge c.requires.0 c.in-Ok.ensures.answer c.requires.1 in
    let heads = head_is c.head.result c.finish.new.self d.reading c.head.ensures (c.finish.ensures.same ∙ d.is) d.judge_view.head d.there c.unwrap-head.result c.unwrap-head.ensures in
    let same = copied_is c.as_ref.result c.unwrap-judge.result d.judge_view c.unwrap-judge.ensures (c.as_ref.ensures.value ∙ d.judge_is) in
    its_some c.args.self.now.reader c.args.self.now.judge c.requires.0 d c.unwrap-head.result.now c.unwrap-judge.result.now heads same

pub said-requires-clause-works : goal.said-requires-clause-works
said-requires-clause-works c =
    let d = done c.a_reader_answers_the_text.ensures c.read_rounds_are_a_run.ensures c.rounds_so_far_are_a_run.ensures c.args.self.now.reader c.args.self.now.judge c.requires.0 c.in-Ok.ensures.answer c.requires.1 in
    let heads = head_is c.head.result c.finish.new.self d.reading c.head.ensures (c.finish.ensures.same ∙ d.is) d.judge_view.head d.there c.unwrap-head.result c.unwrap-head.ensures in
    let same = copied_is c.as_ref.result c.unwrap-judge.result d.judge_view c.unwrap-judge.ensures (c.as_ref.ensures.value ∙ d.judge_is) in
    its_works c.args.self.now.reader c.args.self.now.judge c.requires.0 d c.unwrap-head.result.now c.unwrap-judge.result.now heads same

pub returns-clause-ok : goal.returns-clause-ok
returns-clause-ok c = λ text h.
    let d = done c.a_reader_answers_the_text.ensures c.read_rounds_are_a_run.ensures c.rounds_so_far_are_a_run.ensures c.args.self.now.reader c.args.self.now.judge text c.in-Ok.ensures.answer h in
    let heads = head_is c.head.result c.finish.new.self d.reading c.head.ensures (c.finish.ensures.same ∙ d.is) d.judge_view.head d.there c.unwrap-head.result c.unwrap-head.ensures in
    let same = copied_is c.as_ref.result c.unwrap-judge.result d.judge_view c.unwrap-judge.ensures (c.as_ref.ensures.value ∙ d.judge_is) in
    let stands = its_stands c.args.self.now.reader c.args.self.now.judge text d c.unwrap-head.result.now c.unwrap-judge.result.now heads same in
    let shape = its_shape c.args.self.now.reader c.args.self.now.judge text d c.unwrap-head.result.now c.unwrap-judge.result.now heads same in
    its_judgement c.args.self.now.reader c.args.self.now.judge text d c.unwrap-head.result.now c.unwrap-judge.result.now heads same _ _
    (c.in_ok-said.ensures.verdict d.rounds stands shape) (c.in_ok-said.ensures.text d.rounds stands shape)
