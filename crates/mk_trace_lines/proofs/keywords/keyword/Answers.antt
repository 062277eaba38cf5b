use Rattle.std.proofs.Common.{◌++◌, sym, ◌∙◌}
use Rattle.mk_trace_lines.specs.LineWords.{keyword_text, head_keywords, heading_keywords, step_keywords}
use Rattle.mk_trace_lines.proofs.FoundWords.{named_first, named_second}
use Rattle.mk_trace_lines.proofs.keywords.keyword.Goals as goal

pub returns-in-Some : goal.returns-in-Some
returns-in-Some c =
    named_first keyword_text head_keywords (heading_keywords ++ step_keywords) c.args.word.now c.in-Some.keyword c.in-Some.ensures

pub returns-in-Some-heading_keyword : goal.returns-in-Some-heading_keyword
returns-in-Some-heading_keyword c =
    named_first keyword_text heading_keywords step_keywords c.args.word.now c.in-Some-heading_keyword.keyword c.in-Some-heading_keyword.ensures
    ∙ sym (named_second keyword_text head_keywords (heading_keywords ++ step_keywords) c.args.word.now c.in-None.ensures)
