use Rattle.std.proofs.Common.{◌++◌}
use Rattle.mk_trace_lines.specs.LineWords.{keyword_text, begin_keywords, rule_keywords, global_keywords}
use Rattle.mk_trace_lines.proofs.FoundWords.{named_first}
use Rattle.mk_trace_lines.proofs.keywords.step_keyword.Goals as goal

pub returns-in-Some : goal.returns-in-Some
returns-in-Some c =
    named_first keyword_text begin_keywords (rule_keywords ++ global_keywords) c.args.word.now c.in-Some.keyword c.in-Some.ensures
