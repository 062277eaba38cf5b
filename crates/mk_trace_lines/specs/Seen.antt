-- What the code's borrowed parts stand for.
use Rattle.std.specs.Prelude.{ℕ, List, Option, Some, None, Result, Ok, Err}
use Rattle.std.specs.Borrow.{Bor}
use Rattle.mk_spelling.specs.declared.fault.TextFault.{TextFault}
use Rattle.mk_spelling.specs.Words.{words_behind}
use Rattle.mk_trace_lines.specs.declared.shapes.Stamped.{Stamped}
use Rattle.mk_trace_lines.specs.declared.shapes.Answered.{Answered}
use Rattle.mk_trace_lines.specs.declared.shapes.Answered.TheVariants as answers
use Rattle.mk_trace_lines.specs.declared.shapes.Acted.{Acted}
use Rattle.mk_trace_lines.specs.declared.shapes.Acted.TheVariants as acts
use Rattle.mk_trace_lines.specs.declared.replies.Replied.{Replied}
use Rattle.mk_trace_lines.specs.declared.replies.Replied.TheVariants as replies
use Rattle.mk_trace_lines.specs.ActShapes.{Parts, AnswerShape, ActShape}
use Rattle.mk_trace_lines.specs.ActShapes.AnswerShape.{OkayShape, RefusedShape}
use Rattle.mk_trace_lines.specs.ActShapes.ActShape.{GetShape, CheckReadShape, CheckWriteShape, CommitReadShape, CommitWriteShape, ReleaseReadShape, ReleaseWriteShape}
use Rattle.mk_trace_lines.specs.Replies.{ReplyShape}
use Rattle.mk_trace_lines.specs.Replies.ReplyShape.{OneWord, OneNumber, TwoNumbers}

-- a first word, and the words of the text behind it
abbrev pub seen_first : Option (Bor (List ℕ) × Option (Bor (List ℕ))) → Option (List ℕ × List (List ℕ))
seen_first None = None
seen_first (Some p) = Some (p.0.now, words_behind p.1)

-- the parts of a stamp
abbrev pub stamped : Stamped → Parts
stamped s = (s.time.now, s.client.now)

abbrev pub seen_stamp : Result Stamped TextFault → Result Parts TextFault
seen_stamp (Ok s) = Ok (stamped s)
seen_stamp (Err fault) = Err fault

-- the parts of a check's answer
abbrev pub answered : Answered → AnswerShape
answered answers.Okay = OkayShape
answered (answers.Refused reason stamp) = RefusedShape reason.now (stamped stamp)

abbrev pub seen_answer : Result Answered TextFault → Result AnswerShape TextFault
seen_answer (Ok a) = Ok (answered a)
seen_answer (Err fault) = Err fault

-- the parts of an act with its answer
abbrev pub acted : Acted → ActShape
acted (acts.Get version value) = GetShape (stamped version) value.now
acted (acts.CheckRead ts version answer) = CheckReadShape (stamped ts) (stamped version) (answered answer)
acted (acts.CheckWrite ts answer) = CheckWriteShape (stamped ts) (answered answer)
acted (acts.CommitRead ts) = CommitReadShape (stamped ts)
acted (acts.CommitWrite ts value) = CommitWriteShape (stamped ts) value.now
acted (acts.ReleaseRead ts) = ReleaseReadShape (stamped ts)
acted (acts.ReleaseWrite ts) = ReleaseWriteShape (stamped ts)

abbrev pub seen_act : Result Acted TextFault → Result ActShape TextFault
seen_act (Ok a) = Ok (acted a)
seen_act (Err fault) = Err fault

-- the parts of a global line's answer
abbrev pub replied : Replied → ReplyShape
replied (replies.Word word) = OneWord word
replied (replies.Number word n) = OneNumber word n.now
replied (replies.Numbers word n m) = TwoNumbers word n.now m.now

abbrev pub seen_reply : Result Replied TextFault → Result ReplyShape TextFault
seen_reply (Ok r) = Ok (replied r)
seen_reply (Err fault) = Err fault
