-- What borrowed words stand for.
use Rattle.std.specs.Prelude.{Option, Some, None, Result, Ok, Err}
use Rattle.mk_spelling.specs.declared.fault.TextFault.{TextFault}
use Rattle.mk_tool.specs.declared.asking.Question.{Question}
use Rattle.mk_tool.specs.declared.asking.Question.TheVariants.{Past, Reason}
use Rattle.mk_tool.specs.declared.asking.Form.{Form}
use Rattle.mk_tool.specs.declared.asking.Form.TheVariants.{Check, Of}
use Rattle.mk_tool.specs.Asking.{Asked}
use Rattle.mk_tool.specs.Asking.Asked.{ForVerdict, ForPast, ForReason}

abbrev pub seen_question : Question → Asked
seen_question (Past stamp) = ForPast stamp
seen_question (Reason client seq) = ForReason client.now seq

abbrev pub seen_form : Form → Asked
seen_form Check = ForVerdict
seen_form (Of question) = seen_question question

abbrev pub seen_result : Result Question TextFault → Result Asked TextFault
seen_result (Ok question) = Ok (seen_question question)
seen_result (Err fault) = Err fault

abbrev pub seen_option : Option Form → Option Asked
seen_option None = None
seen_option (Some form) = Some (seen_form form)
