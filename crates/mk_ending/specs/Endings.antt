-- Why a call wrote no whole text, and with what status it ends.
use Rattle.std.specs.Prelude.{ℕ, ⊤}
use Rattle.mk_io.specs.declared.whole.ReadError.{ReadError}
use Rattle.mk_io.specs.declared.whole.ReadError.TheVariants.{Fault}
use Rattle.mk_io.specs.declared.whole.ReadError.TheVariants as errors
use Rattle.mk_ending.specs.declared.why.Why.{Why}
use Rattle.mk_ending.specs.declared.why.Why.TheVariants.{Usage, Refused, SourceFault, TooLong, SinkFault, NoMemory, NoAttempt}
use Rattle.mk_ending.specs.declared.why.Grammar.{Grammar}
use Rattle.mk_ending.specs.declared.why.Grammar.TheVariants.{Script, Trace}

-- why the bytes of a source were not had
abbrev pub unread : ReadError → Why
unread Fault = SourceFault
unread errors.TooLong = TooLong
unread errors.NoMemory = NoMemory

-- it is one of these
abbrev pub IsUnread : Why → Type 0
IsUnread SourceFault = ⊤
IsUnread TooLong = ⊤
IsUnread NoMemory = ⊤
IsUnread Usage = ⊥
IsUnread (Refused line why) = ⊥
IsUnread SinkFault = ⊥
IsUnread NoAttempt = ⊥

-- the status of a call whose bytes are not in this grammar
abbrev pub refused_status : Grammar → ℕ
refused_status Script = 2
refused_status Trace = 8

-- the status of a call that read bytes in this grammar and ended so
abbrev pub status_of : Grammar → Why → ℕ
status_of grammar Usage = 1
status_of grammar (Refused line why) = refused_status grammar
status_of grammar SourceFault = 3
status_of grammar TooLong = 4
status_of grammar SinkFault = 5
status_of grammar NoMemory = 9
status_of grammar NoAttempt = 10
