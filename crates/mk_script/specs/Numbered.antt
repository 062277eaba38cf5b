-- Why a name of a line got no number.
use Rattle.mk_spelling.specs.declared.fault.TextFault.TheVariants.{Name, Many}
use Rattle.mk_names.specs.declared.names.NameError.{NameError}
use Rattle.mk_names.specs.declared.names.NameError.TheVariants as names
use Rattle.mk_script.specs.declared.error.LineError.{LineError}
use Rattle.mk_script.specs.declared.error.LineError.TheVariants.{Memory, Fault}

-- a text that is no name, one name too many, or want of memory
abbrev pub unnumbered : NameError → LineError
unnumbered names.BadName = Fault Name
unnumbered names.Full = Fault Many
unnumbered names.NoMemory = Memory
