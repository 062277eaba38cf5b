-- The script that a form of words asks for, and why there is none.
use Rattle.std.specs.Prelude.{◌≡◌, ◌≤◌, ℕ, Bool, true, false, List, length, Option, Some, None, Err, ⊤}
use Rattle.mk_spelling.specs.declared.fault.TextFault.{TextFault}
use Rattle.mk_script.specs.Scripts.{ScriptParts}
use Rattle.mk_script.specs.Texts.{IsScript}
use Rattle.mk_script.specs.Parsed.{script_text}
use Rattle.mk_gen.specs.Generated.{generated}
use Rattle.mk_ending.specs.declared.why.Why.{Why}
use Rattle.mk_ending.specs.declared.why.Why.TheVariants.{Refused, SourceFault, TooLong, NoMemory}
use Rattle.mk_top.specs.declared.form.Load.{Load}
use Rattle.mk_top.specs.declared.form.Form.{Form}
use Rattle.mk_top.specs.declared.form.Form.TheVariants.{Report, Trace, Json, Follow, Summary}

-- the bytes of a script at the most
abbrev pub script_limit : ℕ
script_limit = 4194304

-- the bytes that a source held, where it tells them, stand in the grammar, for this script
abbrev pub Says : Option (List ℕ) → ScriptParts → Type 0
Says None script = ⊤
Says (Some bytes) script = (length bytes ≤ script_limit) × IsScript bytes script

-- this is their first faulty line, and its first fault
abbrev pub SaysFault : Option (List ℕ) → ℕ → TextFault → Type 0
SaysFault None line fault = ⊤
SaysFault (Some bytes) line fault = (length bytes ≤ script_limit) × (script_text bytes ≡ Err (line, fault))

-- the script of a load
abbrev pub script_of_load : Load → ScriptParts
script_of_load load = generated load.number load.clients load.txns load.keys

-- the script that a form asks for, where the source held these bytes
abbrev pub IsScriptOf : Form → Option (List ℕ) → ScriptParts → Type 0
IsScriptOf Report left script = Says left script
IsScriptOf Trace left script = Says left script
IsScriptOf Json left script = Says left script
IsScriptOf Follow left script = Says left script
IsScriptOf (Summary load) left script = script ≡ script_of_load load

-- why these bytes are no script
abbrev pub IsUnsaid : List ℕ → Why → Type 0
IsUnsaid bytes (Refused line why) = script_text bytes ≡ Err (line, why)
IsUnsaid bytes NoMemory = ⊤
IsUnsaid bytes _ = ⊥

-- why there is no script
abbrev pub IsUnmade : Why → Type 0
IsUnmade (Refused line why) = ⊤
IsUnmade SourceFault = ⊤
IsUnmade TooLong = ⊤
IsUnmade NoMemory = ⊤
IsUnmade _ = ⊥

-- the source or what it held is why
abbrev pub is_of_reading : Why → Bool
is_of_reading (Refused line fault) = true
is_of_reading SourceFault = true
is_of_reading TooLong = true
is_of_reading _ = false
