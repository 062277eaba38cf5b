-- What a contract sees of the sources, sinks and words in memory, and what a call of them answers and leaves.
use Rattle.std.specs.Prelude.{ℕ, ◌-◌, ◌==◌, ◌&&◌, ◌||◌, nat_lt, Bool, List, ◌++◌, length, drop, min}
use Rattle.mk_io.specs.Calls.{Calls, is_next_listed, with_call, with_fault}

-- the bytes that are left, and how many a call gives at most
pub record SourceState : Type 0 where
  pub left : List ℕ
  pub piece : ℕ
  pub calls : Calls

-- how many bytes the next call gives to a buffer of this size
abbrev pub next_read : SourceState → ℕ → ℕ
next_read source size = min (min source.piece size) (length source.left)

-- after a call that gives so many bytes
abbrev pub after_read : SourceState → ℕ → SourceState
after_read source count = record source { left = drop count source.left; calls = with_call source.calls }

-- after a call that fails
abbrev pub after_failed_read : SourceState → SourceState
after_failed_read source = record source { calls = with_fault (with_call source.calls) }

-- the bytes that are held, and how many a call takes at most
pub record SinkState : Type 0 where
  pub held : List ℕ
  pub piece : ℕ
  pub calls : Calls

-- how many bytes a sink has room for
abbrev pub room : ℕ
room = 4194304

-- how many of these bytes the next call takes, where it doesn't fail
abbrev pub next_write : SinkState → List ℕ → ℕ
next_write sink bytes = min (min sink.piece (length bytes)) (room - length sink.held)

-- whether the next call with these bytes fails: it is listed, or finds no room
abbrev pub fails_write : SinkState → List ℕ → Bool
fails_write sink bytes = is_next_listed sink.calls || (nat_lt 0 (length bytes) && (next_write sink bytes == 0))

-- after a call that takes these bytes
abbrev pub after_write : SinkState → List ℕ → SinkState
after_write sink taken = record sink { held = sink.held ++ taken; calls = with_call sink.calls }

-- after a call that fails
abbrev pub after_failed_write : SinkState → SinkState
after_failed_write sink = record sink { calls = with_fault (with_call sink.calls) }

-- the number that is kept
pub record WordState : Type 0 where
  pub kept : ℕ
  pub calls : Calls

-- after a set of this number
abbrev pub after_set : WordState → ℕ → WordState
after_set word value = record word { kept = value; calls = with_call word.calls }

-- after a set that fails
abbrev pub after_failed_set : WordState → WordState
after_failed_set word = record word { calls = with_fault (with_call word.calls) }
