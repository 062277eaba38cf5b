-- When a step is enabled: the conditions of each step, in their order.
use Rattle.std.specs.Prelude.{ℕ, Option, Some, None}
use Rattle.mk_column.specs.declared.ColumnError.{ColumnError}
use Rattle.mk_column.specs.declared.ColumnError.TheVariants.{NotEnabled, NoMemory}

-- why a step is not done: its first condition that fails has this number, or there is none and no memory
abbrev pub error_of : Option ℕ → ColumnError
error_of (Some number) = NotEnabled number
error_of None = NoMemory
