-- Calls that are numbered from 1, of which some are to fail.
use Rattle.std.specs.Prelude.{ℕ, Bool, ◌==◌, List}
use Rattle.std.specs.List.{list_any}
use Rattle.mk_io.specs.Faults.{one_more}

-- the numbers of the calls that are to fail, how many calls were made, and how many of them failed
pub record Calls : Type 0 where
  pub failing : List ℕ
  pub made : ℕ
  pub faults : ℕ

-- no call was made yet
abbrev pub no_calls : List ℕ → Calls
no_calls failing = record { failing = failing; made = 0; faults = 0 }

-- whether the next call is to fail
abbrev pub is_next_listed : Calls → Bool
is_next_listed calls = list_any (λ n. n == one_more calls.made) calls.failing

-- one call more was made
abbrev pub with_call : Calls → Calls
with_call calls = record calls { made = one_more calls.made }

-- the call that was made last failed
abbrev pub with_fault : Calls → Calls
with_fault calls = record calls { faults = one_more calls.faults }
