-- The grammar of whole scripts.
use Rattle.std.specs.Prelude.{◌≡◌, ℕ, List, [], ◌∷◌, ◌++◌}
use Rattle.std.specs.List.{flat_map}
use Rattle.mk_script.specs.Scripts.{ScriptParts, State, nothing, script_of}
use Rattle.mk_script.specs.Grammar.{IsBehindPrelude, Say}

-- a line and its line feed
abbrev pub ended : List ℕ → List ℕ
ended line = line ++ 10 ∷ []

-- the bytes are lines that say the script
pub record IsScript (bytes : List ℕ) (s : ScriptParts) : Type 0 where
  pub lines : List (List ℕ)
  pub text : bytes ≡ flat_map ended lines
  pub last : State
  pub says : Say nothing lines last
  pub sized : IsBehindPrelude last.section
  pub whole : s ≡ script_of last
