-- The indexes and counters that a reader of lines keeps.
use Rattle.std.specs.Prelude.{◌≡◌, ◌+◌, ◌≤◌, ℕ, List, length, sum_by}
use Rattle.mk_names.specs.NameLists.{NameList}
use Rattle.mk_script.specs.declared.lines.ClientLine.{ClientLine}
use Rattle.mk_script.specs.declared.lines.Round.{Round}
use Rattle.mk_script.specs.Scripts.{names_of}

-- names: those of the clients, in order; both lists of names may have 256
pub record IsIndexed (size : ℕ) (names keys : NameList) (clients : List ClientLine) : Type 0 where
  pub sized : size ≤ 3
  pub named : names.names ≡ names_of clients
  pub few_clients : length clients ≤ 64
  pub roomy : names.limit ≡ 256
  pub limit : keys.limit ≡ 256
  pub few : length keys.names ≤ 256

-- a counter of the lines of a kind: those of the rounds that ended, and those here
pub record IsCount (lines : Round → ℕ) (rounds : List Round) (lines_here n : ℕ) : Type 0 where
  pub counted : n ≡ sum_by lines rounds + lines_here
