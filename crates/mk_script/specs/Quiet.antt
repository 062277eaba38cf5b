-- When a script is quiet: transactions alone, in one round, and those of two clients never meet at a key.
use Rattle.std.specs.Prelude.{◌≡◌, ℕ, List, [], ◌∷◌, map}
use Rattle.mk_lists.specs.Among.{Among}
use Rattle.mk_proc.specs.Items.{key_of}
use Rattle.mk_script.specs.declared.lines.TxnLine.{TxnLine}
use Rattle.mk_script.specs.Scripts.{ScriptParts}

-- the transaction reads or writes the key
abbrev pub NamesKey : TxnLine → ℕ → Type 0
NamesKey txn key = Among key (map key_of txn.items)

-- where both name a key, they are of one client
abbrev pub AreApart : TxnLine → TxnLine → Type 0
AreApart a b = (key : ℕ) → NamesKey a key → NamesKey b key → a.client ≡ b.client

-- nothing is tried again, faulty, stopped or taken over, no epoch changes, and no two clients meet at a key
pub record IsQuiet (s : ScriptParts) : Type 0 where
  pub untried : s.retry ≡ 0
  pub faultless : s.faults ≡ []
  pub unstopped : s.stops ≡ []
  pub txns : List TxnLine
  pub one_round : s.rounds ≡ record { txns = txns; takeovers = []; globals = [] } ∷ []
  pub apart : (a b : TxnLine) → Among a txns → Among b txns → AreApart a b
