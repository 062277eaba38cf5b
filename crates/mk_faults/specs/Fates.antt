-- The fate of a message by the script's fault lines, and where an attempt is stopped.
use Rattle.std.specs.Prelude.{ℕ, Bool, ◌&&◌, ◌==◌, List, [], ◌∷◌, ◌++◌, Option, Some, find, option_map}
use Rattle.std.specs.Option.{unwrap_or}
use Rattle.mk_txn.specs.declared.TxnId.{TxnId}
use Rattle.mk_txn.specs.Transactions.{same_id}
use Rattle.mk_words.specs.declared.Msg.{Msg}
use Rattle.mk_words.specs.declared.MsgKind.{MsgKind}
use Rattle.mk_words.specs.Links.{kind_of, same_kind, message, place_of}
use Rattle.mk_script.specs.declared.lines.FaultLine.{FaultLine}
use Rattle.mk_script.specs.declared.lines.StopLine.{StopLine}
use Rattle.mk_script.specs.declared.lines.Point.{Point}
use Rattle.mk_script.specs.declared.lines.Fate.{Fate}
use Rattle.mk_script.specs.declared.lines.Fate.TheVariants.{Deliver}
use Rattle.mk_script.specs.Scripts.{ScriptParts}

-- the fault lines and stop lines of a script
pub record RuleLines : Type 0 where
  pub faults : List FaultLine
  pub stops : List StopLine

-- those of this script
abbrev pub rules_of : ScriptParts → RuleLines
rules_of script = record { faults = script.faults; stops = script.stops }

-- the fault line is of this kind, attempt, replica and place
abbrev pub is_fault_of : MsgKind → TxnId → ℕ → ℕ → FaultLine → Bool
is_fault_of kind id replica nth line =
    same_kind line.kind kind && same_id line.id id && line.replica == replica && line.nth == nth

-- the fate that these four have: that of their fault line, and delivery where there is none
abbrev pub fate_of : RuleLines → MsgKind → TxnId → ℕ → ℕ → Fate
fate_of rules kind id replica nth =
    unwrap_or (option_map (λ line. line.fate) (find (is_fault_of kind id replica nth) rules.faults)) Deliver

-- the fate of a message with its place among those of its kind, attempt and replica
abbrev pub fate_of_msg : RuleLines → Option Msg → Option ℕ → Fate
fate_of_msg rules (Some msg) (Some nth) = fate_of rules (kind_of msg.body) msg.id msg.replica nth
fate_of_msg rules _ _ = Deliver

-- the fate of the message of this number
abbrev pub fate_at : RuleLines → List Msg → ℕ → Fate
fate_at rules link number = fate_of_msg rules (message link number) (place_of link number)

-- the stop line is of this attempt
abbrev pub is_stop_of : TxnId → StopLine → Bool
is_stop_of id line = same_id line.id id

-- where the attempt's own coordinator stops, if a line says so
abbrev pub stop_of : RuleLines → TxnId → Option Point
stop_of rules id = option_map (λ line. line.point) (find (is_stop_of id) rules.stops)

-- the rules with one fault line more
abbrev pub with_fault : FaultLine → RuleLines → RuleLines
with_fault line rules = record rules { faults = rules.faults ++ line ∷ [] }

-- the rules with one stop line more
abbrev pub with_stop : StopLine → RuleLines → RuleLines
with_stop line rules = record rules { stops = rules.stops ++ line ∷ [] }
