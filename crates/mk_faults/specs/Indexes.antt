-- The index of the rules: the first fault line of each message, and the first stop line of each attempt.
use Rattle.std.specs.Prelude.{◌≡◌, ℕ, Bool, ◌&&◌, ◌==◌, List, Some, find, is_none, option_map, if◌then◌else◌}
use Rattle.std.specs.Map.{lookup}
use Rattle.mk_txn.specs.declared.TxnId.{TxnId}
use Rattle.mk_words.specs.declared.MsgKind.{MsgKind}
use Rattle.mk_words.specs.Links.{kind_number}
use Rattle.mk_script.specs.declared.lines.FaultLine.{FaultLine}
use Rattle.mk_script.specs.declared.lines.StopLine.{StopLine}
use Rattle.mk_script.specs.declared.lines.Point.{Point}
use Rattle.mk_script.specs.declared.lines.Fate.{Fate}
use Rattle.mk_faults.specs.declared.rules.Target.{Target}
use Rattle.mk_faults.specs.declared.rules.Coordinator.{Coordinator}

-- what a fault line of these four is found by
abbrev pub target_of : MsgKind → TxnId → ℕ → ℕ → Target
target_of kind id replica nth = record { kind = kind_number kind; client = id.client; seq = id.seq; replica = replica; nth = nth }

-- whether two targets are one
abbrev pub same_target : Target → Target → Bool
same_target a b = a.kind == b.kind && (a.client == b.client && (a.seq == b.seq && (a.replica == b.replica && a.nth == b.nth)))

-- what a stop line of this attempt is found by
abbrev pub coordinator_of : TxnId → Coordinator
coordinator_of id = record { client = id.client; seq = id.seq }

-- whether two coordinators are one
abbrev pub same_coordinator : Coordinator → Coordinator → Bool
same_coordinator a b = a.client == b.client && a.seq == b.seq

-- what a fault line is found by
abbrev pub target_in : FaultLine → Target
target_in line = target_of line.kind line.id line.replica line.nth

-- what a stop line is found by
abbrev pub coordinator_in : StopLine → Coordinator
coordinator_in line = coordinator_of line.id

-- of each target the fate of its first fault line is kept
abbrev pub AreFates : List FaultLine → List (Target × Fate) → Type 0
AreFates faults fates =
    (target : Target) → lookup (same_target target) fates ≡ option_map (λ line. line.fate) (find (λ line. same_target (target_in line) target) faults)

-- of each coordinator the point of its first stop line is kept
abbrev pub ArePoints : List StopLine → List (Coordinator × Point) → Type 0
ArePoints stops points =
    (coordinator : Coordinator) →
    lookup (same_coordinator coordinator) points ≡ option_map (λ line. line.point) (find (λ line. same_coordinator (coordinator_in line) coordinator) stops)

-- a fate is kept for the target where none was, and nothing else changes
abbrev pub KeepsFate : Target → Fate → List (Target × Fate) → List (Target × Fate) → Type 0
KeepsFate target fate old new =
    (other : Target) →
    lookup (same_target other) new
    ≡ (if is_none (lookup (same_target target) old) && same_target target other then Some fate else lookup (same_target other) old)

-- a point is kept for the coordinator where none was, and nothing else changes
abbrev pub KeepsPoint : Coordinator → Point → List (Coordinator × Point) → List (Coordinator × Point) → Type 0
KeepsPoint coordinator point old new =
    (other : Coordinator) →
    lookup (same_coordinator other) new
    ≡ (if is_none (lookup (same_coordinator coordinator) old) && same_coordinator coordinator other then Some point else lookup (same_coordinator other) old)

-- both are
pub record IsIndexed (faults : List FaultLine) (stops : List StopLine) (fates : List (Target × Fate)) (points : List (Coordinator × Point)) : Type 0 where
  pub fated : AreFates faults fates
  pub pointed : ArePoints stops points
