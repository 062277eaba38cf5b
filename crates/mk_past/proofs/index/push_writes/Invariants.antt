-- With the writes that are left it comes to all of them.
use Rattle.std.proofs.Common.{◌≡◌, ◌++◌, ℕ, map, drop}
use Rattle.mk_past.specs.Indexes.{versions_at, versions_by}
use Rattle.mk_past.proofs.index.push_writes.Given as goal

abbrev pub invariant-each : goal.invariant-each
invariant-each l =
    (other : ℕ) → versions_at (map (λ key. key.items) l.versions.items) other ++ versions_by other l.stamp (drop l.item-index l.writes)
    ≡ versions_at (map (λ key. key.items) l.fn.versions.items) other ++ versions_by other l.stamp l.writes
