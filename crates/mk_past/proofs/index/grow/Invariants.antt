-- The lists so far, the new ones empty.
use Rattle.std.proofs.Common.{◌≡◌, ℕ, length, map}
use Rattle.mk_past.specs.Indexes.{versions_at}
use Rattle.mk_past.proofs.index.grow.Given as goal

abbrev pub invariant-each : goal.invariant-each
invariant-each l = record {
  count : length l.versions.items ≡ l.counter;
  same : (other : ℕ) → versions_at (map (λ key. key.items) l.versions.items) other ≡ versions_at (map (λ key. key.items) l.fn.versions.items) other;
}
