use Rattle.std.proofs.Common.{◌≡◌, ap, Some, None}
use Rattle.mk_txn.specs.LatestWrites.{VersionedValue}
use Rattle.mk_model.specs.OneCopy.{version_in}
use Rattle.mk_model.proofs.Copies.{held_or_first, version_in-found}
use Rattle.mk_replay.proofs.one_copy.OneCopy.get.Goals as goal

there : (c : goal.After-result-1) → held_or_first (Some c.in-Some.held.now) ≡ version_in c.args.self.now c.args.key
there c = version_in-found c.self.inside.versions.entries c.args.self.now c.args.key (Some c.in-Some.held.now) c.self.view_is c.in-Some.ensures.value

absent : (c : goal.In-None) → held_or_first None ≡ version_in c.args.self.now c.args.key
absent c = version_in-found c.self.inside.versions.entries c.args.self.now c.args.key None c.self.view_is c.in-None.ensures.value

pub returns-in-Some-clause-version : goal.returns-in-Some-clause-version
returns-in-Some-clause-version c = ap (λ (held : VersionedValue). held.version) (there c)

pub returns-in-Some-clause-value : goal.returns-in-Some-clause-value
returns-in-Some-clause-value c = ap (λ (held : VersionedValue). held.value) (there c)

pub returns-in-None-clause-version : goal.returns-in-None-clause-version
returns-in-None-clause-version c = ap (λ (held : VersionedValue). held.version) (absent c)

pub returns-in-None-clause-value : goal.returns-in-None-clause-value
returns-in-None-clause-value c = ap (λ (held : VersionedValue). held.value) (absent c)
