use Rattle.std.proofs.Common.{◌≡◌, ◌++◌, ◌∷◌, [], rules}
use Rattle.mk_faults.specs.Indexes.{target_in, KeepsFate}
use Rattle.mk_faults.proofs.IndexLaws.{AreFates-more}
use Rattle.mk_faults.proofs.rules.Rules.add_fault.Goals as goal

pub invariant_of-self-2 : goal.invariant_of-self-2
invariant_of-self-2 c =
    let faults = c.self.inside.faults.items in
    let pushed : c.push.new.self.items ≡ faults ++ c.args.line ∷ [] = search rules in
    let keeps : KeepsFate (target_in c.args.line) c.args.line.fate c.self.inside.fates.entries c.keep_fate.new.fates.entries = search rules in
    rw (pushed) (record { fated = AreFates-more faults c.args.line c.self.inside.fates.entries c.keep_fate.new.fates.entries c.self.invariant.fated keeps; pointed = c.self.invariant.pointed })
