use Rattle.std.proofs.Common.{◌<◌, ◌≤◌, ◌∙◌, ap, arith, count_by}
use Rattle.std.proofs.lemmas.Bool.Decides.{nat_tests}
use Rattle.mk_quorum.specs.Sizes.{members, majority_of}
use Rattle.mk_quorum.specs.Slots.{passes}
use Rattle.mk_quorum.proofs.SlotLists.{slots_counted}
use Rattle.mk_words.specs.declared.Ruling.TheVariants.{Unaccepted}
use Rattle.mk_coord.proofs.coord.by_accepts.Goals as goal

pub returns-then-majority-accepted : goal.returns-then-majority-accepted
returns-then-majority-accepted c =
    let most : majority_of c.args.size ≤ count_by (passes (λ accepted. accepted)) c.args.accepts.now =
    omega (arith, c.if-majority-accepted.true, c.majority.ensures, c.count_accepts-accepted.ensures) in
    grind (arith, nat_tests, most, slots_counted (members c.args.size) (λ accepted. accepted) c.args.accepts.now c.requires)

pub returns-else-majority-accepted : goal.returns-else-majority-accepted
returns-else-majority-accepted c =
    let few : count_by (passes (λ accepted. accepted)) c.args.accepts.now < majority_of c.args.size =
    omega (arith, c.if-majority-accepted.false, c.majority.ensures, c.count_accepts-accepted.ensures) in
    ap Unaccepted c.count_accepts-accepted.ensures
    ∙ grind (arith, nat_tests, few, slots_counted (members c.args.size) (λ accepted. accepted) c.args.accepts.now c.requires)
