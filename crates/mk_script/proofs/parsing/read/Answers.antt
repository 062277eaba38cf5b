use Rattle.std.proofs.Common.{◌≡◌, true, false, eqb, length, arith}
use Rattle.std.proofs.lemmas.Bool.Decides.{nat_tests}
use Rattle.std.proofs.lemmas.Grind.{common_steps}
use Rattle.mk_script.specs.Scripts.{nothing}
use Rattle.mk_script.proofs.ParseLaws.{reading, fault_here, goes_on, cut_here, end_fault}
use Rattle.mk_script.proofs.parsing.read.Goals as goal

pub returns-in-Err : goal.returns-in-Err
returns-in-Err c =
    let total = reading nothing 1 c.args.bytes.now in
    rw c.refused.ensures (fault_here c.in-Err.error c.line.reader c.line.number c.line.left.now c.in-Some.line.now c.in-Some.rest.now total c.in-Some.ensures c.in-Err.ensures c.line.invariant)

pub line-smaller : goal.line-smaller
line-smaller c =
    let h = goes_on c.line.reader c.line-in-Some.new.self c.line.number c.line.left.now c.in-Some.line.now c.in-Some.rest.now (reading nothing 1 c.args.bytes.now) c.in-Some.ensures c.in_default-line.ensures c.line.invariant in
    omega (arith, h.1)

pub line-preserved : goal.line-preserved
line-preserved c =
    let h = goes_on c.line.reader c.line-in-Some.new.self c.line.number c.line.left.now c.in-Some.line.now c.in-Some.rest.now (reading nothing 1 c.args.bytes.now) c.in-Some.ensures c.in_default-line.ensures c.line.invariant in
    rw c.next_line-number.ensures h.0

pub returns-then-not-is_empty : goal.returns-then-not-is_empty
returns-then-not-is_empty c =
    let some : eqb (length c.line.left.now) 0 ≡ false = grind (arith, nat_tests, common_steps) in
    rw c.refused-then-not-is_empty.ensures (cut_here c.line.reader c.line.number c.line.left.now (reading nothing 1 c.args.bytes.now) c.in_default.ensures some c.line.invariant)

pub returns-in-Err-end : goal.returns-in-Err-end
returns-in-Err-end c =
    let none : eqb (length c.line.left.now) 0 ≡ true = grind (arith, nat_tests, common_steps) in
    rw c.refused-in-Err-end.ensures (end_fault c.in-Err-end.error c.line.reader c.line.number c.line.left.now (reading nothing 1 c.args.bytes.now) c.in_default.ensures none c.in-Err-end.ensures c.line.invariant)
