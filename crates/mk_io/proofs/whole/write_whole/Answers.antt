use Rattle.std.proofs.Common.{◌++◌, arith, rules, take}
use Rattle.std.proofs.KnownBytes.{Appends-trans}
use Rattle.std.proofs.lemmas.Result.{err_from_is_err_and}
use Rattle.mk_io.proofs.WholeLaws.{AppendsPart-after_failure, split-more}
use Rattle.mk_io.proofs.whole.write_whole.Goals as goal

pub returns-in_err-count-clause-err : goal.returns-in_err-count-clause-err
returns-in_err-count-clause-err g c =
    let p = err_from_is_err_and c.from_residual.result c.from_residual.ensures.1 in
    let (taken, split, appended, falls) = c.loop-rest.invariant in
    rw p.1 (AppendsPart-after_failure _ _ _ _ taken c.loop-rest.rest.now split (search rules) appended c.in_err-count.ensures.bytes)

pub loop-rest-preserved : goal.loop-rest-preserved
loop-rest-preserved g c =
    let (taken, split, appended, falls) = c.loop-rest.invariant in
    let rest = c.loop-rest.rest.now in
    let n = c.in_ok-count.count in
    (taken ++ take n rest, split-more _ taken rest n split, Appends-trans _ _ _ _ _ appended c.in_ok-count.ensures.bytes, omega (arith, falls, c.in_ok-count.ensures.no_fault))
