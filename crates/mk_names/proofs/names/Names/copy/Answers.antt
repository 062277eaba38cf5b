use Rattle.std.proofs.Common.{◌≡◌, ◌<◌, List, ℕ, Some, length, sym, ap, ◌∙◌, ◌++◌, ◌∷◌, [], arith}
use Rattle.std.specs.List.{slice_get}
use Rattle.mk_spelling.specs.Fields.{place}
use Rattle.mk_names.specs.Shown.{text_of}
use Rattle.mk_names.proofs.NameLaws.{place-take, take-next}
use Rattle.mk_names.proofs.names.Names.copy.Goals as goal

pub put-requires-clause-fresh : goal.put-requires-clause-fresh
put-requires-clause-fresh c =
    let first : place c.unwrap-name.result.now c.args.self.now.names ≡ Some c.loop-number.number = rw c.unwrap-name.ensures at c.name.ensures.first in
    ap (place c.unwrap-name.result.now) c.loop-number.invariant.names ∙ place-take c.args.self.now.names c.loop-number.number c.unwrap-name.result.now first

pub loop-number-preserved : goal.loop-number-preserved
loop-number-preserved c =
    let names = c.args.self.now.names in
    let n = c.loop-number.number in
    let got : slice_get names n ≡ Some c.unwrap-name.result.now = sym c.name.ensures.name ∙ ap text_of c.unwrap-name.ensures in
    let within : n < length names = omega (arith, c.loop-number-test.true, c.len-number-end.ensures.count) in
    record {
      names =
          ap (λ s. s.names) c.in_ok-put.ensures.ok ∙ ap (λ (x : List (List ℕ)). x ++ c.unwrap-name.result.now ∷ []) c.loop-number.invariant.names
          ∙ sym (take-next names n c.unwrap-name.result.now got within);
      limit = ap (λ s. s.limit) c.in_ok-put.ensures.ok ∙ c.loop-number.invariant.limit;
    }
