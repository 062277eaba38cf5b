use Rattle.std.proofs.Common.{◌≡◌, ◌∙◌, ◌<◌, List, ℕ, Some, sym, ap, length, arith}
use Rattle.std.specs.List.{slice_get}
use Rattle.std.proofs.lemmas.List.{take_all}
use Rattle.mk_spelling.specs.Fields.{place}
use Rattle.mk_names.specs.NameLists.{NameList, with_name}
use Rattle.mk_names.specs.Shown.{text_of}
use Rattle.mk_store.proofs.NameLaws.{named-next}
use Rattle.mk_store.proofs.head.key_names.Goals as goal

abbrev at-most : List (List ℕ) → NameList
at-most names = record { names = names; limit = 256 }

pub loop-number-preserved : goal.loop-number-preserved
loop-number-preserved c =
    let names = c.args.keys.now.names in
    let n = c.loop-number.number in
    let w = c.unwrap-name.result.now in
    let got : slice_get names n ≡ Some w = sym c.name.ensures.name ∙ ap text_of c.unwrap-name.ensures in
    let first : place w names ≡ Some n = rw c.unwrap-name.ensures at c.name.ensures.first in
    let within : n < length names = omega (arith, c.loop-number-test.true, c.len-number-end.ensures.count) in
    c.in_ok-put_name.ensures
    ∙ ap (λ (list : NameList). record list { names = with_name list.names w }) c.loop-number.invariant
    ∙ ap at-most (named-next names n w got within first)

pub returns : goal.returns
returns c =
    c.loop-number.invariant ∙ ap at-most (take_all c.loop-number.number c.args.keys.now.names (omega (arith, c.loop-number-test.false, c.len-number-end.ensures.count)))
