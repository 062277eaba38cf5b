use Rattle.std.proofs.Common.{◌≡◌, ◌≤◌, ◌^◌, true, Some, Ok, sym, ap, ◌∙◌, subst, arith, Result}
use Rattle.std.proofs.lemmas.Bool.Decides.{nat_tests}
use Rattle.mk_spelling.specs.declared.fault.TextFault.{TextFault}
use Rattle.mk_spelling.specs.declared.fault.TextFault.TheVariants as faults
use Rattle.mk_spelling.specs.Fields.{two_and_more, found}
use Rattle.mk_spelling.specs.Words.{words, words_behind, is_name, number}
use Rattle.mk_script.specs.Scripts.{State, client_number}
use Rattle.mk_script.specs.Faults as spec
use Rattle.mk_script.specs.ItemShapes as shapes
use Rattle.mk_script.specs.Seen.{Meets, counted}
use Rattle.mk_script.proofs.TxnLaws.{txn_is, need_true}
use Rattle.mk_script.proofs.reader.Reader.txn.Goals as goal

pub returns : goal.returns
returns c =
    let s = c.args.self.now in
    let name = c.in_ok-name.name.now in
    let clock = c.in_ok-name.clock.now in
    let items = words c.in_ok-name.items.now in
    let w : Some (name, clock, items) ≡ two_and_more (words_behind c.args.rest) = rw c.in_ok-name.ensures.ok_part at c.two_then.ensures in
    let f : shapes.are_items s.version items ≡ true =
    ap (λ (s : State). shapes.are_items s.version items) (sym c.self.view_is) ∙ sym c.are_items.ensures
    ∙ need_true c.are_items.result faults.Form tt c.in_ok-need.ensures in
    let r : spec.in_rounds s.section ≡ true =
    ap (λ (s : State). spec.in_rounds s.section) (sym c.self.view_is) ∙ sym c.in_rounds.ensures
    ∙ need_true c.in_rounds.result faults.Order tt c.in_ok-need-2.ensures in
    let n : is_name name ≡ true = sym c.is_name.ensures ∙ need_true c.is_name.result faults.Name tt c.in_ok-need-3.ensures in
    let k : found faults.Unknown (client_number s name) ≡ Ok c.in_ok-client.client = sym c.in_ok-client.ensures in
    let t : number 0 (2 ^ 61) clock ≡ Ok c.in_ok-clock.clock = sym c.in_ok-clock.ensures in
    let m : counted (shapes.mentions_of items) ≡ Ok c.in_ok-many.many = sym c.in_ok-many.ensures in
    let x : c.in_ok-many.many ≤ 16 = grind (arith, nat_tests, need_true _ faults.Many tt c.in_ok-need-4.ensures) in
    let e = txn_is s (words_behind c.args.rest) name clock items c.in_ok-client.client c.in_ok-clock.clock c.in_ok-many.many w f r n k t m x in
    subst (λ (answer : Result State TextFault). Meets c.add_txn.result c.add_txn.new.self answer) (sym e) c.add_txn.ensures
