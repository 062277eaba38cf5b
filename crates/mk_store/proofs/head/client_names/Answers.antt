use Rattle.std.proofs.Common.{◌≡◌, ◌∙◌, List, ℕ, Some, ap, length, take, refl}
use Rattle.std.specs.Prelude.{slice_get}
use Rattle.std.proofs.lemmas.List.{take_all}
use Rattle.std.proofs.lemmas.Option.{slice_get_read}
use Rattle.mk_names.specs.NameLists.{NameList, with_name}
use Rattle.mk_script.specs.declared.lines.ClientLine.{ClientLine}
use Rattle.mk_script.specs.Scripts.{names_of}
use Rattle.mk_store.proofs.NameLaws.{client-next}
use Rattle.mk_store.proofs.head.client_names.Goals as goal

abbrev sixty-four : List (List ℕ) → NameList
sixty-four names = record { names = names; limit = 64 }

pub loop-line-preserved : goal.loop-line-preserved
loop-line-preserved c =
    let clients = c.args.clients.now in
    let i = c.loop-line.line-index in
    let line = c.line-item.result in
    let at : slice_get clients i ≡ Some line = slice_get_read clients (length clients) i line refl c.loop-line-test.true c.line-item.is in
    c.in_ok-put_name.ensures
    ∙ ap (λ (list : NameList). record list { names = with_name list.names c.as_str.result.now }) c.loop-line.invariant
    ∙ ap sixty-four (ap (with_name (names_of (take i clients))) c.as_str.ensures ∙ client-next c.args.size clients i line c.requires at c.loop-line-test.true)

pub returns : goal.returns
returns c =
    c.loop-line.invariant ∙ ap (λ (ls : List ClientLine). sixty-four (names_of ls)) (take_all c.loop-line.line-index c.args.clients.now c.loop-line-test.false)
