use Rattle.std.proofs.Common.{◌≡◌, ◌<◌, ap, subst, ◌∙◌, rules, List, length, get_or, Err}
use Rattle.std.specs.List.Sorted.{IsBinarySearchResult}
use Rattle.std.specs.declared.cmp.Ordering.TheVariants.{Equal}
use Rattle.std.proofs.lemmas.List.Sorted.{answers_always}
use Rattle.mk_txn.specs.Transactions.{id_cmp}
use Rattle.mk_words.specs.declared.Fated.{Fated}
use Rattle.mk_words.specs.Bases.{BaseState, fate_in}
use Rattle.mk_merge.proofs.ListedFate.{fate_in-there, fate_in-nowhere}
use Rattle.mk_merge.proofs.Base.fate.Goals as goal

pub returns-in-Ok : goal.returns-in-Ok
returns-in-Ok c =
    let at = c.in-Ok.ensures.position (λ fated. fated.txn.id) (answers_always _ _ _ (λ f a r g called. search rules)) in
    let bound = c.in-Ok.ensures.bound in
    let within : c.in-Ok.place < length c.self.inside.list.items = subst (λ (list : List Fated). c.in-Ok.place < length list) c.deref.ensures.value bound in
    let equal : id_cmp (get_or c.self.inside.list.items c.in-Ok.place c.index.result.now).txn.id c.args.id ≡ Equal = subst (λ (list : List Fated). id_cmp (get_or list c.in-Ok.place c.index.result.now).txn.id c.args.id ≡ Equal) c.deref.ensures.value (at c.index.result.now) in
    fate_in-there c.args.id c.self.inside.list.items c.in-Ok.place c.index.result.now c.self.invariant.0.in_order within c.index.ensures equal ∙ ap (λ (base : BaseState). fate_in c.args.id base.list) c.self.view_is

pub returns-in-Err : goal.returns-in-Err
returns-in-Err c =
    let at = c.in-Err.ensures.position (λ fated. fated.txn.id) (answers_always _ _ _ (λ f a r g called. search rules)) in
    fate_in-nowhere c.args.id c.self.inside.list.items c.in-Err.field-0 c.self.invariant.0.in_order
    (subst (λ (list : List Fated). IsBinarySearchResult (λ (f : Fated). id_cmp f.txn.id c.args.id) list (Err c.in-Err.field-0)) c.deref.ensures.value at)
    ∙ ap (λ (base : BaseState). fate_in c.args.id base.list) c.self.view_is
