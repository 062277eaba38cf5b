use Rattle.std.proofs.Common.{◌≡◌, ◌∷◌, ◌++◌, ℕ, List, ap, ◌∙◌, sym, subst, map}
use Rattle.std.proofs.lemmas.Result.{err_from_is_err_and}
use Rattle.mk_spelling.specs.Words as text
use Rattle.mk_script.specs.Grammar.{keys_after, key_of, item_of}
use Rattle.mk_names.specs.NameLists.{with_name}
use Rattle.mk_script.specs.ItemShapes.{shape}
use Rattle.mk_script.specs.Seen.{mention_view, mentioned, IsFull}
use Rattle.mk_script.proofs.KeyLaws.{is_named, first_mentioned, items_step, full_stays}
use Rattle.mk_script.proofs.keys.number_items.Goals as goal

pub number_item-requires-clause-named : goal.number_item-requires-clause-named
number_item-requires-clause-named c = is_named (shape c.next_word.result.0.now) (mention_view c.in_ok-item.item) (sym c.in_ok-item.ensures)

pub returns-in_err-number_item-clause-full : goal.returns-in_err-number_item-clause-full
returns-in_err-number_item-clause-full c =
    let word = c.next_word.result.0.now in
    let ws = text.words_behind c.next_word.result.1 in
    let m = mention_view c.in_ok-item.item in
    let whole : text.words_behind c.loop-left.left ≡ word ∷ ws = ap text.words_behind c.in-Some.is ∙ c.next_word.ensures in
    let first = first_mentioned word ws m (sym c.in_ok-item.ensures) (rw whole at c.loop-left.invariant.passed) in
    let left : mentioned (text.words_behind c.loop-left.left) ≡ m ∷ mentioned ws = ap mentioned whole ∙ first.1 in
    let e = c.in_err-number_item.field-0.0 in
    let grown = full_stays e (with_name c.loop-left.keys.names (key_of m)) (mentioned ws) c.in_err-number_item.ensures.full in
    let p = err_from_is_err_and c.from_residual-in_err-number_item.result c.from_residual-in_err-number_item.ensures.1 in
    rw (p.1, p.2) (subst (λ (keys : List (List ℕ)). IsFull e keys) (ap (keys_after c.loop-left.keys.names) (sym left) ∙ c.loop-left.invariant.keys) grown)

pub loop-left-preserved : goal.loop-left-preserved
loop-left-preserved c =
    let word = c.next_word.result.0.now in
    let ws = text.words_behind c.next_word.result.1 in
    let m = mention_view c.in_ok-item.item in
    let all = keys_after c.args.keys.now.names (mentioned (text.words c.args.items.now)) in
    let whole : text.words_behind c.loop-left.left ≡ word ∷ ws = ap text.words_behind c.in-Some.is ∙ c.next_word.ensures in
    let first = first_mentioned word ws m (sym c.in_ok-item.ensures) (rw whole at c.loop-left.invariant.passed) in
    let left : mentioned (text.words_behind c.loop-left.left) ≡ m ∷ mentioned ws = ap mentioned whole ∙ first.1 in
    let step = items_step c.loop-left.made.items c.in_ok-number_item.field-0 m (mentioned ws) (mentioned (text.words_behind c.loop-left.left)) c.loop-left.keys.names c.number_item.new.keys.names all (map (item_of all) (mentioned (text.words c.args.items.now))) left c.in_ok-number_item.ensures.keys c.in_ok-number_item.ensures.item c.loop-left.invariant.keys c.loop-left.invariant.items in
    record { passed = first.0; limit = c.in_ok-number_item.ensures.limit; few = c.in_ok-number_item.ensures.few; keys = step.0; items = ap (λ x. x ++ map (item_of all) (mentioned ws)) c.in_ok-push.ensures.items ∙ step.1 }
