use Rattle.std.proofs.Common.{◌≡◌, ◌≤◌, List, ℕ, length, sym, ap, subst, ◌∙◌}
use Rattle.mk_script.specs.declared.lines.TxnLine.{TxnLine}
use Rattle.mk_script.specs.Scripts.{ScriptParts}
use Rattle.mk_script.specs.Whole.{IsWhole}
use Rattle.mk_gen.specs.WordStream.{words_of}
use Rattle.mk_gen.specs.Drawn.{txns_drawn}
use Rattle.mk_gen.specs.Generated.{keys_of_txns, one_round, generated}
use Rattle.mk_gen.proofs.WholeScripts.{drawn_whole}
use Rattle.mk_gen.proofs.whole.generate.Goals as goal

pub script-requires-clause-whole : goal.script-requires-clause-whole
script-requires-clause-whole c =
    let a = c.args in
    let names = c.draw_txns.new.names.names in
    let few = subst (λ (x : List (List ℕ)). length x ≤ 256) c.in_ok-lines.ensures.names c.in_ok-lines.ensures.few in
    let whole = drawn_whole a.clients a.keys a.txns (words_of a.number) c.requires.some_clients c.requires.few_clients c.requires.few_txns c.requires.enough_keys c.requires.few_keys few in
    let same : one_round a.clients names c.in_ok-lines.lines.items ≡ generated a.number a.clients a.txns a.keys =
    ap (λ (x : List (List ℕ)). one_round a.clients x c.in_ok-lines.lines.items) c.in_ok-lines.ensures.names
    ∙ ap (λ (x : List TxnLine). one_round a.clients (keys_of_txns (txns_drawn a.clients a.keys a.txns 0 (words_of a.number))) x) c.in_ok-lines.ensures.lines in
    subst (λ (s : ScriptParts). IsWhole s) (sym same) whole
