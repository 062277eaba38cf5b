use Rattle.std.proofs.Common.{◌≡◌, ◌+◌, ◌-◌, suc, map, subst, arith}
use Rattle.mk_script.specs.Grammar.{keys_after}
use Rattle.mk_gen.specs.WordStream.{words_of}
use Rattle.mk_gen.specs.Drawn.{Share, txn_drawn, txns_drawn}
use Rattle.mk_gen.specs.Generated.{mentions, keys_of_txns, numbered}
use Rattle.mk_gen.proofs.NumberNames.{few_names}
use Rattle.mk_gen.proofs.WholeScripts.{txns_step}
use Rattle.mk_gen.proofs.whole.draw_txns.Goals as goal

pub each-preserved : goal.each-preserved
each-preserved c =
    let txns = txns_drawn c.args.clients c.args.keys c.args.txns 0 (words_of c.args.number) in
    let all = keys_of_txns txns in
    let names = subst (λ (s : Share). c.draw_txn.new.names.names ≡ keys_after c.each.names.names (mentions (txn_drawn s.clients s.keys c.each.t c.each.words))) c.of-share.ensures c.in_ok-draw_txn.ensures.names in
    let line = subst (λ (s : Share). c.in_ok-draw_txn.field-0 ≡ numbered c.draw_txn.new.names.names (txn_drawn s.clients s.keys c.each.t c.each.words)) c.of-share.ensures c.in_ok-draw_txn.ensures.line in
    let more : c.args.txns - c.each.t ≡ suc (c.args.txns - (c.each.t + 1)) = omega (arith, c.each-test.true) in
    let step = txns_step c.args.clients c.args.keys (c.args.txns - c.each.t) (c.args.txns - (c.each.t + 1)) c.each.t c.each.words c.draw_txn.new.words c.each.lines.items c.push.new.self.items c.in_ok-draw_txn.field-0 c.each.names.names c.draw_txn.new.names.names all (map (numbered all) txns) more c.in_ok-draw_txn.ensures.rest names line c.in_ok-push.ensures.items c.each.invariant.keys c.each.invariant.lines in
    record { limit = c.in_ok-draw_txn.ensures.limit; named = c.in_ok-draw_txn.ensures.named; keys = step.0; lines = step.1 }

pub returns-clause-few : goal.returns-clause-few
returns-clause-few c = few_names c.each.names.names c.each.invariant.named
