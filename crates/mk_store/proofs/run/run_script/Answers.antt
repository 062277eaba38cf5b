use Rattle.std.proofs.Common.{◌≡◌, ◌∙◌, ◌+◌, ◌++◌, ◌∷◌, [], List, ℕ, sym, ap, subst, arith, length, length-append}
use Rattle.mk_words.specs.declared.GlobalEntry.{GlobalEntry}
use Rattle.mk_history.specs.declared.RoundLog.{RoundLog}
use Rattle.mk_history.specs.Histories.{History}
use Rattle.mk_history.specs.Shape.{HasShape, IsRoundShape}
use Rattle.mk_kept.specs.Heads.{history}
use Rattle.mk_script.specs.declared.lines.Round.{Round}
use Rattle.mk_script.specs.Scripts.{ScriptParts}
use Rattle.mk_script.specs.Whole.{IsWhole}
use Rattle.mk_run_laws.specs.Cuts.{cut_round}
use Rattle.mk_round.specs.Pasts.{run_of}
use Rattle.mk_store.proofs.RunLaws.{HasRun, first-run, next-run, may-work, few-more, may-lines, round-read, round-left, none-left, head-run, end-shape, end-legal, end-driven, end-read, end-counted}
use Rattle.mk_store.proofs.run.run_script.Goals as goal

pub loop-lines-init : goal.loop-lines-init
loop-lines-init g c =
    let kept = g.W.EpochWord.kept in
    let faults = g.W.EpochWord.faults in
    let script = c.args.script.now in
    let words = c.args.words.now in
    let none = c.new-rounds.ensures.items in
    let long : length c.new-rounds.result.items ≡ 0 = ap (λ (rs : List RoundLog). length rs) none in
    record {
      run = subst (λ (rs : List RoundLog). HasRun kept faults script words c.in_ok-store.store c.new-attempts.result rs words) (sym none)
          (first-run kept faults script words c.in_ok-store.store c.new-attempts.result c.requires.fresh c.in_ok-store.ensures c.new-attempts.ensures);
      count = long;
      within = omega (arith, long);
      items = c.as_slice-lines-items.ensures ∙ ap (λ (s : ScriptParts). s.rounds) c.script.view_is;
    }

pub work_round-requires-after_bounds : goal.work_round-requires-after_bounds
work_round-requires-after_bounds g c κs within =
    let kept = g.W.EpochWord.kept in
    let faults = g.W.EpochWord.faults in
    let script = c.args.script.now in
    let whole : IsWhole script = subst IsWhole c.script.view_is c.script.invariant in
    let inv = c.loop-lines.invariant in
    let done = c.loop-lines.rounds.items in
    let left = round-left script c.as_slice-lines-items.result.now c.loop-lines.lines-index (length done) inv.items c.loop-lines-test.true inv.count in
    (script, done, may-work kept faults script c.args.words.now c.in_ok-rules.rules c.loop-lines.store c.loop-lines.attempts done c.loop-lines.words inv.run c.in_ok-rules.ensures whole left)

pub do_lines-requires : goal.do_lines-requires
do_lines-requires g c =
    let kept = g.W.EpochWord.kept in
    let faults = g.W.EpochWord.faults in
    let script = c.args.script.now in
    let old = c.args.words.now in
    let whole : IsWhole script = subst IsWhole c.script.view_is c.script.invariant in
    let inv = c.loop-lines.invariant in
    let store = c.loop-lines.store in
    let attempts = c.loop-lines.attempts in
    let done = c.loop-lines.rounds.items in
    let words = c.loop-lines.words in
    let round = c.in_ok-round.round in
    let items = c.as_slice-lines-items.result.now in
    let i = c.loop-lines.lines-index in
    let left = round-left script items i (length done) inv.items c.loop-lines-test.true inv.count in
    let worked = c.in_ok-round.ensures script done (may-work kept faults script old c.in_ok-rules.rules store attempts done words inv.run c.in_ok-rules.ensures whole left) in
    let shape = subst (λ (run : History). IsRoundShape run round) c.in_ok-head.ensures.run c.in_ok-keep_shape.ensures.shape in
    let few = few-more kept faults script old store attempts done round words inv.run whole shape c.in_ok-keep_shape.ensures.few in
    let its = round-read script items i (length done) c.lines-item.result inv.items c.loop-lines-test.true c.lines-item.is inv.count in
    let lines = c.as_slice.ensures ∙ ap (λ (r : Round). r.globals) its in (
      script,
      done,
      round,
      may-lines kept faults script old store c.work_round.new.self attempts done round c.in_ok-head.head c.as_slice.result.now words inv.run c.in_ok-head.ensures.run whole left lines shape few worked
          c.requires.words,
    )

pub loop-lines-preserved : goal.loop-lines-preserved
loop-lines-preserved g c =
    let kept = g.W.EpochWord.kept in
    let faults = g.W.EpochWord.faults in
    let script = c.args.script.now in
    let old = c.args.words.now in
    let whole : IsWhole script = subst IsWhole c.script.view_is c.script.invariant in
    let inv = c.loop-lines.invariant in
    let store = c.loop-lines.store in
    let attempts = c.loop-lines.attempts in
    let done = c.loop-lines.rounds.items in
    let words = c.loop-lines.words in
    let round = c.in_ok-round.round in
    let entries = c.in_ok-entries.entries.items in
    let items = c.as_slice-lines-items.result.now in
    let i = c.loop-lines.lines-index in
    let mid = c.work_round.new.self in
    let left = round-left script items i (length done) inv.items c.loop-lines-test.true inv.count in
    let worked = c.in_ok-round.ensures script done (may-work kept faults script old c.in_ok-rules.rules store attempts done words inv.run c.in_ok-rules.ensures whole left) in
    let shape = subst (λ (run : History). IsRoundShape run round) c.in_ok-head.ensures.run c.in_ok-keep_shape.ensures.shape in
    let few = few-more kept faults script old store attempts done round words inv.run whole shape c.in_ok-keep_shape.ensures.few in
    let its = round-read script items i (length done) c.lines-item.result inv.items c.loop-lines-test.true c.lines-item.is inv.count in
    let lines = c.as_slice.ensures ∙ ap (λ (r : Round). r.globals) its in
    let may = may-lines kept faults script old store mid attempts done round c.in_ok-head.head c.as_slice.result.now words inv.run c.in_ok-head.ensures.run whole left lines shape few worked c.requires.words in
    let were = c.in_ok-entries.ensures script done round may in
    let pushed : c.push.new.self.items ≡ done ++ cut_round round entries ∷ [] = c.in_ok-push.ensures.items ∙ ap (λ (es : List GlobalEntry). done ++ cut_round round es ∷ []) c.of.ensures in
    let long : length c.push.new.self.items ≡ length done + 1 = ap (λ (rs : List RoundLog). length rs) pushed ∙ length-append done (cut_round round entries ∷ []) in
    record {
      run = subst (λ (rs : List RoundLog). HasRun kept faults script old c.do_lines.new.store c.keep_shape.new.attempts rs c.do_lines.new.words) (sym pushed)
          (next-run kept faults script old store mid c.do_lines.new.store attempts c.keep_shape.new.attempts done round words c.do_lines.new.words c.as_slice.result.now entries
          c.rounds_follow.ensures inv.run worked shape few (c.keep_shape.ensures.counts done inv.run.counts) were lines);
      count = long ∙ ap (λ (n : ℕ). n + 1) inv.count;
      within = omega (arith, long, left);
      items = inv.items;
    }

pub new-requires-3-clause-shape : goal.new-requires-3-clause-shape
new-requires-3-clause-shape g c =
    let script = c.args.script.now in
    let whole : IsWhole script = subst IsWhole c.script.view_is c.script.invariant in
    let inv = c.loop-lines.invariant in
    let done = c.loop-lines.rounds.items in
    let head = c.in_ok-head.head in
    let all = none-left script c.as_slice-lines-items.result.now c.loop-lines.lines-index (length done) inv.items c.loop-lines-test.false inv.count inv.within in
    let is : history head c.of-2.result ≡ run_of script done = ap (λ (rs : List RoundLog). history head rs) c.of-2.ensures ∙ head-run script head done c.in_ok-head.ensures.run in
    subst HasShape (sym is) (end-shape script done whole all inv.run.rounds inv.run.few)

pub returns-clause-legal : goal.returns-clause-legal
returns-clause-legal g c =
    let script = c.args.script.now in
    let done = c.loop-lines.rounds.items in
    let head = c.in_ok-head.head in
    let is : c.new-3.result ≡ run_of script done = c.new-3.ensures ∙ ap (λ (rs : List RoundLog). history head rs) c.of-2.ensures ∙ head-run script head done c.in_ok-head.ensures.run in
    end-legal g.W.EpochWord.kept g.W.EpochWord.faults script c.args.words.now c.loop-lines.store c.loop-lines.attempts done c.loop-lines.words c.loop-lines.invariant.run c.new-3.result is

pub returns-clause-driven : goal.returns-clause-driven
returns-clause-driven g c =
    let script = c.args.script.now in
    let done = c.loop-lines.rounds.items in
    let head = c.in_ok-head.head in
    let inv = c.loop-lines.invariant in
    let is : c.new-3.result ≡ run_of script done = c.new-3.ensures ∙ ap (λ (rs : List RoundLog). history head rs) c.of-2.ensures ∙ head-run script head done c.in_ok-head.ensures.run in
    let all = none-left script c.as_slice-lines-items.result.now c.loop-lines.lines-index (length done) inv.items c.loop-lines-test.false inv.count inv.within in
    end-driven g.W.EpochWord.kept g.W.EpochWord.faults script c.args.words.now c.loop-lines.store c.loop-lines.attempts done c.loop-lines.words inv.run c.new-3.result is all

pub returns-clause-words : goal.returns-clause-words
returns-clause-words g c =
    let script = c.args.script.now in
    let done = c.loop-lines.rounds.items in
    let head = c.in_ok-head.head in
    let is : c.new-3.result ≡ run_of script done = c.new-3.ensures ∙ ap (λ (rs : List RoundLog). history head rs) c.of-2.ensures ∙ head-run script head done c.in_ok-head.ensures.run in
    end-read g.W.EpochWord.kept g.W.EpochWord.faults script c.args.words.now c.loop-lines.store c.loop-lines.attempts done c.loop-lines.words c.loop-lines.invariant.run c.new-3.result is

pub returns-clause-faults : goal.returns-clause-faults
returns-clause-faults g c =
    let script = c.args.script.now in
    let done = c.loop-lines.rounds.items in
    let head = c.in_ok-head.head in
    let is : c.new-3.result ≡ run_of script done = c.new-3.ensures ∙ ap (λ (rs : List RoundLog). history head rs) c.of-2.ensures ∙ head-run script head done c.in_ok-head.ensures.run in
    end-counted g.W.EpochWord.kept g.W.EpochWord.faults script c.args.words.now c.loop-lines.store c.loop-lines.attempts done c.loop-lines.words c.loop-lines.invariant.run c.new-3.result is
