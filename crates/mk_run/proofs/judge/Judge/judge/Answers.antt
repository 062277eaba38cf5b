use Rattle.std.proofs.Common.{◌≡◌, ◌∙◌, ◌+◌, ap, subst, sym, ℕ}
use Rattle.std.specs.Prelude.{option_map, unwrap_or}
use Rattle.mk_verdict.specs.declared.Verdict.TheVariants.{Legal}
use Rattle.mk_verdict.specs.Flaws.{broken}
use Rattle.mk_run.specs.Judging.{JudgeView, IsReplayed}
use Rattle.mk_run.proofs.StandLaws.{on_ok, stands-further, judged-legal, judged-broken}
use Rattle.mk_run.proofs.judge.Judge.judge.Goals as goal

pub returns-in-Legal-clause-stands : goal.returns-in-Legal-clause-stands
returns-in-Legal-clause-stands c =
    let old = c.args.self.now in
    let new = c.judge_legal.new.self in
    let round = c.args.round.now in
    let same = c.self.view_is in
    let rest = c.judge_legal.ensures.rest in
    let taken : new.taken ≡ old.taken + 1 = ap (λ (j : JudgeView). j.taken) rest ∙ ap (λ (j : JudgeView). j.taken + 1) same in
    let legal : old.verdict ≡ Legal = sym (ap (λ (j : JudgeView). j.verdict) same) ∙ c.in-Legal.is in
    on_ok c.judge_legal.result
    (λ found rounds may.
    let flaw = found.0 in
    let replayed = subst (λ (j : JudgeView). IsReplayed j.watch round flaw new.watch) same found.2 in
    stands-further old new rounds round may.stands (ap (λ (j : JudgeView). j.head) rest ∙ ap (λ (j : JudgeView). j.head) same) taken
    (λ run more shape split judged.
    judged-legal run rounds more round old new flaw shape split judged legal may.stands.taken taken
    (found.1 ∙ ap (λ (n : ℕ). unwrap_or (option_map (broken n) flaw) Legal) (sym (ap (λ (j : JudgeView). j.taken) rest)))
    (replayed.flaw run rounds) (λ none can was. replayed.after none run rounds can was)))
    c.judge_legal.ensures.flaw

pub returns-in-Broken-clause-stands : goal.returns-in-Broken-clause-stands
returns-in-Broken-clause-stands c =
    λ rounds may.
    let old = c.args.self.now in
    let same = c.self.view_is in
    stands-further old _ rounds c.args.round.now may.stands (ap (λ (j : JudgeView). j.head) same) (ap (λ (j : JudgeView). j.taken + 1) same)
    (λ run more shape split judged.
    judged-broken run rounds c.args.round.now old _ judged
    (λ legal. absurd (cc (sym c.in-Broken.is ∙ ap (λ (j : JudgeView). j.verdict) same ∙ legal)))
    (ap (λ (j : JudgeView). j.verdict) same))
