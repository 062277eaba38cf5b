use Rattle.std.proofs.Common.{◌≡◌, ◌++◌, ◌∙◌, refl, sym, ℕ, List, subst}
use Rattle.std.specs.Prelude.{OnOk}
use Rattle.std.specs.String.{string_bytes}
use Rattle.mk_kept.specs.Heads.{history}
use Rattle.mk_tool.proofs.JudgedLaws.{told-verdict, told-tally, legal-text, broken-text}
use Rattle.mk_tool.proofs.judging.put_verdict.Goals as goal

pub tally-requires-clause-legal : goal.tally-requires-clause-legal
tally-requires-clause-legal c = sym c.verdict.ensures.kept ∙ c.in-Legal.is

pub returns-in-Legal : goal.returns-in-Legal
returns-in-Legal c = λ rounds stands shape.
    let head = c.args.head.now in
    let judge = c.args.judge.now in
    let told = told-verdict head judge c.requires.head rounds stands shape c.verdict.result c.verdict.ensures.verdict in
    let counts = told-tally head judge c.requires.head rounds stands shape c.tally.result c.tally.ensures in
    subst (λ (t : List ℕ). OnOk c.put_legal.result (string_bytes c.put_legal.new.out ≡ string_bytes c.args.out.now ++ t))
    (legal-text (history head rounds) c.verdict.result c.tally.result told c.in-Legal.is counts) c.put_legal.ensures

pub returns-in-Broken : goal.returns-in-Broken
returns-in-Broken c = λ rounds stands shape.
    let head = c.args.head.now in
    let told = told-verdict head c.args.judge.now c.requires.head rounds stands shape c.verdict.result c.verdict.ensures.verdict in
    subst (λ (t : List ℕ). OnOk c.put_broken.result (string_bytes c.put_broken.new.out ≡ string_bytes c.args.out.now ++ t))
    (broken-text (history head rounds) head c.verdict.result c.in-Broken.round c.in-Broken.place c.in-Broken.why refl told c.in-Broken.is) c.put_broken.ensures
