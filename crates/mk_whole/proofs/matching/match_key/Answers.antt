use Rattle.std.proofs.Common.{◌≡◌, ap, ◌∙◌, arith, length}
use Rattle.mk_whole.specs.Matchers.{after_entries, flaw_at_end}
use Rattle.mk_whole.proofs.MatcherLaws.{count-of, after-length, walk-is}
use Rattle.mk_whole.proofs.matching.match_key.Goals as goal

pub flaw_at_end-requires : goal.flaw_at_end-requires
flaw_at_end-requires c =
    let count : length c.as_slice.result.now ≡ c.args.columns =
    ap (λ ms. length ms) (c.as_slice.ensures.value ∙ c.take_entries.ensures)
    ∙ after-length c.in_ok-matchers.matchers.items c.args.journal.now
    ∙ ap (λ ms. length ms) c.in_ok-matchers.ensures
    ∙ count-of c.args.turns.now 0 c.args.columns in
    omega (arith, count)

pub returns : goal.returns
returns c =
    c.flaw_at_end.ensures
    ∙ ap (flaw_at_end c.args.replica c.args.key 0)
    (c.as_slice.ensures.value ∙ c.take_entries.ensures ∙ ap (λ ms. after_entries ms c.args.journal.now) c.in_ok-matchers.ensures)
    ∙ walk-is c.args.replica c.args.key c.args.journal.now c.args.turns.now c.args.columns
