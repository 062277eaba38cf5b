use Rattle.std.proofs.Common.{◌∙◌, ◌<◌, length, arith}
use Rattle.mk_run.proofs.NewsLaws.{news-next}
use Rattle.mk_run.proofs.hearing.note_columns.Goals as goal

pub loop-place-preserved : goal.loop-place-preserved
loop-place-preserved c =
    let short : c.loop-place.place < length c.args.known.now = omega (arith, c.requires, c.loop-place-test.true) in
    news-next c.args.columns.now c.args.known.now c.loop-place.place c.index-columns-place.result c.loop-place.firsts c.note_column.new.firsts
    c.loop-place-test.true short c.index-columns-place.is c.in_ok-note_column.ensures
    ∙ c.loop-place.invariant
