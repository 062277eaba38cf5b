use Rattle.std.proofs.Common.{◌<◌, arith, get_or, length}
use Rattle.std.proofs.lemmas.Option.{slice_get-get_or}
use Rattle.mk_store.proofs.LineLaws.{there, line-word, line-words, line-faults}
use Rattle.mk_store.proofs.globals.do_line.Goals as goal

pub do_line-requires-clause-word : goal.do_line-requires-clause-word
do_line-requires-clause-word g c =
    let words = c.args.words.now in
    let place = c.word_place-place.result in
    let word = get_or words place c.index-words-place.result in
    let may = c.requires.may in
    let seven = there c.args.line c.args.size c.args.store.now may.0 may.1 may.2 c.requires.size c.requires.small in
    let below : place < length words = omega (arith, seven, c.word_place-place.ensures, c.requires.words) in
    line-word g.W.EpochWord.kept g.W.EpochWord.sets g.W.EpochWord.faults c.args.line c.args.size place c.args.store.now words word c.requires.size c.word_place-place.ensures
    (slice_get-get_or words place c.index-words-place.result below) may.0 may.1 may.2 may.3

pub returns-clause-words : goal.returns-clause-words
returns-clause-words g c =
    let words = c.args.words.now in
    let place = c.word_place-place.result in
    let word = get_or words place c.index-words-place.result in
    let may = c.requires.may in
    let seven = there c.args.line c.args.size c.args.store.now may.0 may.1 may.2 c.requires.size c.requires.small in
    let below : place < length words = omega (arith, seven, c.word_place-place.ensures, c.requires.words) in
    line-words g.W.EpochWord.kept g.W.EpochWord.sets g.W.EpochWord.faults c.args.line c.args.size place c.args.store.now words word c.requires.size c.word_place-place.ensures
    (slice_get-get_or words place c.index-words-place.result below) c.do_line.new.self c.do_line.new.word c.do_line.result c.do_line.ensures.done c.do_line.ensures.word c.do_line.ensures.reads
    c.do_line.ensures.others

pub returns-clause-faults : goal.returns-clause-faults
returns-clause-faults g c =
    let words = c.args.words.now in
    let place = c.word_place-place.result in
    let word = get_or words place c.index-words-place.result in
    let may = c.requires.may in
    let seven = there c.args.line c.args.size c.args.store.now may.0 may.1 may.2 c.requires.size c.requires.small in
    let below : place < length words = omega (arith, seven, c.word_place-place.ensures, c.requires.words) in
    line-faults g.W.EpochWord.kept g.W.EpochWord.sets g.W.EpochWord.faults c.args.line c.args.size place c.args.store.now words word c.requires.size c.word_place-place.ensures
    (slice_get-get_or words place c.index-words-place.result below) c.do_line.new.word c.do_line.result c.do_line.ensures.faults
