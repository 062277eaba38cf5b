-- What global lines tell, noted in turn, and machines that replay rounds with it.
use Rattle.std.proofs.Common.{◌≡◌, ◌∙◌, ◌+◌, ◌<◌, ◌==◌, ℕ, sym, ap, List, ◌∷◌, length, drop, get_or, drop-cons, add-one}
use Rattle.std.specs.List.{list_any}
use Rattle.mk_txn.specs.declared.TxnId.{TxnId}
use Rattle.mk_txn.specs.declared.Outcome.{Outcome}
use Rattle.mk_words.specs.declared.GlobalEntry.{GlobalEntry}
use Rattle.mk_history.specs.Learning.{entered_after, entered_through}
use Rattle.mk_run.specs.declared.firsts.FirstLearning.{FirstLearning}
use Rattle.mk_run.specs.Firsts.{all_noted}
use Rattle.mk_run.specs.News.{news_by_line, news_by_lines, SameEpochs}
use Rattle.mk_run.proofs.NewsLaws.{all_noted-append}
use Rattle.mk_run.proofs.NotedLaws.{through-same, lines-same}

lines_here : (lines : List GlobalEntry) (i : ℕ) (d : GlobalEntry) → i < length lines → drop i lines ≡ get_or lines i d ∷ drop (i + 1) lines
lines_here lines i d lt = drop-cons lines i d lt ∙ ap (λ (n : ℕ). get_or lines i d ∷ drop n lines) (sym (add-one i))

-- one line more is noted
pub noted-next : (told : ℕ → List (TxnId × Outcome)) (lines : List GlobalEntry) (i : ℕ) (d : GlobalEntry) (old new : List FirstLearning) (before after : List ℕ) → i < length lines →
    SameEpochs after (entered_after (get_or lines i d).answer before (get_or lines i d).line) →
    new ≡ all_noted (news_by_line told before (get_or lines i d).answer (get_or lines i d).line) old →
    all_noted (news_by_lines told after (drop (i + 1) lines)) new ≡ all_noted (news_by_lines told before (drop i lines)) old
noted-next told lines i d old new before after lt same is =
    let line = get_or lines i d in
    let rest = drop (i + 1) lines in
    let next = entered_after line.answer before line.line in
    let here = news_by_line told before line.answer line.line in
    (λ j. all_noted (lines-same told rest after next same j) (is j))
    ∙ sym (all_noted-append here (news_by_lines told next rest) old)
    ∙ ap (λ (ls : List GlobalEntry). all_noted (news_by_lines told before ls) old) (sym (lines_here lines i d lt))

-- and so one more of the epochs is entered
pub entered-next : (lines : List GlobalEntry) (i : ℕ) (d : GlobalEntry) (before after : List ℕ) → i < length lines →
    SameEpochs after (entered_after (get_or lines i d).answer before (get_or lines i d).line) →
    SameEpochs (entered_through after (drop (i + 1) lines)) (entered_through before (drop i lines))
entered-next lines i d before after lt same = λ epoch.
    let line = get_or lines i d in
    through-same (drop (i + 1) lines) after (entered_after line.answer before line.line) same epoch
    ∙ ap (λ (ls : List GlobalEntry). list_any (λ e. e == epoch) (entered_through before ls)) (sym (lines_here lines i d lt))
