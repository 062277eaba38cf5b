-- What columns have learned since, noted in turn.
use Rattle.std.proofs.Common.{◌≡◌, ◌∙◌, ◌+◌, ◌<◌, ℕ, refl, sym, ap, List, [], ◌∷◌, ◌++◌, length, drop, get_or, map, drop-cons, add-one}
use Rattle.std.proofs.lemmas.List.{drop-map}
use Rattle.mk_model.specs.ColumnState.{Learning}
use Rattle.mk_column.specs.declared.learned.Learned.{Learned}
use Rattle.mk_column.specs.ColumnByCode.{ColumnView, learning_of_kept}
use Rattle.mk_run.specs.declared.firsts.FirstLearning.{FirstLearning}
use Rattle.mk_run.specs.Firsts.{noted, all_noted, kept_of_learning}
use Rattle.mk_run.specs.News.{news_of, all_news}

both-kept : (learned : List Learned) → map (λ l. kept_of_learning (learning_of_kept l)) learned ≡ map kept_of_learning (map learning_of_kept learned)
both-kept [] = refl
both-kept (l ∷ learned) = ap (λ rest. kept_of_learning (learning_of_kept l) ∷ rest) (both-kept learned)

-- what the code keeps from there on is what is learned from there on
pub news-kept : (column : ColumnView) (known : ℕ) (learned : List Learned) → map learning_of_kept learned ≡ column.state.learned →
    map (λ l. kept_of_learning (learning_of_kept l)) (drop known learned) ≡ news_of column known
news-kept column known learned is =
    both-kept (drop known learned)
    ∙ ap (map kept_of_learning) (sym (drop-map learning_of_kept known learned))
    ∙ ap (λ (xs : List Learning). map kept_of_learning (drop known xs)) is

pub all_noted-append : (xs ys : List FirstLearning) (firsts : List FirstLearning) → all_noted (xs ++ ys) firsts ≡ all_noted ys (all_noted xs firsts)
all_noted-append [] ys firsts = refl
all_noted-append (x ∷ xs) ys firsts = all_noted-append xs ys (noted x firsts)

-- the news of one column more
pub news-next : (columns : List ColumnView) (known : List ℕ) (i : ℕ) (column : ColumnView) (firsts new : List FirstLearning) → i < length columns → i < length known → column ≡ get_or columns i column →
    new ≡ all_noted (news_of column (get_or known i 0)) firsts →
    all_noted (all_news (drop (i + 1) columns) (drop (i + 1) known)) new ≡ all_noted (all_news (drop i columns) (drop i known)) firsts
news-next columns known i column firsts new lt short at is =
    let later = all_news (drop (i + 1) columns) (drop (i + 1) known) in
    let columns_are : drop i columns ≡ column ∷ drop (i + 1) columns =
    drop-cons columns i column lt ∙ ap (λ (n : ℕ). get_or columns i column ∷ drop n columns) (sym (add-one i)) ∙ ap (λ (c : ColumnView). c ∷ drop (i + 1) columns) (sym at) in
    let known_are : drop i known ≡ get_or known i 0 ∷ drop (i + 1) known =
    drop-cons known i 0 short ∙ ap (λ (n : ℕ). get_or known i 0 ∷ drop n known) (sym (add-one i)) in
    ap (all_noted later) is
    ∙ sym (all_noted-append (news_of column (get_or known i 0)) later firsts)
    ∙ sym (ap (λ (xs : List ColumnView). all_noted (all_news xs (drop i known)) firsts) columns_are
    ∙ ap (λ (ks : List ℕ). all_noted (all_news (column ∷ drop (i + 1) columns) ks) firsts) known_are)
