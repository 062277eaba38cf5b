-- Rebuilt cells, made one after another of what is left at the keys.
use Rattle.std.proofs.Common.{◌≡◌, ℕ, ◌<◌, ◌≤◌, ◌+◌, sym, ap, subst, ◌∙◌, List, [], ◌∷◌, ◌++◌, length, get_or, arith, length-append}
use Rattle.std.proofs.lemmas.List.{get_or_append_left, get_or_push}
use native.Mathlib.Decide.{dec_lt}
use mathlib.Core.Logic.{dite}
use Rattle.mk_words.specs.Cells.{CellView}
use Rattle.mk_words.specs.Bases.{BaseState, commits_in}
use Rattle.mk_merge_laws.specs.Lefts.{LeftState, nothing_left, cell_left, AreLeft, AreRebuilt}
use Rattle.mk_merge_laws.proofs.Lefts.{left-rebuilt}
use Rattle.mk_merge.proofs.EveryKey.{default-free}

-- the cells of the first keys are made
pub record AreMade (lefts : List LeftState) (count : ℕ) (cells : List CellView) : Type 0 where
  pub all : length cells ≡ count
  pub each : (key : ℕ) (d : CellView) (left : LeftState) → key < count → (get_or cells key d).state ≡ cell_left (get_or lefts key left)

pub made-all : (base : BaseState) (keys : ℕ) (lefts : List LeftState) (count : ℕ) (cells : List CellView) → length lefts ≤ count → count ≤ length lefts → AreLeft (commits_in base.list) keys lefts → AreMade lefts count cells → AreRebuilt base keys cells
made-all base keys lefts count cells past within left h = record {
  all = let n = h.all in let k = left.all in omega (arith, past, within, n, k);
  each = λ key d inside.
      let k = left.all in
      let here : key < count = omega (arith, past, within, inside, k) in
      h.each key d nothing_left here ∙ ap cell_left (left.each key nothing_left inside) ∙ left-rebuilt base key;
}
