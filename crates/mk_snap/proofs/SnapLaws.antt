-- Snapshots that stand for bases: what is merged of them stands for what is merged of the bases.
use Rattle.std.proofs.Common.{◌≡◌, ℕ, sym, ap, subst, ◌∙◌, List, [], ◌∷◌, ◌++◌, map, Some, Result, Ok, Err, IfOk}
use Rattle.std.specs.Prelude.{slice_get}
use Rattle.std.specs.Borrow.{Bor}
use Rattle.mk_lists.specs.Among.{Among, Among-append_left, Among-append_right}
use Rattle.mk_txn.specs.MarkMaps.{MarkMap, IsMarkMap}
use Rattle.mk_words.specs.Cells.{CellView}
use Rattle.mk_words.specs.KeptOutcomes.{covered_by}
use Rattle.mk_merge.specs.declared.Promise.{Promise}
use Rattle.mk_words.specs.declared.Fated.{Fated}
use Rattle.mk_words.specs.Bases.{BaseState, IsInIdOrder, kept_of, commits_in, empty_base}
use Rattle.mk_words.specs.Promises.{PromiseState, base_of}
use Rattle.mk_merge_laws.specs.Lefts.{cell_left, AreRebuilt}
use Rattle.mk_words.specs.Merging.{merged_from}
use Rattle.mk_merge_laws.specs.Adding.{entered_txns, additions, with_fated, put_fates, AreCounted, raised_marks, bare}
use Rattle.mk_merge.specs.Keepings.{Stand, handed_in}
use Rattle.mk_merge.specs.Standing.{stand-bare, handed-now}
use Rattle.mk_merge_laws.proofs.Bare.{added-bare, marks-bare}
use Rattle.mk_merge_laws.proofs.Adding.{IsAddition, AreApart, order-with, added-in_order, added-apart, added-whole, added-from}
use Rattle.mk_merge_laws.proofs.BaseWith.{AreFresh, fresh-from, kept-merged, rebuilt-with}
use Rattle.mk_lists.proofs.Members.{Among-map}
use Rattle.mk_snap.specs.Snapshots.{SnapState, SnapStands, AreAdded, AreCells, left_at}

-- the bases that promises stand for begin with what the first promise's snapshot stands for
pub first-stands : (ps : List (Bor (Promise SnapState))) (p : Bor (Promise SnapState)) (ss : List PromiseState) → Some p ≡ slice_get ps 0 → Stand SnapState SnapStands (map (λ p. p.now) ps) ss → SnapStands p.now.base (base_of ss)
first-stands [] p ss e h = absurd (cc e)
first-stands (q ∷ ps) p [] e h = absurd h
first-stands (q ∷ ps) p (s ∷ ss) e h = let same : p ≡ q = cc e in subst (λ (x : Bor (Promise SnapState)). SnapStands x.now.base s.base) (sym same) h.0.base

-- what is handed in
pub handed-are : (ps : List (Bor (Promise SnapState))) (ss : List PromiseState) → Stand SnapState SnapStands (map (λ p. p.now) ps) ss → map (λ p. handed_in p.now) ps ≡ map bare ss
handed-are ps ss h = handed-now ps ∙ stand-bare SnapStands (map (λ p. p.now) ps) ss h

-- the snapshot with what a merge adds stands for the base with it
pub stands-with : (f epoch : ℕ) (hs ss : List PromiseState) (old new : SnapState) (more : List Fated) (marks : MarkMap) → hs ≡ map bare ss → AreCounted ss → SnapStands old (base_of ss)
    → more ≡ additions f epoch old.kept hs → marks ≡ raised_marks old.kept.marks hs → IsMarkMap marks
    → new.kept ≡ covered_by marks (put_fates more old.kept) → AreAdded (commits_in more) old.lefts new.lefts
    → SnapStands new (merged_from f epoch ss)
stands-with f epoch hs ss old new more marks is counted h made marked fits kept lefts = subst (SnapStands new) whole (record {
  is_base = record { in_order = order-with more (base_of ss).list in_order apart h.is_base.in_order; marked = fits };
  stands = record {
    outcomes = kept ∙ ap (λ k. covered_by marks (put_fates more k)) same ∙ kept-merged (base_of ss) more marks ss h.is_base in_order apart raised fits;
    cells = λ key. rebuilt-with key (base_of ss) more marks (left_at key old.lefts) (left_at key new.lefts) fresh (h.stands.cells key) (lefts key);
  };
})
  where
    same : old.kept ≡ kept_of (base_of ss)
    same = h.stands.outcomes

    added : IsAddition f epoch ss more
    added = record { given = record { in_order = h.is_base.in_order; counted = counted }; made = added-bare f epoch hs ss old.kept more is same made }

    in_order : IsInIdOrder more
    in_order = added-in_order f epoch ss more added

    apart : AreApart more (base_of ss).list
    apart = added-apart f epoch ss more added

    raised : marks ≡ raised_marks (base_of ss).marks ss
    raised = marks-bare hs ss old.kept marks is same marked

    fresh : AreFresh more (base_of ss).list
    fresh = fresh-from (map (λ (g : Fated). g.txn) (base_of ss).list ++ entered_txns ss) more (base_of ss).list counted.coherent
        (λ g a. Among-append_right g.txn (map (λ (x : Fated). x.txn) (base_of ss).list) (entered_txns ss) (added-from f epoch ss more g added a))
        (λ g a. Among-append_left g.txn (map (λ (x : Fated). x.txn) (base_of ss).list) (entered_txns ss) (Among-map (λ (x : Fated). x.txn) g (base_of ss).list a))
        in_order apart

    whole : record { list = with_fated more (base_of ss).list; marks = marks } ≡ merged_from f epoch ss
    whole = λ i. record { list = added-whole f epoch ss more added i; marks = raised i }

pub ok-both : {A E : Type 0} (r : Result A E) (P Q R : A → Type 0) → ((a : A) → P a → Q a → R a) → IfOk r P → IfOk r Q → IfOk r R
ok-both (Ok a) P Q R f h k = f a h k
ok-both (Err e) P Q R f h k = h
