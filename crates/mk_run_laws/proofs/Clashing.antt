-- Of two checks that clash, both let in, the first was given up before the second.
use Rattle.std.proofs.Common.{◌≡◌, ◌⊎◌, ◌≤◌, ℕ, refl, inl, inr, sym, ap, ◌∙◌, List, [], ◌∷◌, ◌++◌, subst}
use Rattle.mk_lists.specs.Among.{Among, Each-among, Among-append_left, Among-append_right}
use Rattle.mk_lists.proofs.Members.{Among-from_map}
use Rattle.mk_words.specs.declared.Act.{Act}
use Rattle.mk_words.specs.declared.Act.TheVariants.{CheckRead, CheckWrite, ReleaseRead, ReleaseWrite}
use Rattle.mk_words.specs.declared.JournalEntry.{JournalEntry}
use Rattle.mk_words.specs.Cells.{CellState}
use Rattle.mk_words.specs.Journals.{EachAnswered}
use Rattle.mk_basic_laws.specs.CellMemory.{Done, ReadThenWrite, WriteThenRead}
use Rattle.mk_run_laws.specs.Tenures.{DatedEntry, entries_in, tenure_of, AreInOrder, IsInBy, ClashesGiveUp}
use Rattle.mk_run_laws.proofs.Tenured.{entries_in-append, tenure_answered, tenures_ascend}

-- the one stands before the other
pub record StandsBefore (one other : DatedEntry) (tenure : List DatedEntry) : Type 0 where
  pub before : List DatedEntry
  pub middle : List DatedEntry
  pub rest : List DatedEntry
  pub whole : tenure ≡ before ++ (one ∷ (middle ++ (other ∷ rest)))

-- where a member stands
pub split_at : (d : DatedEntry) (xs : List DatedEntry) → Among d xs → (before : List DatedEntry) × ((rest : List DatedEntry) × (xs ≡ before ++ (d ∷ rest)))
split_at d [] a = absurd a
split_at d (x ∷ xs) (inl same) = ([], (xs, ap (λ (y : DatedEntry). y ∷ xs) same))
split_at d (x ∷ xs) (inr a) = let s = split_at d xs a in (x ∷ s.0, (s.1.0, ap (λ (ys : List DatedEntry). x ∷ ys) s.1.1))

one_further : (x one other : DatedEntry) (xs : List DatedEntry) → StandsBefore one other xs → StandsBefore one other (x ∷ xs)
one_further x one other xs s = record { before = x ∷ s.before; middle = s.middle; rest = s.rest; whole = ap (λ (ys : List DatedEntry). x ∷ ys) s.whole }

either_first : (one other : DatedEntry) (xs : List DatedEntry) → Among one xs → Among other xs → (one ≡ other → ⊥) → StandsBefore one other xs ⊎ StandsBefore other one xs
either_first one other [] a b apart = absurd a
either_first one other (x ∷ xs) (inl p) (inl q) apart = absurd (apart (sym p ∙ q))
either_first one other (x ∷ xs) (inl p) (inr b) apart =
    let s = split_at other xs b in
    inl (record { before = []; middle = s.0; rest = s.1.0; whole = (λ i. p i ∷ s.1.1 i) })
either_first one other (x ∷ xs) (inr a) (inl q) apart =
    let s = split_at one xs a in
    inr (record { before = []; middle = s.0; rest = s.1.0; whole = (λ i. q i ∷ s.1.1 i) })
either_first one other (x ∷ xs) (inr a) (inr b) apart = elim (either_first one other xs a b apart) [
  | inl s ↦ inl (one_further x one other xs s)
  | inr s ↦ inr (one_further x other one xs s)
]

-- the entries stand as the tenure does
entries_stand : (one other : DatedEntry) (before middle rest : List DatedEntry) →
    entries_in (before ++ (one ∷ (middle ++ (other ∷ rest)))) ≡ entries_in before ++ (one.entry ∷ (entries_in middle ++ (other.entry ∷ entries_in rest)))
entries_stand one other before middle rest =
    entries_in-append before (one ∷ (middle ++ (other ∷ rest)))
    ∙ ap (λ (es : List JournalEntry). entries_in before ++ (one.entry ∷ es)) (entries_in-append middle (other ∷ rest))

in_order_rest : (before rest : List DatedEntry) → AreInOrder (before ++ rest) → AreInOrder rest
in_order_rest [] rest h = h
in_order_rest (d ∷ before) rest h = in_order_rest before rest h.1

-- what stands in the middle is not of a later round than what follows
middle_early : (d other : DatedEntry) (middle rest : List DatedEntry) → AreInOrder (middle ++ (other ∷ rest)) → Among d middle → d.round ≤ other.round
middle_early d other [] rest h a = absurd a
middle_early d other (x ∷ middle) rest h (inl same) =
    subst (λ (y : DatedEntry). y.round ≤ other.round) same
    (Each-among (λ (y : DatedEntry). x.round ≤ y.round) other (middle ++ (other ∷ rest)) h.0 (Among-append_right other middle (other ∷ rest) (inl refl)))
middle_early d other (x ∷ middle) rest h (inr a) = middle_early d other middle rest h.1 a

-- an act in the middle stands in the tenure, not after the second entry
done_between : (one other : DatedEntry) (tenure : List DatedEntry) → AreInOrder tenure → (s : StandsBefore one other tenure) → (act : Act) → Done act (entries_in s.middle) → IsInBy tenure other.round act
done_between one other tenure order s act (entry, a, is) =
    let f = Among-from_map (λ (d : DatedEntry). d.entry) entry s.middle a in
    let d = f.0 in
    let inside : Among d (s.before ++ (one ∷ (s.middle ++ (other ∷ s.rest)))) =
    Among-append_right d s.before (one ∷ (s.middle ++ (other ∷ s.rest))) (inr (Among-append_left d s.middle (other ∷ s.rest) f.1)) in
    let rest = in_order_rest s.before (one ∷ (s.middle ++ (other ∷ s.rest))) (subst AreInOrder s.whole order) in
    (d, subst (Among d) (sym s.whole) inside, middle_early d other s.middle s.rest rest.1 f.1, ap (λ (x : JournalEntry). x.act) f.2 ∙ is)

answered_so : (opening : CellState) (one other : DatedEntry) (tenure : List DatedEntry) (s : StandsBefore one other tenure) → EachAnswered opening (entries_in tenure) →
    EachAnswered opening (entries_in s.before ++ (one.entry ∷ (entries_in s.middle ++ (other.entry ∷ entries_in s.rest))))
answered_so opening one other tenure s h =
    subst (EachAnswered opening) (ap entries_in s.whole ∙ entries_stand one other s.before s.middle s.rest) h

pub clashes_give_up : ReadThenWrite → WriteThenRead → ClashesGiveUp
clashes_give_up read_first write_first run rounds legal r e key rlt klt ts version other i j above below (d, a, at, act, answer) (w, b, at_other, act_other, answer_other) =
    let tenure = tenure_of run rounds r e key in
    let order = tenures_ascend run rounds r e key in
    let replayed = tenure_answered run rounds legal r e key rlt klt in
    let opening = replayed.0 in
    let replays = replayed.1 in
    elim (either_first d w tenure a b (λ same. apart (sym act ∙ ap (λ (x : DatedEntry). x.entry.act) same ∙ act_other))) [
      | inl s ↦ (
          let done = read_first opening (entries_in s.before) (entries_in s.middle) (entries_in s.rest) d.entry w.entry ts version other
          (answered_so opening d w tenure s replays) act answer act_other answer_other below in
          let k = done_between d w tenure order s (ReleaseRead ts) done in
          inl (k.0, k.1, subst (λ (n : ℕ). (k.0).round ≤ n) at_other k.2, k.3))
      | inr s ↦ (
          let done = write_first opening (entries_in s.before) (entries_in s.middle) (entries_in s.rest) w.entry d.entry ts version other
          (answered_so opening w d tenure s replays) act_other answer_other act answer above below in
          let k = done_between w d tenure order s (ReleaseWrite other) done in
          inr (k.0, k.1, subst (λ (n : ℕ). (k.0).round ≤ n) at k.2, k.3))
    ]
  where
    apart : CheckRead ts version ≡ CheckWrite other → ⊥
    apart same = cc same
