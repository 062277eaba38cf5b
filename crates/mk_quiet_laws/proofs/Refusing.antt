-- At one key no check is refused for what an earlier stamp did there, once that is done.
use Rattle.std.proofs.Common.{◌≡◌, ◌⊎◌, ◌∙◌, ℕ, Bool, true, false, refl, arith, inl, inr, sym, ap, subst, List, [], ◌∷◌, ◌++◌, map, cond, ◌==◌}
use Rattle.std.proofs.lemmas.Bool.Decides.{nat_tests}
use Rattle.std.proofs.lemmas.Bool.{eq-eqb}
use Rattle.mk_lists.specs.Among.{Among}
use Rattle.mk_txn.specs.declared.Reason.{Reason}
use Rattle.mk_txn.specs.declared.Reason.TheVariants.{ReadStale, ReadPending, WriteLate, WritePending}
use Rattle.mk_txn.specs.declared.Stamp.{Stamp}
use Rattle.mk_txn.specs.declared.Value.{Value}
use Rattle.mk_txn.specs.Stamps.{is_before, zero_stamp}
use Rattle.mk_txn.proofs.StampOrder.{is_before-itself}
use Rattle.mk_words.specs.declared.Act.TheVariants.{Get, CheckRead, CheckWrite, CommitRead, CommitWrite}
use Rattle.mk_words.specs.declared.Answer.TheVariants.{Refused}
use Rattle.mk_words.specs.declared.JournalEntry.{JournalEntry}
use Rattle.mk_words.specs.Pending.{has_stamp}
use Rattle.mk_words.specs.Cells.{CellState, cell_after, cell_answer, first_cell}
use Rattle.mk_words.specs.Journals.{cell_through, EachAnswered}
use Rattle.mk_basic_laws.specs.CellMemory.{Provenance, CellsHaveProvenance, ReadRefusal, WriteRefusal, ReadRefusalsName, WriteRefusalsName}
use Rattle.mk_column_laws.specs.ActLaws.{ChecksFor, CommitsFor}
use Rattle.mk_cause_laws.proofs.Tenured.{answer_there}
use Rattle.mk_history.specs.Matching.{Turn, turns_in_journal}

-- ---- the acts of one column at a key

-- as entries of its seat
abbrev pub entry_of_turn : ℕ → Turn → JournalEntry
entry_of_turn c t = record { seat = c; act = t.act; answer = t.answer }

abbrev pub own_entries : ℕ → List Turn → List JournalEntry
own_entries c turns = map (entry_of_turn c) turns

-- where other columns only look, its acts alone replay
pub own_answered : (c : ℕ) (cell : CellState) (journal : List JournalEntry) → ((e : JournalEntry) → Among e journal → (e.seat ≡ c → ⊥) → e.act ≡ Get) → EachAnswered cell journal →
    EachAnswered cell (own_entries c (turns_in_journal c journal))
own_answered c cell [] others h = tt
own_answered c cell (e ∷ journal) others h =
    by (e.seat == c) refl (own_answered c (cell_after cell e.act) journal (λ x a apart. others x (inr a) apart) h.1)
  where
    by : (b : Bool) → (e.seat == c) ≡ b → EachAnswered (cell_after cell e.act) (own_entries c (turns_in_journal c journal)) →
        EachAnswered cell (own_entries c (cond b (record { act = e.act; answer = e.answer } ∷ turns_in_journal c journal) (turns_in_journal c journal)))
    by true k rest = (h.0, rest)
    by false k rest =
        let is : e.act ≡ Get = others e (inl refl) (λ same. absurd (cc (sym (eq-eqb e.seat c same) ∙ k))) in
        subst (λ (x : CellState). EachAnswered x (own_entries c (turns_in_journal c journal))) (ap (cell_after cell) is) rest

-- where a member stands
pub split_entry : (e : JournalEntry) (xs : List JournalEntry) → Among e xs → (before : List JournalEntry) × ((rest : List JournalEntry) × (xs ≡ before ++ e ∷ rest))
split_entry e [] a = absurd a
split_entry e (x ∷ xs) (inl same) = ([], (xs, ap (λ (y : JournalEntry). y ∷ xs) same))
split_entry e (x ∷ xs) (inr a) = let s = split_entry e xs a in (x ∷ s.0, (s.1.0, ap (λ (ys : List JournalEntry). x ∷ ys) s.1.1))

none_below_zero : (s t : Stamp) → t ≡ zero_stamp → is_before s t ≡ true → ⊥
none_below_zero s t same h = absurd (cc (sym (none s) ∙ ap (is_before s) (sym same) ∙ h))
  where
    none : (x : Stamp) → is_before x zero_stamp ≡ false
    none x = grind (arith, nat_tests)

pub not_both_ways : (s t : Stamp) → is_before s t ≡ true → is_before t s ≡ true → ⊥
not_both_ways s t p q = grind (arith, nat_tests, p, q)

pub not_itself : (s t : Stamp) → s ≡ t → is_before s t ≡ true → ⊥
not_itself s t same h = cc (sym (is_before-itself t) ∙ ap (λ (x : Stamp). is_before x t) (sym same) ∙ h)

-- ---- no refusal

module _ (provenance : CellsHaveProvenance) (reads : ReadRefusalsName) (writes : WriteRefusalsName) (before rest : List JournalEntry) (e : JournalEntry)
    (answered : EachAnswered first_cell (before ++ e ∷ rest)) (ts : Stamp) where
  abbrev pub cell : CellState
  cell = cell_through first_cell before

  comes_from : Provenance first_cell before
  comes_from = provenance first_cell before (e ∷ rest) answered

  -- every stamp of the key is this one, or below it
  module _ (known : (x : JournalEntry) → Among x before → (s : Stamp) → ChecksFor s x.act ⊎ CommitsFor s x.act → (s ≡ ts) ⊎ (is_before s ts ≡ true)) where
    pub no_write_refusal : e.act ≡ CheckWrite ts → (reason : Reason) (stamp : Stamp) → e.answer ≡ Refused reason stamp → ⊥
    no_write_refusal is reason stamp refused =
        by reason (writes cell ts stamp reason (ap (cell_answer cell) (sym is) ∙ answer_there first_cell before e rest answered ∙ refused))
      where
        by : (reason : Reason) → WriteRefusal cell ts stamp reason → ⊥
        by WritePending h = elim (comes_from.reader stamp h.0) [
          | inl none ↦ cc none
          | inr done ↦ elim (known done.1.0 done.1.1 stamp (inl (inl (done.0, done.1.2)))) [
            | inl same ↦ not_itself ts stamp (sym same) h.1
            | inr below ↦ not_both_ways stamp ts below h.1
          ]
        ]
        by WriteLate h = elim comes_from.last_read [
          | inl old ↦ none_below_zero ts stamp (h.0 ∙ old) h.1
          | inr done ↦ elim (known done.0 done.1 stamp (inr (inl (done.2 ∙ ap CommitRead (sym h.0))))) [
            | inl same ↦ not_itself ts stamp (sym same) h.1
            | inr below ↦ not_both_ways stamp ts below h.1
          ]
        ]
        by ReadStale h = h
        by ReadPending h = h

    pub no_read_refusal : (version : Stamp) → e.act ≡ CheckRead ts version →
        ((x : JournalEntry) → Among x before → (s : Stamp) → x.act ≡ CheckWrite s → is_before s ts ≡ true → has_stamp s cell.writers ≡ false) →
        ((x : JournalEntry) → Among x before → (s : Stamp) (value : Value) → x.act ≡ CommitWrite s value → (s ≡ ts → ⊥) × (is_before s ts ≡ true → is_before version s ≡ false)) →
        (reason : Reason) (stamp : Stamp) → e.answer ≡ Refused reason stamp → ⊥
    no_read_refusal version is gone fresh reason stamp refused =
        by reason (reads cell ts version stamp reason (ap (cell_answer cell) (sym is) ∙ answer_there first_cell before e rest answered ∙ refused))
      where
        by : (reason : Reason) → ReadRefusal cell ts version stamp reason → ⊥
        by ReadPending h = elim (comes_from.writer stamp h.0) [
          | inl none ↦ cc none
          | inr done ↦ cc (sym (gone done.0 done.1 stamp done.2 h.1) ∙ h.0)
        ]
        by ReadStale h = elim comes_from.version [
          | inl old ↦ none_below_zero version stamp (h.0 ∙ old.0) h.1
          | inr done ↦
              let commit : (done.0).act ≡ CommitWrite stamp cell.value = done.2 ∙ ap (λ (s : Stamp). CommitWrite s cell.value) (sym h.0) in
              let k = fresh done.0 done.1 stamp cell.value commit in
              elim (known done.0 done.1 stamp (inr (inr (cell.value, commit)))) [
                | inl same ↦ absurd (k.0 same)
                | inr below ↦ cc (sym (k.1 below) ∙ h.1)
              ]
        ]
        by WriteLate h = h
        by WritePending h = h
