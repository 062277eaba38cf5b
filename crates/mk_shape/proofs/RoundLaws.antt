-- A round passes the tests exactly where it has the shape of a round.
use Rattle.std.proofs.Common.{◌≡◌, ◌∙◌, sym, refl, ℕ, Bool, true, ◌&&◌, eqb, List, [], ◌∷◌, length, map, ap, arith}
use Rattle.std.specs.List.{list_all}
use Rattle.std.proofs.lemmas.List.{length-map}
use Rattle.std.proofs.lemmas.List.Folds.{list_all-map}
use Rattle.std.proofs.lemmas.Bool.{and_parts, and_from, eqb-true}
use Rattle.std.proofs.lemmas.Bool.Decides.{nat_tests}
use Rattle.mk_lists.specs.Among.{Each}
use Rattle.mk_quorum.specs.Sizes.{members}
use Rattle.mk_history.specs.declared.RoundLog.{RoundLog}
use Rattle.mk_history.specs.Shape.{IsRoundShape}
use Rattle.mk_kept.specs.declared.head.Head.{Head}
use Rattle.mk_kept.specs.Heads.{history}
use Rattle.mk_shape.specs.RoundTests.{round_tests}
use Rattle.mk_shape.proofs.AnyRounds.{same_tests, steps_any, entries_any}

true-eqb : (m n : ℕ) → m ≡ n → eqb m n ≡ true
true-eqb m n e = grind (arith, nat_tests)

lengths_each : {X : Type 0} (n : ℕ) (rows : List (List X)) → list_all (λ row. eqb (length row) n) rows ≡ true → Each (λ row. length row ≡ n) rows
lengths_each n [] h = tt
lengths_each n (row ∷ rows) h =
    let both = and_parts (eqb (length row) n) (list_all (λ row. eqb (length row) n) rows) h in
    (eqb-true (length row) n both.0, lengths_each n rows both.1)

lengths_test : {X : Type 0} (n : ℕ) (rows : List (List X)) → Each (λ row. length row ≡ n) rows → list_all (λ row. eqb (length row) n) rows ≡ true
lengths_test n [] h = refl
lengths_test n (row ∷ rows) h = and_from (eqb (length row) n) (list_all (λ row. eqb (length row) n) rows) (true-eqb (length row) n h.0) (lengths_test n rows h.1)

-- ---- lists as they are kept

module _ {R K E : Type 0} (keys : R → List K) (items : K → List E) where
  pub tests_kept : (p : E → Bool) (rows : List R)
      → list_all (λ row. list_all (λ key. list_all p (items key)) (keys row)) rows ≡ list_all (list_all (list_all p)) (map (λ row. map items (keys row)) rows)
  tests_kept p rows =
      same_tests (λ row. list_all (λ key. list_all p (items key)) (keys row)) (λ row. list_all (list_all p) (map items (keys row)))
      (λ row. sym (list_all-map (list_all p) items (keys row))) rows
      ∙ sym (list_all-map (list_all (list_all p)) (λ row. map items (keys row)) rows)

  pub lengths_kept : (m n : ℕ) (rows : List R)
      → (eqb (length rows) m && list_all (λ row. eqb (length (keys row)) n) rows)
      ≡ (eqb (length (map (λ row. map items (keys row)) rows)) m && list_all (λ row. eqb (length row) n) (map (λ row. map items (keys row)) rows))
  lengths_kept m n rows =
      ap (λ k. eqb k m && list_all (λ row. eqb (length (keys row)) n) rows) (sym (length-map rows (λ row. map items (keys row))))
      ∙ ap (λ b. eqb (length (map (λ row. map items (keys row)) rows)) m && b)
      (same_tests (λ row. eqb (length (keys row)) n) (λ row. eqb (length (map items (keys row))) n) (λ row. ap (λ k. eqb k n) (sym (length-map (keys row) items))) rows
      ∙ sym (list_all-map (λ row. eqb (length row) n) (λ row. map items (keys row)) rows))

-- ---- a round

module _ (head : Head) (round : RoundLog) (rounds : List RoundLog) where
  pub shape_from_tests : round_tests (history head []) round ≡ true → IsRoundShape (history head rounds) round
  shape_from_tests h =
      let first = and_parts _ _ h in
      let second = and_parts _ _ first.1 in
      let third = and_parts _ _ second.1 in
      let last = and_parts _ _ third.1 in
      let tables = and_parts _ _ second.0 in
      record {
        logs = eqb-true (length round.logs) head.columns first.0;
        journals = eqb-true (length round.journals) (members head.size) tables.0;
        keys = lengths_each (length head.key_names.names) round.journals tables.1;
        steps = sym (steps_any head rounds round.logs) ∙ third.0;
        entries = sym (entries_any head rounds round.journals) ∙ last.0;
        globals = last.1;
      }

  pub tests_from_shape : IsRoundShape (history head rounds) round → round_tests (history head []) round ≡ true
  tests_from_shape h =
      and_from _ _ (true-eqb (length round.logs) head.columns h.logs)
      (and_from _ _ (and_from _ _ (true-eqb (length round.journals) (members head.size) h.journals) (lengths_test (length head.key_names.names) round.journals h.keys))
      (and_from _ _ (steps_any head rounds round.logs ∙ h.steps)
      (and_from _ _ (entries_any head rounds round.journals ∙ h.entries) h.globals)))
