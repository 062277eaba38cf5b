-- What one line more does to the index of the rules.
use Rattle.std.proofs.Common.{◌≡◌, ℕ, Bool, true, false, cond, refl, sym, ap, ◌∙◌, arith, List, [], ◌∷◌, ◌++◌, Option, Some, None, ◌&&◌}
use Rattle.std.specs.Prelude.{find, option_map, is_none}
use Rattle.std.specs.Map.{lookup}
use Rattle.std.proofs.lemmas.Bool.Decides.{nat_tests}
use Rattle.mk_lists.proofs.Lookups.{find-same}
use Rattle.mk_txn.specs.declared.TxnId.{TxnId}
use Rattle.mk_words.specs.declared.MsgKind.{MsgKind}
use Rattle.mk_script.specs.declared.lines.FaultLine.{FaultLine}
use Rattle.mk_script.specs.declared.lines.StopLine.{StopLine}
use Rattle.mk_script.specs.declared.lines.Point.{Point}
use Rattle.mk_script.specs.declared.lines.Fate.{Fate}
use Rattle.mk_faults.specs.declared.rules.Target.{Target}
use Rattle.mk_faults.specs.declared.rules.Coordinator.{Coordinator}
use Rattle.mk_faults.specs.Fates.{is_fault_of, is_stop_of}
use Rattle.mk_faults.specs.Indexes.{target_of, same_target, target_in, coordinator_of, same_coordinator, coordinator_in, AreFates, ArePoints, KeepsFate, KeepsPoint}

-- ---- an index of the first lines by key

-- the first of a list with one more member: the first so far, and else the new one
find-push : {X : Type 0} (p : X → Bool) (xs : List X) (y : X) → find p (xs ++ y ∷ []) ≡ cond (is_none (find p xs)) (cond (p y) (Some y) None) (find p xs)
find-push p [] y = refl
find-push p (x ∷ xs) y = by (p x) (find-push p xs y)
  where
    by : (b : Bool) → find p (xs ++ y ∷ []) ≡ cond (is_none (find p xs)) (cond (p y) (Some y) None) (find p xs) →
        cond b (Some x) (find p (xs ++ y ∷ [])) ≡ cond (is_none (cond b (Some x) (find p xs))) (cond (p y) (Some y) None) (cond b (Some x) (find p xs))
    by true e = refl
    by false e = e

module _ {K L V : Type 0} (same : K → K → Bool) (tells : (a b : K) → same a b ≡ true → a ≡ b) (key : L → K) (value : L → V) where
  abbrev Are : List L → List (K × V) → Type 0
  Are lines entries = (q : K) → lookup (same q) entries ≡ option_map value (find (λ l. same (key l) q) lines)

  -- a new first stays away where the key has one, and is the new line's where it has none
  first_or : (o : Option L) (line : L) → o ≡ None → option_map value (cond (is_none o) (Some line) o) ≡ Some (value line)
  first_or None line e = refl
  first_or (Some l) line e = absurd (cc e)

  none_of : (o : Option L) → option_map value o ≡ None → o ≡ None
  none_of None e = refl
  none_of (Some l) e = absurd (cc e)

  unchanged : (o : Option L) → cond (is_none o) None o ≡ o
  unchanged None = refl
  unchanged (Some l) = refl

  first_stays : (o : Option L) (line : L) (v : V) → option_map value o ≡ Some v → cond (is_none o) (Some line) o ≡ o
  first_stays None line v e = absurd (cc e)
  first_stays (Some l) line v e = refl

  -- an index to which a line's value was added unless its key had one
  index_more : (lines : List L) (line : L) (old new : List (K × V)) → Are lines old →
      ((q : K) → lookup (same q) new ≡ cond (is_none (lookup (same (key line)) old) && same (key line) q) (Some (value line)) (lookup (same q) old)) → Are (lines ++ line ∷ []) new
  index_more lines line old new were puts q = by (same (key line) q) refl (lookup (same (key line)) old) refl
    where
      found : Option L
      found = find (λ l. same (key l) q) lines

      pushed : option_map value (find (λ l. same (key l) q) (lines ++ line ∷ [])) ≡ option_map value (cond (is_none found) (cond (same (key line) q) (Some line) None) found)
      pushed = ap (option_map value) (find-push (λ l. same (key l) q) lines line)

      by : (b : Bool) → same (key line) q ≡ b → (o : Option V) → lookup (same (key line)) old ≡ o
          → lookup (same q) new ≡ option_map value (find (λ l. same (key l) q) (lines ++ line ∷ []))
      by true e None k =
          let none : found ≡ None = none_of found (sym (were q) ∙ ap (λ (x : K). lookup (same x) old) (sym (tells (key line) q e)) ∙ k) in
          puts q ∙ ap (λ (o : Option V). cond (is_none o && same (key line) q) (Some (value line)) (lookup (same q) old)) k
          ∙ ap (λ (b : Bool). cond b (Some (value line)) (lookup (same q) old)) e
          ∙ sym (pushed ∙ ap (λ (b : Bool). option_map value (cond (is_none found) (cond b (Some line) None) found)) e ∙ first_or found line none)
      by true e (Some v) k =
          let some : option_map value found ≡ Some v = sym (were q) ∙ ap (λ (x : K). lookup (same x) old) (sym (tells (key line) q e)) ∙ k in
          puts q ∙ ap (λ (o : Option V). cond (is_none o && same (key line) q) (Some (value line)) (lookup (same q) old)) k
          ∙ were q ∙ sym (pushed ∙ ap (λ (b : Bool). option_map value (cond (is_none found) (cond b (Some line) None) found)) e ∙ ap (option_map value) (first_stays found line v some))
      by false e o k =
          puts q ∙ apart (is_none (lookup (same (key line)) old))
          ∙ were q ∙ sym (pushed ∙ ap (λ (b : Bool). option_map value (cond (is_none found) (cond b (Some line) None) found)) e ∙ ap (option_map value) (unchanged found))
        where
          apart : (a : Bool) → cond (a && same (key line) q) (Some (value line)) (lookup (same q) old) ≡ lookup (same q) old
          apart true = ap (λ (b : Bool). cond b (Some (value line)) (lookup (same q) old)) e
          apart false = refl

-- ---- fates

same_target-tells : (a b : Target) → same_target a b ≡ true → a ≡ b
same_target-tells a b h =
    let k : a.kind ≡ b.kind = grind (arith, nat_tests, h) in
    let c : a.client ≡ b.client = grind (arith, nat_tests, h) in
    let s : a.seq ≡ b.seq = grind (arith, nat_tests, h) in
    let r : a.replica ≡ b.replica = grind (arith, nat_tests, h) in
    let n : a.nth ≡ b.nth = grind (arith, nat_tests, h) in
    λ i. record { kind = k i; client = c i; seq = s i; replica = r i; nth = n i }

is_fault_of-target : (kind : MsgKind) (id : TxnId) (replica nth : ℕ) (line : FaultLine) →
    same_target (target_in line) (target_of kind id replica nth) ≡ is_fault_of kind id replica nth line
is_fault_of-target kind id replica nth line = grind (arith, nat_tests)

pub AreFates-more : (faults : List FaultLine) (line : FaultLine) (old new : List (Target × Fate)) → AreFates faults old
    → KeepsFate (target_in line) line.fate old new →
    AreFates (faults ++ line ∷ []) new
AreFates-more faults line old new were keeps = index_more same_target same_target-tells target_in (λ l. l.fate) faults line old new were keeps

-- what is kept for a message's target is the fate of its fault line
pub fate-kept : (faults : List FaultLine) (fates : List (Target × Fate)) → AreFates faults fates → (kind : MsgKind) (id : TxnId) (replica nth : ℕ) →
    lookup (same_target (target_of kind id replica nth)) fates ≡ option_map (λ line. line.fate) (find (is_fault_of kind id replica nth) faults)
fate-kept faults fates were kind id replica nth =
    were (target_of kind id replica nth)
    ∙ ap (option_map (λ (line : FaultLine). line.fate))
    (find-same (λ line. same_target (target_in line) (target_of kind id replica nth)) (is_fault_of kind id replica nth) (is_fault_of-target kind id replica nth) faults)

-- ---- points

same_coordinator-tells : (a b : Coordinator) → same_coordinator a b ≡ true → a ≡ b
same_coordinator-tells a b h =
    let c : a.client ≡ b.client = grind (arith, nat_tests, h) in
    let s : a.seq ≡ b.seq = grind (arith, nat_tests, h) in
    λ i. record { client = c i; seq = s i }

is_stop_of-coordinator : (id : TxnId) (line : StopLine) → same_coordinator (coordinator_in line) (coordinator_of id) ≡ is_stop_of id line
is_stop_of-coordinator id line = grind (arith, nat_tests)

pub ArePoints-more : (stops : List StopLine) (line : StopLine) (old new : List (Coordinator × Point)) → ArePoints stops old
    → KeepsPoint (coordinator_in line) line.point old new →
    ArePoints (stops ++ line ∷ []) new
ArePoints-more stops line old new were keeps = index_more same_coordinator same_coordinator-tells coordinator_in (λ l. l.point) stops line old new were keeps

pub point-kept : (stops : List StopLine) (points : List (Coordinator × Point)) → ArePoints stops points → (id : TxnId) →
    lookup (same_coordinator (coordinator_of id)) points ≡ option_map (λ line. line.point) (find (is_stop_of id) stops)
point-kept stops points were id =
    were (coordinator_of id)
    ∙ ap (option_map (λ (line : StopLine). line.point))
    (find-same (λ line. same_coordinator (coordinator_in line) (coordinator_of id)) (is_stop_of id) (is_stop_of-coordinator id) stops)
