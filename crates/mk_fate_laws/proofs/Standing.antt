-- What is decided stands in every later base that is in force, no two learn otherwise, and no two commits conflict. From the
-- fields alone.
use Rattle.std.specs.Prelude.{◌≡◌, ◌⊎◌, ◌≤◌, ◌<◌, ℕ, zero, suc, Bool, true, false, ◌&&◌}
use Rattle.std.proofs.Common.{arith, sym, ◌∙◌, subst, inl, inr}
use Rattle.std.proofs.lemmas.Bool.{and_from, and_parts, false_from_ne_true, cases_order}
use Rattle.mk_quorum.specs.Counts.{count_below}
use Rattle.mk_quorum.specs.Sizes.{members, majority_of, hint_of}
use Rattle.mk_quorum.proofs.Counting.{count_below-weaker}
use Rattle.mk_quorum.proofs.Meeting.{majorities_meet, fast_meets_majority, fast_leaves_hint, hints_meet, fast_leaves_few_others, sizes_ascend}
use Rattle.mk_fate_laws.proofs.Fields.{VoteFields, Chosen, Decided, Support, BaseFields, TaughtBefore, IsNext, JoinFields, IsUnaccepted, counted_oks, ByFinal, ByAccepted, Hinted, Rejected, How, StandFields}
use Rattle.mk_fate_laws.proofs.Fields.How.{WasFinal, WasAccepted, WasTaken, WasRejected, WasDropped}

not_both : {P : Type 0} → true ≡ false → P
not_both e = absurd (cc e)

-- ---- one decision in an epoch

module _ {X : Type 0} (v : VoteFields X) (x : X) where
  -- a later view proposes what was chosen
  chosen_stays : (o p : Bool) → (c : Chosen v x o) → (view : ℕ) → v.Proposed x view p → (c.view < view) ⊎ (c.view ≡ view) → p ≡ o
  chosen_stays o p c view q (inl lt) = v.views_agree x c.view view o p c.accepted c.proposed lt q
  chosen_stays o p c view q (inr same) = v.one_proposal x view p o q (subst (λ (n : ℕ). v.Proposed x n o) same c.proposed)

  chosen_once : (o p : Bool) → Chosen v x o → Chosen v x p → o ≡ p
  chosen_once o p c d = elim (cases_order c.view d.view) [
    | inl same ↦ sym (chosen_stays o p c d.view d.proposed (inr same))
    | inr (inl lt) ↦ sym (chosen_stays o p c d.view d.proposed (inl lt))
    | inr (inr lt) ↦ chosen_stays p o d c.view c.proposed (inl lt)
  ]

  pub one_decision : (o p : Bool) → Decided v x o → Decided v x p → o ≡ p
  one_decision o p (inl a) (inl b) = v.fast_once x o p a b
  one_decision o p (inl a) (inr d) = sym (v.fast_forbids x d.view o p a d.proposed)
  one_decision o p (inr c) (inl b) = v.fast_forbids x c.view p o b c.proposed
  one_decision o p (inr c) (inr d) = chosen_once o p c d

  -- a commit has a majority of Ok votes
  pub decided_votes : Decided v x true → majority_of v.f ≤ count_below (members v.f) (v.ok x)
  decided_votes (inl a) = let h = v.fast_commit x a in omega (arith, h, sizes_ascend v.f)
  decided_votes (inr c) = v.commit_votes x c.view c.proposed

  later_support : (i j : ℕ) → i ≤ j → Support v x i → Support v x j
  later_support i j le s = record { voters = s.voters; enough = s.enough; each = λ r e. let k = s.each r e in (k.0, (let l = k.1 in omega (arith, l, le))) }

-- ---- what a counted replica shows

module _ {X : Type 0} (j : JoinFields X) where
  abbrev v : VoteFields X
  v = j.v

  abbrev b : BaseFields X
  b = j.b

  module _ (e : ℕ) (x : X) (next : IsNext b e x) where
    source_below : b.source e < e
    source_below = b.below e next.force next.after_first

    low : b.epoch_of x < e
    low = let k = source_below in omega (arith, k, next.of_source)

    -- what a base that was made this late has of its source's epoch no entered epoch taught
    pub too_late : (o : Bool) (round : ℕ) → round ≤ b.made_in e → TaughtBefore b x o round → ⊥
    too_late o round le t =
        let above : b.source e < t.epoch = let k = t.above in omega (arith, k, next.of_source) in
        let time = b.force_time e t.epoch next.force next.after_first t.entered above in
        let early = t.earlier in
        omega (arith, time, early, le)

    taught_stands : (o : Bool) (round : ℕ) → TaughtBefore b x o round → b.commits e x ≡ o
    taught_stands o round t = b.line e t.epoch x next.force (b.entered_force t.epoch t.entered) low t.above ∙ t.teaches

    -- a final outcome that counts is decided, a commit with its votes by then
    pub counted_final : (r : ℕ) (o : Bool) (round : ℕ) → j.counts e r ≡ true → v.Final x r o round → Decided v x o × (o ≡ true → Support v x (b.made_in e))
    counted_final r o round c final =
        let early = j.final_time e x r o round next c final in
        elim (j.backed x r o round final) [
          | inl d ↦ (d.0, λ commit. later_support v x round (b.made_in e) early (d.1 commit))
          | inr t ↦ absurd (too_late o round early t)
        ]

    -- where a majority accepted, a counted replica holds what it accepted then or later
    reach : (o : Bool) → (c : Chosen v x o) → (r : ℕ) × (j.counts e r ≡ true) × ((u : ℕ) × (p : Bool) × v.Accepted x r u p × (c.view ≤ u))
    reach o c =
        let m = majorities_meet v.f (v.has_accepted x c.view) (j.promised e) c.accepted (j.majority e next.force next.after_first) in
        (m.0, j.sees_accept e x c.view m.0 next m.3 m.2, v.accepted_true x c.view m.0 m.2)

    accepted_stands : (o : Bool) (a : ByAccepted j e x) → Decided v x o → b.commits e x ≡ o
    accepted_stands o a (inl fast) = a.stands ∙ v.fast_forbids x a.view o a.outcome fast (v.accepted_was_proposed x a.replica a.view a.outcome a.accepted)
    accepted_stands o a (inr c) =
        let m = reach o c in
        let up = a.highest m.0 m.2.0 m.2.1 m.1 m.2.2 in
        let over = m.2.3 in
        let le : c.view ≤ a.view = omega (arith, up, over) in
        a.stands ∙ chosen_stays v x o a.outcome c a.view (v.accepted_was_proposed x a.replica a.view a.outcome a.accepted) (at_least c.view a.view le)
      where
        at_least : (m n : ℕ) → m ≤ n → (m < n) ⊎ (m ≡ n)
        at_least m n le = grind (arith, le)

    final_stands : (o : Bool) (a : ByFinal j e x) → Decided v x o → b.commits e x ≡ o
    final_stands o a d = a.stands ∙ one_decision v x a.outcome o (counted_final a.replica a.outcome a.round a.counts a.final).0 d

    final_support : (a : ByFinal j e x) → b.commits e x ≡ true → Support v x (b.made_in e)
    final_support a t = (counted_final a.replica a.outcome a.round a.counts a.final).1 (sym a.stands ∙ t)

    accepted_support : (a : ByAccepted j e x) → b.commits e x ≡ true → Support v x (b.made_in e)
    accepted_support a t = j.accepted_support e x a.replica a.view next a.counts (subst (v.Accepted x a.replica a.view) (sym a.stands ∙ t) a.accepted)

    -- where nothing counted is accepted, what is decided is so fast
    must_be_fast : (o : Bool) → IsUnaccepted j e x → Decided v x o → v.Fast x o
    must_be_fast o none (inl a) = a
    must_be_fast o none (inr c) = let m = reach o c in absurd (none m.0 m.2.0 m.2.1 m.1 m.2.2)

    -- enough Ok votes of a fast commit count
    enough : v.Fast x true → hint_of v.f ≤ counted_oks j e x
    enough fast =
        let some = fast_leaves_hint v.f (v.ok x) (j.promised e) (v.fast_commit x fast) (j.majority e next.force next.after_first) in
        let more = count_below-weaker (members v.f) (λ r. v.ok x r && j.promised e r) (λ r. v.ok x r && j.counts e r)
        (λ r lt t. let k = and_parts (v.ok x r) (j.promised e r) t in and_from (v.ok x r) (j.counts e r) k.0 (j.sees_vote e x r next k.1 k.0)) in
        omega (arith, some, more)

    -- too few Ok votes of a fast abort do
    few : v.Fast x false → counted_oks j e x < hint_of v.f
    few fast =
        fast_leaves_few_others v.f (v.no x) (λ r. v.ok x r && j.counts e r)
        (λ r no. false_from_ne_true (v.ok x r && j.counts e r) (λ t. v.one_vote x r (and_parts (v.ok x r) (j.counts e r) t).0 no)) (v.fast_abort x fast)

  -- ---- of two attempts that conflict

  module _ (e : ℕ) (x y : X) (one : IsNext b e x) (other : IsNext b e y) where
    same_epoch : b.epoch_of x ≡ b.epoch_of y
    same_epoch = one.of_source ∙ sym other.of_source

    -- a fast commit does not conflict with a commit that has a majority of Ok votes by then
    fast_against : v.Fast x true → (Decided v y false → ⊥) → b.commits e y ≡ true → Support v y (b.made_in e) → v.Conflict x y → ⊥
    fast_against fast undecided t s conflict =
        let m = fast_meets_majority v.f (v.ok x) s.voters (v.fast_commit x fast) s.enough in
        let k = s.each m.0 m.3 in
        elim (j.clashing x y m.0 conflict same_epoch m.2 k.0) [
          | inl a ↦ elim (j.backed x m.0 false a.0 a.1) [
            | inl d ↦ not_both (one_decision v x true false (inl fast) d.0)
            | inr taught ↦ too_late e x one false a.0 (let p = a.2 in let q = k.1 in omega (arith, p, q)) taught
          ]
          | inr a ↦ elim (j.backed y m.0 false a.0 a.1) [
            | inl d ↦ undecided d.0
            | inr taught ↦ not_both (sym t ∙ taught_stands e y other false a.0 taught)
          ]
        ]

    -- two candidates do not conflict
    two_candidates : Hinted j e x → Hinted j e y → v.Conflict x y → ⊥
    two_candidates p q conflict =
        let m = hints_meet v.f (j.promised e) (λ r. v.ok x r && j.counts e r) (λ r. v.ok y r && j.counts e r) (j.no_more e one.force one.after_first)
        (λ r t. j.counted e r one.force one.after_first (and_parts (v.ok x r) (j.counts e r) t).1)
        (λ r t. j.counted e r one.force one.after_first (and_parts (v.ok y r) (j.counts e r) t).1) p.hinted q.hinted in
        let left = and_parts (v.ok x m.0) (j.counts e m.0) m.2 in
        let right = and_parts (v.ok y m.0) (j.counts e m.0) m.3 in
        elim (j.clashing x y m.0 conflict same_epoch left.0 right.0) [
          | inl a ↦ p.unfinished m.0 false a.0 left.1 a.1
          | inr a ↦ q.unfinished m.0 false a.0 right.1 a.1
        ]

-- ---- bases in force

-- what a run has learned of an attempt: it is decided, or an entered epoch above teaches it
pub data Rests {X : Type 0} (j : JoinFields X) (x : X) (o : Bool) : Type 0 where
  OnDecision : Decided j.v x o → Rests j x o
  OnBase : (e : ℕ) → j.b.Entered e → j.b.epoch_of x < e → j.b.commits e x ≡ o → Rests j x o

module _ {X : Type 0} (s : StandFields X) where
  abbrev sj : JoinFields X
  sj = s.j

  abbrev sv : VoteFields X
  sv = s.j.v

  abbrev sb : BaseFields X
  sb = s.j.b

  -- a candidate that is decided to commit is not rejected
  not_rejected : (e : ℕ) (x : X) → IsNext sb e x → sv.Fast x true → Rejected sj e x → ⊥
  not_rejected e x next fast k = elim (s.from_source e y next.force next.after_first k.commit) [
    | inl below ↦ sv_vote below
    | inr of_source ↦ same (record { force = next.force; after_first = next.after_first; of_source = of_source })
  ]
    where
      y : X
      y = k.other

      sv_vote : sb.commits (sb.source e) y ≡ true → ⊥
      sv_vote below =
          let m = majorities_meet sv.f (sv.ok x) (sv.ok x) (decided_votes sv x (inl fast)) (decided_votes sv x (inl fast)) in
          s.j.vote_base x y m.0 m.2 (subst (λ (a : ℕ). sb.commits a y ≡ true) (sym next.of_source) below) k.conflict

      same : IsNext sb e y → ⊥
      same other = by (s.how e y other)
        where
          by : How sj e y → ⊥
          by (WasFinal a) =
              fast_against sj e x y next other fast (λ d. not_both (sym k.commit ∙ final_stands sj e y other false a d)) k.commit (final_support sj e y other a k.commit) k.conflict
          by (WasAccepted a) =
              fast_against sj e x y next other fast (λ d. not_both (sym k.commit ∙ accepted_stands sj e y other false a d)) k.commit (accepted_support sj e y other a k.commit) k.conflict
          by (WasTaken h t) = two_candidates sj e x y next other k.candidate h k.conflict
          by (WasRejected a) = not_both (sym k.commit ∙ a.stands)
          by (WasDropped a) = not_both (sym k.commit ∙ a.stands)

  -- what is decided stands in the first base above
  pub decided_stands_once : (e : ℕ) (x : X) (o : Bool) → IsNext sb e x → Decided sv x o → sb.commits e x ≡ o
  decided_stands_once e x o next d = by o d (s.how e x next)
    where
      by : (o : Bool) → Decided sv x o → How sj e x → sb.commits e x ≡ o
      by o d (WasFinal a) = final_stands sj e x next o a d
      by o d (WasAccepted a) = accepted_stands sj e x next o a d
      by true d (WasTaken h t) = t
      by false d (WasTaken h t) = absurd (let less = few sj e x next (must_be_fast sj e x next false h.unaccepted d) in let more = h.hinted in omega (arith, less, more))
      by true d (WasRejected a) = absurd (not_rejected e x next (must_be_fast sj e x next true a.candidate.unaccepted d) a)
      by false d (WasRejected a) = a.stands
      by true d (WasDropped a) = absurd (let more = enough sj e x next (must_be_fast sj e x next true a.unaccepted d) in let less = a.few in omega (arith, less, more))
      by false d (WasDropped a) = a.stands

  -- the base above the attempt's epoch through which one looks
  next_above : (e : ℕ) (x : X) → sb.InForce e → sb.epoch_of x < e → (m : ℕ) × IsNext sb m x × (sb.commits e x ≡ sb.commits m x)
  next_above e x force lt =
      let m = sb.under e x force lt in
      let below = sb.below m.0 m.1 m.2 in
      (m.0, record { force = m.1; after_first = m.2; of_source = sym m.3 }, sb.line e m.0 x force m.1 lt (let same = m.3 in omega (arith, below, same)))

  -- and in each that is in force
  pub decided_stands : (e : ℕ) (x : X) (o : Bool) → sb.InForce e → sb.epoch_of x < e → Decided sv x o → sb.commits e x ≡ o
  decided_stands e x o force lt d = let m = next_above e x force lt in m.2 ∙ decided_stands_once m.0 x o m.1 d

  -- so does what an entered epoch teaches
  pub rests_stand : (e : ℕ) (x : X) (o : Bool) → sb.InForce e → sb.epoch_of x < e → Rests sj x o → sb.commits e x ≡ o
  rests_stand e x o force lt (OnDecision d) = decided_stands e x o force lt d
  rests_stand e x o force lt (OnBase h entered above teaches) = sb.line e h x force (sb.entered_force h entered) lt above ∙ teaches

  pub rests_agree : (x : X) (o p : Bool) → Rests sj x o → Rests sj x p → o ≡ p
  rests_agree x o p (OnDecision d) (OnDecision k) = one_decision sv x o p d k
  rests_agree x o p (OnDecision d) (OnBase e entered above teaches) = sym (decided_stands e x o (sb.entered_force e entered) above d) ∙ teaches
  rests_agree x o p (OnBase e entered above teaches) k = sym teaches ∙ rests_stand e x p (sb.entered_force e entered) above k

  -- what a replica finished rests on that
  pub final_rests : (x : X) (r : ℕ) (o : Bool) (round : ℕ) → sv.Final x r o round → Rests sj x o
  final_rests x r o round final = elim (s.j.backed x r o round final) [
    | inl d ↦ OnDecision d.0
    | inr t ↦ OnBase t.epoch t.entered t.above t.teaches
  ]

  -- ---- no two commits of a base in force conflict

  -- a commit of the source's epoch was taken, or has a majority of Ok votes by then
  way : (e : ℕ) (x : X) → IsNext sb e x → sb.commits e x ≡ true → Support sv x (sb.made_in e) ⊎ Hinted sj e x
  way e x next t = by (s.how e x next)
    where
      by : How sj e x → Support sv x (sb.made_in e) ⊎ Hinted sj e x
      by (WasFinal a) = inl (final_support sj e x next a t)
      by (WasAccepted a) = inl (accepted_support sj e x next a t)
      by (WasTaken h k) = inr h
      by (WasRejected a) = not_both (sym t ∙ a.stands)
      by (WasDropped a) = not_both (sym t ∙ a.stands)

  -- what commits in a base was not finished with Abort in its epoch
  not_aborted : (e : ℕ) (x : X) (r round : ℕ) → IsNext sb e x → sb.commits e x ≡ true → sv.Final x r false round → ⊥
  not_aborted e x r round next t final = not_both (sym t ∙ rests_stand e x false next.force (low sj e x next) (final_rests x r false round final))

  both_supported : (e : ℕ) (x y : X) → IsNext sb e x → IsNext sb e y → sb.commits e x ≡ true → sb.commits e y ≡ true →
      Support sv x (sb.made_in e) → Support sv y (sb.made_in e) → sv.Conflict x y → ⊥
  both_supported e x y one other tx ty p q conflict =
      let m = majorities_meet sv.f p.voters q.voters p.enough q.enough in
      elim (s.j.clashing x y m.0 conflict (same_epoch sj e x y one other) (p.each m.0 m.2).0 (q.each m.0 m.3).0) [
        | inl a ↦ not_aborted e x m.0 a.0 one tx a.1
        | inr a ↦ not_aborted e y m.0 a.0 other ty a.1
      ]

  both_new : (e : ℕ) (x y : X) → IsNext sb e x → IsNext sb e y → sb.commits e x ≡ true → sb.commits e y ≡ true → sv.Conflict x y → ⊥
  both_new e x y one other tx ty conflict = by (way e x one tx) (way e y other ty)
    where
      by : Support sv x (sb.made_in e) ⊎ Hinted sj e x → Support sv y (sb.made_in e) ⊎ Hinted sj e y → ⊥
      by (inr h) k = s.taken_fits e x y one h tx ty conflict
      by (inl p) (inr h) = s.taken_fits e y x other h ty tx (sv.other_way x y conflict)
      by (inl p) (inl q) = both_supported e x y one other tx ty p q conflict

  -- one of the base below, the other new
  one_new : (e : ℕ) (x y : X) → sb.commits e x ≡ true → sb.commits (sb.source e) x ≡ true → IsNext sb e y → sb.commits e y ≡ true → sv.Conflict y x → ⊥
  one_new e x y tx old next ty conflict = elim (way e y next ty) [
    | inl q ↦ (
        let m = majorities_meet sv.f q.voters q.voters q.enough q.enough in
        s.j.vote_base y x m.0 (q.each m.0 m.2).0 (subst (λ (a : ℕ). sb.commits a x ≡ true) (sym next.of_source) old) conflict)
    | inr h ↦ s.taken_fits e y x next h ty tx conflict
  ]

  no_clash_below : (limit e : ℕ) (x y : X) → e ≤ limit → sb.InForce e → sb.commits e x ≡ true → sb.commits e y ≡ true → sv.Conflict x y → ⊥
  no_clash_below zero e x y h force tx ty conflict = absurd (let low = sb.commits_below e x force tx in omega (arith, h, low))
  no_clash_below (suc limit) e x y h force tx ty conflict =
      by (λ p q. no_clash_below limit (sb.source e) x y less (sb.source_force e force pos) p q conflict) (s.from_source e x force pos tx) (s.from_source e y force pos ty)
    where
      pos : 0 < e
      pos = let low = sb.commits_below e x force tx in omega (arith, low)

      less : sb.source e ≤ limit
      less = let k = sb.below e force pos in omega (arith, k, h)

      next : (z : X) → sb.epoch_of z ≡ sb.source e → IsNext sb e z
      next z same = record { force = force; after_first = pos; of_source = same }

      by : (sb.commits (sb.source e) x ≡ true → sb.commits (sb.source e) y ≡ true → ⊥) → (sb.commits (sb.source e) x ≡ true) ⊎ (sb.epoch_of x ≡ sb.source e) →
          (sb.commits (sb.source e) y ≡ true) ⊎ (sb.epoch_of y ≡ sb.source e) → ⊥
      by again (inl p) (inl q) = again p q
      by again (inl p) (inr b) = one_new e x y tx p (next y b) ty (sv.other_way x y conflict)
      by again (inr a) (inl q) = one_new e y x ty q (next x a) tx conflict
      by again (inr a) (inr b) = both_new e x y (next x a) (next y b) tx ty conflict

  pub no_clash_in_force : (e : ℕ) (x y : X) → sb.InForce e → sb.commits e x ≡ true → sb.commits e y ≡ true → sv.Conflict x y → ⊥
  no_clash_in_force e x y force tx ty conflict = no_clash_below e e x y (omega arith) force tx ty conflict

  -- ---- no two commits that were learned conflict

  commit_in : (e : ℕ) (x : X) → sb.Entered e → sb.epoch_of x < e → Rests sj x true → sb.commits e x ≡ true
  commit_in e x entered lt rests = rests_stand e x true (sb.entered_force e entered) lt rests

  -- with nothing entered above, what was learned is decided
  decided_of : (x : X) (m : ℕ) (o : Bool) → ((e : ℕ) → sb.Entered e → m < e → ⊥) → m ≤ sb.epoch_of x → Rests sj x o → Decided sv x o
  decided_of x m o none le (OnDecision d) = d
  decided_of x m o none le (OnBase e entered above teaches) = absurd (none e entered (omega (arith, le, above)))

  same_epoch_fits : (x y : X) → Decided sv x true → Decided sv y true → sv.Conflict x y → sb.epoch_of x ≡ sb.epoch_of y → ⊥
  same_epoch_fits x y p q conflict same =
      let m = majorities_meet sv.f (sv.ok x) (sv.ok y) (decided_votes sv x p) (decided_votes sv y q) in
      elim (s.j.clashing x y m.0 conflict same m.2 m.3) [
        | inl a ↦ not_both (rests_agree x true false (OnDecision p) (final_rests x m.0 false a.0 a.1))
        | inr a ↦ not_both (rests_agree y true false (OnDecision q) (final_rests y m.0 false a.0 a.1))
      ]

  -- x of the lower epoch, and nothing entered above y's
  lower_fits : (x y : X) → Rests sj x true → Rests sj y true → sb.epoch_of x < sb.epoch_of y → ((e : ℕ) → sb.Entered e → sb.epoch_of y < e → ⊥) → sv.Conflict y x → ⊥
  lower_fits x y p q lt none conflict = elim (sb.begun y) [
    | inl first ↦ absurd (omega (arith, first, lt))
    | inr entered ↦ (
        let votes = decided_votes sv y (decided_of y (sb.epoch_of y) true none (omega arith) q) in
        let m = majorities_meet sv.f (sv.ok y) (sv.ok y) votes votes in
        s.j.vote_base y x m.0 m.2 (commit_in (sb.epoch_of y) x entered lt p) conflict)
  ]

  ordered_fit : (x y : X) → Rests sj x true → Rests sj y true → sv.Conflict x y → (sb.epoch_of x < sb.epoch_of y) ⊎ (sb.epoch_of x ≡ sb.epoch_of y) → ⊥
  ordered_fit x y p q conflict order = elim (sb.above (sb.epoch_of y)) [
    | inl e ↦ no_clash_in_force e.0 x y (sb.entered_force e.0 e.1) (commit_in e.0 x e.1 (upto order e.0 e.2) p) (commit_in e.0 y e.1 e.2 q) conflict
    | inr none ↦ by none order
  ]
    where
      upto : (sb.epoch_of x < sb.epoch_of y) ⊎ (sb.epoch_of x ≡ sb.epoch_of y) → (e : ℕ) → sb.epoch_of y < e → sb.epoch_of x < e
      upto (inl lt) e h = omega (arith, lt, h)
      upto (inr same) e h = omega (arith, same, h)

      by : ((e : ℕ) → sb.Entered e → sb.epoch_of y < e → ⊥) → (sb.epoch_of x < sb.epoch_of y) ⊎ (sb.epoch_of x ≡ sb.epoch_of y) → ⊥
      by none (inl lt) = lower_fits x y p q lt none (sv.other_way x y conflict)
      by none (inr same) =
          same_epoch_fits x y (decided_of x (sb.epoch_of y) true none (omega (arith, same)) p) (decided_of y (sb.epoch_of y) true none (omega arith) q) conflict same

  pub commits_fit : (x y : X) → Rests sj x true → Rests sj y true → sv.Conflict x y → ⊥
  commits_fit x y p q conflict = elim (cases_order (sb.epoch_of x) (sb.epoch_of y)) [
    | inl same ↦ ordered_fit x y p q conflict (inr same)
    | inr (inl lt) ↦ ordered_fit x y p q conflict (inl lt)
    | inr (inr lt) ↦ ordered_fit y x q p (sv.other_way x y conflict) (inl lt)
  ]
