-- Up to a mark each attempt of its client is settled.
use Rattle.std.proofs.Common.{◌≡◌, ◌⊎◌, ◌∙◌, ◌≤◌, ℕ, zero, suc, Bool, true, false, refl, arith, inl, inr, sym, ap, subst, List, [], ◌∷◌, Option, Some, None, ◌||◌, max, length}
use Rattle.std.specs.Prelude.{is_some, slice_index_or, replicate, ◌==◌}
use Rattle.std.proofs.lemmas.Bool.{and_parts, cases_eq, cond_both}
use Rattle.mk_lists.specs.Among.{Among}
use Rattle.mk_column_laws.proofs.Resets.{reset_link}
use Rattle.mk_txn.specs.declared.Outcome.{Outcome}
use Rattle.mk_txn.specs.MarkMaps.{MarkMap, mark_of, raised, IsMarkMap}
use Rattle.mk_txn.proofs.MarkLaws.{mark_of-raised, mark_of-raised_other, IsMarkMap-raised}
use Rattle.mk_words.specs.declared.Msg.{Msg}
use Rattle.mk_words.specs.declared.Body.TheVariants.{Validate as ValidateBody}
use Rattle.mk_words.specs.Links.{goes_to_replica}
use Rattle.mk_quorum.specs.Sizes.{members}
use Rattle.mk_quorum.specs.Slots.{passes}
use Rattle.mk_quorum.proofs.Slots.{passes-some}
use Rattle.mk_words.specs.Settling.{all_upto}
use Rattle.mk_words.proofs.SettlingLaws.{greatest_upto-passes}
use Rattle.mk_words.specs.declared.Step.{Step}
use Rattle.mk_model.specs.ColumnState.{ColumnState, AttemptState, attempt_of, is_settled, marks_at, client_mark, mark_sent}
use Rattle.mk_model.specs.Logs.{replica_reset}
use Rattle.mk_model.proofs.Frames.{enabled}
use Rattle.mk_column_laws.specs.Moments.{Moment, Taught, StaysTaught, Event, CanHappen, after_event, replicas_reset, step_done, round_begun}
use Rattle.mk_column_laws.specs.Moments.Event.{NewRound, Doing}
use Rattle.mk_column_laws.specs.Facts.{Facts, Grows, AttemptGrows}
use Rattle.mk_column_laws.specs.Identity.{Identity}
use Rattle.mk_column_laws.proofs.Growing.{grows}
use Rattle.mk_column_laws.proofs.Rounds.{event_moves}
use Rattle.mk_record_laws.specs.Marks.{IsSettledTo, MarkFacts, MarksAreTrue}
use Rattle.mk_record_laws.proofs.Shapes.{MarksStep, SendStep}
use Rattle.mk_record_laws.proofs.Shapes.SendStep.{SendsAnswer, SendsAsk, SendsAccept, SendsValidate, SendsDecide}
use Rattle.mk_record_laws.proofs.StepShapes.{step_shape, set_at}
use Rattle.mk_record_laws.proofs.Always.{always}

-- ---- settled attempts

pub settled_stays : (a b : AttemptState) → AttemptGrows a b → is_settled a ≡ true → is_settled b ≡ true
settled_stays a b g t = by a.unread refl a.coord.learned refl t
  where
    by : (u : Bool) → a.unread ≡ u → (l : Option Outcome) → a.coord.learned ≡ l → (u || is_some l) ≡ true → is_settled b ≡ true
    by true p l q e = let k : b.unread ≡ true = g.same_unread ∙ p in grind (arith, k)
    by false p (Some o) q e = let k : is_some b.coord.learned ≡ true = ap is_some (g.learned o q) in grind (arith, k)
    by false p None q e = absurd (cc e)

settled_later : (m next : Moment) → Grows m next → (client mark : ℕ) → IsSettledTo m client mark → IsSettledTo next client mark
settled_later m next g client mark h seq one le =
    let a = h seq one le in
    let b = g.attempts (record { client = client; seq = seq }) a.0 a.1 in
    (b.0, b.1, settled_stays a.0 b.0 b.2 a.2)

-- up to a place up to which all pass, each does
upto : (p : ℕ → Bool) (most seq : ℕ) → all_upto p most ≡ true → 1 ≤ seq → seq ≤ most → p seq ≡ true
upto p zero seq t one le = absurd (omega (arith, one, le))
upto p (suc most) seq t one le =
    elim (last most seq le) [
      | inl e ↦ subst (λ (n : ℕ). p n ≡ true) (sym e) (and_parts (p (suc most)) (all_upto p most) t).0
      | inr k ↦ upto p most seq (and_parts (p (suc most)) (all_upto p most) t).1 one k
    ]
  where
    last : (most seq : ℕ) → seq ≤ suc most → (seq ≡ suc most) ⊎ (seq ≤ most)
    last most seq le = grind (arith, le)

-- the mark that is sent is true
sent_settled : (m : Moment) (client : ℕ) → IsSettledTo m client (mark_sent m.round m.column client)
sent_settled m client =
    cond_both (m.round.version == 2) (client_mark m.column client) 0 (IsSettledTo m client) (λ _ seq one le.
    let p : ℕ → Bool = λ n. passes is_settled (attempt_of m.column (record { client = client; seq = n })) in
    let t = upto p (client_mark m.column client) seq (greatest_upto-passes p (length m.column.attempts)) one le in
    passes-some is_settled (attempt_of m.column (record { client = client; seq = seq })) t) (λ _ seq one le. absurd (omega (arith, one, le)))

-- ---- marks that are kept

no_mark : (m : Moment) (client : ℕ) → IsSettledTo m client 0
no_mark m client seq one le = absurd (omega (arith, one, le))

-- marks of a replica that are true
abbrev KeptOf : Moment → MarkMap → Type 0
KeptOf m marks = ((client : ℕ) → IsSettledTo m client (mark_of marks client)) × IsMarkMap marks

pub one_or_other : (a b n : ℕ) → n ≤ max a b → (n ≤ a) ⊎ (n ≤ b)
one_or_other a b n le = grind (arith, le)

raised_kept : (m : Moment) (marks : MarkMap) (client mark : ℕ) → KeptOf m marks → IsSettledTo m client mark → KeptOf m (raised client mark marks)
raised_kept m marks client mark h settled = (λ other. by other (cases_eq other client), IsMarkMap-raised client mark marks h.1)
  where
    by : (other : ℕ) → (other ≡ client) ⊎ (other ≡ client → ⊥) → IsSettledTo m other (mark_of (raised client mark marks) other)
    by other (inr apart) = subst (IsSettledTo m other) (sym (mark_of-raised_other client mark marks other apart)) (h.0 other)
    by other (inl same) =
        subst (λ (c : ℕ). IsSettledTo m c (mark_of (raised client mark marks) c)) (sym same)
        (subst (IsSettledTo m client) (sym (mark_of-raised client mark marks h.1))
        (λ seq one le. elim (one_or_other (mark_of marks client) mark seq le) [ inl k ↦ h.0 client seq one k | inr k ↦ settled seq one k ]))

-- what holds of no marks, and of the marks, holds of the marks after resets
resets_keep : (P : MarkMap → Type 0) → P [] → (resets : List ℕ) (c : ColumnState) → ((r : ℕ) → P (marks_at c r)) → (r : ℕ) → P (marks_at (replicas_reset resets c) r)
resets_keep P none [] c h r = h r
resets_keep P none (q ∷ resets) c h r =
    resets_keep P none resets (replica_reset q c)
    (λ n. elim (set_at c.marks q n [] []) [ inl k ↦ subst P (sym k.1) none | inr k ↦ subst P (sym k) (h n) ]) r

no_marks : (n r : ℕ) → ◌≡◌ {A = MarkMap} (slice_index_or (replicate n []) r []) []
no_marks zero r = refl
no_marks (suc n) zero = refl
no_marks (suc n) (suc r) = no_marks n r

-- ---- at every moment

kept_of : (m : Moment) → MarkFacts m → (r : ℕ) → KeptOf m (marks_at m.column r)
kept_of m f r = (f.kept r, f.maps r)

kept_later : (m next : Moment) → Grows m next → (marks : MarkMap) → KeptOf m marks → KeptOf next marks
kept_later m next g marks k = (λ client. settled_later m next g client (mark_of marks client) (k.0 client), k.1)

step_kept : (m : Moment) → MarkFacts m → (step : Step) (r : ℕ) (new : MarkMap) → MarksStep m step r new → KeptOf m new
step_kept m f step r new (inl same) = subst (KeptOf m) (sym same) (kept_of m f r)
step_kept m f step r new (inr k) =
    elim k.2 [
      | inl same ↦ subst (KeptOf m) (sym same) (kept_of m f r)
      | inr move ↦ subst (KeptOf m) (sym move.2) (raised_kept m (marks_at m.column r) k.0.id.client move.0 (kept_of m f r) (f.sent k.0 move.0 k.1 move.1))
    ]

step_sent : (m : Moment) → MarkFacts m → (step : Step) (msg : Msg) (mark : ℕ) → msg.body ≡ ValidateBody mark → Among msg m.column.link ⊎ SendStep m step msg → IsSettledTo m msg.id.client mark
step_sent m f step msg mark is (inl old) = f.sent msg mark old is
step_sent m f step msg mark is (inr (SendsAnswer t)) = absurd (let k : goes_to_replica msg.body ≡ true = ap goes_to_replica is in cc (k, t))
step_sent m f step msg mark is (inr (SendsAsk b)) = absurd (cc (is, b))
step_sent m f step msg mark is (inr (SendsAccept o b)) = absurd (cc (is, b))
step_sent m f step msg mark is (inr (SendsDecide o b l)) = absurd (cc (is, b))
step_sent m f step msg mark is (inr (SendsValidate b)) =
    let same : mark_sent m.round m.column msg.id.client ≡ mark = cc (is, b) in
    subst (IsSettledTo m msg.id.client) same (sent_settled m msg.id.client)

event_marks : (taught : Taught) → StaysTaught taught → (m : Moment) → Facts taught m → Identity m.column.clients m.column.attempts → (event : Event) → CanHappen taught event m → MarkFacts m → MarkFacts (after_event event m)
event_marks taught stays m h ids (NewRound views resets) can f =
    let g = grows taught m (round_begun views resets m) h (event_moves taught stays m h (NewRound views resets) can) in
    let kept = resets_keep (KeptOf m) (λ client. no_mark m client, tt) resets m.column (kept_of m f) in
    record {
      sent = λ msg mark a is. settled_later m (round_begun views resets m) g msg.id.client mark (f.sent msg mark (subst (λ (l : List Msg). Among msg l) (reset_link resets m.column) a) is);
      kept = λ r. (kept_later m (round_begun views resets m) g (marks_at (replicas_reset resets m.column) r) (kept r)).0;
      maps = λ r. (kept r).1;
    }
event_marks taught stays m h ids (Doing step) can f =
    let g = grows taught m (step_done step m) h (event_moves taught stays m h (Doing step) can) in
    let shape = step_shape taught m h step (enabled m.round m.column step can) in
    record {
      sent = λ msg mark a is. settled_later m (step_done step m) g msg.id.client mark (step_sent m f step msg mark is (shape.sends msg a));
      kept = λ r. (kept_later m (step_done step m) g (marks_at (step_done step m).column r) (step_kept m f step r (marks_at (step_done step m).column r) (shape.marks r))).0;
      maps = λ r. (step_kept m f step r (marks_at (step_done step m).column r) (shape.marks r)).1;
    }

pub marks_are_true : MarksAreTrue
marks_are_true =
    always (λ _ m. MarkFacts m)
    (λ taught version f keys clients. record {
      sent = λ msg mark a is. absurd a;
      kept = λ r client seq one le. absurd (let k = ap (λ (marks : MarkMap). mark_of marks client) (no_marks (members f) r) in omega (arith, one, le, k));
      maps = λ r. subst IsMarkMap (sym (no_marks (members f) r)) tt;
    })
    event_marks
