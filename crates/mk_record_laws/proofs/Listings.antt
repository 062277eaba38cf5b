-- What somebody has learned is listed.
use Rattle.std.proofs.Common.{◌≡◌, ◌⊎◌, ◌∙◌, ℕ, Bool, true, false, refl, inl, inr, sym, ap, subst, List, ◌++◌, Option, Some, None, ◌&&◌}
use Rattle.std.specs.Prelude.{option_map, find, ◌==◌}
use Rattle.std.proofs.lemmas.Option.{same_Some}
use Rattle.std.proofs.lemmas.Bool.{and_parts, eqb-true}
use Rattle.mk_lists.specs.Among.{Among, Among-append_left, Among-append_right}
use Rattle.mk_lists.specs.Changed.{change}
use Rattle.mk_lists.proofs.Lookups.{find_push_cases}
use Rattle.mk_lists.proofs.Changes.{find-change, find-change_other}
use Rattle.mk_column_laws.proofs.Resets.{reset_learned, reset_link, reset_takeovers}
use Rattle.mk_txn.specs.declared.TxnId.{TxnId}
use Rattle.mk_txn.specs.declared.Outcome.{Outcome}
use Rattle.mk_txn.specs.Transactions.{same_id}
use Rattle.mk_txn.proofs.IdOrder.{same_id-tells}
use Rattle.mk_words.specs.declared.Msg.{Msg}
use Rattle.mk_words.specs.declared.Body.TheVariants.{Decide}
use Rattle.mk_words.specs.Links.{goes_to_replica}
use Rattle.mk_words.specs.declared.Step.{Step}
use Rattle.mk_model.specs.ColumnState.{AttemptState, TakeoverOf, Learning, attempt_of, takeover_of, is_attempt, is_takeover}
use Rattle.mk_model.specs.Learnings.{learning, learned_in_step}
use Rattle.mk_model.specs.Logs.{not_reading}
use Rattle.mk_model.specs.Sending.{msg_of}
use Rattle.mk_model.proofs.Frames.{enabled}
use Rattle.mk_column_laws.specs.Moments.{Moment, Taught, StaysTaught, Event, CanHappen, after_event, step_done, round_begun, first_moment}
use Rattle.mk_column_laws.specs.Moments.Event.{NewRound, Doing}
use Rattle.mk_column_laws.specs.Facts.{Facts}
use Rattle.mk_column_laws.specs.Identity.{Identity}
use Rattle.mk_column_laws.proofs.SortedTakeovers.{apart_views}
use Rattle.mk_column_laws.proofs.Identities.{attempt_back}
use Rattle.mk_column_laws.proofs.Rounds.{attempts_then}
use Rattle.mk_column_laws.proofs.TheLaws.{final_was_sent}
use Rattle.mk_record_laws.specs.Listed.{IsListed, LearningsAreListed}
use Rattle.mk_record_laws.proofs.Shapes.{SendStep, AttemptsStep, TakeoversStep}
use Rattle.mk_record_laws.proofs.Shapes.SendStep.{SendsAnswer, SendsAsk, SendsAccept, SendsValidate, SendsDecide}
use Rattle.mk_record_laws.proofs.Shapes.AttemptsStep.{AttemptsStay, AttemptAdded, AttemptChanged}
use Rattle.mk_record_laws.proofs.Shapes.TakeoversStep.{TakeoversStay, TakeoverAdded, TakeoverChanged}
use Rattle.mk_record_laws.proofs.StepShapes.{step_shape}
use Rattle.mk_record_laws.proofs.Always.{always}

-- a takeover that is found where one was changed
takeover_back : (id : TxnId) (view : ℕ) (g : TakeoverOf → TakeoverOf) → ((t : TakeoverOf) → ((g t).id ≡ t.id) × ((g t).state.view ≡ t.state.view)) →
    (list : List TakeoverOf) (other : TxnId) (w : ℕ) (t : TakeoverOf) → find (is_takeover other w) (change (is_takeover id view) g list) ≡ Some t →
    (s : TakeoverOf) × (find (is_takeover other w) list ≡ Some s) × ((t ≡ s) ⊎ ((other ≡ id) × (w ≡ view) × (t ≡ g s)))
takeover_back id view g keeps list other w t e = by (same_id id other && view == w) refl
  where
    stays : (x : TxnId) (u : ℕ) (s : TakeoverOf) → is_takeover x u (g s) ≡ is_takeover x u s
    stays x u s = let k = keeps s in let p = k.0 in let q = k.1 in λ i. same_id (p i) x && q i == u

    changed : (o : Option TakeoverOf) → find (is_takeover id view) list ≡ o → find (is_takeover id view) (change (is_takeover id view) g list) ≡ Some t →
        (s : TakeoverOf) × (find (is_takeover id view) list ≡ Some s) × (t ≡ g s)
    changed None none k = absurd (let n : find (is_takeover id view) (change (is_takeover id view) g list) ≡ None = find-change (is_takeover id view) g list (stays id view) ∙ ap (option_map g) none in cc (n, k))
    changed (Some s) found k = (s, found, same_Some t (g s) (sym k ∙ find-change (is_takeover id view) g list (stays id view) ∙ ap (option_map g) found))

    by : (b : Bool) → (same_id id other && view == w) ≡ b → (s : TakeoverOf) × (find (is_takeover other w) list ≡ Some s) × ((t ≡ s) ⊎ ((other ≡ id) × (w ≡ view) × (t ≡ g s)))
    by true k =
        let p : id ≡ other = same_id-tells id other (and_parts (same_id id other) (view == w) k).0 in
        let q : view ≡ w = eqb-true view w (and_parts (same_id id other) (view == w) k).1 in
        let here : find (is_takeover id view) (change (is_takeover id view) g list) ≡ Some t = (λ i. find (is_takeover (p i) (q i)) (change (is_takeover id view) g list)) ∙ e in
        let c = changed (find (is_takeover id view) list) refl here in
        (c.0, (λ i. find (is_takeover (sym p i) (sym q i)) list) ∙ c.1, inr (sym p, sym q, c.2))
    by false k = (t, sym (find-change_other (is_takeover id view) (is_takeover other w) g list (λ s. apart_views s.id id other s.state.view view w k) (stays other w)) ∙ e, inl refl)

-- what the own coordinators and takeovers have learned, and what Decides say, is listed
pub record Listed (m : Moment) : Type 0 where
  pub own : (id : TxnId) (a : AttemptState) (o : Outcome) → attempt_of m.column id ≡ Some a → a.coord.learned ≡ Some o → IsListed m.column.learned id o
  pub takeover : (id : TxnId) (view : ℕ) (t : TakeoverOf) (o : Outcome) → takeover_of m.column id view ≡ Some t → t.state.learned ≡ Some o → IsListed m.column.learned id o
  pub sent : (msg : Msg) (o : Outcome) → Among msg m.column.link → msg.body ≡ Decide o → IsListed m.column.learned msg.id o

module _ (taught : Taught) (m : Moment) (l : Listed m) (step : Step) where
  earlier : (id : TxnId) (o : Outcome) → IsListed m.column.learned id o → IsListed (m.column.learned ++ learned_in_step m.round m.column step) id o
  earlier id o k = (k.0, Among-append_left (learning id k.0 o) m.column.learned (learned_in_step m.round m.column step) k.1)

  just_now : (id : TxnId) (o : Outcome) → IsListed (learned_in_step m.round m.column step) id o → IsListed (m.column.learned ++ learned_in_step m.round m.column step) id o
  just_now id o k = (k.0, Among-append_right (learning id k.0 o) m.column.learned (learned_in_step m.round m.column step) k.1)

  own_listed : AttemptsStep m step (step_done step m).column.attempts → (id : TxnId) (b : AttemptState) (o : Outcome) → attempt_of (step_done step m).column id ≡ Some b → b.coord.learned ≡ Some o →
      IsListed (m.column.learned ++ learned_in_step m.round m.column step) id o
  own_listed (AttemptsStay same) id b o e k = earlier id o (l.own id b o (ap (find (is_attempt id)) (sym same) ∙ e) k)
  own_listed (AttemptAdded c a found named none txn unread same) id b o e k =
      elim (find_push_cases (is_attempt id) m.column.attempts a b (ap (find (is_attempt id)) (sym same) ∙ e)) [
        | inl there ↦ earlier id o (l.own id b o there k)
        | inr new ↦ absurd (let q : b.coord.learned ≡ None = subst (λ (x : AttemptState). x.coord.learned ≡ None) new.1.0 none in cc (q, k))
      ]
  own_listed (AttemptChanged x g keeps moves same) id b o e k =
      let back = attempt_back x g keeps m.column.attempts id b (ap (find (is_attempt id)) (sym same) ∙ e) in
      by back.0 back.1 back.2
    where
      by : (a : AttemptState) → attempt_of m.column id ≡ Some a → (b ≡ a) ⊎ ((id ≡ x) × (b ≡ g a)) → IsListed (m.column.learned ++ learned_in_step m.round m.column step) id o
      by a found (inl s) = earlier id o (l.own id a o found (ap (λ (y : AttemptState). y.coord.learned) (sym s) ∙ k))
      by a found (inr s) =
          let move = moves a (subst (λ (y : TxnId). attempt_of m.column y ≡ Some a) s.0 found) in
          elim (move.learned o (ap (λ (y : AttemptState). y.coord.learned) (sym s.1) ∙ k)) [
            | inl old ↦ earlier id o (l.own id a o found old)
            | inr new ↦ just_now id o (subst (λ (y : TxnId). IsListed (learned_in_step m.round m.column step) y o) (sym s.0) new)
          ]

  takeover_listed : TakeoversStep m step (step_done step m).column.takeovers → (id : TxnId) (view : ℕ) (t : TakeoverOf) (o : Outcome) → takeover_of (step_done step m).column id view ≡ Some t → t.state.learned ≡ Some o →
      IsListed (m.column.learned ++ learned_in_step m.round m.column step) id o
  takeover_listed (TakeoversStay same) id view t o e k = earlier id o (l.takeover id view t o (ap (find (is_takeover id view)) (sym same) ∙ e) k)
  takeover_listed (TakeoverAdded s none same) id view t o e k =
      elim (find_push_cases (is_takeover id view) m.column.takeovers s t (ap (find (is_takeover id view)) (sym same) ∙ e)) [
        | inl there ↦ earlier id o (l.takeover id view t o there k)
        | inr new ↦ absurd (let q : t.state.learned ≡ None = subst (λ (x : TakeoverOf). x.state.learned ≡ None) new.1.0 none in cc (q, k))
      ]
  takeover_listed (TakeoverChanged x v g keeps moves same) id view t o e k =
      let back = takeover_back x v g keeps m.column.takeovers id view t (ap (find (is_takeover id view)) (sym same) ∙ e) in
      by back.0 back.1 back.2
    where
      by : (s : TakeoverOf) → takeover_of m.column id view ≡ Some s → (t ≡ s) ⊎ ((id ≡ x) × (view ≡ v) × (t ≡ g s)) → IsListed (m.column.learned ++ learned_in_step m.round m.column step) id o
      by s found (inl q) = earlier id o (l.takeover id view s o found (ap (λ (y : TakeoverOf). y.state.learned) (sym q) ∙ k))
      by s found (inr q) =
          let same_one = q.0 in let same_view = q.1 in
          let there : takeover_of m.column x v ≡ Some s = (λ i. takeover_of m.column (sym same_one i) (sym same_view i)) ∙ found in
          elim (moves s there o (ap (λ (y : TakeoverOf). y.state.learned) (sym q.2) ∙ k)) [
            | inl old ↦ earlier id o (l.takeover id view s o found old)
            | inr new ↦ just_now id o (subst (λ (y : TxnId). IsListed (learned_in_step m.round m.column step) y o) (sym q.0) new)
          ]

  sent_listed : (msg : Msg) (o : Outcome) → msg.body ≡ Decide o → Among msg m.column.link ⊎ SendStep m step msg → IsListed (m.column.learned ++ learned_in_step m.round m.column step) msg.id o
  sent_listed msg o is (inl old) = earlier msg.id o (l.sent msg o old is)
  sent_listed msg o is (inr (SendsAnswer t)) = absurd (let k : goes_to_replica msg.body ≡ true = ap goes_to_replica is in cc (k, t))
  sent_listed msg o is (inr (SendsAsk b)) = absurd (cc (is, b))
  sent_listed msg o is (inr (SendsAccept p b)) = absurd (cc (is, b))
  sent_listed msg o is (inr (SendsValidate b)) = absurd (cc (is, b))
  sent_listed msg o is (inr (SendsDecide p b k)) =
      let same : p ≡ o = cc (is, b) in
      just_now msg.id o (subst (λ (y : Outcome). IsListed (learned_in_step m.round m.column step) msg.id y) same k)

pub event_listed : (taught : Taught) → StaysTaught taught → (m : Moment) → Facts taught m → Identity m.column.clients m.column.attempts → (event : Event) → CanHappen taught event m → Listed m → Listed (after_event event m)
event_listed taught stays m h ids (NewRound views resets) can l =
    record {
      own = λ id b o e k. by id b o e k (attempt_of m.column id) refl;
      takeover = λ id view t o e k. there id o (l.takeover id view t o (ap (find (is_takeover id view)) (sym (reset_takeovers resets m.column)) ∙ e) k);
      sent = λ msg o a is. there msg.id o (l.sent msg o (subst (λ (x : List Msg). Among msg x) (reset_link resets m.column) a) is);
    }
  where
    there : (id : TxnId) (o : Outcome) → IsListed m.column.learned id o → IsListed (round_begun views resets m).column.learned id o
    there id o k = subst (λ (x : List Learning). IsListed x id o) (sym (reset_learned resets m.column)) k

    by : (id : TxnId) (b : AttemptState) (o : Outcome) → attempt_of (round_begun views resets m).column id ≡ Some b → b.coord.learned ≡ Some o → (old : Option AttemptState) → attempt_of m.column id ≡ old → IsListed (round_begun views resets m).column.learned id o
    by id b o e k None none = absurd (let n : attempt_of (round_begun views resets m).column id ≡ None = attempts_then taught stays m h views resets can id ∙ ap (option_map not_reading) none in cc (n, e))
    by id b o e k (Some a) found =
        let same : not_reading a ≡ b = same_Some (not_reading a) b (sym (attempts_then taught stays m h views resets can id ∙ ap (option_map not_reading) found) ∙ e) in
        there id o (l.own id a o found (ap (λ (x : AttemptState). x.coord.learned) same ∙ k))
event_listed taught stays m h ids (Doing step) can l =
    let shape = step_shape taught m h step (enabled m.round m.column step can) in
    record {
      own = own_listed taught m l step shape.attempts;
      takeover = takeover_listed taught m l step shape.takeovers;
      sent = λ msg o a is. sent_listed taught m l step msg o is (shape.sends msg a);
    }

pub start_listed : (taught : Taught) (version f keys : ℕ) (clients : List ℕ) → Listed (first_moment version f keys clients)
start_listed taught version f keys clients = record { own = λ id a o e k. absurd (cc e); takeover = λ id v t o e k. absurd (cc e); sent = λ msg o a is. absurd a }

pub learnings_are_listed : LearningsAreListed
learnings_are_listed taught stays m reached id =
    let l = always (λ _ n. Listed n) start_listed event_listed taught stays m reached in
    record {
      own = λ a o e k. l.own id a o e k;
      takeover = λ view t o e k. l.takeover id view t o e k;
      sent = λ r view o s. l.sent (msg_of s.0 id r view (Decide o)) o s.1 refl;
      final = λ r entry o round found e. let s = final_was_sent taught stays m reached r id entry o round found e in l.sent (msg_of s.2.0 id s.0 s.1 (Decide o)) o s.2.1 refl;
    }
