-- Every event keeps what holds of a column.
use Rattle.std.proofs.Common.{◌≡◌, ◌⊎◌, ◌<◌, ◌≤◌, ◌∙◌, ℕ, Bool, true, false, refl, arith, inl, inr, sym, ap, subst, List, Option, Some, None}
use Rattle.std.specs.Prelude.{is_some}
use Rattle.std.specs.Option.{option_or}
use Rattle.std.proofs.lemmas.Bool.{cond_both}
use Rattle.std.proofs.lemmas.Option.{none-some, same_Some}
use Rattle.mk_lists.specs.Among.{Among}
use Rattle.mk_txn.specs.declared.TxnId.{TxnId}
use Rattle.mk_txn.specs.declared.Vote.{Vote}
use Rattle.mk_txn.specs.declared.Outcome.{Outcome}
use Rattle.mk_txn.specs.Transactions.{Transaction}
use Rattle.mk_words.specs.declared.Told.{Told}
use Rattle.mk_words.specs.declared.Moved.{Moved}
use Rattle.mk_words.specs.declared.Msg.{Msg}
use Rattle.mk_words.specs.declared.Body.{Body}
use Rattle.mk_words.specs.declared.Body.TheVariants.{Voted, Accepted as AcceptedBody, Decide, Told as ToldBody, Moved as MovedBody}
use Rattle.mk_quorum.specs.Sizes.{members}
use Rattle.mk_quorum.specs.Slots.{slot}
use Rattle.mk_quorum.proofs.Slots.{slot-empty, slot-filled}
use Rattle.mk_words.specs.declared.Ruling.TheVariants.{Fast, Propose, Learned}
use Rattle.mk_words.specs.Rulings.{CoordState, by_votes, ruling, new_coord}
use Rattle.mk_words.specs.declared.Pick.TheVariants.{Known, Learned as PickLearned, Propose as PickPropose}
use Rattle.mk_words.specs.Picks.{TakeoverState, by_promises, pick, new_takeover, unless_learned}
use Rattle.mk_model.specs.ColumnState.{AttemptState, TakeoverOf, attempt_of, takeover_of}
use Rattle.mk_model.specs.ColumnState.Way.{ByVotes}
use Rattle.mk_model.specs.Answers.{attempt_answered, state_answered, moved_outcome}
use Rattle.mk_model.specs.Learnings.{learning}
use Rattle.mk_model.specs.Steps.{taught as having_learned, takeover_proposing}
use Rattle.mk_column_laws.specs.Moments.{Moment, Taught, StaysTaught}
use Rattle.mk_model.specs.Sending.{Sent, Proposed, msg_of}
use Rattle.mk_column_laws.specs.Messages.{VotesIn, RepliesIn, taking_over}
use Rattle.mk_model.specs.Deciding.{IsDecided}
use Rattle.mk_column_laws.specs.Moves.{Moves, AttemptMove, AttemptChange, TakeoverMove, TakeoverChange, HasProposed}
use Rattle.mk_column_laws.specs.Moves.AttemptMove.{AttemptStays, AttemptBegins, AttemptChanges}
use Rattle.mk_column_laws.specs.Moves.AttemptChange.{EndsReading, Reads, Stamps, RulesFast, RulesLearned, Proposes, Hears, Stops}
use Rattle.mk_column_laws.specs.Moves.TakeoverMove.{TakeoverStays, TakeoverBegins, TakeoverChanges}
use Rattle.mk_column_laws.specs.Moves.TakeoverChange.{Picks, Closes, TakeoverHears}
use Rattle.mk_column_laws.specs.Facts.{Facts, AttemptFacts, TakeoverFacts, IsBacked, Grows}
use Rattle.mk_column_laws.proofs.Decisions.{ruling-fast, ruling-propose, ruling-learned, pick-known, pick-learned, pick-propose, accepts_chosen}
use Rattle.mk_column_laws.proofs.Growing.{grows, none_there}
use Rattle.mk_column_laws.proofs.Views.{told_says, proposed_says, fast_supported, decided_supported}
use Rattle.mk_column_laws.proofs.Stable.{Sent-grows, IsSupported-grows, IsBacked-grows, IsStampedIn-grows, AttemptFacts-grows, TakeoverFacts-grows}

-- a takeover that proposes had been taught nothing
pick-untaught : (f : ℕ) (s : TakeoverState) (o : Outcome) (l : Option Outcome) → s.learned ≡ l → pick f s ≡ PickPropose o → s.learned ≡ None
pick-untaught f s o None e is = e
pick-untaught f s o (Some x) e is = absurd (let k : unless_learned f s (Some x) ≡ PickPropose o = subst (λ (y : Option Outcome). unless_learned f s y ≡ PickPropose o) e is in cc k)

or_cases : (a b : Option Outcome) (o : Outcome) → option_or a b ≡ Some o → (a ≡ Some o) ⊎ ((a ≡ None) × (b ≡ Some o))
or_cases (Some x) b o e = inl e
or_cases None b o e = inr (refl, e)

or_some : (a b : Option Outcome) → is_some a ≡ true → is_some (option_or a b) ≡ true
or_some (Some x) b e = refl
or_some None b e = absurd (cc e)

pub or_right : (a : Option Outcome) (b : Outcome) → is_some (option_or a (Some b)) ≡ true
or_right (Some x) b = refl
or_right None b = refl

module _ (taught : Taught) (stays : StaysTaught taught) (m next : Moment) (h : Facts taught m) (moves : Moves m next) where
  g : Grows m next
  g = grows taught m next h moves

  -- ---- what outcomes rest on at the moment before

  -- decided at the moment before
  pub backed_decided : (id : TxnId) (o : Outcome) → IsDecided m.round.faults m.column id o → IsBacked taught next id o next.past.now
  backed_decided id o d = IsBacked-grows taught stays m next (grows taught m next h moves) id o m.past.now next.past.now moves.rises (inl (d, decided_supported taught m h id o d))

  pub backed_later : (id : TxnId) (o : Outcome) → IsBacked taught m id o m.past.now → IsBacked taught next id o next.past.now
  backed_later id o k = IsBacked-grows taught stays m next (grows taught m next h moves) id o m.past.now next.past.now moves.rises k

  -- by accepts of the own proposal
  pub learned_backed : (id : TxnId) (a : AttemptState) (o : Outcome) → attempt_of m.column id ≡ Some a → a.coord.learned ≡ None → ruling m.round.faults a.coord ≡ Learned o → IsBacked taught next id o next.past.now
  learned_backed id a o e none is =
      let f = h.attempts id a e in
      let k = ruling-learned m.round.faults a.coord o a.coord.proposed none refl is in
      backed_decided id o (inr (0, ((f.proposed o k.0).0, accepts_chosen m.round.faults m.column.link id 0 a.coord.accepts f.accepts k.1)))

  -- by a fast ruling
  pub fast_backed : (id : TxnId) (a : AttemptState) (o : Outcome) → attempt_of m.column id ≡ Some a → ruling m.round.faults a.coord ≡ Fast o → Among (learning id ByVotes o) next.column.learned →
      IsBacked taught next id o next.past.now
  fast_backed id a o e is among =
      let f = h.attempts id a e in
      let k = ruling-fast m.round.faults a.coord o a.coord.learned a.coord.proposed refl refl is in
      inl (
        inl among,
        λ c. IsSupported-grows taught stays m next (grows taught m next h moves) id m.past.now next.past.now moves.rises
            (fast_supported taught m h id a.coord.votes o f.votes k.1 c),
      )

  -- by a pick
  pub known_backed : (id : TxnId) (v : ℕ) (t : TakeoverOf) (o : Outcome) → takeover_of m.column id v ≡ Some t → pick m.round.faults t.state ≡ Known o → IsBacked taught next id o next.past.now
  known_backed id v t o e is =
      backed_later id o ((h.takeovers id v t e).learned o (pick-known m.round.faults t.state o t.state.learned t.state.proposed refl refl is))

  pub picked_backed : (id : TxnId) (v : ℕ) (t : TakeoverOf) (o : Outcome) → takeover_of m.column id v ≡ Some t → pick m.round.faults t.state ≡ PickLearned o → IsBacked taught next id o next.past.now
  picked_backed id v t o e is =
      let f = h.takeovers id v t e in
      let k = pick-learned m.round.faults t.state o t.state.learned t.state.proposed refl refl is in
      backed_decided id o (inr (v, ((f.proposed o k.0).0, accepts_chosen m.round.faults m.column.link id v t.state.accepts f.accepts k.1)))

  -- by being told
  pub told_backed : (id : TxnId) (r v : ℕ) (t : Told) (o : Outcome) → Sent m.column.link id r v (ToldBody t) → t.last ≡ Some o → IsBacked taught next id o next.past.now
  told_backed id r v t o s e =
      let f = told_says taught m h id r v t s in
      let x = f.final o e in
      let k = (h.entries r id f.entry f.found).last o x.0 x.1 in
      IsBacked-grows taught stays m next (grows taught m next h moves) id o x.0 next.past.now (omega (arith, k.0, moves.rises)) k.1

  -- by a later epoch
  pub moved_backed : (id : TxnId) (r v : ℕ) (moved : Moved) (o : Outcome) → Sent m.column.link id r v (MovedBody moved) → moved_outcome moved ≡ Some o → IsBacked taught next id o next.past.now
  moved_backed id r v moved o s e =
      let k = h.messages (msg_of s.0 id r v (MovedBody moved)) s.1 in
      backed_later id o (inr (k.0.attempt, k.0.found, subst (λ (n : ℕ). taught id n o m.past.now ≡ true) (sym k.0.same_epoch) (k.1.1 o e)))

  -- by a Decide
  pub decide_backed : (id : TxnId) (r v : ℕ) (o : Outcome) → Sent m.column.link id r v (Decide o) → IsBacked taught m id o m.past.now
  decide_backed id r v o s = (h.messages (msg_of s.0 id r v (Decide o)) s.1).1

  -- ---- attempts

  module _ (id : TxnId) where
    answered_facts : (a : AttemptState) (r : ℕ) (b : Body) → Sent m.column.link id r 0 b → AttemptFacts taught next id a → AttemptFacts taught next id (attempt_answered r b a)
    answered_facts a r (Voted vote) s k =
        record {
          own_id = k.own_id;
          unstamped = k.unstamped;
          txn_id = k.txn_id;
          accepts = k.accepts;
          proposed = k.proposed;
          learned = k.learned;
          votes = λ q x e. elim (slot-filled a.coord.votes r q vote x e) [
            | inl old ↦ k.votes q x old
            | inr new ↦ subst (λ (n : ℕ). Sent next.column.link id n 0 (Voted x)) (sym new.0) (subst (λ (y : Vote). Sent next.column.link id r 0 (Voted y)) new.1 (Sent-grows taught stays m next (grows taught m next h moves) id r 0 (Voted vote) s))
          ];
        }
    answered_facts a r AcceptedBody s k =
        record {
          own_id = k.own_id;
          unstamped = k.unstamped;
          txn_id = k.txn_id;
          votes = k.votes;
          proposed = k.proposed;
          learned = k.learned;
          accepts = λ q x e. elim (slot-filled a.coord.accepts r q true x e) [
            | inl old ↦ k.accepts q x old
            | inr new ↦ subst (λ (n : ℕ). Sent next.column.link id n 0 AcceptedBody) (sym new.0) (Sent-grows taught stays m next (grows taught m next h moves) id r 0 AcceptedBody s)
          ];
        }
    answered_facts a r (ToldBody told) s k =
        record {
          own_id = k.own_id;
          unstamped = k.unstamped;
          txn_id = k.txn_id;
          votes = k.votes;
          accepts = k.accepts;
          proposed = k.proposed;
          learned = λ o e. elim (or_cases a.coord.learned told.last o e) [ inl old ↦ k.learned o old | inr new ↦ told_backed id r 0 told o s new.1 ];
        }
    answered_facts a r (MovedBody moved) s k =
        record {
          own_id = k.own_id;
          unstamped = k.unstamped;
          txn_id = k.txn_id;
          votes = k.votes;
          accepts = k.accepts;
          proposed = k.proposed;
          learned = λ o e. elim (or_cases a.coord.learned (moved_outcome moved) o e) [ inl old ↦ k.learned o old | inr new ↦ moved_backed id r 0 moved o s new.1 ];
        }
    answered_facts a r _ s k = record { own_id = k.own_id; unstamped = k.unstamped; txn_id = k.txn_id; votes = k.votes; accepts = k.accepts; proposed = k.proposed; learned = k.learned }

    learns : (a : AttemptState) (o : Outcome) → IsBacked taught next id o next.past.now → AttemptFacts taught next id a → AttemptFacts taught next id (having_learned o a)
    learns a o b k =
        record {
          own_id = k.own_id;
          unstamped = k.unstamped;
          txn_id = k.txn_id;
          votes = k.votes;
          accepts = k.accepts;
          proposed = k.proposed;
          learned = λ p e. elim (or_cases a.coord.learned (Some o) p e) [ inl old ↦ k.learned p old | inr new ↦ subst (λ (x : Outcome). IsBacked taught next id x next.past.now) (same_Some o p new.1) b ];
        }

    change_facts : (a b : AttemptState) → attempt_of m.column id ≡ Some a → AttemptFacts taught next id a → AttemptChange m next.column id a b → AttemptFacts taught next id b
    change_facts a b found k (EndsReading e) = subst (AttemptFacts taught next id) (sym e)
        (record { own_id = k.own_id; unstamped = λ q. absurd (cc q); txn_id = k.txn_id; votes = k.votes; accepts = k.accepts; proposed = k.proposed; learned = k.learned })
    change_facts a b found k (Reads replica key answer w e) = subst (AttemptFacts taught next id) (sym e)
        (record { own_id = k.own_id; unstamped = k.unstamped; txn_id = k.txn_id; votes = k.votes; accepts = k.accepts; proposed = k.proposed; learned = k.learned })
    change_facts a b found k (Stamps client clock stamp writes reading fit some c n e) = subst (AttemptFacts taught next id) (sym e)
        (record { own_id = k.own_id; unstamped = λ q. absurd (cc q); txn_id = λ t q. ap (λ (x : Transaction). x.id) (sym (same_Some _ t q)) ∙ k.own_id; votes = k.votes; accepts = k.accepts; proposed = k.proposed; learned = k.learned })
    change_facts a b found k (Stops e) = subst (AttemptFacts taught next id) (sym e)
        (record { own_id = k.own_id; unstamped = k.unstamped; txn_id = k.txn_id; votes = k.votes; accepts = k.accepts; proposed = k.proposed; learned = k.learned })
    change_facts a b found k (RulesFast o none is e l) = subst (AttemptFacts taught next id) (sym e) (learns a o (fast_backed id a o found is l) k)
    change_facts a b found k (RulesLearned o none is e) = subst (AttemptFacts taught next id) (sym e) (learns a o (learned_backed id a o found none is) k)
    change_facts a b found k (Hears msg among same view none e) =
        subst (AttemptFacts taught next id) (sym e) (answered_facts a msg.replica msg.body (msg.epoch, subst (λ (x : Msg). Among x m.column.link) is among) k)
      where
        is : msg ≡ msg_of msg.epoch id msg.replica 0 msg.body
        is = λ i. record { epoch = msg.epoch; id = same i; replica = msg.replica; view = view i; body = msg.body }
    change_facts a b found k (Proposes o none is e p) = subst (AttemptFacts taught next id) (sym e)
        (record {
          own_id = k.own_id;
          unstamped = k.unstamped;
          txn_id = k.txn_id;
          votes = k.votes;
          accepts = k.accepts;
          learned = k.learned;
          proposed = λ x q.
              let r = ruling-propose m.round.faults a.coord o a.coord.learned a.coord.proposed refl refl is in
              let same = same_Some o x q in
              subst (λ (y : Outcome). Proposed next.column.link id 0 y × ((votes : List (Option Vote)) × VotesIn next.column.link id votes × (by_votes next.round.faults votes ≡ Propose y))) same
              (p, (a.coord.votes, k.votes, subst (λ (f : ℕ). by_votes f a.coord.votes ≡ Propose o) (sym moves.same_faults) r.1));
        })

    empty_facts : (a : AttemptState) → a.id ≡ id → a.coord ≡ new_coord m.round.faults → a.txn ≡ None → AttemptFacts taught next id a
    empty_facts a own coord txn =
        record {
          own_id = own;
          unstamped = λ _. txn;
          txn_id = λ t e. absurd (none-some t (sym txn ∙ e));
          votes = λ r v e. absurd (none-some v (sym (ap (λ (c : CoordState). slot c.votes r) coord ∙ slot-empty {X = Vote} (members m.round.faults) r) ∙ e));
          accepts = λ r v e. absurd (none-some v (sym (ap (λ (c : CoordState). slot c.accepts r) coord ∙ slot-empty {X = Bool} (members m.round.faults) r) ∙ e));
          proposed = λ o e. absurd (none-some o (sym (ap (λ (c : CoordState). c.proposed) coord) ∙ e));
          learned = λ o e. absurd (none-some o (sym (ap (λ (c : CoordState). c.learned) coord) ∙ e));
        }

    pub attempt_facts : (new : Option AttemptState) → AttemptMove m next.column id (attempt_of m.column id) new → (b : AttemptState) → new ≡ Some b → AttemptFacts taught next id b
    attempt_facts new (AttemptStays same) b e = AttemptFacts-grows taught stays m next (grows taught m next h moves) id b (h.attempts id b (sym same ∙ e))
    attempt_facts new (AttemptBegins a none n own coord txn reads home) b e = subst (AttemptFacts taught next id) (same_Some a b (sym n ∙ e)) (empty_facts a own coord txn)
    attempt_facts new (AttemptChanges x y is n change) b e =
        subst (AttemptFacts taught next id) (same_Some y b (sym n ∙ e))
        (change_facts x y is (AttemptFacts-grows taught stays m next (grows taught m next h moves) id x (h.attempts id x is)) change)

  -- ---- takeovers

  module _ (id : TxnId) (v : ℕ) where
    state_facts : (t : TakeoverOf) (r : ℕ) (b : Body) → Sent m.column.link id r v b → TakeoverFacts taught next id v t → TakeoverFacts taught next id v (record t { state = state_answered r b t.state })
    state_facts t r AcceptedBody s k =
        record {
          own_view = k.own_view;
          from_one = k.from_one;
          begun = k.begun;
          told = k.told;
          proposed = k.proposed;
          learned = k.learned;
          accepts = λ q x e. elim (slot-filled t.state.accepts r q true x e) [
            | inl old ↦ k.accepts q x old
            | inr new ↦ subst (λ (n : ℕ). Sent next.column.link id n v AcceptedBody) (sym new.0) (Sent-grows taught stays m next (grows taught m next h moves) id r v AcceptedBody s)
          ];
        }
    state_facts t r (ToldBody told) s k =
        record {
          own_view = k.own_view;
          from_one = k.from_one;
          begun = k.begun;
          accepts = k.accepts;
          proposed = k.proposed;
          told = λ q x e. elim (slot-filled t.state.told r q told x e) [
            | inl old ↦ (let p = k.told q x old in (p.0, elim p.1 [ inl n ↦ inl n | inr l ↦ inr (or_some t.state.learned told.last l) ]))
            | inr new ↦ (
              subst (λ (n : ℕ). Sent next.column.link id n v (ToldBody x)) (sym new.0) (subst (λ (y : Told). Sent next.column.link id r v (ToldBody y)) new.1 (Sent-grows taught stays m next (grows taught m next h moves) id r v (ToldBody told) s)),
              subst (λ (y : Told). (y.last ≡ None) ⊎ (is_some (option_or t.state.learned told.last) ≡ true)) new.1 (by told.last refl),
            )
          ];
          learned = λ o e. elim (or_cases t.state.learned told.last o e) [ inl old ↦ k.learned o old | inr new ↦ told_backed id r v told o s new.1 ];
        }
      where
        by : (l : Option Outcome) → told.last ≡ l → (told.last ≡ None) ⊎ (is_some (option_or t.state.learned told.last) ≡ true)
        by None e = inl e
        by (Some o) e = inr (subst (λ (x : Option Outcome). is_some (option_or t.state.learned x) ≡ true) (sym e) (or_right t.state.learned o))
    state_facts t r (MovedBody moved) s k =
        record {
          own_view = k.own_view;
          from_one = k.from_one;
          begun = k.begun;
          accepts = k.accepts;
          proposed = k.proposed;
          told = λ q x e. let p = k.told q x e in (p.0, elim p.1 [ inl n ↦ inl n | inr l ↦ inr (or_some t.state.learned (moved_outcome moved) l) ]);
          learned = λ o e. elim (or_cases t.state.learned (moved_outcome moved) o e) [ inl old ↦ k.learned o old | inr new ↦ moved_backed id r v moved o s new.1 ];
        }
    state_facts t r _ s k = record { own_view = k.own_view; from_one = k.from_one; begun = k.begun; told = k.told; accepts = k.accepts; proposed = k.proposed; learned = k.learned }

    picks_facts : (t : TakeoverOf) (o : Outcome) → takeover_of m.column id v ≡ Some t → pick m.round.faults t.state ≡ PickPropose o → Proposed next.column.link id v o → TakeoverFacts taught next id v t →
        TakeoverFacts taught next id v (takeover_proposing o t)
    picks_facts t o found is p k =
        record {
          own_view = k.own_view;
          from_one = k.from_one;
          begun = k.begun;
          told = k.told;
          accepts = k.accepts;
          learned = k.learned;
          proposed = λ x q. subst (λ (y : Outcome). Proposed next.column.link id v y × ((replies : List (Option Told)) × RepliesIn next.column.link id v replies × (by_promises next.round.faults (taking_over v replies) ≡ PickPropose y))) (same_Some o x q)
              (p, (t.state.told, replied, subst (λ (f : ℕ). by_promises f (taking_over v t.state.told) ≡ PickPropose o) (sym moves.same_faults) (subst (λ (n : ℕ). by_promises m.round.faults (taking_over n t.state.told) ≡ PickPropose o) k.own_view why.1)));
        }
      where
        why : (t.state.proposed ≡ None) × (by_promises m.round.faults (taking_over t.state.view t.state.told) ≡ PickPropose o)
        why = pick-propose m.round.faults t.state o t.state.learned t.state.proposed refl refl is

        untaught : t.state.learned ≡ None
        untaught = pick-untaught m.round.faults t.state o t.state.learned refl is

        unproposed : (x : Outcome) → HasProposed m id v x → ⊥
        unproposed x (inl q) = omega (arith, q.0, k.from_one)
        unproposed x (inr q) = none-some x (sym why.0 ∙ (ap (λ (y : TakeoverOf). y.state.proposed) (same_Some t q.1.0 (sym found ∙ q.1.1)) ∙ q.1.2))

        below : (a : ℕ) → a ≤ v → (a ≡ v → ⊥) → a < v
        below a le ne = grind arith

        replied : RepliesIn next.column.link id v t.state.told
        replied r told e =
            let x = (h.takeovers id v t found).told r told e in
            let f = told_says taught m h id r v told x.0 in
            let open_still : told.last ≡ None = elim x.1 [ inl n ↦ n | inr l ↦ absurd (none_there t.state.learned untaught l) ] in
            record {
              sent = (k.told r told e).0;
              not_final = open_still;
              earlier = λ a q. below a.view ((f.promise open_still).not_above a q)
                  (λ same. unproposed a.outcome (proposed_says taught m h id v a.outcome (subst (λ (n : ℕ). Proposed m.column.link id n a.outcome) same (f.accepted a q))));
            }

    takeover_change_facts : (a b : TakeoverOf) → takeover_of m.column id v ≡ Some a → TakeoverFacts taught next id v a → TakeoverChange m next.column id v a b → TakeoverFacts taught next id v b
    takeover_change_facts a b found k (Picks o is e p) = subst (TakeoverFacts taught next id v) (sym e) (picks_facts a o found is p k)
    takeover_change_facts a b found k (Closes e) = subst (TakeoverFacts taught next id v) (sym e)
        (record { own_view = k.own_view; from_one = k.from_one; begun = k.begun; told = k.told; accepts = k.accepts; proposed = k.proposed; learned = k.learned })
    takeover_change_facts a b found k (TakeoverHears msg among same view e) =
        subst (TakeoverFacts taught next id v) (sym e)
        (cond_both a.closed a (record a { state = state_answered msg.replica msg.body a.state }) (TakeoverFacts taught next id v) (λ _. k) (λ _. state_facts a msg.replica msg.body (msg.epoch, subst (λ (x : Msg). Among x m.column.link) is among) k))
      where
        is : msg ≡ msg_of msg.epoch id msg.replica v msg.body
        is = λ i. record { epoch = msg.epoch; id = same i; replica = msg.replica; view = view i; body = msg.body }

    begun_facts : (a : AttemptState) → attempt_of m.column id ≡ Some a → is_some a.txn ≡ true → 1 ≤ v → TakeoverFacts taught next id v (record { id = id; closed = false; state = new_takeover m.round.faults v })
    begun_facts a found stamped pos =
        let s = IsStampedIn-grows taught stays m next (grows taught m next h moves) id a.epoch (record { attempt = a; found = found; stamped = stamped; same_epoch = refl }) in
        record {
          own_view = refl;
          from_one = pos;
          begun = (s.attempt, s.found, s.stamped);
          told = λ r t e. absurd (none-some t (sym (slot-empty {X = Told} (members m.round.faults) r) ∙ e));
          accepts = λ r b e. absurd (none-some b (sym (slot-empty {X = Bool} (members m.round.faults) r) ∙ e));
          proposed = λ o e. absurd (cc e);
          learned = λ o e. absurd (cc e);
        }

    pub takeover_facts : (new : Option TakeoverOf) → TakeoverMove m next.column id v (takeover_of m.column id v) new → (b : TakeoverOf) → new ≡ Some b → TakeoverFacts taught next id v b
    takeover_facts new (TakeoverStays same) b e = TakeoverFacts-grows taught stays m next (grows taught m next h moves) id v b (h.takeovers id v b (sym same ∙ e))
    takeover_facts new (TakeoverBegins a none found stamped pos n) b e = subst (TakeoverFacts taught next id v) (same_Some _ b (sym n ∙ e)) (begun_facts a found stamped pos)
    takeover_facts new (TakeoverChanges x y is n change) b e =
        subst (TakeoverFacts taught next id v) (same_Some y b (sym n ∙ e))
        (takeover_change_facts x y is (TakeoverFacts-grows taught stays m next (grows taught m next h moves) id v x (h.takeovers id v x is)) change)
