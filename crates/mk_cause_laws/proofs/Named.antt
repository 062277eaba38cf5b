-- A conflict that was voted names a refusal, and a takeover's abort its takeover.
use Rattle.std.proofs.Common.{◌≡◌, ◌<◌, ℕ, refl, sym, ap, ◌∙◌, subst}
use Rattle.std.specs.Prelude.{Some, ◌==◌}
use Rattle.std.proofs.lemmas.Bool.{and_parts, eqb-true}
use Rattle.mk_lists.specs.Among.{Among}
use Rattle.mk_lists.proofs.Lookups.{find_tells}
use Rattle.mk_run_laws.proofs.LastMoments.{last_is_moment}
use Rattle.mk_txn.specs.declared.TxnId.{TxnId}
use Rattle.mk_txn.specs.declared.Conflict.{Conflict}
use Rattle.mk_txn.specs.declared.Cause.TheVariants.{Conflict as ByConflict, Takeover as ByTakeover, Epoch as ByEpoch}
use Rattle.mk_txn.specs.declared.Outcome.{Outcome}
use Rattle.mk_txn.specs.declared.Outcome.TheVariants.{Commit, Abort}
use Rattle.mk_txn.specs.declared.Vote.TheVariants.{Abort as VoteAbort}
use Rattle.mk_txn.specs.Transactions.{same_id}
use Rattle.mk_txn.proofs.IdOrder.{same_id-tells}
use Rattle.mk_words.specs.declared.Answer.TheVariants.{Refused}
use Rattle.mk_model.specs.ColumnState.{TakeoverOf, is_takeover, takeover_of}
use Rattle.mk_column_laws.specs.Moments.{PastEntry}
use Rattle.mk_column_laws.specs.KeyActs.{act_at}
use Rattle.mk_column_laws.specs.ActLaws.{RefusalOfAbort}
use Rattle.mk_column_laws.proofs.ActStamps.{checks_shape}
use Rattle.mk_record_laws.specs.Causes.{IsCausedBy}
use Rattle.mk_history.specs.Histories.{History, journal_of}
use Rattle.mk_history.specs.Shape.{HasShape}
use Rattle.mk_history.specs.Legality.{IsLegal}
use Rattle.mk_history.specs.Naming.{touches, IsConflictOf, IsTakeoverOf, IsNamed}
use Rattle.mk_history.specs.Wholes.{last_state, column_of}
use Rattle.mk_run_laws.specs.Ends.{last_moment}
use Rattle.mk_run_laws.specs.TaughtIn.{taught_in}
use Rattle.mk_cause_laws.specs.Named.{CausesAreNamed}
use Rattle.mk_cause_laws.proofs.Lower.{Lower}
use Rattle.mk_cause_laws.proofs.Owned.{IsOf, stands_in_run}
use Rattle.mk_cause_laws.proofs.Refused.{refusals_have_owners}

module _ (laws : Lower) (refusals : RefusalOfAbort) (run : History) (shape : HasShape run) (legal : IsLegal run) (c : ℕ) (lt : c < run.columns) (id : TxnId) where
  conflict_named : (r : ℕ) (entry : PastEntry) (conflict : Conflict) (round : ℕ) → (last_moment run c).past.entries r id ≡ Some entry →
      entry.vote ≡ Some (VoteAbort conflict, round) → IsConflictOf run id conflict
  conflict_named r entry conflict round there vote =
      let m = last_moment run c in
      let k = last_is_moment laws.moments run c in
      let h = laws.facts run legal c lt m k in
      let f = h.entries r id entry there in
      let v = refusals (taught_in run) (laws.teaching run) m (laws.reach run legal c lt m k) r id entry conflict round f.attempt.epoch there vote (f.attempt, f.found, refl) in
      let act = act_at round r f.attempt.epoch v.0 (Refused conflict.reason conflict.stamp) in
      let o = refusals_have_owners laws run shape legal c lt id f.attempt entry.txn f.found f.stamped act v.3 (checks_shape entry.txn v.0 v.1) conflict.reason conflict.stamp refl in
      let own : IsOf run entry.txn = record { column = c; in_run = lt; id = id; attempt = f.attempt; found = f.found; stamped = f.stamped } in
      record {
        txn = entry.txn;
        in_run = stands_in_run laws run legal entry.txn own;
        same_attempt = (h.attempts id f.attempt f.found).txn_id entry.txn f.stamped;
        refusal = record {
          round = o.round;
          in_run = o.in_run;
          replica = o.replica;
          entry = o.entry;
          in_journal = subst (λ (key : ℕ). Among o.entry (journal_of o.round o.replica key)) v.2 o.in_journal;
          check = o.check;
          refused = o.refused;
          other = o.other;
          other_in_run = o.other_in_run;
          other_stamp = o.other_stamp;
          is_other = o.is_other;
          touches_key = ap (λ (key : ℕ). touches conflict.reason key o.other) (sym v.2) ∙ o.touches_key;
        };
      }

  takeover_named : (view : ℕ) (t : TakeoverOf) → takeover_of (last_moment run c).column id view ≡ Some t → t.state.proposed ≡ Some (Abort (ByTakeover view)) → IsTakeoverOf run id view
  takeover_named view t found proposed =
      let m = last_moment run c in
      let ends = laws.ends run c lt run.rounds in
      let f = find_tells (is_takeover id view) m.column.takeovers t found in
      let both = and_parts (same_id t.id id) (t.state.view == view) f.1 in
      record {
        column = column_of (last_state run) c;
        in_run = (laws.columns run run.rounds).there c lt;
        takeover = t;
        in_column = subst (Among t) (sym ends.takeovers) f.0;
        same_attempt = same_id-tells t.id id both.0;
        same_view = eqb-true t.state.view view both.1;
        proposed = proposed;
      }

  named : (outcome : Outcome) → IsCausedBy (last_moment run c) id outcome → IsNamed run id outcome
  named Commit h = tt
  named (Abort (ByConflict conflict)) (r, entry, round, there, vote) = conflict_named r entry conflict round there vote
  named (Abort (ByTakeover view)) (t, found, proposed) = takeover_named view t found proposed
  named (Abort (ByEpoch epoch)) h = absurd h

pub causes_are_named : Lower → RefusalOfAbort → CausesAreNamed
causes_are_named laws refusals run shape legal c lt id outcome h = named laws refusals run shape legal c lt id outcome h
