use Rattle.std.proofs.Common.{◌≡◌, true, ◌+◌, false, ◌≤◌, ◌^◌, None, Some, sym, ap, subst, ◌∙◌, refl}
use Rattle.std.specs.Prelude.{option_copied, nat_lt, length, IsSome}
use Rattle.mk_txn.specs.declared.Stamp.{Stamp as StampType}
use Rattle.mk_txn.specs.Stamps.{next_stamp_of}
use Rattle.mk_txn.specs.Transactions.{Transaction, are_distinct, is_above_reads, write_keys}
use Rattle.mk_column.specs.contracts.column.Column.{the_view}
use Rattle.mk_column.specs.declared.clients.Client.{Client}
use Rattle.mk_column.specs.declared.Attempt.{Attempt}
use Rattle.mk_words.specs.declared.Step.TheVariants.{Stamp as StampStep}
use Rattle.mk_model.specs.Conditions.{blocked}
use Rattle.mk_model.specs.Steps.{with_txn}
use Rattle.mk_column.specs.ClientsByCode.{kept_client, client_stamped}
use Rattle.mk_column.specs.AttemptsByCode.{begun_of, change_begun, on_state}
use Rattle.mk_column.specs.ColumnByCode.{kept_of}
use Rattle.mk_model.proofs.Frames.{enabled}
use Rattle.mk_column.proofs.ReadingLaws.{next-above, fit-few, fit-distinct}
use Rattle.mk_column.proofs.StepLaws.{step-view}
use Rattle.mk_column.proofs.BeginLaws.{some-of-copied}
use Rattle.mk_column.proofs.ColumnLaws.{client-number}
use Rattle.mk_column.proofs.StampedLaws.{IsStamped, IsKept-stamped, item-acts, stamp-items, stamp-state, stamp-begun, stamp-reads, stamp-client, stamp-last, stamp-there, stamp-in_time, stamped-one}
use Rattle.mk_column.proofs.column.Column.stamp.Goals as goal

pub unwrap-begun-requires : goal.unwrap-begun-requires
unwrap-begun-requires c =
    let kept = kept_of c.self.inside.parts in
    let passed =
    enabled (the_view c.self.inside).setting (the_view c.self.inside).state (StampStep c.args.id c.args.clock c.args.writes.now)
    (subst (λ column. blocked column.setting column.state (StampStep c.args.id c.args.clock c.args.writes.now) ≡ None) (sym c.self.view_is) c.requires) in
    some-of-copied c.find.result (subst IsSome (sym c.find.ensures) (stamp-begun kept c.args.id passed.1.0))

pub unwrap-requires : goal.unwrap-requires
unwrap-requires c =
    let kept = kept_of c.self.inside.parts in
    let found : begun_of c.args.id c.self.inside.parts.attempts ≡ Some c.unwrap-begun.result.now =
    sym c.find.ensures ∙ ap option_copied c.unwrap-begun.ensures in
    some-of-copied c.find-2.result
    (subst IsSome (sym c.find-2.ensures) (stamp-client c.self.inside.size kept c.self.inside.settled c.args.id c.unwrap-begun.result.now c.self.invariant found))

pub next_stamp-requires : goal.next_stamp-requires
next_stamp-requires c =
    let kept = kept_of c.self.inside.parts in
    let client_found : kept_client c.args.id.client c.self.inside.parts.clients ≡ Some c.unwrap.result.now =
    sym c.find-2.ensures ∙ ap option_copied c.unwrap.ensures in
    stamp-last c.self.inside.size kept c.self.inside.settled c.args.id c.unwrap.result.now c.self.invariant client_found

pub unwrap-stamp-requires : goal.unwrap-stamp-requires
unwrap-stamp-requires c =
    let kept = kept_of c.self.inside.parts in
    let passed =
    enabled (the_view c.self.inside).setting (the_view c.self.inside).state (StampStep c.args.id c.args.clock c.args.writes.now)
    (subst (λ column. blocked column.setting column.state (StampStep c.args.id c.args.clock c.args.writes.now) ≡ None) (sym c.self.view_is) c.requires) in
    let found : begun_of c.args.id c.self.inside.parts.attempts ≡ Some c.unwrap-begun.result.now =
    sym c.find.ensures ∙ ap option_copied c.unwrap-begun.ensures in
    let client_found : kept_client c.args.id.client c.self.inside.parts.clients ≡ Some c.unwrap.result.now =
    sym c.find-2.ensures ∙ ap option_copied c.unwrap.ensures in
    subst IsSome (sym c.next_stamp.ensures)
    (stamp-there kept c.args.id c.unwrap-begun.result.now c.unwrap.result.now c.args.clock found client_found passed.1.1.1.0)

pub txn_of-requires-clause-above : goal.txn_of-requires-clause-above
txn_of-requires-clause-above c =
    ap (λ (a : Attempt). is_above_reads c.unwrap-stamp.result a.reads) c.shown.ensures
    ∙ next-above c.unwrap.result.now.number c.unwrap.result.now.last_time c.args.clock c.unwrap-begun.result.now.state.reads c.unwrap-stamp.result (sym c.next_stamp.ensures ∙ c.unwrap-stamp.ensures)

pub txn_of-requires-clause-few : goal.txn_of-requires-clause-few
txn_of-requires-clause-few c =
    let passed =
    enabled (the_view c.self.inside).setting (the_view c.self.inside).state (StampStep c.args.id c.args.clock c.args.writes.now)
    (subst (λ column. blocked column.setting column.state (StampStep c.args.id c.args.clock c.args.writes.now) ≡ None) (sym c.self.view_is) c.requires) in
    subst (λ writes. length writes ≤ 16) (sym c.as_slice.ensures) (fit-few c.self.inside.keys c.args.writes.now passed.1.1.0)

pub txn_of-requires-clause-distinct : goal.txn_of-requires-clause-distinct
txn_of-requires-clause-distinct c =
    let passed =
    enabled (the_view c.self.inside).setting (the_view c.self.inside).state (StampStep c.args.id c.args.clock c.args.writes.now)
    (subst (λ column. blocked column.setting column.state (StampStep c.args.id c.args.clock c.args.writes.now) ≡ None) (sym c.self.view_is) c.requires) in
    ap (λ writes. are_distinct (write_keys writes)) c.as_slice.ensures ∙ fit-distinct c.self.inside.keys c.args.writes.now passed.1.1.0

pub put-requires : goal.put-requires
put-requires c =
    let kept = kept_of c.self.inside.parts in
    let client_found : kept_client c.args.id.client c.self.inside.parts.clients ≡ Some c.unwrap.result.now =
    sym c.find-2.ensures ∙ ap option_copied c.unwrap.ensures in
    let number : c.after_stamp.result.number ≡ c.args.id.client =
    ap (λ (client : Client). client.number) c.after_stamp.ensures
    ∙ client-number c.args.id.client c.self.inside.parts.clients c.unwrap.result.now client_found in
    subst IsSome (sym (ap (λ n. kept_client n c.self.inside.parts.clients) number ∙ client_found)) refl

pub invariant_of-self : goal.invariant_of-self
invariant_of-self c =
    let kept = kept_of c.self.inside.parts in
    let passed =
    enabled (the_view c.self.inside).setting (the_view c.self.inside).state (StampStep c.args.id c.args.clock c.args.writes.now)
    (subst (λ column. blocked column.setting column.state (StampStep c.args.id c.args.clock c.args.writes.now) ≡ None) (sym c.self.view_is) c.requires) in
    let found : begun_of c.args.id c.self.inside.parts.attempts ≡ Some c.unwrap-begun.result.now =
    sym c.find.ensures ∙ ap option_copied c.unwrap-begun.ensures in
    let client_found : kept_client c.args.id.client c.self.inside.parts.clients ≡ Some c.unwrap.result.now =
    sym c.find-2.ensures ∙ ap option_copied c.unwrap.ensures in
    let stamp : next_stamp_of c.unwrap.result.now.number c.unwrap.result.now.last_time c.args.clock c.unwrap-begun.result.now.state.reads ≡ Some c.unwrap-stamp.result =
    sym c.next_stamp.ensures ∙ c.unwrap-stamp.ensures in
    let txn = c.in_ok-txn.txn in
    let is : txn ≡ record { id = c.args.id; stamp = c.unwrap-stamp.result; reads = c.shown.result.now.reads; writes = c.as_slice.result.now } =
    c.in_ok-txn.ensures in
    let of_stamp : txn.stamp ≡ c.unwrap-stamp.result = ap (λ (t : Transaction). t.stamp) is in
    let one =
    stamped-one kept c.args.id c.unwrap-begun.result.now c.unwrap-stamp.result c.shown.result.now.reads c.args.writes.now c.as_slice.result.now txn found is
    (ap (λ (a : Attempt). a.reads) c.shown.ensures) c.as_slice.ensures in
    let s : IsStamped kept c.args.id c.unwrap-begun.result.now c.unwrap.result.now c.after_stamp.result txn = record {
      idle = passed.0;
      found = found;
      reads = stamp-reads kept c.args.id c.unwrap-begun.result.now found passed.1.0;
      client_found = client_found;
      turned = c.after_stamp.ensures ∙ ap (λ (t : StampType). client_stamped t.time c.unwrap.result.now) (sym of_stamp);
      in_time =
          subst (λ (t : StampType). t.time ≤ 2 ^ 62) (sym of_stamp)
          (stamp-in_time c.unwrap.result.now.number c.unwrap.result.now.last_time c.args.clock c.unwrap-begun.result.now.state.reads c.unwrap-stamp.result stamp);
      named = ap (λ (t : Transaction). t.id) is;
      acts =
          item-acts txn
          (subst (λ (t : Transaction). nat_lt 0 (length t.reads + length t.writes) ≡ true) one (stamp-items kept c.args.id c.unwrap-begun.result.now c.args.writes.now found passed.1.1.1.1.0));
    } in
    IsKept-stamped c.self.inside.size kept c.self.inside.settled c.args.id c.unwrap-begun.result.now c.unwrap.result.now c.after_stamp.result txn c.put.new.self c.stamp.new.self c.self.invariant s c.stamp.ensures.changed c.put.ensures

pub returns-clause-ok : goal.returns-clause-ok
returns-clause-ok c =
    let kept = kept_of c.self.inside.parts in
    let passed =
    enabled (the_view c.self.inside).setting (the_view c.self.inside).state (StampStep c.args.id c.args.clock c.args.writes.now)
    (subst (λ column. blocked column.setting column.state (StampStep c.args.id c.args.clock c.args.writes.now) ≡ None) (sym c.self.view_is) c.requires) in
    let found : begun_of c.args.id c.self.inside.parts.attempts ≡ Some c.unwrap-begun.result.now =
    sym c.find.ensures ∙ ap option_copied c.unwrap-begun.ensures in
    let client_found : kept_client c.args.id.client c.self.inside.parts.clients ≡ Some c.unwrap.result.now =
    sym c.find-2.ensures ∙ ap option_copied c.unwrap.ensures in
    let stamp : next_stamp_of c.unwrap.result.now.number c.unwrap.result.now.last_time c.args.clock c.unwrap-begun.result.now.state.reads ≡ Some c.unwrap-stamp.result =
    sym c.next_stamp.ensures ∙ c.unwrap-stamp.ensures in
    let txn = c.in_ok-txn.txn in
    let is : txn ≡ record { id = c.args.id; stamp = c.unwrap-stamp.result; reads = c.shown.result.now.reads; writes = c.as_slice.result.now } =
    c.in_ok-txn.ensures in
    let of_stamp : txn.stamp ≡ c.unwrap-stamp.result = ap (λ (t : Transaction). t.stamp) is in
    let one =
    stamped-one kept c.args.id c.unwrap-begun.result.now c.unwrap-stamp.result c.shown.result.now.reads c.args.writes.now c.as_slice.result.now txn found is
    (ap (λ (a : Attempt). a.reads) c.shown.ensures) c.as_slice.ensures in
    let s : IsStamped kept c.args.id c.unwrap-begun.result.now c.unwrap.result.now c.after_stamp.result txn = record {
      idle = passed.0;
      found = found;
      reads = stamp-reads kept c.args.id c.unwrap-begun.result.now found passed.1.0;
      client_found = client_found;
      turned = c.after_stamp.ensures ∙ ap (λ (t : StampType). client_stamped t.time c.unwrap.result.now) (sym of_stamp);
      in_time =
          subst (λ (t : StampType). t.time ≤ 2 ^ 62) (sym of_stamp)
          (stamp-in_time c.unwrap.result.now.number c.unwrap.result.now.last_time c.args.clock c.unwrap-begun.result.now.state.reads c.unwrap-stamp.result stamp);
      named = ap (λ (t : Transaction). t.id) is;
      acts =
          item-acts txn
          (subst (λ (t : Transaction). nat_lt 0 (length t.reads + length t.writes) ≡ true) one (stamp-items kept c.args.id c.unwrap-begun.result.now c.args.writes.now found passed.1.1.1.1.0));
    } in
    let changed : c.stamp.new.self ≡ change_begun c.args.id (on_state (with_txn txn.stamp c.args.writes.now)) c.self.inside.parts.attempts =
    c.stamp.ensures.as_found (on_state (with_txn txn.stamp c.args.writes.now)) c.unwrap-begun.result.now found
    (ap (λ t. on_state (λ a. record a { reading = false; txn = Some t }) c.unwrap-begun.result.now) one) in
    step-view (the_view c.self.inside) c.args.self.now (StampStep c.args.id c.args.clock c.args.writes.now) _
    (stamp-state (the_view c.self.inside).setting kept c.args.id c.args.clock c.args.writes.now c.unwrap-begun.result.now c.unwrap.result.now c.after_stamp.result txn c.put.new.self c.stamp.new.self s (stamp ∙ ap Some (sym of_stamp)) changed c.put.ensures) c.self.view_is
