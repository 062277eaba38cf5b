-- An accepted commit that was promised has its Ok votes by then.
use Rattle.std.proofs.Common.{◌≡◌, refl, arith, sym, ap, ◌∙◌, Option, Some, None, length}
use Rattle.std.specs.Prelude.{option_map}
use Rattle.std.proofs.lemmas.Option.{same_Some}
use Rattle.mk_txn.specs.declared.TxnId.{TxnId}
use Rattle.mk_words.specs.declared.Entry.{Entry}
use Rattle.mk_column_laws.specs.Moments.{PastEntry}
use Rattle.mk_column_laws.specs.Moves.{entry_of_past}
use Rattle.mk_column_laws.specs.Laws.{CommitSupport, SupportOf}
use Rattle.mk_column_laws.proofs.Stable.{IsSupported-grows}
use Rattle.mk_run_laws.specs.RunEvents.{moment_of}
use Rattle.mk_run_laws.specs.TaughtIn.{taught_in}
use Rattle.mk_run_laws.specs.Ends.{last_moment}
use Rattle.mk_run_laws.proofs.Emptied.{before_rounds}
use Rattle.mk_run_laws.proofs.Voted.{is_moment}
use Rattle.mk_base_laws.specs.Supports.{PromisedSupport}
use Rattle.mk_base_laws.proofs.Lower.{Lower}
use Rattle.mk_base_laws.proofs.Walking.{at_moment, grows_to_last}
use Rattle.mk_base_laws.proofs.Frozen.{promises_freeze}

remembered_entry : (o : Option PastEntry) (entry : Entry) → option_map entry_of_past o ≡ Some entry → (p : PastEntry) × (o ≡ Some p) × (entry ≡ entry_of_past p)
remembered_entry None entry e = absurd (cc e)
remembered_entry (Some p) entry e = (p, refl, sym (same_Some (entry_of_past p) entry e))

pub promised_support : Lower → CommitSupport → PromisedSupport
promised_support laws support run legal done rest split given a c lt id x found own entry accepted there has commit =
    let m = moment_of run c done in
    let k = is_moment run done rest split c in
    let f = promises_freeze laws run legal done rest split given a c lt id x found own in
    let p = remembered_entry (m.past.entries given.promise.replica id) entry (sym f.handed ∙ there) in
    let s = (at_moment laws run legal c lt (λ taught n. (i : TxnId) → SupportOf n i) support m k id).accepted given.promise.replica p.0 accepted p.1
    (ap (λ (e : Entry). e.accepted) (sym p.2) ∙ has) commit in
    let now = (before_rounds run legal c lt laws.phases laws.held laws.stay laws.entered done rest split).now in
    IsSupported-grows (taught_in run) (laws.teaching run) m (last_moment run c) (grows_to_last laws run legal c lt m k) id m.past.now (length done) (omega (arith, now)) s
