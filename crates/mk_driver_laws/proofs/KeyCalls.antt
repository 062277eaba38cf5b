-- The key call that is named is the wanted one, so its step is enabled; and where nothing is named, none is under way.
use Rattle.std.proofs.Common.{◌≡◌, ◌∙◌, ℕ, Bool, true, false, refl, sym, ap, arith, List, Option, Some, None, ◌&&◌}
use Rattle.std.proofs.lemmas.Bool.{and_from}
use Rattle.std.proofs.lemmas.Bool.Decides.{nat_tests}
use Rattle.mk_txn.specs.declared.Stamp.{Stamp}
use Rattle.mk_txn.specs.declared.Value.{Value}
use Rattle.mk_txn.specs.declared.Value.TheVariants.{Number, Absent}
use Rattle.mk_txn.specs.Stamps.{same_stamp}
use Rattle.mk_txn.specs.Transactions.{same_value}
use Rattle.mk_quorum.specs.Slots.{passes}
use Rattle.mk_words.specs.declared.Act.{Act}
use Rattle.mk_words.specs.declared.Act.TheVariants.{Get, CheckRead, CheckWrite, CommitRead, CommitWrite, ReleaseRead, ReleaseWrite}
use Rattle.mk_words.specs.Acts.{same_act}
use Rattle.mk_words.specs.declared.KeyCall.{KeyCall}
use Rattle.mk_words.specs.declared.Msg.{Msg}
use Rattle.mk_words.specs.declared.Step.TheVariants.{Key}
use Rattle.mk_faults.specs.Fates.{rules_of}
use Rattle.mk_model.specs.ColumnState.{Work}
use Rattle.mk_model.specs.ColumnState.Work.{Idle, Fetching, Validating, Finishing}
use Rattle.mk_model.specs.Conditions.{conditions, is_idle, same_call, wanted}
use Rattle.mk_driver.specs.declared.Next.{Next}
use Rattle.mk_driver.specs.declared.Next.TheVariants.{Step as StepNext, Key as KeyNext, Over}
use Rattle.mk_driver.specs.Driven.{setting_in, standing_at}
use Rattle.mk_driver_laws.specs.Enabled.{NamedKeyIsEnabled, RoundEndsIdle}
use Rattle.mk_driver_laws.proofs.Conditions.{none_fails}
use Rattle.mk_driver_laws.proofs.ColumnMoves.{WorkFits}
use Rattle.mk_driver_laws.proofs.Frames.{idle_by}
use Rattle.mk_driver_laws.proofs.NamedCalls.{named_wanted, over_unwanted}
use Rattle.mk_driver_laws.proofs.Standing.{come_fits}

stamp-itself : (s : Stamp) → same_stamp s s ≡ true
stamp-itself s = grind (arith, nat_tests)

value-itself : (v : Value) → same_value v v ≡ true
value-itself (Number n) = grind (arith, nat_tests)
value-itself Absent = refl

act-itself : (act : Act) → same_act act act ≡ true
act-itself Get = refl
act-itself (CheckRead ts version) = and_from (same_stamp ts ts) (same_stamp version version) (stamp-itself ts) (stamp-itself version)
act-itself (CheckWrite ts) = stamp-itself ts
act-itself (CommitRead ts) = stamp-itself ts
act-itself (CommitWrite ts value) = and_from (same_stamp ts ts) (same_value value value) (stamp-itself ts) (value-itself value)
act-itself (ReleaseRead ts) = stamp-itself ts
act-itself (ReleaseWrite ts) = stamp-itself ts

call-itself : (call : KeyCall) → same_call call call ≡ true
call-itself call = let same = act-itself call.act in grind (arith, nat_tests, same)

pub named_key : NamedKeyIsEnabled
named_key script c rounds views log call answer e fits =
    let standing = standing_at script c rounds views log in
    let round = setting_in script views in
    let there : wanted standing.column.work ≡ Some call = named_wanted (rules_of script) round standing.column standing.driver call e in
    none_fails 1 (conditions round standing.column (Key call answer)) (ap (passes (same_call call)) there ∙ call-itself call, (fits, tt))

idle_is : (work : Work) → is_idle work ≡ true → work ≡ Idle
idle_is Idle e = refl
idle_is (Fetching id replica key) e = absurd (cc e)
idle_is (Validating txn replica epoch state) e = absurd (cc e)
idle_is (Finishing replica left) e = absurd (cc e)

pub ends_idle : RoundEndsIdle
ends_idle script whole c rounds views log come over =
    let standing = standing_at script c rounds views log in
    let round = setting_in script views in
    let column = (come_fits script whole c rounds views log come).column in
    let work = standing.column.work in
    idle_is work (idle_by standing.column.link work column.work (over_unwanted (rules_of script) round standing.column standing.driver over))
