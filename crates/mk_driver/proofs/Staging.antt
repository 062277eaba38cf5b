-- The stage of an attempt under way, by what the driver asks of its column.
use Rattle.std.proofs.Common.{◌≡◌, ◌≢◌, Option, Some, None, true, refl, ap, ◌∙◌}
use Rattle.std.specs.Prelude.{is_some, option_map}
use Rattle.mk_txn.specs.declared.TxnId.{TxnId}
use Rattle.mk_txn.specs.declared.Outcome.{Outcome}
use Rattle.mk_words.specs.declared.Ruling.{Ruling}
use Rattle.mk_words.specs.Rulings.{CoordState, ruling}
use Rattle.mk_script.specs.declared.lines.Point.{Point}
use Rattle.mk_script.specs.declared.lines.Point.TheVariants.{Read as AfterRead, Votes as AfterVotes, Accepts as AfterAccepts}
use Rattle.mk_model.specs.ColumnState.{Setting, ColumnState, AttemptState}
use Rattle.mk_driver.specs.declared.DriverState.{DriverState}
use Rattle.mk_driver.specs.declared.Caller.{Caller}
use Rattle.mk_driver.specs.Delivery.{learned_by}
use Rattle.mk_driver.specs.Stages.{stage_after, stage_three, stage_four, validated, ruled_by, closed_by, left}
use Rattle.mk_driver.specs.Stages.Turn.{Silent}

pub stage_none : (round : Setting) (column : ColumnState) (caller : Caller) (id : TxnId) (point : Point) (attempt : Option AttemptState) (driver : DriverState) →
    attempt ≡ None → stage_after round column caller id point attempt driver ≡ Silent (left caller driver)
stage_none round column caller id AfterRead None driver e = refl
stage_none round column caller id AfterVotes None driver e = refl
stage_none round column caller id AfterAccepts None driver e = refl
stage_none round column caller id point (Some attempt) driver e = absurd (cc e)

pub stage_two : (round : Setting) (column : ColumnState) (caller : Caller) (id : TxnId) (attempt : Option AttemptState) (driver : DriverState) →
    attempt ≢ None → stage_after round column caller id AfterRead attempt driver ≡ validated column caller id driver
stage_two round column caller id None driver e = absurd (e refl)
stage_two round column caller id (Some attempt) driver e = refl

three_learned : (round : Setting) (column : ColumnState) (caller : Caller) (id : TxnId) (coord : CoordState) (o : Option Outcome) (driver : DriverState) →
    is_some o ≡ true → stage_three round column caller id coord o driver ≡ Silent (left caller driver)
three_learned round column caller id coord (Some outcome) driver e = refl
three_learned round column caller id coord None driver e = absurd (cc e)

four_learned : (round : Setting) (column : ColumnState) (caller : Caller) (id : TxnId) (coord : CoordState) (o : Option Outcome) (driver : DriverState) →
    is_some o ≡ true → stage_four round column caller id coord o driver ≡ Silent (left caller driver)
four_learned round column caller id coord (Some outcome) driver e = refl
four_learned round column caller id coord None driver e = absurd (cc e)

-- an attempt that learned meanwhile is done
pub stage_learned : (round : Setting) (column : ColumnState) (caller : Caller) (id : TxnId) (point : Point) (attempt : Option AttemptState) (driver : DriverState) →
    point ≢ AfterRead → is_some (learned_by attempt) ≡ true → stage_after round column caller id point attempt driver ≡ Silent (left caller driver)
stage_learned round column caller id AfterRead attempt driver n e = absurd (n refl)
stage_learned round column caller id AfterVotes (Some attempt) driver n e = three_learned round column caller id attempt.coord attempt.coord.learned driver e
stage_learned round column caller id AfterVotes None driver n e = refl
stage_learned round column caller id AfterAccepts (Some attempt) driver n e = four_learned round column caller id attempt.coord attempt.coord.learned driver e
stage_learned round column caller id AfterAccepts None driver n e = refl

three_ruled : (round : Setting) (column : ColumnState) (caller : Caller) (id : TxnId) (coord : CoordState) (o : Option Outcome) (driver : DriverState) →
    o ≡ None → stage_three round column caller id coord o driver ≡ ruled_by column caller id (ruling round.faults coord) driver
three_ruled round column caller id coord None driver e = refl
three_ruled round column caller id coord (Some outcome) driver e = absurd (cc e)

four_ruled : (round : Setting) (column : ColumnState) (caller : Caller) (id : TxnId) (coord : CoordState) (o : Option Outcome) (driver : DriverState) →
    o ≡ None → stage_four round column caller id coord o driver ≡ closed_by column caller id (ruling round.faults coord) driver
four_ruled round column caller id coord None driver e = refl
four_ruled round column caller id coord (Some outcome) driver e = absurd (cc e)

-- and one that has not is ruled
pub stage_ruled : (round : Setting) (column : ColumnState) (caller : Caller) (id : TxnId) (attempt : Option AttemptState) (r : Ruling) (driver : DriverState) →
    learned_by attempt ≡ None → option_map (λ (a : AttemptState). ruling round.faults a.coord) attempt ≡ Some r →
    stage_after round column caller id AfterVotes attempt driver ≡ ruled_by column caller id r driver
stage_ruled round column caller id None r driver e k = absurd (cc k)
stage_ruled round column caller id (Some attempt) r driver e k =
    let same : ruling round.faults attempt.coord ≡ r = cc k in
    three_ruled round column caller id attempt.coord attempt.coord.learned driver e ∙ ap (λ x. ruled_by column caller id x driver) same

pub stage_closed : (round : Setting) (column : ColumnState) (caller : Caller) (id : TxnId) (attempt : Option AttemptState) (r : Ruling) (driver : DriverState) →
    learned_by attempt ≡ None → option_map (λ (a : AttemptState). ruling round.faults a.coord) attempt ≡ Some r →
    stage_after round column caller id AfterAccepts attempt driver ≡ closed_by column caller id r driver
stage_closed round column caller id None r driver e k = absurd (cc k)
stage_closed round column caller id (Some attempt) r driver e k =
    let same : ruling round.faults attempt.coord ≡ r = cc k in
    four_ruled round column caller id attempt.coord attempt.coord.learned driver e ∙ ap (λ x. closed_by column caller id x driver) same
