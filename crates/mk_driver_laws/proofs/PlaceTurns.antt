-- In its turn a client begins an attempt only where it has a place left, and the places that are left still do.
use Rattle.std.proofs.Common.{◌≡◌, ◌≤◌, ℕ, refl, arith, Option, Some, None}
use Rattle.std.specs.Prelude.{slice_get}
use Rattle.mk_txn.specs.declared.TxnId.{TxnId}
use Rattle.mk_txn.specs.declared.Outcome.{Outcome}
use Rattle.mk_words.specs.declared.Ruling.{Ruling}
use Rattle.mk_words.specs.declared.Ruling.TheVariants.{Fast, Propose, Learned, Short, Unaccepted}
use Rattle.mk_words.specs.Rulings.{CoordState, ruling}
use Rattle.mk_script.specs.declared.lines.Point.{Point}
use Rattle.mk_script.specs.declared.lines.Point.TheVariants.{Read as AfterRead, Votes as AfterVotes, Accepts as AfterAccepts}
use Rattle.mk_words.specs.declared.Step.TheVariants.{Begin, Unread, Validate, Rule}
use Rattle.mk_model.specs.ColumnState.{Setting, ColumnState, AttemptState, ClientState, attempt_of, client_of}
use Rattle.mk_model.specs.Steps.{column_after}
use Rattle.mk_driver.specs.declared.DriverState.{DriverState}
use Rattle.mk_driver.specs.declared.Caller.{Caller}
use Rattle.mk_driver.specs.declared.Request.{Request}
use Rattle.mk_driver.specs.declared.Stage.{Stage}
use Rattle.mk_driver.specs.Agenda.{is_caller}
use Rattle.mk_driver.specs.Stages.{Turn, turn_of, turn_by, begin_next, begin_of, begin_by, reader_for, next_request, without_request, begun, resting, left, ruled_by, closed_by, stage_three, stage_four, stage_after}
use Rattle.mk_driver.specs.Stages.Turn.{Nothing, Silent, Steps}
use Rattle.mk_driver_laws.proofs.Sure.{HasPlace}
use Rattle.mk_driver_laws.proofs.ClientTurns.{kept_by}
use Rattle.mk_driver_laws.proofs.Remaining.{remaining, begun_remains, unread_remains}
use Rattle.mk_driver_laws.proofs.NextPlaces.{begin_nexts, unread_nexts}
use Rattle.mk_driver_laws.proofs.Places.{Placed, placed_less, placed_after, placed_taken, takes_one, seq_left}

module _ (limit : ℕ) (few : limit ≤ 16385) (round : Setting) (c : ColumnState) where
  abbrev pub DriverPlaced : DriverState → Type 0
  DriverPlaced d = Placed limit c.clients d.callers

  abbrev pub TurnPlaced : Turn → Type 0
  TurnPlaced Nothing = Unit {0}
  TurnPlaced (Silent d) = DriverPlaced d
  TurnPlaced (Steps step after d) = HasPlace c step × Placed limit (column_after round c step).clients d.callers

  left_placed : (caller : Caller) (d : DriverState) → DriverPlaced d → DriverPlaced (left caller d)
  left_placed caller d h = placed_less limit c.clients (is_caller caller.number) resting (λ x. refl) (λ x. omega arith) d.callers h

  rule_placed : (caller : Caller) (id : TxnId) (d : DriverState) → DriverPlaced d → Placed limit (column_after round c (Rule id)).clients (left caller d).callers
  rule_placed caller id d h = placed_after limit round c (Rule id) refl (left caller d).callers (left_placed caller d h)

  ruled_placed : (caller : Caller) (id : TxnId) (r : Ruling) (d : DriverState) → DriverPlaced d → TurnPlaced (ruled_by c caller id r d)
  ruled_placed caller id (Fast outcome) d h = (tt, rule_placed caller id d h)
  ruled_placed caller id (Propose outcome) d h = (tt, rule_placed caller id d h)
  ruled_placed caller id (Learned outcome) d h = left_placed caller d h
  ruled_placed caller id (Short k) d h = left_placed caller d h
  ruled_placed caller id (Unaccepted k) d h = left_placed caller d h

  closed_placed : (caller : Caller) (id : TxnId) (r : Ruling) (d : DriverState) → DriverPlaced d → TurnPlaced (closed_by c caller id r d)
  closed_placed caller id (Learned outcome) d h = (tt, rule_placed caller id d h)
  closed_placed caller id (Fast outcome) d h = left_placed caller d h
  closed_placed caller id (Propose outcome) d h = left_placed caller d h
  closed_placed caller id (Short k) d h = left_placed caller d h
  closed_placed caller id (Unaccepted k) d h = left_placed caller d h

  three_placed : (caller : Caller) (id : TxnId) (coord : CoordState) (o : Option Outcome) (d : DriverState) → DriverPlaced d → TurnPlaced (stage_three round c caller id coord o d)
  three_placed caller id coord (Some outcome) d h = left_placed caller d h
  three_placed caller id coord None d h = ruled_placed caller id (ruling round.faults coord) d h

  four_placed : (caller : Caller) (id : TxnId) (coord : CoordState) (o : Option Outcome) (d : DriverState) → DriverPlaced d → TurnPlaced (stage_four round c caller id coord o d)
  four_placed caller id coord (Some outcome) d h = left_placed caller d h
  four_placed caller id coord None d h = closed_placed caller id (ruling round.faults coord) d h

  stage_placed : (caller : Caller) (id : TxnId) (point : Point) (o : Option AttemptState) (d : DriverState) → DriverPlaced d → TurnPlaced (stage_after round c caller id point o d)
  stage_placed caller id AfterRead (Some a) d h = (tt, placed_after limit round c (Validate id) refl (left caller d).callers (left_placed caller d h))
  stage_placed caller id AfterVotes (Some a) d h = three_placed caller id a.coord a.coord.learned d h
  stage_placed caller id AfterAccepts (Some a) d h = four_placed caller id a.coord a.coord.learned d h
  stage_placed caller id AfterRead None d h = left_placed caller d h
  stage_placed caller id AfterVotes None d h = left_placed caller d h
  stage_placed caller id AfterAccepts None d h = left_placed caller d h

  -- ---- beginning

  module _ (place : ℕ) (caller : Caller) (request : Request) (d : DriverState) (e : slice_get d.callers place ≡ Some caller) (q : next_request caller ≡ Some request) where
    some : 1 ≤ remaining caller
    some = let less = unread_remains caller request q in omega (arith, less)

    begin_placed : (client : ClientState) (reader : Option ℕ) → client_of c caller.number ≡ Some client → DriverPlaced d → TurnPlaced (begin_by client caller reader d)
    begin_placed client (Some replica) k h = (
      seq_left limit c d.callers place caller client few h e k some,
      placed_taken limit caller.number c.clients (column_after round c (Begin caller.number replica)).clients (begun client.next_seq)
          (λ P Q here other n. begin_nexts P Q round c caller.number replica here other n) (λ x. (kept_by x.retries x).0) d.callers
          (takes_one (begun client.next_seq) d.callers place caller h.rising e (begun_remains client.next_seq caller request q)) h,
    )
    begin_placed client None k h = (
      seq_left limit c d.callers place caller client few h e k some,
      placed_taken limit caller.number c.clients (column_after round c (Unread caller.number)).clients without_request
          (λ P Q here other n. unread_nexts P Q round c caller.number here other n) (λ x. (kept_by x.retries x).0) d.callers
          (takes_one without_request d.callers place caller h.rising e (unread_remains caller request q)) h,
    )

    begin_of_placed : (client : Option ClientState) → client_of c caller.number ≡ client → DriverPlaced d → TurnPlaced (begin_of round client caller d)
    begin_of_placed (Some client) k h = begin_placed client (reader_for round caller.home client.heard) k h
    begin_of_placed None k h = tt

  next_placed : (place : ℕ) (caller : Caller) (request : Option Request) (d : DriverState) → slice_get d.callers place ≡ Some caller → next_request caller ≡ request → DriverPlaced d →
      TurnPlaced (begin_next round c caller request d)
  next_placed place caller (Some request) d e q h = begin_of_placed place caller request d e q (client_of c caller.number) refl h
  next_placed place caller None d e q h = tt

  turn_by_placed : (place : ℕ) (caller : Caller) (u : Option Stage) (d : DriverState) → slice_get d.callers place ≡ Some caller → DriverPlaced d → TurnPlaced (turn_by round c caller u d)
  turn_by_placed place caller (Some stage) d e h = stage_placed caller stage.id stage.reached (attempt_of c stage.id) d h
  turn_by_placed place caller None d e h = next_placed place caller (next_request caller) d e refl h

  pub turn_placed : (place : ℕ) (o : Option Caller) (d : DriverState) → slice_get d.callers place ≡ o → DriverPlaced d → TurnPlaced (turn_of round c o d)
  turn_placed place (Some caller) d e h = turn_by_placed place caller caller.under_way d e h
  turn_placed place None d e h = tt
