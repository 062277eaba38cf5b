use Rattle.std.proofs.Common.{◌≡◌, List, [], ◌∷◌, ◌++◌, arith, ap, ◌∙◌, sym, subst}
use Rattle.atomic_table.specs.Table.{opening}
use Rattle.mk_words.specs.Cells.{CellView}
use Rattle.mk_lock.specs.declared.view.Origin.{Origin}
use Rattle.mk_lock.specs.Entries.{JournalState}
use Rattle.mk_lock.specs.Turns.{IsKept, begins, kept}
use Rattle.mk_lock.proofs.StepLaws.{opens}
use Rattle.mk_lock.proofs.SeatLaws.{fresh_are_seats}
use Rattle.mk_lock.proofs.lock.KeyLock.new.Goals as goal

pub new-requires-2 : goal.new-requires-2
new-requires-2 c =
    let key : Origin = record { seats = c.args.seats; opening = c.of.result } in
    let items : c.push_reserved.new.self.items ≡ c.new.result ∷ [] = c.push_reserved.ensures.items ∙ (λ i. (c.reserve.ensures.items ∙ c.new-slots.ensures.items) i ++ c.new.result ∷ []) in
    let is : c.new.result ≡ kept key [] = c.new.ensures ∙ ap (λ (v : CellView). record { opening = v.state; entries = [] }) (sym c.of.ensures) in
    let few = c.ranges.seats.fits in
    subst (λ (l : List JournalState). IsKept key (opening (0 ∷ 0 ∷ 0 ∷ []) l (begins key))) (sym items) (opens key c.new.result is (omega arith))

pub returns-clause-seats : goal.returns-clause-seats
returns-clause-seats c = fresh_are_seats _ _ _ c.in_ok-dealt.ensures.count c.in_ok-dealt.ensures.fresh
