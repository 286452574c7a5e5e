-- The seat's hand is with the keeper while the entries are noted.
use Rattle.std.proofs.Common.{◌≡◌, ◌==◌, ◌<◌, List, length, sym, ap, ◌∙◌, subst}
use Rattle.std.specs.List.{All}
use prog.Atomic.{either}
use Rattle.jm_shared.specs.declared.entry.Entry.{Entry}
use Rattle.jm_shared.specs.declared.entry.Receipt.{Receipt}
use Rattle.jm_shared.specs.declared.rule.Hand.{Hand}
use Rattle.jm_shared.specs.declared.rule.View.{View}
use Rattle.jm_shared.specs.Seats.{its_hand, of_seat, times}
use Rattle.jm_shared.proofs.SeatLists.{times_alone}
use Rattle.jm_shared.proofs.SeatSteps.{splits, joins, notes, keeper_with_one, found_low, found_own}
use Rattle.jm_shared.proofs.keeper.SeatTies.note.Goals as goal

pub split_seat-mine-requires : goal.split_seat-mine-requires
split_seat-mine-requires g c = (c.seat.invariant.0 ∙ sym c.args.self.now.named.0, c.args.self.now.named.1, splits _ _)

pub join_seat-requires : goal.join_seat-requires
join_seat-requires g c =
    let named = c.args.self.now.named in
    let s = c.split_seat-mine.ensures in (
      c.into_seat-all.ensures.0 ∙ ap (λ b. b.table_id) c.replace.ensures.value ∙ c.keeper.invariant.0 ∙ sym named.0,
      s.3 ∙ c.seat.invariant.0 ∙ sym named.0,
      ap (λ m. m.1) s.4,
      named.1,
      joins _ _ _ _,
    )

pub compare_exchange_with-requires : goal.compare_exchange_with-requires
compare_exchange_with-requires g c =
    let named = c.args.self.now.named in
    let h = its_hand c.seat.inside.token.me in
    let joined = keeper_with_one _ _ _ _ _ _ _ h (ap (λ b. b.views) c.replace.ensures.value) c.keeper.invariant.1 c.into_seat-all.ensures.2 c.seat.invariant.1.0
    (ap (λ m. m.0) c.split_seat-mine.ensures.4) (ap (λ m. m.0) c.join_seat.ensures.2) in
    let number = ap (λ h. h.number) (sym c.seat.view_is) in (
      c.join_seat.ensures.0 ∙ c.into_seat-all.ensures.0 ∙ ap (λ b. b.table_id) c.replace.ensures.value ∙ c.keeper.invariant.0 ∙ sym named.0,
      named.1,
      notes _ _ _ c.args.seat.now.number c.args.note.now (λ n. either (n == 0) 0 n) _ (ap (λ v. v.keeps) joined)
          (subst (λ (v : View). 0 < times c.args.seat.now.number v.hands) (sym joined) (times_alone c.args.seat.now.number h number))
          c.requires,
    )

pub split_seat-requires : goal.split_seat-requires
split_seat-requires g c = (
  c.compare_exchange_with.ensures.0 ∙ c.join_seat.ensures.0 ∙ c.into_seat-all.ensures.0 ∙ ap (λ b. b.table_id) c.replace.ensures.value
      ∙ c.keeper.invariant.0 ∙ sym c.args.self.now.named.0,
  c.args.self.now.named.1,
  splits _ _,
)

pub returns-clause-above : goal.returns-clause-above
returns-clause-above g c =
    let h = its_hand c.seat.inside.token.me in
    let joined = keeper_with_one _ _ _ _ _ _ _ h (ap (λ b. b.views) c.replace.ensures.value) c.keeper.invariant.1 c.into_seat-all.ensures.2 c.seat.invariant.1.0
    (ap (λ m. m.0) c.split_seat-mine.ensures.4) (ap (λ m. m.0) c.join_seat.ensures.2) in
    let low = found_low _ _ h joined c.compare_exchange_with.ensures.2.2 in
    subst (λ (x : Hand). All (λ (r : Receipt). r.number < length c.args.keeper.now) x.receipts) c.seat.view_is
    (subst (λ (es : List Entry). All (λ (r : Receipt). r.number < length es) h.receipts) c.keeper.view_is low)

pub returns-clause-lists : goal.returns-clause-lists
returns-clause-lists g c =
    let h = its_hand c.seat.inside.token.me in
    let joined = keeper_with_one _ _ _ _ _ _ _ h (ap (λ b. b.views) c.replace.ensures.value) c.keeper.invariant.1 c.into_seat-all.ensures.2 c.seat.invariant.1.0
    (ap (λ m. m.0) c.split_seat-mine.ensures.4) (ap (λ m. m.0) c.join_seat.ensures.2) in
    let own = found_own _ _ h joined c.compare_exchange_with.ensures.2.2 in
    subst (λ (x : Hand). x.receipts ≡ of_seat x.number 0 c.args.keeper.now) c.seat.view_is
    (subst (λ (es : List Entry). h.receipts ≡ of_seat h.number 0 es) c.keeper.view_is own)
