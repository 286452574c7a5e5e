use Rattle.std.proofs.Common.{◌≡◌, List, ◌∙◌, rules, arith, sym, ap, subst, length, map}
use Rattle.std.specs.List.{All}
use Rattle.std.proofs.lemmas.Result.{IfOk-weaker}
use Rattle.jm_forward.specs.declared.rule.Hand.{Hand}
use Rattle.jm_forward.specs.Hands.{Agree, SeatView, all_wins}
use Rattle.jm_par_copy.specs.Copiers.{hands}
use Rattle.jm_par_copy.specs.Ending.{IsCollectedBy, seats_in}
use Rattle.jm_par_copy.specs.Seats.{AreInOrder}
use Rattle.jm_par_copy.specs.declared.ending.Copied.{Copied}
use Rattle.jm_par_copy.proofs.Crew.{fresh_in_order, is_crew, many_fresh, many_in, order_tables}
use Rattle.jm_par_copy.proofs.Meeting.{hands_in}
use Rattle.jm_par_copy.proofs.copying.copy_with.Goals as goal

pub all_stores-requires-clause-few : goal.all_stores-requires-clause-few
all_stores-requires-clause-few g c =
    let count = c.copiers-count.ensures in
    let few = c.requires.copiers in
    omega (arith, count, few)

pub returns-in_err-stores-clause-seats : goal.returns-in_err-stores-clause-seats
returns-in_err-stores-clause-seats g c = subst (λ (ss : List SeatView). AreInOrder c.args.round.now.words.now 0 ss) (sym c.requires.fresh) (fresh_in_order c.args.round.now.words.now 0 c.args.round.now.words.now.copiers)

pub returns-in_err-stores-clause-many : goal.returns-in_err-stores-clause-many
returns-in_err-stores-clause-many g c = ap length c.requires.fresh ∙ many_fresh c.args.round.now.words.now 0 c.args.round.now.words.now.copiers

pub returns-in_err-room-clause-seats : goal.returns-in_err-room-clause-seats
returns-in_err-room-clause-seats g c = subst (λ (ss : List SeatView). AreInOrder c.args.round.now.words.now 0 ss) (sym c.requires.fresh) (fresh_in_order c.args.round.now.words.now 0 c.args.round.now.words.now.copiers)

pub returns-in_err-room-clause-many : goal.returns-in_err-room-clause-many
returns-in_err-room-clause-many g c = ap length c.requires.fresh ∙ many_fresh c.args.round.now.words.now 0 c.args.round.now.words.now.copiers

pub returns-in_err-left-clause-seats : goal.returns-in_err-left-clause-seats
returns-in_err-left-clause-seats g c = subst (λ (ss : List SeatView). AreInOrder c.args.round.now.words.now 0 ss) (sym c.requires.fresh) (fresh_in_order c.args.round.now.words.now 0 c.args.round.now.words.now.copiers)

pub returns-in_err-left-clause-many : goal.returns-in_err-left-clause-many
returns-in_err-left-clause-many g c = ap length c.requires.fresh ∙ many_fresh c.args.round.now.words.now 0 c.args.round.now.words.now.copiers

pub seat_all-copiers-requires-clause-many : goal.seat_all-copiers-requires-clause-many
seat_all-copiers-requires-clause-many g c =
    let taken : c.replace-taken.result.items ≡ c.args.seats.now.items = search rules in
    let seats : length c.replace-taken.result.items ≡ c.args.round.now.words.now.copiers = ap length taken ∙ ap length c.requires.fresh ∙ many_fresh c.args.round.now.words.now 0 c.args.round.now.words.now.copiers in
    c.in_ok-stores.ensures.many ∙ c.copiers-count.ensures ∙ sym seats

pub seat_all-copiers-requires-clause-room : goal.seat_all-copiers-requires-clause-room
seat_all-copiers-requires-clause-room g c =
    let taken : c.replace-taken.result.items ≡ c.args.seats.now.items = search rules in
    let seats : length c.replace-taken.result.items ≡ c.args.round.now.words.now.copiers = ap length taken ∙ ap length c.requires.fresh ∙ many_fresh c.args.round.now.words.now 0 c.args.round.now.words.now.copiers in
    let count = c.copiers-count.ensures in
    let room = c.in_ok-room.ensures.capacity in
    omega (arith, seats, count, room)

pub copy_by-copied-requires-clause-copying : goal.copy_by-copied-requires-clause-copying
copy_by-copied-requires-clause-copying g c κs within =
    let taken : c.replace-taken.result.items ≡ c.args.seats.now.items = search rules in
    let crew = is_crew c.args.round.now.from.stores.now c.args.round.now.from.roots.now c.args.round.now.words.now c.args.tenured.now c.copiers-count.result c.replace-taken.result.items c.in_ok-stores.stores.items c.seat_all-copiers.result.items c.requires.objects c.requires.copiers.1 c.copiers-count.ensures c.in_ok-stores.ensures.own (taken ∙ c.requires.fresh) c.seat_all-copiers.ensures in
    crew.copying

pub copy_by-copied-requires-clause-numbered : goal.copy_by-copied-requires-clause-numbered
copy_by-copied-requires-clause-numbered g c κs within =
    let taken : c.replace-taken.result.items ≡ c.args.seats.now.items = search rules in
    let crew = is_crew c.args.round.now.from.stores.now c.args.round.now.from.roots.now c.args.round.now.words.now c.args.tenured.now c.copiers-count.result c.replace-taken.result.items c.in_ok-stores.stores.items c.seat_all-copiers.result.items c.requires.objects c.requires.copiers.1 c.copiers-count.ensures c.in_ok-stores.ensures.own (taken ∙ c.requires.fresh) c.seat_all-copiers.ensures in
    crew.numbered

pub copy_by-copied-requires-clause-many : goal.copy_by-copied-requires-clause-many
copy_by-copied-requires-clause-many g c κs within =
    let taken : c.replace-taken.result.items ≡ c.args.seats.now.items = search rules in
    let crew = is_crew c.args.round.now.from.stores.now c.args.round.now.from.roots.now c.args.round.now.words.now c.args.tenured.now c.copiers-count.result c.replace-taken.result.items c.in_ok-stores.stores.items c.seat_all-copiers.result.items c.requires.objects c.requires.copiers.1 c.copiers-count.ensures c.in_ok-stores.ensures.own (taken ∙ c.requires.fresh) c.seat_all-copiers.ensures in
    (crew.many, c.requires.copiers.0)

pub copy_by-copied-requires-clause-placed : goal.copy_by-copied-requires-clause-placed
copy_by-copied-requires-clause-placed g c κs within =
    let taken : c.replace-taken.result.items ≡ c.args.seats.now.items = search rules in
    let crew = is_crew c.args.round.now.from.stores.now c.args.round.now.from.roots.now c.args.round.now.words.now c.args.tenured.now c.copiers-count.result c.replace-taken.result.items c.in_ok-stores.stores.items c.seat_all-copiers.result.items c.requires.objects c.requires.copiers.1 c.copiers-count.ensures c.in_ok-stores.ensures.own (taken ∙ c.requires.fresh) c.seat_all-copiers.ensures in
    crew.placed

pub leave_seats-requires-clause-room : goal.leave_seats-requires-clause-room
leave_seats-requires-clause-room g c =
    let taken : c.replace-taken.result.items ≡ c.args.seats.now.items = search rules in
    let crew = is_crew c.args.round.now.from.stores.now c.args.round.now.from.roots.now c.args.round.now.words.now c.args.tenured.now c.copiers-count.result c.replace-taken.result.items c.in_ok-stores.stores.items c.seat_all-copiers.result.items c.requires.objects c.requires.copiers.1 c.copiers-count.ensures c.in_ok-stores.ensures.own (taken ∙ c.requires.fresh) c.seat_all-copiers.ensures in
    let many = c.copy_by-copied.ensures.many in
    let before = crew.many in
    let count = c.copiers-count.ensures in
    let room = c.in_ok-left.ensures.capacity in
    omega (arith, many, before, count, room)

pub meet-requires : goal.meet-requires
meet-requires g c =
    let seats = c.leave_seats.ensures in
    subst (λ (ss : List SeatView). All (λ (s : SeatView). s.table ≡ c.args.round.now.words.now.table) ss) (sym seats) (order_tables c.args.round.now.words.now 0 (seats_in c.copy_by-copied.new.copiers.items) c.copy_by-copied.ensures.seats)

pub returns-clause-ok : goal.returns-clause-ok
returns-clause-ok g c =
    let cs = c.copy_by-copied.new.copiers.items in
    let same : map (λ (s : SeatView). s.hand) c.leave_seats.result.items ≡ hands cs = ap (λ (ss : List SeatView). map (λ (s : SeatView). s.hand) ss) c.leave_seats.ensures ∙ hands_in cs in
    let met : map (λ (s : SeatView). s.hand) c.meet.result.items ≡ hands cs = ap (λ (ss : List SeatView). map (λ (s : SeatView). s.hand) ss) c.meet.ensures.same ∙ same in
    let agree = subst (λ (hs : List Hand). Agree hs) same c.meet.ensures.agree in
    IfOk-weaker c.copy_by-copied.result
    (λ (r : Copied). Agree (hands cs) → IsCollectedBy c.args.round.now.from.stores.now c.args.tenured.now c.args.round.now.from.roots.now (all_wins (hands cs)) r.young c.copy_by-copied.new.tenured r.remembered.items r.roots.items)
    (λ (r : Copied). IsCollectedBy c.args.round.now.from.stores.now c.args.tenured.now c.args.round.now.from.roots.now (all_wins (map (λ (s : SeatView). s.hand) c.meet.result.items)) r.young c.copy_by-copied.new.tenured r.remembered.items r.roots.items)
    (λ r f. subst (λ (hs : List Hand). IsCollectedBy c.args.round.now.from.stores.now c.args.tenured.now c.args.round.now.from.roots.now (all_wins hs) r.young c.copy_by-copied.new.tenured r.remembered.items r.roots.items) (sym met) (f agree))
    c.copy_by-copied.ensures.ok

pub returns-clause-many : goal.returns-clause-many
returns-clause-many g c =
    let taken : c.replace-taken.result.items ≡ c.args.seats.now.items = search rules in
    let crew = is_crew c.args.round.now.from.stores.now c.args.round.now.from.roots.now c.args.round.now.words.now c.args.tenured.now c.copiers-count.result c.replace-taken.result.items c.in_ok-stores.stores.items c.seat_all-copiers.result.items c.requires.objects c.requires.copiers.1 c.copiers-count.ensures c.in_ok-stores.ensures.own (taken ∙ c.requires.fresh) c.seat_all-copiers.ensures in
    ap length c.meet.ensures.same ∙ ap length c.leave_seats.ensures ∙ many_in c.copy_by-copied.new.copiers.items ∙ c.copy_by-copied.ensures.many ∙ crew.many
