use Rattle.std.proofs.Common.{arith, rules}
use Rattle.jm_par_copy.specs.Copiers.{AreScannedPieces, HaveEnded, NoneRefused}
use Rattle.jm_par_copy.proofs.Copiers.{all_are_ready}
use Rattle.jm_par_copy.proofs.Ends.{round_ends, round_rooted}
use Rattle.jm_par_copy.proofs.Going.{going_by, going_front, going_round, going_shared, seats_round}
use Rattle.jm_par_copy.proofs.Redealing.{keep_seats, many_seats, seats_then}
use Rattle.jm_par_copy.proofs.running.run_rounds.Goals as goal

pub loop-init : goal.loop-init
loop-init g c = record { copying = c.requires.copying; seats = keep_seats c.args.copiers.now.items; placed = λ young before p. p }

pub make_round_of_all-requires-clause-ready : goal.make_round_of_all-requires-clause-ready
make_round_of_all-requires-clause-ready g c κs within = all_are_ready c.args.round.now.from.stores.now c.args.round.now.from.roots.now c.args.round.now.words.now c.loop.copiers.items c.loop.aside.items c.loop.invariant.copying

pub returns-then-not-none_refused-clause-seats : goal.returns-then-not-none_refused-clause-seats
returns-then-not-none_refused-clause-seats g c = seats_round c.args.round.now.from.stores.now c.args.round.now.from.roots.now c.args.round.now.words.now c.args.copiers.now.items c.loop.copiers.items c.make_round_of_all.new.copiers.items c.args.aside.now.items c.loop.aside.items c.loop.invariant c.make_round_of_all.ensures

pub share_out-requires : goal.share_out-requires
share_out-requires g c =
    let many = many_seats c.args.copiers.now.items c.make_round_of_all.new.copiers.items (seats_round c.args.round.now.from.stores.now c.args.round.now.from.roots.now c.args.round.now.words.now c.args.copiers.now.items c.loop.copiers.items c.make_round_of_all.new.copiers.items c.args.aside.now.items c.loop.aside.items c.loop.invariant c.make_round_of_all.ensures) in
    let some = c.requires.some in
    record { some = omega (arith, many, some) }

pub returns-in_err-share_out-clause-seats : goal.returns-in_err-share_out-clause-seats
returns-in_err-share_out-clause-seats g c = seats_then c.args.copiers.now.items c.make_round_of_all.new.copiers.items c.share_out.new.copiers.items (seats_round c.args.round.now.from.stores.now c.args.round.now.from.roots.now c.args.round.now.words.now c.args.copiers.now.items c.loop.copiers.items c.make_round_of_all.new.copiers.items c.args.aside.now.items c.loop.aside.items c.loop.invariant c.make_round_of_all.ensures) c.share_out.ensures.seats

pub returns-then-are_scanned-clause-ended : goal.returns-then-are_scanned-clause-ended
returns-then-are_scanned-clause-ended g c =
    let none : NoneRefused c.make_round_of_all.new.copiers.items = search rules in
    let ended : HaveEnded c.make_round_of_all.new.copiers.items = search rules in
    let scanned : AreScannedPieces c.loop.aside.items = search rules in
    let now = going_round c.args.round.now.from.stores.now c.args.round.now.from.roots.now c.args.round.now.words.now c.args.copiers.now.items c.loop.copiers.items c.make_round_of_all.new.copiers.items c.args.aside.now.items c.loop.aside.items c.loop.invariant c.make_round_of_all.ensures none in
    (now.copying, round_ends c.args.round.now.from.stores.now c.args.round.now.from.roots.now c.loop.copiers.items c.make_round_of_all.new.copiers.items c.loop.aside.items c.make_round_of_all.ensures none ended scanned)

pub returns-then-are_scanned-clause-rooted : goal.returns-then-are_scanned-clause-rooted
returns-then-are_scanned-clause-rooted g c =
    let none : NoneRefused c.make_round_of_all.new.copiers.items = search rules in
    round_rooted c.args.round.now.from.stores.now c.args.round.now.from.roots.now c.loop.copiers.items c.make_round_of_all.new.copiers.items c.make_round_of_all.ensures none

pub returns-then-are_scanned-clause-placed : goal.returns-then-are_scanned-clause-placed
returns-then-are_scanned-clause-placed g c =
    let none : NoneRefused c.make_round_of_all.new.copiers.items = search rules in
    (going_round c.args.round.now.from.stores.now c.args.round.now.from.roots.now c.args.round.now.words.now c.args.copiers.now.items c.loop.copiers.items c.make_round_of_all.new.copiers.items c.args.aside.now.items c.loop.aside.items c.loop.invariant c.make_round_of_all.ensures none).placed

pub returns-then-are_scanned-clause-seats : goal.returns-then-are_scanned-clause-seats
returns-then-are_scanned-clause-seats g c = seats_round c.args.round.now.from.stores.now c.args.round.now.from.roots.now c.args.round.now.words.now c.args.copiers.now.items c.loop.copiers.items c.make_round_of_all.new.copiers.items c.args.aside.now.items c.loop.aside.items c.loop.invariant c.make_round_of_all.ensures

pub scan_all_large-requires-clause-some : goal.scan_all_large-requires-clause-some
scan_all_large-requires-clause-some g c κs within =
    let none : NoneRefused c.make_round_of_all.new.copiers.items = search rules in
    let shared = going_shared c.args.round.now.from.stores.now c.args.round.now.from.roots.now c.args.round.now.words.now c.args.copiers.now.items c.make_round_of_all.new.copiers.items c.share_out.new.copiers.items c.args.aside.now.items c.loop.aside.items (going_round c.args.round.now.from.stores.now c.args.round.now.from.roots.now c.args.round.now.words.now c.args.copiers.now.items c.loop.copiers.items c.make_round_of_all.new.copiers.items c.args.aside.now.items c.loop.aside.items c.loop.invariant c.make_round_of_all.ensures none) c.share_out.new.aside.items c.in_ok-share_out.ensures.keeps c.share_out.ensures.seats in
    let many = many_seats c.args.copiers.now.items c.share_out.new.copiers.items shared.seats in
    let some = c.requires.some in
    omega (arith, many, some)

pub scan_all_large-requires-clause-copying : goal.scan_all_large-requires-clause-copying
scan_all_large-requires-clause-copying g c κs within =
    let none : NoneRefused c.make_round_of_all.new.copiers.items = search rules in
    let shared = going_shared c.args.round.now.from.stores.now c.args.round.now.from.roots.now c.args.round.now.words.now c.args.copiers.now.items c.make_round_of_all.new.copiers.items c.share_out.new.copiers.items c.args.aside.now.items c.loop.aside.items (going_round c.args.round.now.from.stores.now c.args.round.now.from.roots.now c.args.round.now.words.now c.args.copiers.now.items c.loop.copiers.items c.make_round_of_all.new.copiers.items c.args.aside.now.items c.loop.aside.items c.loop.invariant c.make_round_of_all.ensures none) c.share_out.new.aside.items c.in_ok-share_out.ensures.keeps c.share_out.ensures.seats in
    shared.copying

pub returns-in_err-scan_all_large-clause-seats : goal.returns-in_err-scan_all_large-clause-seats
returns-in_err-scan_all_large-clause-seats g c =
    let none : NoneRefused c.make_round_of_all.new.copiers.items = search rules in
    let shared = going_shared c.args.round.now.from.stores.now c.args.round.now.from.roots.now c.args.round.now.words.now c.args.copiers.now.items c.make_round_of_all.new.copiers.items c.share_out.new.copiers.items c.args.aside.now.items c.loop.aside.items (going_round c.args.round.now.from.stores.now c.args.round.now.from.roots.now c.args.round.now.words.now c.args.copiers.now.items c.loop.copiers.items c.make_round_of_all.new.copiers.items c.args.aside.now.items c.loop.aside.items c.loop.invariant c.make_round_of_all.ensures none) c.share_out.new.aside.items c.in_ok-share_out.ensures.keeps c.share_out.ensures.seats in
    seats_then c.args.copiers.now.items c.share_out.new.copiers.items c.scan_all_large.new.copiers.items shared.seats c.scan_all_large.ensures.seats

pub forward_front-requires-clause-ready : goal.forward_front-requires-clause-ready
forward_front-requires-clause-ready g c κs within =
    let none : NoneRefused c.make_round_of_all.new.copiers.items = search rules in
    let shared = going_shared c.args.round.now.from.stores.now c.args.round.now.from.roots.now c.args.round.now.words.now c.args.copiers.now.items c.make_round_of_all.new.copiers.items c.share_out.new.copiers.items c.args.aside.now.items c.loop.aside.items (going_round c.args.round.now.from.stores.now c.args.round.now.from.roots.now c.args.round.now.words.now c.args.copiers.now.items c.loop.copiers.items c.make_round_of_all.new.copiers.items c.args.aside.now.items c.loop.aside.items c.loop.invariant c.make_round_of_all.ensures none) c.share_out.new.aside.items c.in_ok-share_out.ensures.keeps c.share_out.ensures.seats in
    let e = c.in_ok-scan_all_large.ensures in
    let jointly = going_by c.args.round.now.from.stores.now c.args.round.now.from.roots.now c.args.round.now.words.now c.args.copiers.now.items c.share_out.new.copiers.items c.scan_all_large.new.copiers.items c.args.aside.now.items c.share_out.new.aside.items shared c.scan_all_large.new.aside.items e.copying e.placed c.scan_all_large.ensures.seats in
    all_are_ready c.args.round.now.from.stores.now c.args.round.now.from.roots.now c.args.round.now.words.now c.scan_all_large.new.copiers.items c.scan_all_large.new.aside.items jointly.copying

pub returns-in_err-forward_front-clause-seats : goal.returns-in_err-forward_front-clause-seats
returns-in_err-forward_front-clause-seats g c =
    let none : NoneRefused c.make_round_of_all.new.copiers.items = search rules in
    let shared = going_shared c.args.round.now.from.stores.now c.args.round.now.from.roots.now c.args.round.now.words.now c.args.copiers.now.items c.make_round_of_all.new.copiers.items c.share_out.new.copiers.items c.args.aside.now.items c.loop.aside.items (going_round c.args.round.now.from.stores.now c.args.round.now.from.roots.now c.args.round.now.words.now c.args.copiers.now.items c.loop.copiers.items c.make_round_of_all.new.copiers.items c.args.aside.now.items c.loop.aside.items c.loop.invariant c.make_round_of_all.ensures none) c.share_out.new.aside.items c.in_ok-share_out.ensures.keeps c.share_out.ensures.seats in
    let e = c.in_ok-scan_all_large.ensures in
    let jointly = going_by c.args.round.now.from.stores.now c.args.round.now.from.roots.now c.args.round.now.words.now c.args.copiers.now.items c.share_out.new.copiers.items c.scan_all_large.new.copiers.items c.args.aside.now.items c.share_out.new.aside.items shared c.scan_all_large.new.aside.items e.copying e.placed c.scan_all_large.ensures.seats in
    seats_then c.args.copiers.now.items c.scan_all_large.new.copiers.items c.forward_front.new.copiers.items jointly.seats c.forward_front.ensures.seats

pub loop-preserved : goal.loop-preserved
loop-preserved g c =
    let none : NoneRefused c.make_round_of_all.new.copiers.items = search rules in
    let shared = going_shared c.args.round.now.from.stores.now c.args.round.now.from.roots.now c.args.round.now.words.now c.args.copiers.now.items c.make_round_of_all.new.copiers.items c.share_out.new.copiers.items c.args.aside.now.items c.loop.aside.items (going_round c.args.round.now.from.stores.now c.args.round.now.from.roots.now c.args.round.now.words.now c.args.copiers.now.items c.loop.copiers.items c.make_round_of_all.new.copiers.items c.args.aside.now.items c.loop.aside.items c.loop.invariant c.make_round_of_all.ensures none) c.share_out.new.aside.items c.in_ok-share_out.ensures.keeps c.share_out.ensures.seats in
    let e = c.in_ok-scan_all_large.ensures in
    let jointly = going_by c.args.round.now.from.stores.now c.args.round.now.from.roots.now c.args.round.now.words.now c.args.copiers.now.items c.share_out.new.copiers.items c.scan_all_large.new.copiers.items c.args.aside.now.items c.share_out.new.aside.items shared c.scan_all_large.new.aside.items e.copying e.placed c.scan_all_large.ensures.seats in
    going_front c.args.round.now.from.stores.now c.args.round.now.from.roots.now c.args.round.now.words.now c.args.copiers.now.items c.scan_all_large.new.copiers.items c.forward_front.new.copiers.items c.args.aside.now.items c.scan_all_large.new.aside.items jointly c.in_ok-forward_front.ensures.made
