use Rattle.std.proofs.Common.{◌∙◌, arith, sym}
use Rattle.jm_par_copy.proofs.Placed.{placed_then}
use Rattle.jm_par_copy.proofs.Redealing.{keep_seats, many_seats, seats_then}
use Rattle.jm_par_copy.proofs.jointly.scan_all_large.Goals as goal

pub loop-number-init : goal.loop-number-init
loop-number-init g c = record { copying = c.requires.copying; placed = λ young before p. p; many = sym (c.len-count.ensures ∙ c.args.aside.now.ok.0); seats = keep_seats c.args.copiers.now.items }

pub scan_at-requires-clause-some : goal.scan_at-requires-clause-some
scan_at-requires-clause-some g c κs within = let many = many_seats c.args.copiers.now.items c.loop-number.copiers.items c.loop-number.invariant.seats in let some = c.requires.some in omega (arith, many, some)

pub returns-in_err-scan_at-clause-seats : goal.returns-in_err-scan_at-clause-seats
returns-in_err-scan_at-clause-seats g c = seats_then c.args.copiers.now.items c.loop-number.copiers.items c.scan_at.new.copiers.items c.loop-number.invariant.seats c.scan_at.ensures.seats

pub loop-number-preserved : goal.loop-number-preserved
loop-number-preserved g c =
    let e = c.in_ok-scan_at.ensures in
    record {
      copying = e.copying;
      placed = placed_then c.args.copiers.now.items c.loop-number.copiers.items c.scan_at.new.copiers.items c.args.aside.now.items c.loop-number.aside.items c.scan_at.new.aside.items c.loop-number.invariant.placed e.placed;
      many = c.scan_at.ensures.many ∙ c.loop-number.invariant.many;
      seats = seats_then c.args.copiers.now.items c.loop-number.copiers.items c.scan_at.new.copiers.items c.loop-number.invariant.seats c.scan_at.ensures.seats;
    }
