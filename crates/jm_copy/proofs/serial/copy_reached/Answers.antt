use Rattle.jm_copy.specs.Marks.{progress, first_marks}
use Rattle.jm_copy.proofs.Making.{stays_more}
use Rattle.jm_copy.proofs.Whole.{fresh_copying, first_stays, copied_out}
use Rattle.jm_copy.proofs.serial.copy_reached.Goals as goal

pub forward_roots-requires-clause-copying : goal.forward_roots-requires-clause-copying
forward_roots-requires-clause-copying c = (progress c.args.to.now.young.lane (first_marks c.args.to.now), fresh_copying c.args.from.stores.now c.args.from.roots.now c.args.to.now c.requires.fresh)

pub scan-requires-clause-copying : goal.scan-requires-clause-copying
scan-requires-clause-copying c = first_stays c.args.from.stores.now c.args.from.roots.now c.args.to.now c.forward_roots.new.to c.forward_roots.ensures.extends.stays (c.in_ok-roots.ensures.copying (progress c.args.to.now.young.lane (first_marks c.args.to.now)) (fresh_copying c.args.from.stores.now c.args.from.roots.now c.args.to.now c.requires.fresh))

pub returns-clause-ok : goal.returns-clause-ok
returns-clause-ok c =
    let scanned = c.in_ok-remembered.ensures.copying in
    copied_out c.args.from.stores.now c.args.from.roots.now c.forward_roots.new.to c.scan.new.to c.in_ok-roots.roots.items c.in_ok-remembered.remembered.items scanned.0 scanned.1 scanned.2 c.in_ok-roots.ensures.forwarded.0 c.in_ok-roots.ensures.forwarded.1 c.scan.ensures.extends.known c.in_ok-remembered.ensures.listed

pub returns-clause-stays : goal.returns-clause-stays
returns-clause-stays c = stays_more c.args.to.now c.forward_roots.new.to c.scan.new.to c.forward_roots.ensures.extends.stays c.scan.ensures.extends.stays

pub returns-in_err-remembered-clause-stays : goal.returns-in_err-remembered-clause-stays
returns-in_err-remembered-clause-stays c = stays_more c.args.to.now c.forward_roots.new.to c.scan.new.to c.forward_roots.ensures.extends.stays c.scan.ensures.extends.stays

pub returns-in_err-roots-clause-stays : goal.returns-in_err-roots-clause-stays
returns-in_err-roots-clause-stays c = c.forward_roots.ensures.extends.stays
