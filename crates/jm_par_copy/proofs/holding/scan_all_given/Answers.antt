use Rattle.std.proofs.Common.{◌∙◌, arith, refl}
use Rattle.jm_par_copy.proofs.Beside.{ends_here, same_more, same_refl}
use Rattle.jm_par_copy.proofs.Claiming.{claiming_more, claiming_refl, claims_still, learns_more, learns_refl}
use Rattle.jm_par_copy.proofs.holding.scan_all_given.Goals as goal

pub loop-number-init : goal.loop-number-init
loop-number-init g c = record {
  holding = λ base held k w. w;
  given = c.requires.given;
  many = refl;
  same = same_refl c.args.given.now.items;
  end = λ i x h e. absurd (omega (arith, h));
  listed = λ lane mark places l. l;
  noted = λ young all. all;
  learns = learns_refl c.args.own.now.seat.hand;
  on = claiming_refl c.args.own.now;
}

pub scan_one-requires-clause-claims : goal.scan_one-requires-clause-claims
scan_one-requires-clause-claims g c = claims_still c.args.round.now.from.stores.now c.args.round.now.words.now c.args.own.now c.loop-number.own c.loop-number.invariant.on c.requires.claims

pub scan_one-requires-clause-holding : goal.scan_one-requires-clause-holding
scan_one-requires-clause-holding g c = let w = c.requires.holding in (w.0, w.1, w.2, c.loop-number.invariant.holding w.0 w.1 w.2 w.3)

pub returns-in_err-scan_one-clause-on : goal.returns-in_err-scan_one-clause-on
returns-in_err-scan_one-clause-on g c = claiming_more c.args.own.now c.loop-number.own c.scan_one.new.own c.loop-number.invariant.on c.scan_one.ensures.on

pub loop-number-preserved : goal.loop-number-preserved
loop-number-preserved g c =
    let i = c.loop-number.invariant in
    let e = c.in_ok-scan_one.ensures in
    record {
      holding = λ base held k w. e.holding base held k (i.holding base held k w);
      given = e.given;
      many = c.scan_one.ensures.many ∙ i.many;
      same = same_more c.args.given.now.items c.loop-number.given.items c.scan_one.new.given.items i.same e.same;
      end = ends_here c.loop-number.given.items c.scan_one.new.given.items c.loop-number.number i.end e.end c.scan_one.ensures.others;
      listed = λ lane mark places l. e.listed lane mark places (i.listed lane mark places l);
      noted = λ young all. e.noted (i.on.stays.young_lane ∙ young) (i.noted young all);
      learns = learns_more c.args.own.now.seat.hand c.loop-number.own.seat.hand c.scan_one.new.own.seat.hand c.loop-number.invariant.learns c.in_ok-scan_one.ensures.learns;
      on = claiming_more c.args.own.now c.loop-number.own c.scan_one.new.own c.loop-number.invariant.on c.scan_one.ensures.on;
    }

pub returns-clause-end : goal.returns-clause-end
returns-clause-end g c i x h e = c.loop-number.invariant.end i x (omega (arith, h, c.loop-number-test.false, c.loop-number.auto.number-end)) e
