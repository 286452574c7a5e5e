use Rattle.std.proofs.Common.{◌≡◌, arith, refl, true, false}
use Rattle.std.proofs.lemmas.Option.{slice_get_within}
use Rattle.jm_par_copy.specs.Holding.{held_objects, held_progress}
use Rattle.jm_par_copy.proofs.Claiming.{claiming_more, learns_more}
use Rattle.jm_par_copy.proofs.Beside.{given_still}
use Rattle.jm_par_copy.proofs.Noting.{scan_noting}
use Rattle.jm_par_copy.proofs.copier.scan_blocks.Goals as goal

pub returns-in-Err : goal.returns-in-Err
returns-in-Err g c =
    record {
      on = claiming_more c.args.copier.now.own c.scan_all_given.new.own c.scan_own-made.new.own c.scan_all_given.ensures.on c.scan_own-made.ensures.on;
      places = refl;
      rooted = refl;
      kept = λ e. let no : true ≡ false = e in absurd cc;
    }

pub returns-in-Ok-made : goal.returns-in-Ok-made
returns-in-Ok-made g c =
    let e = c.in-Ok.ensures in
    let f = c.in-Ok-made.ensures in
    let ys = c.scan_all_given.new.given.items in
    record {
      on = claiming_more c.args.copier.now.own c.scan_all_given.new.own c.scan_own-made.new.own c.scan_all_given.ensures.on c.scan_own-made.ensures.on;
      places = refl;
      rooted = refl;
      kept = λ t. record {
        holding = λ base held k w. f.scanning base held k (held_objects ys) (held_progress ys) (e.holding base held k w);
        given = given_still c.scan_all_given.new.own c.scan_own-made.new.own ys c.scan_own-made.ensures.on e.given;
        same = e.same;
        marks = f.marks;
        ended = λ u. (
          f.end (c.is_all.ensures (c.is_all-copier.ensures.own u)),
          λ i x at.
              let within = slice_get_within ys i x at in
              let all = c.is_all-copier.ensures.given u in
              e.end i x (omega (arith, within, all, c.scan_all_given.ensures.many, c.len-given.ensures, c.args.copier.now.given.ok.0)) at,
        );
        learns = learns_more c.args.copier.now.own.seat.hand c.scan_all_given.new.own.seat.hand c.scan_own-made.new.own.seat.hand e.learns f.learns;
        noting = λ n. scan_noting c.args.copier.now _ c.scan_all_given.new.own.to c.scan_all_given.ensures.on.stays.young_lane c.scan_own-made.ensures.on.stays.young_lane e.listed f.listed e.noted n;
      };
    }
