use Rattle.std.proofs.Common.{◌%◌, map, length, ap, arith}
use Rattle.jm_heap.specs.NewObject.{new_object}
use Rattle.jm_gen_heap.proofs.Several.{first_push, next_fits, next_refused, many_objects, shape_object}
use Rattle.jm_gen_heap.proofs.generations.Generations.make_each.Goals as goal

pub make-requires : goal.make-requires
make-requires c =
    next_fits c.args.self.now c.loop-number.self c.loop-number.places.items (c.args.nursery % 16) (map new_object c.args.shapes.now) c.loop-number.number _ c.loop-number.invariant.put c.requires.fits (shape_object c.args.shapes.now c.loop-number.number _ c.loop-number-test.true)

pub returns-in-Err-clause-err : goal.returns-in-Err-clause-err
returns-in-Err-clause-err c =
    next_refused c.args.self.now c.loop-number.self c.loop-number.places.items (c.args.nursery % 16) (map new_object c.args.shapes.now) c.loop-number.number _ c.in-Err.fault c.used-cells.ensures.keeps c.loop-number.invariant.put c.requires.fits (omega (arith, c.loop-number-test.true, many_objects c.args.shapes.now)) c.in-Err.ensures.err

pub loop-number-preserved : goal.loop-number-preserved
loop-number-preserved c =
    let i = c.loop-number.invariant in
    record {
      put = first_push c.args.self.now c.loop-number.places.items (map new_object c.args.shapes.now) c.loop-number.number i.put i.many c.push_reserved.ensures.items (shape_object c.args.shapes.now c.loop-number.number _ c.loop-number-test.true) c.in-Ok.ensures.ok c.in-Ok.ensures.above;
      many = omega (arith, ap length c.push_reserved.ensures.items, i.many);
      len = omega (arith, i.len, c.push_reserved.ensures.len);
      room = omega (arith, i.room, c.push_reserved.ensures.capacity);
    }
