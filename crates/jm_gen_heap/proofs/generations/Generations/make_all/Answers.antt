use Rattle.std.proofs.Common.{map, arith}
use Rattle.jm_heap.specs.NewObject.{new_object}
use Rattle.jm_gen_heap.proofs.Several.{all_at_end, many_objects}
use Rattle.jm_gen_heap.proofs.generations.Generations.make_all.Goals as goal

pub returns-then-not-has_serials-clause-err : goal.returns-then-not-has_serials-clause-err
returns-then-not-has_serials-clause-err c =
    let end = c.if-not-has_serials.ensures.no in
    all_at_end c.args.self.now c.used-cells.ensures.keeps (map new_object c.args.shapes.now) c.requires (let many = many_objects c.args.shapes.now in omega (arith, many, end))
