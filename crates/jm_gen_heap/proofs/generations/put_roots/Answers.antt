use Rattle.std.proofs.Common.{◌∙◌, ap, length, arith}
use Rattle.std.proofs.lemmas.List.{length-set}
use Rattle.jm_gen_heap.proofs.Holding.{roots_step, roots_all}
use Rattle.jm_gen_heap.proofs.generations.put_roots.Goals as goal

pub loop-number-preserved : goal.loop-number-preserved
loop-number-preserved c = record {
  many = ap length c.set.ensures ∙ length-set c.loop-number.roots c.loop-number.number c.index.result.now ∙ c.loop-number.invariant.many;
  roots = c.set.ensures ∙ roots_step c.args.places.now.items c.args.roots.now c.loop-number.roots c.loop-number.number c.index.result.now c.loop-number.invariant.roots (omega (arith, c.loop-number-test.true, c.len-number-end.ensures)) (omega (arith, c.loop-number-test.true, c.len-number-end.ensures, c.requires)) c.index.ensures;
}

pub returns : goal.returns
returns c = c.loop-number.invariant.roots ∙ roots_all c.args.places.now.items c.args.roots.now c.loop-number.number (omega (arith, c.loop-number-test.false, c.len-number-end.ensures)) (omega (arith, c.loop-number.auto.number-end, c.len-number-end.ensures))
