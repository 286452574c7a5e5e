use Rattle.std.proofs.Common.{◌∙◌, sym}
use Rattle.jm_gen_heap.proofs.Reading.{place_lies}
use Rattle.jm_gen_heap.proofs.generations.Generations.object_at.Goals as goal

pub object_at-requires : goal.object_at-requires
object_at-requires c =
    let x = place_lies c.args.self.now c.store_of.ensures.keeps c.args.place c.requires.0 c.requires.1 in
    (x.0, c.store_of.ensures.there x.0 x.1)

pub returns-clause-value : goal.returns-clause-value
returns-clause-value c =
    let x = place_lies c.args.self.now c.store_of.ensures.keeps c.args.place c.requires.0 c.requires.1 in
    x.1 ∙ sym (c.store_of.ensures.there x.0 x.1) ∙ c.object_at.ensures.value
