use Rattle.std.proofs.Common.{◌+◌, ◌∙◌, sym, arith}
use Rattle.std.proofs.lemmas.Bool.{leb-true}
use Rattle.jm_gen_heap.specs.Generations.{all_cells}
use Rattle.jm_gen_heap.proofs.gen_heap.GenHeap.allocate_here.Goals as goal

pub is_within_quota-requires : goal.is_within_quota-requires
is_within_quota-requires g c =
    let gen = c.self.inside.generations in
    let fits = leb-true (all_cells gen + c.cells-cells.result) gen.limit (sym c.fits.ensures.value ∙ c.if-not-fits.false) in
    omega (arith, fits, c.fits.ensures.small)
