use Rattle.std.proofs.Common.{◌≡◌, ◌+◌, subst, arith}
use Rattle.jm_heap.specs.Cells.{resident_cells}
use Rattle.jm_gen_heap.specs.Generations.{Generations}
use Rattle.jm_gen_heap.specs.Residents.{content_of}
use Rattle.jm_gen_heap.specs.Invariant.{AreGenerations}
use Rattle.jm_gen_heap.proofs.generations.Generations.used.Goals as goal

pub returns-clause-cells : goal.returns-clause-cells
returns-clause-cells c =
    let v = c.self.invariant.keeps in
    let counted = v.counted in
    subst (λ (x : Generations). c.cells.result + c.self.inside.tenured_cells ≡ resident_cells (content_of x)) c.self.view_is (omega (arith, c.cells.ensures.value, c.self.invariant.counted, counted))

pub returns-clause-keeps : goal.returns-clause-keeps
returns-clause-keeps c = subst AreGenerations c.self.view_is c.self.invariant.keeps
