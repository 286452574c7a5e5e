use Rattle.std.proofs.Common.{◌≡◌, ◌≤◌, ◌∙◌, sym, subst}
use Rattle.jm_heap.specs.Cells.{resident_cells}
use Rattle.jm_heap.specs.Slots.{content_of}
use Rattle.jm_heap.proofs.ContentLemmas.{cells_of_content}
use Rattle.jm_heap.proofs.plain_heap.PlainHeap.used.Goals as goal

pub returns-clause-value : goal.returns-clause-value
returns-clause-value c =
    subst (λ d. c.self.inside.used ≡ resident_cells d) c.self.view_is (c.self.invariant.cells ∙ sym (cells_of_content c.self.inside.limit c.self.inside.next c.self.inside.slots.items))

pub returns-clause-within : goal.returns-clause-within
unfolding content_of
returns-clause-within c = subst (λ d. c.self.inside.used ≤ d.limit) c.self.view_is c.self.invariant.within
