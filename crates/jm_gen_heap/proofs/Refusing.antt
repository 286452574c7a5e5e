-- Generations whose old objects are handed back as they were, or are remembered anew.
use Rattle.std.proofs.Common.{◌≡◌, ℕ, ◌+◌, List, Some, refl, ap, ◌∙◌, arith}
use Rattle.jm_values.specs.Shape.{Among}
use Rattle.jm_values.specs.Rename.{stack_shape}
use Rattle.jm_heap.specs.Cells.{resident_cells}
use Rattle.jm_blocks.specs.Objects.{Object}
use Rattle.jm_blocks.specs.Stores.{Blocks, objects_in, HasObject}
use Rattle.jm_nursery.specs.Nurseries.{young_cells}
use Rattle.jm_gen_heap.specs.Generations.{Generations, IsYoung}
use Rattle.jm_gen_heap.specs.Residents.{content_of}
use Rattle.jm_gen_heap.specs.Invariant.{AreGenerations}
use Rattle.jm_gen_heap.specs.Steps.{with_tenured}
use Rattle.jm_gen_heap.specs.Collections.{IsWhole}
use Rattle.jm_gen_heap.proofs.Lanes.{AreLaned, same_lying}
use Rattle.jm_gen_heap.proofs.Making.{laned}
use Rattle.jm_gen_heap.proofs.CountingResidents.{same_store_cells}
use Rattle.jm_gen_heap.proofs.Unmoved.{IsUnmoved, same_placed, unmoved_content, unmoved_keeps}

-- what a refused collection hands back of the old objects
module _ (g : Generations) (v : AreGenerations g) (t : Blocks) (lane : t.lane ≡ g.tenured.lane) (same : (p : ℕ) → objects_in t p ≡ objects_in g.tenured p) where
  laned_after : AreLaned (with_tenured g t g.remembered)
  laned_after = record { nurseries = v.nurseries; tenured = lane ∙ v.tenured }

  pub unmoved : IsUnmoved g (with_tenured g t g.remembered)
  unmoved = record { limit = refl; next = refl; laned = laned_after; places = λ p. same_lying (laned v) laned_after p (λ y. refl) (λ e. same p) }

  pub same_content : content_of (with_tenured g t g.remembered) ≡ content_of g
  same_content = unmoved_content v unmoved

  pub refused_keeps : IsWhole t → AreGenerations (with_tenured g t g.remembered)
  refused_keeps w =
      let cells = same_store_cells g t v.counted w (same_placed g.tenured t (omega (arith, v.tenured)) lane same) in
      unmoved_keeps v unmoved refl (ap (λ n. young_cells g.nurseries + n) cells)

-- the content has nothing of what is remembered
pub remembered_content : (g : Generations) (places : List ℕ) → content_of (with_tenured g g.tenured places) ≡ content_of g
unfolding content_of
remembered_content g places = refl

-- other places of old objects are remembered, among them all that name young ones
module _ (g : Generations) (v : AreGenerations g) (places : List ℕ) where
  pub remembered_keeps : ((p q : ℕ) (a : Object) → Among p g.remembered → objects_in g.tenured p ≡ Some a → Among q (stack_shape.refs a.values) → IsYoung q → Among p places) → ((p : ℕ) → Among p places → HasObject g.tenured p) → AreGenerations (with_tenured g g.tenured places)
  remembered_keeps still old = record {
    nurseries = v.nurseries;
    tenured = v.tenured;
    told = record { apart = v.told.apart; below = v.told.below; closed = v.told.closed };
    aged = record { young = v.aged.young; old = v.aged.old };
    remembered = record { covers = λ p q a e k y. still p q a (v.remembered.covers p q a e k y) e k y; old = old };
    counted = ap resident_cells (remembered_content g places) ∙ v.counted;
    within = v.within;
  }
