-- Generations that have the same at each place, and are like others.
use Rattle.std.proofs.Common.{◌≡◌, ℕ, ◌+◌, List, Some, refl, ap, ◌∙◌, arith}
use Rattle.std.specs.Prelude.{slice_get}
use Rattle.std.proofs.lemmas.Option.{slice_get_within}
use Rattle.jm_blocks.specs.Objects.{Object}
use Rattle.jm_blocks.specs.Places.{lane_of}
use Rattle.jm_blocks.specs.Stores.{Blocks}
use Rattle.jm_nursery.specs.Nurseries.{AreNurseries}
use Rattle.jm_gen_heap.specs.Generations.{Generations, IsYoung}
use Rattle.jm_gen_heap.specs.Residents.{content_of}
use Rattle.jm_gen_heap.specs.Invariant.{AreGenerations}
use Rattle.jm_gen_heap.specs.Steps.{IsPut}
use Rattle.jm_gen_heap.specs.Several.{IsAlike}
use Rattle.jm_gen_heap.proofs.Unmoved.{IsUnmoved, unmoved_content, unmoved_keeps}

pub alike_same : {g : Generations} → AreGenerations g → IsAlike g g
alike_same v = record { limit = refl; next = refl; nurseries = v.nurseries; tenured = refl; remembered = refl; places = λ q. refl; cells = refl }

pub alike_twice : {g h k : Generations} → IsAlike g h → IsAlike h k → IsAlike g k
alike_twice a b = record {
  limit = b.limit ∙ a.limit;
  next = b.next ∙ a.next;
  nurseries = b.nurseries;
  tenured = b.tenured ∙ a.tenured;
  remembered = b.remembered ∙ a.remembered;
  places = λ q. b.places q ∙ a.places q;
  cells = b.cells ∙ a.cells;
}

-- an object is put as well into what is like it
pub put_alike : {g h k : Generations} {p : ℕ} {o : Object} → IsPut g h p o → IsAlike h k → IsPut g k p o
put_alike {p = p} w a = record {
  limit = a.limit ∙ w.limit;
  next = a.next ∙ w.next;
  nurseries = a.nurseries;
  tenured = a.tenured ∙ w.tenured;
  remembered = a.remembered ∙ w.remembered;
  young = w.young;
  fresh = w.fresh;
  here = a.places p ∙ w.here;
  others = λ q away. a.places q ∙ w.others q away;
  cells = a.cells ∙ w.cells;
  within = (let cells = a.cells in let within = w.within in omega (arith, cells, within));
}

-- a place of the lane of a nursery
pub in_young_lane : (lanes : List Blocks) (n q : ℕ) (s : Blocks) → AreNurseries lanes → slice_get lanes n ≡ Some s → lane_of q ≡ n + 1 → IsYoung q
in_young_lane lanes n q s r e f =
    let within = slice_get_within lanes n s e in
    let many = r.many in
    record { some = omega (arith, f); few = omega (arith, f, within, many) }

module _ {g h : Generations} (v : AreGenerations g) (w : IsAlike g h) where
  unmoved : IsUnmoved g h
  unmoved = record { limit = w.limit; next = w.next; laned = record { nurseries = w.nurseries; tenured = ap (λ t. t.lane) w.tenured ∙ v.tenured }; places = w.places }

  -- they have the same residents
  pub alike_content : content_of h ≡ content_of g
  alike_content = unmoved_content v unmoved

  -- and keep to the same
  pub alike_keeps : AreGenerations h
  alike_keeps = unmoved_keeps v unmoved w.remembered w.cells
