-- The objects that a world reaches, by their numbers (JVMS 2.5.3).
use Rattle.std.specs.Prelude.{◌≡◌, ◌↔◌, ℕ, ◌+◌, List, [], ◌∷◌, length, map, sum_by, if◌then◌else◌}
use Rattle.std.specs.List.Sorted.{IsStrictlySortedBy}
use Rattle.std.specs.Ordering.{nat_cmp}
use Rattle.jm_program.specs.declared.class.ClassParts.{ClassParts}
use Rattle.jm_values.specs.Shape.{Among}
use Rattle.jm_values.specs.Reach.{is_among}
use Rattle.jm_values.specs.Content.{Content, IsSound, AllResident, name_of}
use Rattle.jm_world.specs.Objects.{Object, size}
use Rattle.jm_world.specs.World.{World, reach, reach_cells}
use Rattle.jm_heap.specs.declared.class_id.ClassId.{ClassId}
use Rattle.jm_linked.specs.Links.{LinkedView}
use Rattle.jm_machine.specs.Seen.{object_seen}

-- those of some objects, numbered from a number on, whose numbers are among some
abbrev pub numbered_among : List ℕ → ℕ → List Object → List (ℕ × Object)
numbered_among numbers k [] = []
numbered_among numbers k (o ∷ os) =
    if is_among k numbers then (k, o) ∷ numbered_among numbers (k + 1) os else numbered_among numbers (k + 1) os

-- the objects that a world reaches, each with its number, in the order of the numbers
abbrev pub reached_objects : World → List (ℕ × Object)
reached_objects w = numbered_among (reach w) 0 w.heap

-- their cells
abbrev pub numbered_cells : List (ℕ × Object) → ℕ
numbered_cells os = sum_by (λ o. size o.1) os

-- some objects with their numbers, beside the classes of their program, which name their fields
pub record ObjectsView : Type 0 where
  pub program : List ClassParts
  pub objects : List (ℕ × Object)

-- those at some places
abbrev pub view_of_objects : LinkedView → Content ClassId → List ℕ → ObjectsView
view_of_objects l c ps = record { program = l.program; objects = map (λ p. (name_of c p, object_seen l c p)) ps }

-- objects lie at the places, in the order of their numbers, each once
pub record AreInOrder (c : Content ClassId) (ps : List ℕ) : Type 0 where
  pub sound : IsSound c
  pub resident : AllResident c ps
  pub rising : IsStrictlySortedBy nat_cmp (map (name_of c) ps)

-- the places of exactly what a world reaches
pub record AreOfReached (c : Content ClassId) (w : World) (ps : List ℕ) : Type 0 where
  pub resident : AllResident c ps
  pub rising : IsStrictlySortedBy nat_cmp (map (name_of c) ps)
  pub same : (k : ℕ) → Among k (map (name_of c) ps) ↔ Among k (reach w)

-- the objects that a world reaches, as many as it reaches, and with as many cells
pub record TellsReached (w : World) (v : ObjectsView) : Type 0 where
  pub program : v.program ≡ w.program
  pub objects : v.objects ≡ reached_objects w
  pub many : length v.objects ≡ length (reach w)
  pub cells : numbered_cells v.objects ≡ reach_cells w
