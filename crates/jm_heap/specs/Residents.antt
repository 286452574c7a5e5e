-- Which objects are resident.
use Rattle.std.specs.Prelude.{◌≡◌, ◌↔◌, ℕ, List, Some}
use Rattle.std.specs.List.Sorted.{IsSorted}
use Rattle.std.specs.Ordering.{nat_cmp}
use Rattle.jm_values.specs.Shape.{Among}
use Rattle.jm_values.specs.Reach.{AllDistinct}
use Rattle.jm_values.specs.Content.{Content, serial_at}

-- the serials of what lies at some place, rising, each once
pub record AreResident {T : Type 0} (c : Content T) (serials : List ℕ) : Type 0 where
  pub sorted : IsSorted nat_cmp serials
  pub once : AllDistinct serials
  pub same : (k : ℕ) → Among k serials ↔ (p : ℕ) × (serial_at c p ≡ Some k)
