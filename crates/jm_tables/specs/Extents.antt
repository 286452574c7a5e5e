-- How many fields the instances of classes have (JVMS 2.5.3, 2.7).
use Rattle.std.specs.Prelude.{◌≡◌, ℕ, zero, suc, ◌+◌, ◌<◌, List, Option, Some, None, IfSome, length, not, option_map, slice_get, slice_index_or}
use Rattle.std.specs.List.{filter}
use Rattle.jm_program.specs.Flags.{is_static}
use Rattle.jm_program.specs.declared.class.Field.{Field}
use Rattle.jm_tables.specs.declared.extent.DeclaredFields.{DeclaredFields}
use Rattle.jm_tables.specs.declared.extent.Extent.{Extent}
use Rattle.jm_tables.specs.Inheriting.{StandsBefore}

-- how many instance fields stand among those that a class declares
abbrev pub own_count : List Field → ℕ
own_count fields = length (filter (λ f. not (is_static f.flags)) fields)

-- how many are inherited from a superclass, where its extent is known
abbrev pub inherited_over : List (Option Extent) → Option ℕ → Option ℕ
inherited_over extents None = Some 0
inherited_over extents (Some class) = option_map (λ above. above.size) (slice_index_or extents class None)

abbrev pub extent_over : List (Option Extent) → DeclaredFields → Option Extent
extent_over extents d =
    option_map (λ inherited. record { inherited = inherited; size = inherited + own_count d.fields.now }) (inherited_over extents d.superclass)

-- the extent is that of the class, over at most so many classes up: what its superclass has is
-- inherited, and its own fields come to it
unfoldable pub IsExtent : ℕ → List DeclaredFields → ℕ → Extent → Type 0
IsExtent zero classes class e = ⊥
IsExtent (suc n) classes class e =
    (d : DeclaredFields) × (slice_get classes class ≡ Some d) × (e.size ≡ e.inherited + own_count d.fields.now)
    × (elim d.superclass [ None ↦ e.inherited ≡ 0 | Some s ↦ (above : Extent) × IsExtent n classes s above × (e.inherited ≡ above.size) ])

-- each class with an extent has its own
unfoldable pub AreExtents : ℕ → List DeclaredFields → List (Option Extent) → Type 0
AreExtents n classes extents = (class : ℕ) (e : Extent) → slice_index_or extents class None ≡ Some e → IsExtent n classes class e

-- an order of all classes, each after its superclass
pub record IsTopDown (classes : List DeclaredFields) (order : List ℕ) : Type 0 where
  pub many : length order ≡ length classes
  pub all : (class : ℕ) → class < length classes → StandsBefore order (length order) class
  pub after : (i class : ℕ) → slice_get order i ≡ Some class
      → (d : DeclaredFields) × (slice_get classes class ≡ Some d) × IfSome d.superclass (StandsBefore order i)
