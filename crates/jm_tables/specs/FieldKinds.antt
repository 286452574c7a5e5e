-- The kinds of the fields of a program's instances (JVMS 2.3, 2.4, 2.11.1, 6.5 new).
use Rattle.std.specs.Prelude.{◌≡◌, ℕ, zero, suc, ◌<◌, List, [], ◌++◌, map, Option, Some, None, true, false, length, not, nat_le}
use Rattle.std.specs.Prelude.{slice_get, slice_index_or, take, Vec}
use Rattle.std.specs.Global.{Global}
use Rattle.std.specs.List.{filter}
use Rattle.jm_program.specs.Flags.{is_static}
use Rattle.jm_program.specs.declared.class.ClassParts.{ClassParts}
use Rattle.jm_program.specs.declared.class.Field.{Field}
use Rattle.jm_program.specs.declared.instruction.operation.OperandType.{OperandType}
use Rattle.jm_world.specs.Objects.{instance_fields}
use Rattle.jm_world.specs.Types.{operand_of}
use Rattle.jm_tables.specs.declared.extent.DeclaredFields.{DeclaredFields}
use Rattle.jm_tables.specs.declared.field_kinds.KindRow.{KindRow}
use Rattle.jm_tables.specs.Numbering.{name_of}

-- the kinds of the instance fields among those that a class declares
abbrev pub own_kinds : List Field → List OperandType
own_kinds fields = map (λ f. operand_of f.descriptor) (filter (λ f. not (is_static f.flags)) fields)

-- the kinds of all fields of an instance, over at most so many classes up
unfoldable pub kinds_down : ℕ → List DeclaredFields → ℕ → List OperandType
kinds_down zero classes class = []
kinds_down (suc n) classes class = elim (slice_get classes class) [
  | None ↦ []
  | Some d ↦ elim d.superclass [ None ↦ [] | Some s ↦ kinds_down n classes s ] ++ own_kinds d.fields.now
]

-- lists that classes share, and for each class how much of which list it has
pub record KindsView : Type 0 where
  pub lists : List (Vec OperandType Global)
  pub rows : List KindRow

-- the row stands for the kinds: they are so many at the head of a list
pub record HasKinds (lists : List (Vec OperandType Global)) (row : KindRow) (kinds : List OperandType) : Type 0 where
  pub list : Vec OperandType Global
  pub list_is : slice_get lists row.list ≡ Some list
  pub more : List OperandType
  pub items : list.items ≡ kinds ++ more
  pub many : row.length ≡ length kinds

-- the row stands for some kinds
abbrev pub IsKindRow : List (Vec OperandType Global) → KindRow → Type 0
IsKindRow lists row = (kinds : List OperandType) × HasKinds lists row kinds

-- the list of the number has the kinds alone
pub record IsWhole (lists : List (Vec OperandType Global)) (number : ℕ) (kinds : List OperandType) : Type 0 where
  pub list : Vec OperandType Global
  pub list_is : slice_get lists number ≡ Some list
  pub items : list.items ≡ kinds

-- what stands for kinds stands for them later
abbrev pub AreKept : List (Vec OperandType Global) → List (Vec OperandType Global) → Type 0
AreKept lists later = (row : KindRow) (kinds : List OperandType) → HasKinds lists row kinds → HasKinds later row kinds

-- the row of a superclass, if it is known; a class without one begins with none of the first list
abbrev pub row_above : List (Option KindRow) → Option ℕ → Option KindRow
row_above rows None = Some (record { list = 0; length = 0 })
row_above rows (Some class) = slice_index_or rows class None

-- the head of a list of so many, if it has as many
abbrev pub head_of : ℕ → List OperandType → Option (List OperandType)
head_of n kinds = elim (nat_le n (length kinds)) [ true ↦ Some (take n kinds) | false ↦ None ]

-- the kinds of all fields of an instance of a class
abbrev pub kinds_at : KindsView → ℕ → Option (List OperandType)
kinds_at view class = elim (slice_get view.rows class) [
  | None ↦ None
  | Some row ↦ elim (slice_get view.lists row.list) [ None ↦ None | Some list ↦ head_of row.length list.items ]
]

-- the kinds are those of the model's fields, the topmost superclass's first
abbrev pub AreKinds : List ClassParts → List (List ℕ) → KindsView → Type 0
AreKinds program names view = (class : ℕ) → class < length names
    → kinds_at view class ≡ Some (map (λ f. operand_of f.type) (instance_fields program (name_of names class)))
