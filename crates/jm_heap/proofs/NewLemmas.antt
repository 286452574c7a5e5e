-- New objects: their arrays' elements, and their lack of references.
use Rattle.std.proofs.Common.{◌≡◌, ℕ, zero, suc, ◌<◌, ◌^◌, List, [], ◌∷◌, refl, ap, length, arith}
use Rattle.std.specs.Prelude.{map, replicate}
use Rattle.jm_program.specs.declared.instruction.operation.OperandType.{OperandType}
use Rattle.jm_program.specs.declared.instruction.operation.OperandType.TheVariants as operand
use Rattle.jm_values.specs.declared.value.Value.{Value}
use Rattle.jm_values.specs.Rename.{refs, stack_shape}
use Rattle.jm_values.specs.Objects.{copies, size_by, default_of}
use Rattle.jm_values.proofs.ArraysOfArrays.{copies_many}
use Rattle.jm_heap.specs.Cells.{class_size}
use Rattle.jm_heap.specs.NewObject.{new_object, operand_of_component}
use Rattle.jm_heap.specs.declared.class_id.ClassId.{ClassId}
use Rattle.jm_heap.specs.declared.class_id.ClassId.TheVariants as kind
use Rattle.jm_heap.specs.declared.shape.Shape.{Shape}
use Rattle.jm_heap.specs.declared.shape.Shape.TheVariants.{Instance, Array}
use Rattle.jm_heap.proofs.SizeLaws.{fields_within}

pub copies_are : (n : ℕ) (v : Value) → replicate n v ≡ copies n v
copies_are zero v = refl
copies_are (suc n) v = ap (λ vs. v ∷ vs) (copies_are n v)

pub many_fields : (ts : List OperandType) → length (map default_of ts) ≡ length ts
many_fields [] = refl
many_fields (t ∷ ts) = ap suc (many_fields ts)

-- how many values the object of a shape has, how many elements, and its type
abbrev pub value_count : Shape → ℕ
value_count (Instance class fields) = length fields.now
value_count (Array component count) = count

abbrev pub array_count : Shape → ℕ
array_count (Instance class fields) = 0
array_count (Array component count) = count

abbrev pub type_in : Shape → ClassId
type_in (Instance class fields) = kind.Instance class
type_in (Array component count) = kind.Array component

pub type_is : (s : Shape) → (new_object s).type ≡ type_in s
unfolding new_object
type_is (Instance class fields) = refl
type_is (Array component count) = refl

pub as_many : (s : Shape) → length (new_object s).values ≡ value_count s
unfolding new_object
as_many (Instance class fields) = many_fields fields.now
as_many (Array component count) = copies_many count (default_of (operand_of_component component))

-- an object of few cells has few values, as an array by its count
pub few_values : (s : Shape) → array_count s < 2 ^ 32 → size_by class_size (new_object s) < 2 ^ 32 → length (new_object s).values < 2 ^ 32
unfolding new_object
few_values (Instance class fields) few small = let within = fields_within class (length (map default_of fields.now)) in omega (arith, within, small)
few_values (Array component count) few small = let many = copies_many count (default_of (operand_of_component component)) in omega (arith, many, few)

-- a default value names nothing
default_refs : (t : OperandType) → refs (default_of t) ≡ []
default_refs operand.Int = refl
default_refs operand.Long = refl
default_refs operand.Reference = refl

refs_of_defaults : (ts : List OperandType) → stack_shape.refs (map default_of ts) ≡ []
refs_of_defaults [] = refl
refs_of_defaults (t ∷ ts) = rw (default_refs t) (refs_of_defaults ts)

refs_of_copies : (n : ℕ) (t : OperandType) → stack_shape.refs (copies n (default_of t)) ≡ []
refs_of_copies zero t = refl
refs_of_copies (suc n) t = rw (default_refs t) (refs_of_copies n t)

-- nor does a new object
pub new_refs : (s : Shape) → stack_shape.refs (new_object s).values ≡ []
unfolding new_object
new_refs (Instance class fields) = refs_of_defaults fields.now
new_refs (Array component count) = refs_of_copies count (operand_of_component component)
