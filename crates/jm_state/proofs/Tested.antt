-- Operands popped for the parameters of a descriptor.
use Rattle.std.proofs.Common.{◌≡◌, ℕ, ◌-◌, ◌<◌, List, Some, sym, ap, ◌∙◌, length, reverse, arith}
use Rattle.std.specs.Prelude.{map, slice_get, get_or, option_map}
use Rattle.std.proofs.lemmas.List.{length-map, length-reverse, get_or-reverse}
use Rattle.std.proofs.lemmas.Option.{slice_get-get_or, slice_get-map}
use Rattle.jm_program.specs.declared.descriptor.FieldType.{FieldType}
use Rattle.jm_program.specs.declared.instruction.operation.OperandType.{OperandType}
use Rattle.jm_world.specs.Types.{operand_of}

-- the types of operands for parameters, the last one first
abbrev pub types_of : List FieldType → List OperandType
types_of parameters = map operand_of (reverse parameters)

pub many_types : (parameters : List FieldType) → length (types_of parameters) ≡ length parameters
many_types parameters = length-map (reverse parameters) operand_of ∙ length-reverse parameters

-- what is made of one so many from the last
pub last_at : {A B : Type 0} (of : A → B) (parameters : List A) (count depth : ℕ) (p : A) → count ≡ length parameters → depth < count
    → p ≡ get_or parameters (count - 1 - depth) p → slice_get (map of (reverse parameters)) depth ≡ Some (of p)
last_at of parameters count depth p long lt at =
    let within : depth < length (reverse parameters) = let k = length-reverse parameters in omega arith in
    slice_get-map of (reverse parameters) depth
    ∙ ap (option_map of) (slice_get-get_or (reverse parameters) depth p within)
    ∙ ap (λ x. Some (of x)) (get_or-reverse parameters depth p (let k = long in omega arith)
    ∙ ap (λ n. get_or parameters (n - 1 - depth) p) (sym long) ∙ sym at)

-- the type of one so many from the last
pub type_at : (parameters : List FieldType) (count depth : ℕ) (p : FieldType) → count ≡ length parameters → depth < count
    → p ≡ get_or parameters (count - 1 - depth) p → slice_get (types_of parameters) depth ≡ Some (operand_of p)
type_at parameters = last_at operand_of parameters
