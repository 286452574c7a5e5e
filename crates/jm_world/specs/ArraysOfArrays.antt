-- multianewarray (JVMS 6.5): an array with those below it, made all or none.
use Rattle.std.specs.Prelude.{ℕ, zero, suc, ◌-◌, ℤ, List, [], ◌∷◌, length}
use Rattle.jm_program.specs.declared.descriptor.FieldType.{FieldType}
use Rattle.jm_values.specs.ArraysOfArrays.{Dimension, tree}
use Rattle.jm_values.specs.declared.value.Value.{Value}
use Rattle.jm_values.specs.declared.value.Value.TheVariants.{Null, Ref}
use Rattle.jm_world.specs.Types.{ObjectType, array_of, default_value}
use Rattle.jm_world.specs.Objects.{Object}
use Rattle.jm_world.specs.Next.{Next, make_all}
use Rattle.jm_world.specs.Here.{Here, go_on_in, with_int, with_room}
use Rattle.jm_world.specs.Arrays.{with_length}

-- pops so many counts, that of the last dimension first, and hands them on as they were pushed
abbrev pub with_counts : ℕ → List ℤ → List Value → (List ℤ → List Value → Next) → Next
with_counts zero counts s go = go counts s
with_counts (suc d) counts s go = with_int s (λ n below. with_counts d (n ∷ counts) below go)

-- no count is negative, whatever the others are: else NegativeArraySizeException
abbrev pub with_lengths : Here → List ℤ → (List ℕ → Next) → Next
with_lengths here [] go = go []
with_lengths here (n ∷ ns) go = with_length here n (λ count. with_lengths here ns (λ counts. go (count ∷ counts)))

-- the type of the elements of an array of a type
abbrev pub element_type : FieldType → FieldType
element_type t = record { dimensions = t.dimensions - 1; element = t.element }

-- the dimensions of arrays of a type by their counts
abbrev pub dimensions_of : FieldType → List ℕ → List (Dimension ObjectType)
dimensions_of t [] = []
dimensions_of t (n ∷ ns) =
    record { type = array_of (element_type t); count = n; element = default_value (element_type t) } ∷ dimensions_of (element_type t) ns

-- a reference to the first of these, null where there is none
abbrev pub first_made : List ℕ → Value
first_made [] = Null
first_made (k ∷ ks) = Ref k

-- makes all objects or none, and goes on with the first of them on top of these operands: room for the
-- result comes first
abbrev pub push_all_new : Here → List Object → List Value → Next
push_all_new here os s = with_room here (Null ∷ s) (make_all here.world os (λ made numbers. go_on_in here made (first_made numbers ∷ s)))

abbrev pub new_arrays_of : Here → FieldType → ℕ → Next
new_arrays_of here t d = with_counts d [] here.frame.stack (λ ns s.
    with_lengths here ns (λ counts. push_all_new here (tree (dimensions_of t counts) (length here.world.heap)) s))
