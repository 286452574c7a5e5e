-- Values as they lie in a block: each kind in a list of its own, elements of primitive types packed.
use Rattle.std.specs.Prelude.{ℕ, zero, suc, List, [], Bool, nat_eq, ℤ, pos, negsuc, ◌≤ℤ◌}
use Rattle.jm_program.specs.declared.descriptor.BaseType.{BaseType}
use Rattle.jm_program.specs.declared.descriptor.BaseType.TheVariants as base
use Rattle.jm_values.specs.declared.value.Value.{Value}
use Rattle.jm_values.specs.declared.value.Value.TheVariants.{Int, Long, Null, Ref}
use Rattle.jm_heap.specs.declared.class_id.ClassId.{ClassId}
use Rattle.jm_heap.specs.declared.class_id.ClassId.TheVariants.{Instance, Array}
use Rattle.jm_heap.specs.declared.class_id.Element.{Element}
use Rattle.jm_heap.specs.declared.class_id.Element.TheVariants.{Base, Class}
use Rattle.jm_heap.specs.declared.storage.Storage.{Storage as Kind}
use Rattle.jm_heap.specs.declared.storage.Storage.TheVariants as kind

-- the lists of a block
pub record Lists : Type 0 where
  pub fields : List Value
  pub references : List Value
  pub bytes : List Value
  pub chars : List Value
  pub shorts : List Value
  pub ints : List Value
  pub longs : List Value

abbrev pub no_lists : Lists
no_lists = record { fields = []; references = []; bytes = []; chars = []; shorts = []; ints = []; longs = [] }

-- the list of a kind
abbrev pub list_of : Kind → Lists → List Value
list_of kind.Fields l = l.fields
list_of kind.References l = l.references
list_of kind.Bytes l = l.bytes
list_of kind.Chars l = l.chars
list_of kind.Shorts l = l.shorts
list_of kind.Ints l = l.ints
list_of kind.Longs l = l.longs

-- the kinds apart
abbrev pub rank : Kind → ℕ
rank kind.Fields = 0
rank kind.References = 1
rank kind.Bytes = 2
rank kind.Chars = 3
rank kind.Shorts = 4
rank kind.Ints = 5
rank kind.Longs = 6

abbrev pub same_kind : Kind → Kind → Bool
same_kind j k = nat_eq (rank j) (rank k)

-- the lists with another one of a kind
abbrev pub with_list : Kind → List Value → Lists → Lists
with_list kind.Fields vs l = record l { fields = vs }
with_list kind.References vs l = record l { references = vs }
with_list kind.Bytes vs l = record l { bytes = vs }
with_list kind.Chars vs l = record l { chars = vs }
with_list kind.Shorts vs l = record l { shorts = vs }
with_list kind.Ints vs l = record l { ints = vs }
with_list kind.Longs vs l = record l { longs = vs }

-- where the elements of a primitive type lie: booleans as bytes; no program makes arrays of floats or
-- doubles, whose elements would tell themselves what they are, as fields do
abbrev pub kind_of_base : BaseType → Kind
kind_of_base base.Boolean = kind.Bytes
kind_of_base base.Byte = kind.Bytes
kind_of_base base.Char = kind.Chars
kind_of_base base.Short = kind.Shorts
kind_of_base base.Int = kind.Ints
kind_of_base base.Float = kind.Fields
kind_of_base base.Long = kind.Longs
kind_of_base base.Double = kind.Fields

abbrev pub kind_of_element : ℕ → Element → Kind
kind_of_element zero (Base b) = kind_of_base b
kind_of_element zero (Class c) = kind.References
kind_of_element (suc d) element = kind.References

-- where the values of an object of a type lie
abbrev pub kind_of : ClassId → Kind
kind_of (Instance class) = kind.Fields
kind_of (Array component) = kind_of_element component.dimensions component.element

abbrev pub IsBetween : ℤ → ℤ → ℤ → Type 0
IsBetween low high n = (low ≤ℤ n) × (n ≤ℤ high)

-- a value that the list of a kind holds
abbrev pub Fits : Kind → Value → Type 0
Fits kind.Fields v = Unit {0}
Fits kind.References (Ref p) = Unit {0}
Fits kind.References Null = Unit {0}
Fits kind.References _ = ⊥
Fits kind.Bytes (Int n) = IsBetween (negsuc 127) (pos 127) n
Fits kind.Bytes _ = ⊥
Fits kind.Chars (Int n) = IsBetween (pos 0) (pos 65535) n
Fits kind.Chars _ = ⊥
Fits kind.Shorts (Int n) = IsBetween (negsuc 32767) (pos 32767) n
Fits kind.Shorts _ = ⊥
Fits kind.Ints (Int n) = Unit {0}
Fits kind.Ints _ = ⊥
Fits kind.Longs (Long n) = Unit {0}
Fits kind.Longs _ = ⊥

-- the value of a reference's number: 0 is null
abbrev pub reference : ℕ → Value
reference zero = Null
reference (suc n) = Ref (suc n)

-- a char's value
abbrev pub char_value : ℕ → Value
char_value n = Int (pos n)
