-- What an index of the constant pool names (JVMS 4.4).
use Rattle.std.specs.Prelude.{ℕ, ℤ, zero, suc, List, Option, Some, None, slice_get}
use Rattle.jm_class_format.specs.declared.constant_pool.Entry.{Entry}
use Rattle.jm_class_format.specs.declared.constant_pool.Entry.TheVariants as entry

abbrev pub when_some : {A B : Type 0} → Option A → (A → Option B) → Option B
when_some None f = None
when_some (Some x) f = f x

-- the entry, from index 1 on
unfoldable pub entry_at : List Entry → ℕ → Option Entry
entry_at pool zero = None
entry_at pool (suc i) = slice_get pool i

abbrev pub text_of : Entry → Option (List ℕ)
text_of (entry.Utf8 units) = Some units
text_of other = None

abbrev pub integer_of : Entry → Option ℤ
integer_of (entry.Integer n) = Some n
integer_of other = None

abbrev pub long_of : Entry → Option ℤ
long_of (entry.Long n) = Some n
long_of other = None

abbrev pub class_of : Entry → Option ℕ
class_of (entry.Class name) = Some name
class_of other = None

abbrev pub string_of : Entry → Option ℕ
string_of (entry.String text) = Some text
string_of other = None

abbrev pub field_of : Entry → Option (ℕ × ℕ)
field_of (entry.Fieldref class name_and_type) = Some (class, name_and_type)
field_of other = None

abbrev pub method_of : Entry → Option (ℕ × ℕ)
method_of (entry.Methodref class name_and_type) = Some (class, name_and_type)
method_of other = None

abbrev pub interface_method_of : Entry → Option (ℕ × ℕ)
interface_method_of (entry.InterfaceMethodref interface name_and_type) = Some (interface, name_and_type)
interface_method_of other = None

abbrev pub name_and_type_of : Entry → Option (ℕ × ℕ)
name_and_type_of (entry.NameAndType name descriptor) = Some (name, descriptor)
name_and_type_of other = None

-- the code units of a text
unfoldable pub text_at : List Entry → ℕ → Option (List ℕ)
text_at pool i = when_some (entry_at pool i) text_of

unfoldable pub integer_at : List Entry → ℕ → Option ℤ
integer_at pool i = when_some (entry_at pool i) integer_of

unfoldable pub long_at : List Entry → ℕ → Option ℤ
long_at pool i = when_some (entry_at pool i) long_of

-- the code units of a class's name, or of an array type's descriptor (JVMS 4.4.1)
unfoldable pub class_at : List Entry → ℕ → Option (List ℕ)
class_at pool i = when_some (when_some (entry_at pool i) class_of) (text_at pool)

-- the code units of a string
unfoldable pub string_at : List Entry → ℕ → Option (List ℕ)
string_at pool i = when_some (when_some (entry_at pool i) string_of) (text_at pool)

-- the code units of a name and of a descriptor
unfoldable pub name_and_type_at : List Entry → ℕ → Option (List ℕ × List ℕ)
name_and_type_at pool i =
    when_some (when_some (entry_at pool i) name_and_type_of) (λ n. when_some (text_at pool n.0) (λ name. when_some (text_at pool n.1) (λ descriptor. Some (name, descriptor))))

-- the code units of a class's name, of a member's name and of its descriptor
unfoldable pub member_at : List Entry → ℕ → ℕ → Option (List ℕ × List ℕ × List ℕ)
member_at pool class name_and_type =
    when_some (class_at pool class) (λ name. when_some (name_and_type_at pool name_and_type) (λ n. Some (name, n.0, n.1)))

unfoldable pub field_at : List Entry → ℕ → Option (List ℕ × List ℕ × List ℕ)
field_at pool i = when_some (when_some (entry_at pool i) field_of) (λ m. member_at pool m.0 m.1)

unfoldable pub method_at : List Entry → ℕ → Option (List ℕ × List ℕ × List ℕ)
method_at pool i = when_some (when_some (entry_at pool i) method_of) (λ m. member_at pool m.0 m.1)

unfoldable pub interface_method_at : List Entry → ℕ → Option (List ℕ × List ℕ × List ℕ)
interface_method_at pool i = when_some (when_some (entry_at pool i) interface_method_of) (λ m. member_at pool m.0 m.1)
