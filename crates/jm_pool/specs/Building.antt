-- How a constant pool grows by one constant after the other, and the bytes that are written for it (JVMS 4.4).
-- A pool is the list of its entries by index, from 1 on.
use Rattle.std.specs.Prelude.{◌≡◌, ℕ, ◌+◌, ◌^◌, ◌<◌, Bool, true, false, ◌&&◌, nat_eq, nat_le, if◌then◌else◌, List, [], ◌∷◌, ◌++◌, length, slice_index, Option, Some, None, Result, Ok, Err, FitsSigned}
use Rattle.std.specs.Int.{w16, w32, w64, to_be_bytes}
use Rattle.std.specs.List.{flat_map}
use Rattle.std.specs.Ordering.{int_eq}
use Rattle.jm_bytes.specs.Writing.{signed_bytes}
use Rattle.jm_program.specs.Names.{same_text}
use Rattle.jm_class_format.specs.ModifiedUtf8.{text_bytes}
use Rattle.jm_class_format.specs.PoolLookups.{entry_at}
use Rattle.jm_class_format.specs.declared.constant_pool.Entry.{Entry}
use Rattle.jm_class_format.specs.declared.constant_pool.Entry.TheVariants as entry
use Rattle.jm_pool.specs.declared.constant.Constant.{Constant}
use Rattle.jm_pool.specs.declared.constant.Constant.TheVariants as constant
use Rattle.jm_pool.specs.declared.builder_fault.BuilderFault.{BuilderFault}
use Rattle.jm_pool.specs.declared.builder_fault.BuilderFault.TheVariants as fault

-- ---- the entry of a constant, and the indexes that it takes

unfoldable pub entry_for : Constant → Entry
entry_for (constant.Utf8 units) = entry.Utf8 units
entry_for (constant.Integer n) = entry.Integer n
entry_for (constant.Long n) = entry.Long n
entry_for (constant.Class name) = entry.Class name
entry_for (constant.String text) = entry.String text
entry_for (constant.Fieldref class name_and_type) = entry.Fieldref class name_and_type
entry_for (constant.Methodref class name_and_type) = entry.Methodref class name_and_type
entry_for (constant.InterfaceMethodref interface name_and_type) = entry.InterfaceMethodref interface name_and_type
entry_for (constant.NameAndType name descriptor) = entry.NameAndType name descriptor

-- what stands behind the entry: nothing usable after a long (JVMS 4.4.5)
unfoldable pub behind : Constant → List Entry
behind (constant.Long n) = entry.Unusable ∷ []
behind other = []

-- the entries at the indexes that a constant takes
unfoldable pub places : Constant → List Entry
places c = entry_for c ∷ behind c

-- ---- where a constant stands

-- whether an entry is that of the constant
unfoldable pub is_entry : Constant → Entry → Bool
is_entry (constant.Utf8 a) (entry.Utf8 b) = same_text a b
is_entry (constant.Integer a) (entry.Integer b) = int_eq a b
is_entry (constant.Long a) (entry.Long b) = int_eq a b
is_entry (constant.Class i) (entry.Class j) = nat_eq i j
is_entry (constant.String i) (entry.String j) = nat_eq i j
is_entry (constant.Fieldref c n) (entry.Fieldref d m) = nat_eq c d && nat_eq n m
is_entry (constant.Methodref c n) (entry.Methodref d m) = nat_eq c d && nat_eq n m
is_entry (constant.InterfaceMethodref c n) (entry.InterfaceMethodref d m) = nat_eq c d && nat_eq n m
is_entry (constant.NameAndType c n) (entry.NameAndType d m) = nat_eq c d && nat_eq n m
is_entry c e = false

-- the first index at which it stands, where the first of the entries has the index `at`
unfoldable pub index_among : ℕ → List Entry → Constant → Option ℕ
index_among at [] c = None
index_among at (e ∷ es) c = if is_entry c e then Some at else index_among (at + 1) es c

-- ---- the index of a constant in a pool, and the pool that has it there

-- a number that a u2 can say
unfoldable pub u2_of : ℕ → Option ℕ
u2_of n = if nat_le n 65535 then Some n else None

-- a text has at most 65,535 bytes, since its length is a u2 (JVMS 4.4.7)
unfoldable pub fits_length : Constant → Bool
fits_length (constant.Utf8 units) = nat_le (length (text_bytes units)) 65535
fits_length other = true

-- The pool with more entries at its end. The count is one more than the entries and at most 65,535 (JVMS 4.1, 4.11).
unfoldable pub extended : List Entry → List Entry → Result (ℕ × List Entry) BuilderFault
extended entries more = if nat_le (length entries + length more) 65534 then Ok (length entries + 1, entries ++ more) else Err fault.PoolFull

abbrev pub found_or : Option ℕ → List Entry → Result (ℕ × List Entry) BuilderFault → Result (ℕ × List Entry) BuilderFault
found_or (Some i) entries otherwise = Ok (i, entries)
found_or None entries otherwise = otherwise

-- the index at which the constant stands already, or the next one, with the entries then
unfoldable pub interned : List Entry → Constant → Result (ℕ × List Entry) BuilderFault
interned entries c =
    if fits_length c then found_or (index_among 1 entries c) entries (extended entries (places c))
    else Err fault.TooMany

-- what a call gave that takes on a pool: the index and the pool of the definition, or its fault, but for want of memory
abbrev pub GivesIndex : Result ℕ BuilderFault → List Entry → Result (ℕ × List Entry) BuilderFault → Type 0
GivesIndex (Ok index) after interned = interned ≡ Ok (index, after)
GivesIndex (Err e) after interned = ¬ (e ≡ fault.OutOfMemory) → interned ≡ Err e

-- ---- the bytes

-- a tag (JVMS 4.4, table 4.4-A) and what stands behind it (JVMS 4.4.1 to 4.4.7)
unfoldable pub entry_bytes : Entry → List ℕ
entry_bytes (entry.Utf8 units) = 1 ∷ to_be_bytes w16 (length (text_bytes units)) ++ text_bytes units
entry_bytes (entry.Integer n) = 3 ∷ signed_bytes w32 n
entry_bytes (entry.Long n) = 5 ∷ signed_bytes w64 n
entry_bytes (entry.Class name) = 7 ∷ to_be_bytes w16 name
entry_bytes (entry.String text) = 8 ∷ to_be_bytes w16 text
entry_bytes (entry.Fieldref class name_and_type) = 9 ∷ to_be_bytes w16 class ++ to_be_bytes w16 name_and_type
entry_bytes (entry.Methodref class name_and_type) = 10 ∷ to_be_bytes w16 class ++ to_be_bytes w16 name_and_type
entry_bytes (entry.InterfaceMethodref interface name_and_type) = 11 ∷ to_be_bytes w16 interface ++ to_be_bytes w16 name_and_type
entry_bytes (entry.NameAndType name descriptor) = 12 ∷ to_be_bytes w16 name ++ to_be_bytes w16 descriptor
entry_bytes entry.Unusable = []

-- constant_pool_count and the entries (JVMS 4.1)
unfoldable pub pool_bytes : List Entry → List ℕ
pool_bytes entries = to_be_bytes w16 (length entries + 1) ++ flat_map entry_bytes entries

-- ---- the pools that such growth makes

-- an index names a text, a class, or a name with its type
abbrev pub NamesText : List Entry → ℕ → Type 0
NamesText entries i = (units : List ℕ) × (entry_at entries i ≡ Some (entry.Utf8 units))

abbrev pub NamesClass : List Entry → ℕ → Type 0
NamesClass entries i = (name : ℕ) × (entry_at entries i ≡ Some (entry.Class name))

abbrev pub NamesNameAndType : List Entry → ℕ → Type 0
NamesNameAndType entries i = (n : ℕ × ℕ) × (entry_at entries i ≡ Some (entry.NameAndType n.0 n.1))

-- The parts of a constant stand among the entries, each of the kind that its place needs (JVMS 4.4.1 to 4.4.6). A code unit and a
-- number fit their widths.
abbrev pub Stands : List Entry → Constant → Type 0
Stands entries (constant.Utf8 units) = (i : ℕ) → slice_index units i < 2 ^ 16
Stands entries (constant.Integer n) = FitsSigned w32 n
Stands entries (constant.Long n) = FitsSigned w64 n
Stands entries (constant.Class name) = NamesText entries name
Stands entries (constant.String text) = NamesText entries text
Stands entries (constant.Fieldref class name_and_type) = NamesClass entries class × NamesNameAndType entries name_and_type
Stands entries (constant.Methodref class name_and_type) = NamesClass entries class × NamesNameAndType entries name_and_type
Stands entries (constant.InterfaceMethodref interface name_and_type) = NamesClass entries interface × NamesNameAndType entries name_and_type
Stands entries (constant.NameAndType name descriptor) = NamesText entries name × NamesText entries descriptor

-- made from nothing by constants whose parts stood before them
pub data Sound : List Entry → Type 0 where
  none : Sound []
  more : (entries : List Entry) (c : Constant) (index : ℕ) (after : List Entry) → Sound entries → Stands entries c → interned entries c ≡ Ok (index, after) → Sound after

-- the later pool has the earlier one's entries at their indexes
abbrev pub Begins : List Entry → List Entry → Type 0
Begins earlier later = (rest : List Entry) × (later ≡ earlier ++ rest)
