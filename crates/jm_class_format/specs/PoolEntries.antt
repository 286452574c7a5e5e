-- Which bytes spell which constant pool (JVMS 4.4).
use Rattle.std.specs.Prelude.{ℕ, zero, suc, ◌-◌, ◌==◌, Bool, true, false, not, if◌then◌else◌, List, [], ◌∷◌, ◌++◌, length, Option, Some, None, slice_get, Result, Ok, Err}
use Rattle.jm_bytes.specs.Reading.{and_then, each}
use Rattle.jm_bytes.specs.Format.{Format, ◌>>=◌, done, outcome, given, guard, u1, u2, s4, s8, some_bytes, repeated}
use Rattle.jm_class_format.specs.ModifiedUtf8.{text}
use Rattle.jm_class_format.specs.declared.constant_pool.Tag.{Tag}
use Rattle.jm_class_format.specs.declared.constant_pool.Tag.TheVariants as tag
use Rattle.jm_class_format.specs.declared.constant_pool.RawEntry.{RawEntry}
use Rattle.jm_class_format.specs.declared.constant_pool.RawEntry.TheVariants as raw
use Rattle.jm_class_format.specs.declared.constant_pool.Entry.{Entry}
use Rattle.jm_class_format.specs.declared.constant_pool.Entry.TheVariants as entry
use Rattle.jm_class_format.specs.declared.fault.PoolFault.{PoolFault}
use Rattle.jm_class_format.specs.declared.fault.PoolFault.TheVariants as fault

-- ---- in the order of the bytes: tags and what stands behind them

-- JVMS 4.4, table 4.4-A
unfoldable pub tag_at : ℕ → Option Tag
tag_at n =
    if n == 1 then Some tag.Utf8
    else if n == 3 then Some tag.Integer
    else if n == 5 then Some tag.Long
    else if n == 7 then Some tag.Class
    else if n == 8 then Some tag.String
    else if n == 9 then Some tag.Fieldref
    else if n == 10 then Some tag.Methodref
    else if n == 11 then Some tag.InterfaceMethodref
    else if n == 12 then Some tag.NameAndType
    else None

-- what stands behind a tag (JVMS 4.4.1 to 4.4.7)
unfoldable pub info : Tag → Format PoolFault RawEntry
info tag.Utf8 = do
  length ← u2 fault.Cut
  bytes ← some_bytes fault.Cut length
  done (raw.Utf8 bytes)
info tag.Integer = do
  n ← s4 fault.Cut
  done (raw.Integer n)
info tag.Long = do
  n ← s8 fault.Cut
  done (raw.Long n)
info tag.Class = do
  name ← u2 fault.Cut
  done (raw.Class name)
info tag.String = do
  text ← u2 fault.Cut
  done (raw.String text)
info tag.Fieldref = do
  class ← u2 fault.Cut
  name_and_type ← u2 fault.Cut
  done (raw.Fieldref class name_and_type)
info tag.Methodref = do
  class ← u2 fault.Cut
  name_and_type ← u2 fault.Cut
  done (raw.Methodref class name_and_type)
info tag.InterfaceMethodref = do
  interface ← u2 fault.Cut
  name_and_type ← u2 fault.Cut
  done (raw.InterfaceMethodref interface name_and_type)
info tag.NameAndType = do
  name ← u2 fault.Cut
  descriptor ← u2 fault.Cut
  done (raw.NameAndType name descriptor)

unfoldable pub raw_entry : Format PoolFault RawEntry
raw_entry = do
  n ← u1 fault.Cut
  kind ← given (fault.BadTag n) (tag_at n)
  info kind

abbrev pub is_long : RawEntry → Bool
is_long (raw.Long n) = true
is_long other = false

abbrev pub is_long_entry : Option RawEntry → Bool
is_long_entry None = false
is_long_entry (Some e) = is_long e

-- the last of the entries so far is a long
unfoldable pub ends_in_long : List RawEntry → Bool
ends_in_long entries = is_long_entry (slice_get entries (length entries - 1))

-- what the next index has: nothing usable after a long (JVMS 4.4.5), else an entry
unfoldable pub placed : Bool → List RawEntry → Format PoolFault (List RawEntry)
placed true entries = done (entries ++ raw.Unusable ∷ [])
placed false entries = do
  next ← raw_entry
  done (entries ++ next ∷ [])

-- the entries of one index more
unfoldable pub next_place : List RawEntry → Format PoolFault (List RawEntry)
next_place entries = placed (ends_in_long entries) entries

-- ---- in the order of the indexes: texts and references

-- the entry that an index names, from 1 on
abbrev pub raw_at : List RawEntry → ℕ → Option RawEntry
raw_at entries zero = None
raw_at entries (suc i) = slice_get entries i

abbrev pub is_text : Option RawEntry → Bool
is_text (Some (raw.Utf8 bytes)) = true
is_text other = false

abbrev pub is_class : Option RawEntry → Bool
is_class (Some (raw.Class name)) = true
is_class other = false

abbrev pub is_name_and_type : Option RawEntry → Bool
is_name_and_type (Some (raw.NameAndType name descriptor)) = true
is_name_and_type other = false

-- the index itself, where it names a Utf8 entry
unfoldable pub text_index : List RawEntry → ℕ → Result ℕ PoolFault
text_index entries i = if is_text (raw_at entries i) then Ok i else Err (fault.BadIndex i)

-- where it names a Class entry
unfoldable pub class_index : List RawEntry → ℕ → Result ℕ PoolFault
class_index entries i = if is_class (raw_at entries i) then Ok i else Err (fault.BadIndex i)

-- where it names a NameAndType entry
unfoldable pub name_and_type_index : List RawEntry → ℕ → Result ℕ PoolFault
name_and_type_index entries i = if is_name_and_type (raw_at entries i) then Ok i else Err (fault.BadIndex i)

-- the indexes of a member: a class or an interface, and a name with its type (JVMS 4.4.2)
unfoldable pub member_indexes : List RawEntry → ℕ → ℕ → Result (ℕ × ℕ) PoolFault
member_indexes entries class name_and_type =
    and_then (class_index entries class) (λ c. and_then (name_and_type_index entries name_and_type) (λ n. Ok (c, n)))

-- the entry with its text read and its indexes looked at
unfoldable pub entry_of : List RawEntry → RawEntry → Result Entry PoolFault
entry_of entries (raw.Utf8 bytes) = and_then (text.read bytes) (λ units. Ok (entry.Utf8 units))
entry_of entries (raw.Integer n) = Ok (entry.Integer n)
entry_of entries (raw.Long n) = Ok (entry.Long n)
entry_of entries (raw.Class name) = and_then (text_index entries name) (λ i. Ok (entry.Class i))
entry_of entries (raw.String text) = and_then (text_index entries text) (λ i. Ok (entry.String i))
entry_of entries (raw.Fieldref class name_and_type) = and_then (member_indexes entries class name_and_type) (λ m. Ok (entry.Fieldref m.0 m.1))
entry_of entries (raw.Methodref class name_and_type) = and_then (member_indexes entries class name_and_type) (λ m. Ok (entry.Methodref m.0 m.1))
entry_of entries (raw.InterfaceMethodref interface name_and_type) = and_then (member_indexes entries interface name_and_type) (λ m. Ok (entry.InterfaceMethodref m.0 m.1))
entry_of entries (raw.NameAndType name descriptor) = and_then (text_index entries name) (λ i. and_then (text_index entries descriptor) (λ j. Ok (entry.NameAndType i j)))
entry_of entries raw.Unusable = Ok entry.Unusable

-- how many indexes there are: one less than the count, from 1 on (JVMS 4.1, constant_pool_count)
abbrev pub indexes_of : ℕ → Option ℕ
indexes_of zero = None
indexes_of (suc n) = Some n

-- The count, the entries of all indexes, and then by index what each text and each reference is. A long at the last index has no second place.
unfoldable pub pool : Format PoolFault (List Entry)
pool = do
  count ← u2 fault.Cut
  indexes ← given (fault.BadIndex 0) (indexes_of count)
  raws ← repeated indexes next_place []
  entries ← outcome (each (entry_of raws) raws)
  _ ← guard (fault.BadIndex count) (not (ends_in_long raws))
  done entries
