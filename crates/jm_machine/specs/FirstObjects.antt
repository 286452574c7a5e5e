-- The objects from which a run begins, as they are made: object k lies at root k.
use Rattle.std.specs.Prelude.{◌≡◌, ℕ, ◌+◌, ◌-◌, ◌*◌, ◌/◌, ◌≤◌, ◌<◌, ◌^◌, List, [], ◌∷◌, ◌++◌, Some, length, map, pos, slice_get}
use Rattle.jm_program.specs.declared.descriptor.BaseType.TheVariants as base
use Rattle.jm_builtins.specs.Numbers.{number_of}
use Rattle.jm_builtins.specs.declared.built_in_class.BuiltInClass.TheVariants.{String, PrintStream}
use Rattle.jm_values.specs.declared.value.Value.TheVariants.{Int, Ref}
use Rattle.jm_values.specs.Objects.{ObjectOf, cells_of_elements, copies, size_by}
use Rattle.jm_values.specs.Content.{Content, IsSound, serial_at, object_at}
use Rattle.jm_heap.specs.Cells.{class_size}
use Rattle.jm_heap.specs.declared.class_id.ClassId.{ClassId}
use Rattle.jm_heap.specs.declared.class_id.ClassId.TheVariants.{Instance, Array}
use Rattle.jm_heap.specs.declared.class_id.Element.TheVariants.{Base, Class}

-- the print stream of System.out and main's empty array of strings, by the numbers of the built-in
-- classes
abbrev pub stream : ObjectOf ClassId
stream = record { type = Instance (number_of PrintStream); values = [] }

abbrev pub arguments : ObjectOf ClassId
arguments = record { type = Array (record { dimensions = 0; element = Class (number_of String) }); values = [] }

-- a literal's array of chars, and the String that holds the array of a number
abbrev pub char_array : List ℕ → ObjectOf ClassId
char_array text = record { type = Array (record { dimensions = 0; element = Base base.Char }); values = map (λ u. Int (pos u)) text }

abbrev pub string_of : ℕ → ObjectOf ClassId
string_of chars = record { type = Instance (number_of String); values = Ref chars ∷ [] }

abbrev pub literal_objects : ℕ → List ℕ → List (ObjectOf ClassId)
literal_objects chars text = char_array text ∷ string_of chars ∷ []

-- a literal takes 3 cells and those of its chars, and 3 of its String
abbrev pub literal_cells : List ℕ → ℕ
literal_cells text = 6 + cells_of_elements base.Char (length text)

-- the objects of literals, numbered from a number on
abbrev pub objects_from : ℕ → List (List ℕ) → List (ObjectOf ClassId)
objects_from k [] = []
objects_from k (t ∷ ts) = literal_objects k t ++ objects_from (k + 2) ts

abbrev pub first_objects : List (List ℕ) → List (ObjectOf ClassId)
first_objects texts = stream ∷ arguments ∷ objects_from 2 texts

-- an array as long as a text, before its elements are set
abbrev pub blank_chars : List ℕ → ObjectOf ClassId
blank_chars text = record { type = Array (record { dimensions = 0; element = Base base.Char }); values = copies (length text) (Int (pos 0)) }

abbrev pub cells_of_all : List (ObjectOf ClassId) → ℕ
cells_of_all [] = 0
cells_of_all (o ∷ os) = size_by class_size o + cells_of_all os

-- a heap that has made exactly these objects, of which each lies at the root of its number
pub record Holds (c : Content ClassId) (roots : List ℕ) (objects : List (ObjectOf ClassId)) : Type 0 where
  pub sound : IsSound c
  pub next : c.next ≡ length objects
  pub many : length roots ≡ length objects
  pub places : (k p : ℕ) → slice_get roots k ≡ Some p → serial_at c p ≡ Some k
  pub objects_are : (k : ℕ) (o : ObjectOf ClassId) → slice_get objects k ≡ Some o → object_at c k ≡ Some o

-- it has room for these beside them
pub record HasRoomFor (c : Content ClassId) (roots : List ℕ) (added : List (ObjectOf ClassId)) : Type 0 where
  pub objects : List (ObjectOf ClassId)
  pub holds : Holds c roots objects
  pub fits : cells_of_all objects + cells_of_all added ≤ c.limit
  pub small : c.limit < 2 ^ 64

-- the last of them is this one
pub record HasLast (c : Content ClassId) (roots : List ℕ) (last : ObjectOf ClassId) : Type 0 where
  pub front : List (ObjectOf ClassId)
  pub holds : Holds c roots (front ++ last ∷ [])

-- these have come behind those that there were
pub record Adds (old : Content ClassId) (roots : List ℕ) (new : Content ClassId) (moved : List ℕ) (added : List (ObjectOf ClassId)) : Type 0 where
  pub limit : new.limit ≡ old.limit
  pub holds : (objects : List (ObjectOf ClassId)) → Holds old roots objects → Holds new moved (objects ++ added)

-- the last one has turned into another
pub record Turns (old new : Content ClassId) (roots : List ℕ) (last other : ObjectOf ClassId) : Type 0 where
  pub limit : new.limit ≡ old.limit
  pub holds : (front : List (ObjectOf ClassId)) → Holds old roots (front ++ last ∷ []) → Holds new roots (front ++ other ∷ [])

-- places of Strings among those of first objects: each comes behind its array
pub record AreStrings (roots strings : List ℕ) : Type 0 where
  pub many : length strings ≡ (length roots - 2) / 2
  pub places : (i p : ℕ) → slice_get strings i ≡ Some p → slice_get roots (2 * i + 3) ≡ Some p
