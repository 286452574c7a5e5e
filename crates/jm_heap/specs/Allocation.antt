-- What comes of making an object.
use Rattle.std.specs.Prelude.{◌≡◌, ℕ, ◌+◌, ◌<◌, ◌≤◌, List, Option, Some, None, slice_get}
use Rattle.jm_values.specs.Objects.{ObjectOf, size_by}
use Rattle.jm_values.specs.Content.{Content, AllResident, Made, MadeAll, IsFull, IsAtEnd, AreFull, AreAtEnd, used_by, serial_at, object_at}
use Rattle.jm_heap.specs.Cells.{class_size, resident_cells}
use Rattle.jm_heap.specs.Collection.{IsAsBeforeMaking, AreAsBeforeMaking}
use Rattle.jm_heap.specs.declared.class_id.ClassId.{ClassId}
use Rattle.jm_heap.specs.declared.fault.HeapFault.{HeapFault}
use Rattle.jm_heap.specs.declared.fault.HeapFault.TheVariants.{OutOfMemory, HeapFull, SerialsEnd}

-- why no object was made: full goes before the end of serials
abbrev pub IsRefused : Content ClassId → List ℕ → ObjectOf ClassId → HeapFault → Type 0
IsRefused c roots o OutOfMemory = Unit {0}
IsRefused c roots o HeapFull = IsFull class_size c roots o
IsRefused c roots o SerialsEnd = IsAtEnd class_size c roots o

-- why no object of a list was made
abbrev pub AreRefused : Content ClassId → List ℕ → List (ObjectOf ClassId) → HeapFault → Type 0
AreRefused c roots os OutOfMemory = Unit {0}
AreRefused c roots os HeapFull = AreFull class_size c roots os
AreRefused c roots os SerialsEnd = AreAtEnd class_size c roots os

-- each place is one of those
abbrev pub AllPlaces : (ℕ → Type 0) → List ℕ → Type 0
AllPlaces holds places = (i p : ℕ) → slice_get places i ≡ Some p → holds p

-- made as it would be with any roots, and nothing moved or given up
pub record MadeHere (old new : Content ClassId) (place : ℕ) (o : ObjectOf ClassId) : Type 0 where
  pub made : (roots : List ℕ) → AllResident old roots → Made class_size old roots new roots place o
  pub places : (p k : ℕ) → serial_at old p ≡ Some k → serial_at new p ≡ Some k
  pub objects : (k : ℕ) (x : ObjectOf ClassId) → object_at old k ≡ Some x → object_at new k ≡ Some x
  pub as_before : IsAsBeforeMaking old new
  pub cells : resident_cells new ≡ resident_cells old + size_by class_size o
  pub within : resident_cells new ≤ new.limit

-- made here, or nothing changed
abbrev pub MadeHereOrNot : Content ClassId → Content ClassId → Option ℕ → ObjectOf ClassId → Type 0
MadeHereOrNot old new None o = new ≡ old
MadeHereOrNot old new (Some place) o = MadeHere old new place o

-- without roots no heap is full, and serials end with any roots
abbrev pub IsRefusedHere : Content ClassId → ObjectOf ClassId → HeapFault → Type 0
IsRefusedHere c o OutOfMemory = Unit {0}
IsRefusedHere c o HeapFull = ⊥
IsRefusedHere c o SerialsEnd = (roots : List ℕ) → AllResident c roots → IsAtEnd class_size c roots o

-- the object fits beside all residents
abbrev pub HasRoom : Content ClassId → ObjectOf ClassId → Type 0
HasRoom c o = resident_cells c + size_by class_size o ≤ c.limit

-- none is made here exactly where it does not fit
abbrev pub NoneIsNoRoom : Content ClassId → Option ℕ → ObjectOf ClassId → Type 0
NoneIsNoRoom c None o = c.limit < resident_cells c + size_by class_size o
NoneIsNoRoom c (Some place) o = HasRoom c o

-- the objects of a list made as they would be with any roots, and nothing moved or given up
pub record AllMadeHere (old new : Content ClassId) (places : List ℕ) (os : List (ObjectOf ClassId)) : Type 0 where
  pub made : (roots : List ℕ) → AllResident old roots → MadeAll class_size old roots new roots places os
  pub stays : (p k : ℕ) → serial_at old p ≡ Some k → serial_at new p ≡ Some k
  pub as_before : AreAsBeforeMaking old new

-- there is room for all, and serials end with any roots
abbrev pub AreRefusedHere : Content ClassId → List (ObjectOf ClassId) → HeapFault → Type 0
AreRefusedHere c os OutOfMemory = Unit {0}
AreRefusedHere c os HeapFull = ⊥
AreRefusedHere c os SerialsEnd = (roots : List ℕ) → AllResident c roots → AreAtEnd class_size c roots os

-- why there is no room for so many cells
abbrev pub RoomIsRefused : Content ClassId → List ℕ → ℕ → HeapFault → Type 0
RoomIsRefused c roots cells OutOfMemory = Unit {0}
RoomIsRefused c roots cells HeapFull = c.limit < used_by class_size c roots + cells
RoomIsRefused c roots cells SerialsEnd = ⊥

-- each object that is resident now and was not before lies where it is said to
abbrev pub NewLie : {T : Type 0} → (ℕ → Type 0) → Content T → Content T → Type 0
NewLie lies old new = (p k : ℕ) → serial_at new p ≡ Some k → object_at old k ≡ None → lies p
