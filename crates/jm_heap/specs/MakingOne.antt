-- Making a list of one object is making that object.
use Rattle.std.specs.Prelude.{◌≡◌, ◌↔◌, ℕ, ◌+◌, List, [], ◌∷◌}
use Rattle.jm_values.specs.Objects.{ObjectOf}
use Rattle.jm_values.specs.Content.{Content, IsSound, Made, MadeAll}
use Rattle.jm_heap.specs.Allocation.{IsRefused, AreRefused}
use Rattle.jm_heap.specs.Cells.{class_size}
use Rattle.jm_heap.specs.Collection.{IsAsBeforeMaking, AreAsBeforeMaking}
use Rattle.jm_heap.specs.declared.class_id.ClassId.{ClassId}
use Rattle.jm_heap.specs.declared.fault.HeapFault.{HeapFault}

abbrev pub OneIsMade : Type 0
OneIsMade = (old new : Content ClassId) (roots moved : List ℕ) (place : ℕ) (o : ObjectOf ClassId) → MadeAll class_size old roots new moved (place ∷ []) (o ∷ []) ↔ Made class_size old roots new moved place o

abbrev pub OneIsRefused : Type 0
OneIsRefused = (c : Content ClassId) (roots : List ℕ) (o : ObjectOf ClassId) (fault : HeapFault) → AreRefused c roots (o ∷ []) fault ↔ IsRefused c roots o fault

-- where one was made: a sound content has no serial beyond that
abbrev pub OneIsAsBefore : Type 0
OneIsAsBefore = (old new : Content ClassId) → IsSound new → new.next ≡ old.next + 1 → AreAsBeforeMaking old new ↔ IsAsBeforeMaking old new
